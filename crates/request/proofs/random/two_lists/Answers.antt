use Rattle.std.proofs.Common.{length, arith, rules}
use Rattle.request.proofs.Turns.{can_read}
use Rattle.request.proofs.random.two_lists.Goals as goal

pub list_end-requires : goal.list_end-requires
list_end-requires g c = can_read _ _ (length c.args.place.frame.now) (search rules) c.requires.words _ _ (omega (arith, c.in_ok-words.ensures.within))

pub list_end-requires-2 : goal.list_end-requires-2
list_end-requires-2 g c =
    let here = c.in_ok-doubles_at.ensures.within (length c.args.place.frame.now) c.requires.words (omega (arith, c.in_ok-words.ensures.within)) in
    can_read _ _ (length c.args.place.frame.now) (search rules) c.requires.doubles _ _ here

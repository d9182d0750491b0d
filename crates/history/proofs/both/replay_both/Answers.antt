use Rattle.history.proofs.Paired.{both_ended}
use Rattle.history.proofs.both.replay_both.Goals as goal

pub returns-clause-alike : goal.returns-clause-alike
returns-clause-alike g c =
    let l = c.replay.ensures.replays in
    let r = c.replay-2.ensures.replays in
    λ ok ok' same p. both_ended _ _ _ _ c.args.left_calls.now c.args.right_calls.now _ _ _ _ l.kept r.kept (l.whole ok) (r.whole ok') same p

use Rattle.std.proofs.Common.{Ok, subst}
use Rattle.request.specs.declared.types.Request.{Request}
use Rattle.request.specs.Laws.{Passed}
use Rattle.request.specs.Readings.{said}
use Rattle.server.proofs.Telling.{came_wrote}
use Rattle.server.proofs.Trying.{all_made}
use Rattle.server.proofs.Taken.{bits_written, words_written, random_bits_written, random_written}
use Rattle.server.proofs.serve.carry_out.Goals as goal

pub returns-in-WriteBits-clause-came : goal.returns-in-WriteBits-clause-came
returns-in-WriteBits-clause-came g c =
    let means = g.M.ReadableMemory.means in
    let m = means c.args.memory.now in
    let put = c.put_bits.ensures in
    let p = subst (λ (q : Request). Passed m (said g.C.WireCode.which (Ok q))) c.in-WriteBits.is c.requires.passed in
    rw c.in-WriteBits.is (came_wrote means g.M.WritableMemory.leaves _ _ c.args.memory.now _ _ _ _ _ _ put (bits_written m _ _ _ _ p) c.accept.ensures.tells)

pub returns-in-WriteBits-clause-left : goal.returns-in-WriteBits-clause-left
returns-in-WriteBits-clause-left g c =
    let means = g.M.ReadableMemory.means in
    let m = means c.args.memory.now in
    let put = c.put_bits.ensures in
    let p = subst (λ (q : Request). Passed m (said g.C.WireCode.which (Ok q))) c.in-WriteBits.is c.requires.passed in
    rw c.in-WriteBits.is (all_made means g.M.WritableMemory.leaves c.args.memory.now _ _ (bits_written m _ _ _ _ p) put).0

pub returns-in-WriteWords-clause-came : goal.returns-in-WriteWords-clause-came
returns-in-WriteWords-clause-came g c =
    let means = g.M.ReadableMemory.means in
    let m = means c.args.memory.now in
    let put = c.put_words.ensures in
    let p = subst (λ (q : Request). Passed m (said g.C.WireCode.which (Ok q))) c.in-WriteWords.is c.requires.passed in
    rw c.in-WriteWords.is (came_wrote means g.M.WritableMemory.leaves _ _ c.args.memory.now _ _ _ _ _ _ put.leads (words_written m _ _ _ _ put.small p) c.accept-in-WriteWords.ensures.tells)

pub returns-in-WriteWords-clause-left : goal.returns-in-WriteWords-clause-left
returns-in-WriteWords-clause-left g c =
    let means = g.M.ReadableMemory.means in
    let m = means c.args.memory.now in
    let put = c.put_words.ensures in
    let p = subst (λ (q : Request). Passed m (said g.C.WireCode.which (Ok q))) c.in-WriteWords.is c.requires.passed in
    rw c.in-WriteWords.is (all_made means g.M.WritableMemory.leaves c.args.memory.now _ _ (words_written m _ _ _ _ put.small p) put.leads).0

pub returns-in-WriteRandomBits-clause-came : goal.returns-in-WriteRandomBits-clause-came
returns-in-WriteRandomBits-clause-came g c =
    let means = g.M.ReadableMemory.means in
    let m = means c.args.memory.now in
    let put = c.put_random_bits.ensures in
    let p = subst (λ (q : Request). Passed m (said g.C.WireCode.which (Ok q))) c.in-WriteRandomBits.is c.requires.passed in
    rw c.in-WriteRandomBits.is (came_wrote means g.M.WritableMemory.leaves _ _ c.args.memory.now _ _ _ _ _ _ put (random_bits_written m _ _ p) c.accept-in-WriteRandomBits.ensures.tells)

pub returns-in-WriteRandomBits-clause-left : goal.returns-in-WriteRandomBits-clause-left
returns-in-WriteRandomBits-clause-left g c =
    let means = g.M.ReadableMemory.means in
    let m = means c.args.memory.now in
    let put = c.put_random_bits.ensures in
    let p = subst (λ (q : Request). Passed m (said g.C.WireCode.which (Ok q))) c.in-WriteRandomBits.is c.requires.passed in
    rw c.in-WriteRandomBits.is (all_made means g.M.WritableMemory.leaves c.args.memory.now _ _ (random_bits_written m _ _ p) put).0

pub returns-in-WriteRandom-clause-came : goal.returns-in-WriteRandom-clause-came
returns-in-WriteRandom-clause-came g c =
    let means = g.M.ReadableMemory.means in
    let m = means c.args.memory.now in
    let put = c.put_random.ensures in
    let p = subst (λ (q : Request). Passed m (said g.C.WireCode.which (Ok q))) c.in-WriteRandom.is c.requires.passed in
    rw c.in-WriteRandom.is (came_wrote means g.M.WritableMemory.leaves _ _ c.args.memory.now _ _ _ _ _ _ put.leads (random_written m _ _ _ put.words put.doubles p) c.accept-in-WriteRandom.ensures.tells)

pub returns-in-WriteRandom-clause-left : goal.returns-in-WriteRandom-clause-left
returns-in-WriteRandom-clause-left g c =
    let means = g.M.ReadableMemory.means in
    let m = means c.args.memory.now in
    let put = c.put_random.ensures in
    let p = subst (λ (q : Request). Passed m (said g.C.WireCode.which (Ok q))) c.in-WriteRandom.is c.requires.passed in
    rw c.in-WriteRandom.is (all_made means g.M.WritableMemory.leaves c.args.memory.now _ _ (random_written m _ _ _ put.words put.doubles p) put.leads).0

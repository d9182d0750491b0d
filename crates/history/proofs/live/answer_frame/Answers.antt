use Rattle.std.proofs.Common.{◌≡◌, length, take_at, rules}
use Rattle.server.specs.Registered.{registered}
use Rattle.history.proofs.Onward.{other_space}
use Rattle.history.proofs.Led.{led_space}
use Rattle.history.proofs.live.answer_frame.Goals as goal

pub returns-clause-carries : goal.returns-clause-carries
returns-clause-carries g c =
    let t = c.take_frame-answer in
    let copied : c.as_mut_slice.result.now ≡ c.args.space.now = search rules in
    let long : length t.new.reply ≡ c.in_ok-space.space.len = search rules in
    λ w. other_space _ _ _ _ _ _ _ _ _ _ copied (take_at t.new.reply _ _ long) (t.ensures.carries w)

pub returns-clause-left : goal.returns-clause-left
returns-clause-left g c =
    let t = c.take_frame-answer in
    let copied : c.as_mut_slice.result.now ≡ c.args.space.now = search rules in
    let x = c.args in
    λ w. led_space g.M.WritableMemory.leaves x.code x.bytes.now c.as_mut_slice.result.now x.space.now (g.M.ReadableMemory.means x.memory.now) x.settings.now.write_flag (registered x.registration.now)
    x.memory.now t.new.memory copied t.ensures.left

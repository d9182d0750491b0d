use Rattle.std.proofs.lemmas.Result.{MatchResult-weaker, IfOk-weaker}
use Rattle.server.specs.Registered.{registered}
use Rattle.server.specs.Histories.{state_at}
use Rattle.history.proofs.Onward.{declines}
use Rattle.history.proofs.Led.{led_setting, led_declined}
use Rattle.history.proofs.live.carry_out.Goals as goal

pub returns-in-Frame-clause-carries : goal.returns-in-Frame-clause-carries
returns-in-Frame-clause-carries g c =
    IfOk-weaker c.answer_frame.result _ _ (λ o h w stays. rw c.in-Frame.is (h w)) c.answer_frame.ensures.carries

pub returns-in-Set-clause-carries : goal.returns-in-Set-clause-carries
returns-in-Set-clause-carries g c =
    let x = c.args in
    λ w stays. rw c.in-Set.is (c.set_point.ensures.carries (state_at g.M.ReadableMemory.means registered x.memory.now x.settings.now x.registration.now w))

pub returns-in-Open-clause-carries : goal.returns-in-Open-clause-carries
returns-in-Open-clause-carries g c = declines _ _ _ _ c.declined.ensures c.args.call c.in-Open.is

pub returns-in-Frame-clause-left : goal.returns-in-Frame-clause-left
returns-in-Frame-clause-left g c =
    MatchResult-weaker c.answer_frame.result c.answer_frame.ensures.left (λ o h w. rw c.in-Frame.is (h w)) (λ e h. h)

pub returns-in-Set-clause-left : goal.returns-in-Set-clause-left
returns-in-Set-clause-left g c =
    let x = c.args in
    let q = c.in-Set in
    let put = c.set_point in
    λ w.
    let s = state_at g.M.ReadableMemory.means registered x.memory.now x.settings.now x.registration.now w in
    rw q.is (led_setting g.M.WritableMemory.leaves s q.device q.number q.value x.memory.now put.new.memory put.result put.ensures.answer put.ensures.left)

pub returns-in-Open-clause-left : goal.returns-in-Open-clause-left
returns-in-Open-clause-left g c =
    let x = c.args in
    λ w. led_declined g.M.WritableMemory.leaves (state_at g.M.ReadableMemory.means registered x.memory.now x.settings.now x.registration.now w) x.call x.memory.now c.in-Open.is

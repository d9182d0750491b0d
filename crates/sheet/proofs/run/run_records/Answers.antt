use Rattle.std.proofs.Common.{◌-◌, Some, None, refl, ap, ◌∙◌, arith}
use Rattle.server.specs.Registered.{registered}
use Rattle.server.specs.Histories.{state_at}
use Rattle.sheet.proofs.Turns.{over_here, more, refused, turn, led_over, led_refused, led_turn}
use Rattle.sheet.proofs.run.run_records.Goals as goal

pub loop-reason-preserved : goal.loop-reason-preserved
loop-reason-preserved g c =
    let x = c.args in
    let l = c.loop-reason in
    let t = c.take_frame-answer in
    let came = t.ensures.served.came in
    let lt = more x.sheet.now l.at x.cancel l.count c.in_default.ensures in
    let leaves = g.M.WritableMemory.leaves in
    let m = g.M.ReadableMemory.means l.memory in
    let m' = g.M.ReadableMemory.means t.new.memory in
    let r = registered l.registration in
    let r' = registered t.new.registration in
    let flag = x.settings.now.write_flag in (
      (λ b. ap (λ r. r.end) (turn x.code x.sheet.now x.cancel l.at l.count c.in-Ok.size l.reply t.new.reply _ _ _ b _ _ t.result None c.in_default.ensures c.in-Ok.ensures.value came c.in_default-fault.is) ∙ l.invariant.0 b),
      (λ b z h. l.invariant.1 b z (led_turn leaves x.code x.sheet.now x.cancel l.at l.count c.in-Ok.size l.reply t.new.reply m m' flag b r r' t.result None l.memory t.new.memory z c.in_default.ensures c.in-Ok.ensures.value came c.in_default-fault.is t.ensures.left h)),
      c.in-Ok.ensures.within,
      omega arith,
    )

pub returns-in-Some-clause-ends : goal.returns-in-Some-clause-ends
returns-in-Some-clause-ends g c =
    let x = c.args in
    let l = c.loop-reason in
    λ b. over_here x.code x.sheet.now (x.cancel - l.count) l.at l.count l.reply _ c.in-Some.reason c.in-Some.ensures ∙ l.invariant.0 b

pub returns-in-Some-fault-clause-ends : goal.returns-in-Some-fault-clause-ends
returns-in-Some-fault-clause-ends g c =
    let x = c.args in
    let l = c.loop-reason in
    let t = c.take_frame-answer in
    let came = t.ensures.served.came in
    λ b. ap (λ r. r.end) (turn x.code x.sheet.now x.cancel l.at l.count c.in-Ok.size l.reply t.new.reply _ _ _ b _ _ t.result (Some c.in-Some-fault.fault) c.in_default.ensures c.in-Ok.ensures.value came c.in-Some-fault.is) ∙ l.invariant.0 b

pub returns-in-Err-clause-ends : goal.returns-in-Err-clause-ends
returns-in-Err-clause-ends g c =
    let x = c.args in
    let l = c.loop-reason in
    λ b. refused x.code x.sheet.now x.cancel l.at l.count l.reply _ c.in-Err.fault c.in_default.ensures c.in-Err.ensures.value ∙ l.invariant.0 b

pub returns-in-Some-clause-led : goal.returns-in-Some-clause-led
returns-in-Some-clause-led g c =
    let x = c.args in
    let l = c.loop-reason in
    λ b. l.invariant.1 b l.memory
    (led_over g.M.WritableMemory.leaves x.code x.sheet.now (x.cancel - l.count) l.at l.count l.reply (state_at g.M.ReadableMemory.means registered l.memory x.settings.now l.registration b) l.memory c.in-Some.reason c.in-Some.ensures)

pub returns-in-Err-clause-led : goal.returns-in-Err-clause-led
returns-in-Err-clause-led g c =
    let x = c.args in
    let l = c.loop-reason in
    λ b. l.invariant.1 b l.memory
    (led_refused g.M.WritableMemory.leaves x.code x.sheet.now x.cancel l.at l.count l.reply (state_at g.M.ReadableMemory.means registered l.memory x.settings.now l.registration b) l.memory c.in-Err.fault c.in_default.ensures c.in-Err.ensures.value)

pub returns-in-Some-fault-clause-led : goal.returns-in-Some-fault-clause-led
returns-in-Some-fault-clause-led g c =
    let x = c.args in
    let l = c.loop-reason in
    let t = c.take_frame-answer in
    let came = t.ensures.served.came in
    λ b. l.invariant.1 b t.new.memory
    (led_turn g.M.WritableMemory.leaves x.code x.sheet.now x.cancel l.at l.count c.in-Ok.size l.reply t.new.reply (g.M.ReadableMemory.means l.memory) (g.M.ReadableMemory.means t.new.memory) x.settings.now.write_flag b
    (registered l.registration) (registered t.new.registration) t.result (Some c.in-Some-fault.fault) l.memory t.new.memory t.new.memory c.in_default.ensures c.in-Ok.ensures.value came
    c.in-Some-fault.is t.ensures.left refl)

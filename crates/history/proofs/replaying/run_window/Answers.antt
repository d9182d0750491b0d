use Rattle.std.proofs.Common.{Some, true, length, sym, refl, ap, ◌∙◌, arith, rules}
use Rattle.server.specs.Histories.{window}
use Rattle.history.specs.Moves.{move}
use Rattle.history.proofs.Onward.{one_more, left_on, so_far_on, within, ending_carries, stays_in, with_flag, with_was, at_rest}
use Rattle.server.specs.Registered.{registered}
use Rattle.history.proofs.Led.{led_more, led_flag}
use Rattle.history.proofs.replaying.run_window.Goals as goal

pub returns-in-End-clause-ran : goal.returns-in-End-clause-ran
returns-in-End-clause-ran g c =
    let i = c.loop-call.invariant in
    let was = c.open-window.ensures.was in
    let shows = c.carried_out.ensures ∙ ap (λ f. window (Some f)) c.was.ensures in
    let put = c.push_reserved.ensures in
    λ s all q. at_rest s _ _ _ _ _ (one_more s all _ _ _ _ _ _ _ _ _ _ _ put.len c.in-Some.ensures.steps (ap move c.in-End.is) put.items (ending_carries _ _ _ _ _ was shows) (i.left all q.left) (i.reached s all q.left (with_was s _ _ _ _ _ _ (sym was) q.reached)))

pub returns-in-End-clause-reached : goal.returns-in-End-clause-reached
returns-in-End-clause-reached g c =
    let i = c.loop-call.invariant in
    let was = c.open-window.ensures.was in
    let shows = c.carried_out.ensures ∙ ap (λ f. window (Some f)) c.was.ensures in
    let put = c.push_reserved.ensures in
    λ e below s all q. so_far_on s all _ _ _ _ _ _ _ _ _ _ put.len c.in-Some.ensures.steps (ap move c.in-End.is) put.items (ending_carries _ _ _ _ _ was shows) (i.left all q.left) (i.reached s all q.left (with_was s _ _ _ _ _ _ (sym was) q.reached))

pub returns-in-End-clause-left : goal.returns-in-End-clause-left
returns-in-End-clause-left g c =
    λ e all left. left_on all _ _ _ _ _ c.push_reserved.ensures.len c.in-Some.ensures.steps (c.loop-call.invariant.left all left)

pub loop-call-preserved : goal.loop-call-preserved
loop-call-preserved g c =
    let i = c.loop-call.invariant in
    let leaves = g.M.WritableMemory.leaves in
    let was = c.open-window.result.was in
    let put = c.push_reserved-in-Some.ensures in
    let here = c.in-Some.ensures.steps in
    let flag = ap (λ s. s.write_flag) c.settings.ensures.value ∙ c.open-window.ensures.on in
    let stays = stays_in was c.in-Some.call.now c.in_default-call.not-End in
    let one = with_flag _ _ _ true (within was) _ _ _ _ flag (c.in_ok-outcome.ensures.carries (within was) stays) in
    let x = c.loop-call in
    let put_on = led_flag leaves (g.M.ReadableMemory.means x.memory) c.settings.result.now.write_flag true (within was) (registered x.registration) (move c.in-Some.call.now) x.memory c.carry_out.new.memory flag
    (c.in_ok-outcome.ensures.left (within was)) in
    record {
      few = omega (arith, i.few, put.len);
      whole = omega (arith, i.whole, put.len, ap length here);
      room = search rules;
      left = λ all left. left_on all _ _ _ _ _ put.len here (i.left all left);
      reached = λ s all left h. one_more s all _ _ _ _ _ _ _ _ _ _ _ put.len here refl put.items one (i.left all left) (i.reached s all left h);
      led = λ s all from left h l. led_more leaves s all _ _ _ _ _ _ _ _ from _ _ put.len here refl (i.left all left) (i.reached s all left h) (i.led s all from left h l) put_on;
    }

pub returns-in-End-clause-led : goal.returns-in-End-clause-led
returns-in-End-clause-led g c =
    let i = c.loop-call.invariant in
    let was = c.open-window.ensures.was in
    let put = c.push_reserved.ensures in
    λ s all from q l.
    let h' = with_was s _ _ _ _ _ _ (sym was) q.reached in
    led_more g.M.WritableMemory.leaves s all _ _ _ _ _ _ _ _ from _ _ put.len c.in-Some.ensures.steps (ap move c.in-End.is) (i.left all q.left) (i.reached s all q.left h') (i.led s all from q.left h' l) refl

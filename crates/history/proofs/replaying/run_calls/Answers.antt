use Rattle.std.proofs.Common.{◌≡◌, ◌<◌, true, length, is_ok, refl, ap, ◌∙◌, arith, rules}
use Rattle.std.specs.Slice.Iter.{iter_rest}
use Rattle.history.specs.Moves.{move, moves}
use Rattle.history.proofs.Onward.{one_more, left_on, so_far_on, opening_carries, stays_out, with_flag, ran_flag, reached_flag, at_rest}
use Rattle.server.specs.Histories.{no_window}
use Rattle.server.specs.Registered.{registered}
use Rattle.history.proofs.Led.{led_more, led_flag}
use Rattle.history.proofs.replaying.run_calls.Goals as goal

pub loop-call-preserved-in-Continue-1 : goal.loop-call-preserved-in-Continue-1
loop-call-preserved-in-Continue-1 g c =
    let i = c.loop-call.invariant in
    let put = c.push_reserved.ensures in
    let here = c.in-Some.ensures.steps in
    let w = c.run_window.ensures in
    let ok : is_ok c.run_window.result ≡ true = search rules in
    let some : 0 < length (iter_rest c.loop-call.calls) = omega (arith, ap length here) in
    let so_far = so_far_on _ (moves c.args.calls.now) _ _ _ _ _ _ _ _ _ _ put.len here (ap move c.in-Open.is) put.items (opening_carries _ _ _ _ _ i.flag c.carried_out.ensures) i.left (i.reached some) in
    record {
      whole = omega (arith, w.whole ok, i.whole, put.len, ap length here);
      room = omega (arith, w.room, i.whole, put.len, ap length here);
      led = w.led _ _ _ so_far (led_more g.M.WritableMemory.leaves _ (moves c.args.calls.now) _ _ _ _ _ _ _ _ _ _ _ put.len here (ap move c.in-Open.is) i.left (i.reached some) i.led refl);
      flag = w.flag ∙ i.flag;
      left = w.left ok _ so_far.left;
      ran = ran_flag _ _ _ _ _ _ _ i.flag (w.ran _ _ so_far);
      reached = λ below. reached_flag _ _ _ _ _ _ _ i.flag (w.reached ok below _ _ so_far).reached;
    }

pub returns-in_err-run_window-clause-ran : goal.returns-in_err-run_window-clause-ran
returns-in_err-run_window-clause-ran g c =
    let i = c.loop-call.invariant in
    let put = c.push_reserved.ensures in
    let here = c.in-Some.ensures.steps in
    let some : 0 < length (iter_rest c.loop-call.calls) = omega (arith, ap length here) in
    let so_far = so_far_on _ (moves c.args.calls.now) _ _ _ _ _ _ _ _ _ _ put.len here (ap move c.in-Open.is) put.items (opening_carries _ _ _ _ _ i.flag c.carried_out.ensures) i.left (i.reached some) in
    ran_flag _ _ _ _ _ _ _ i.flag (c.run_window.ensures.ran _ _ so_far)

pub returns-in_err-run_window-clause-led : goal.returns-in_err-run_window-clause-led
returns-in_err-run_window-clause-led g c =
    let i = c.loop-call.invariant in
    let put = c.push_reserved.ensures in
    let here = c.in-Some.ensures.steps in
    let some : 0 < length (iter_rest c.loop-call.calls) = omega (arith, ap length here) in
    let so_far = so_far_on _ (moves c.args.calls.now) _ _ _ _ _ _ _ _ _ _ put.len here (ap move c.in-Open.is) put.items (opening_carries _ _ _ _ _ i.flag c.carried_out.ensures) i.left (i.reached some) in
    c.run_window.ensures.led _ _ _ so_far (led_more g.M.WritableMemory.leaves _ (moves c.args.calls.now) _ _ _ _ _ _ _ _ _ _ _ put.len here (ap move c.in-Open.is) i.left (i.reached some) i.led refl)

pub loop-call-preserved : goal.loop-call-preserved
loop-call-preserved g c =
    let i = c.loop-call.invariant in
    let put = c.push_reserved-in_default-call.ensures in
    let here = c.in-Some.ensures.steps in
    let some : 0 < length (iter_rest c.loop-call.calls) = omega (arith, ap length here) in
    let stays = stays_out c.in-Some.call.now c.in_default-call.not-Open in
    let one = with_flag _ _ _ _ no_window _ _ _ _ i.flag (c.in_ok-outcome.ensures.carries no_window stays) in
    let more = one_more _ (moves c.args.calls.now) _ _ _ _ _ _ _ _ _ _ _ put.len here refl put.items one i.left (i.reached some) in
    let leaves = g.M.WritableMemory.leaves in
    let v = c.loop-call.server in
    let put_on = led_flag leaves (g.M.ReadableMemory.means v.memory) v.settings.write_flag c.args.server.now.settings.write_flag no_window (registered v.registration) (move c.in-Some.call.now) v.memory c.carry_out.new.memory i.flag
    (c.in_ok-outcome.ensures.left no_window) in
    record {
      whole = omega (arith, i.whole, put.len, ap length here);
      room = search rules;
      led = led_more leaves _ (moves c.args.calls.now) _ _ _ _ _ _ _ _ _ _ _ put.len here refl i.left (i.reached some) i.led put_on;
      flag = i.flag;
      left = left_on (moves c.args.calls.now) _ _ _ _ _ put.len here i.left;
      ran = at_rest _ _ _ _ _ _ more;
      reached = λ _. more;
    }

use Rattle.std.proofs.Common.{◌≡◌, ◌+◌, ◌<◌, ◌≤◌, length, take, vec_items, vec_len, vec_capacity}
use Rattle.std.specs.Slice.Iter.{iter_rest}
use Rattle.server.specs.Registered.{registered}
use Rattle.history.specs.Moves.{moves, showings, Left}
use Rattle.memory.specs.Leaving.{Leads}
use Rattle.server.specs.Histories.{no_window, state_at, state_of, made_through, Reached, Ran}
use Rattle.history.proofs.replaying.run_calls.Given as goal

abbrev pub invariant-loop-call : goal.invariant-loop-call
invariant-loop-call g l =
    let m = g.M.ReadableMemory in
    let e = l.initial.server in
    let v = l.server in
    let k = vec_len l.outcomes in
    let all = moves l.fn.calls in
    let from = state_of m.means e in
    let to = state_at m.means registered v.memory e.settings v.registration no_window in record {
      whole : k + length (iter_rest l.calls) ≡ length l.fn.calls;
      room : length l.fn.calls ≤ vec_capacity l.outcomes;
      led : Leads g.M.WritableMemory.leaves e.memory (made_through from (take k all)) v.memory;
      flag : v.settings.write_flag ≡ e.settings.write_flag;
      left : Left all k (iter_rest l.calls);
      ran : Ran from (take k all) (showings (vec_items l.outcomes)) to;
      reached : 0 < length (iter_rest l.calls) → Reached from (take k all) (showings (vec_items l.outcomes)) to;
    }

abbrev pub decreases-loop-call : goal.decreases-loop-call
decreases-loop-call g l = length (iter_rest l.calls)

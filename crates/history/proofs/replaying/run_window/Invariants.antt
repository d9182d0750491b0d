use Rattle.std.proofs.Common.{◌≡◌, ◌+◌, ◌≤◌, true, List, length, take, vec_items, vec_len, vec_capacity}
use Rattle.std.specs.Slice.Iter.{iter_rest}
use Rattle.server.specs.Registered.{registered}
use Rattle.history.specs.Moves.{showings, Left}
use Rattle.memory.specs.Leaving.{Leads}
use Rattle.server.specs.Histories.{Move, State, made_through, Reached}
use Rattle.history.proofs.Onward.{state, within}
use Rattle.history.proofs.replaying.run_window.Given as goal

abbrev pub invariant-loop-call : goal.invariant-loop-call
invariant-loop-call g l =
    let m = g.M.ReadableMemory in
    let e = l.initial in
    let n = vec_len e.outcomes in
    let k = vec_len l.outcomes in
    let was = l.window.was in record {
      few : n ≤ k;
      whole : k + length (iter_rest l.calls) ≡ n + length (iter_rest e.calls);
      room : n + length (iter_rest e.calls) ≤ vec_capacity l.outcomes;
      left : (all : List Move) → Left all n (iter_rest e.calls) → Left all k (iter_rest l.calls);
      reached : (s : State) (all : List Move) → Left all n (iter_rest e.calls) → Reached s (take n all) (showings (vec_items e.outcomes)) (state (m.means e.memory) true (within was) (registered e.registration))
          → Reached s (take k all) (showings (vec_items l.outcomes)) (state (m.means l.memory) true (within was) (registered l.registration));
      led : (s : State) (all : List Move) (from : g.row.M.Denot) → Left all n (iter_rest e.calls) → Reached s (take n all) (showings (vec_items e.outcomes)) (state (m.means e.memory) true (within was) (registered e.registration))
          → Leads g.M.WritableMemory.leaves from (made_through s (take n all)) e.memory → Leads g.M.WritableMemory.leaves from (made_through s (take k all)) l.memory;
    }

abbrev pub decreases-loop-call : goal.decreases-loop-call
decreases-loop-call g l = length (iter_rest l.calls)

-- Replays of paired calls on servers that start alike.
use Rattle.std.proofs.Common.{◌≡◌, ℕ, List, length, take, sym, subst, arith, ap}
use Rattle.std.proofs.lemmas.List.{length-map, take_all}
use Rattle.server.specs.Histories.{Shown, State, closed}
use Rattle.server.specs.Kept.{KeptTo, KeptToEnd}
use Rattle.server.specs.Pairs.{EndAlike, InStep}
use Rattle.history.specs.declared.call.Call.{Call}
use Rattle.history.specs.Moves.{move, moves}
use Rattle.server.proofs.Pairs.{in_step, one_state}

-- histories that were ended alike are alike then
closed_alike : (s t : State) → InStep s t → InStep (closed s) (closed t)
closed_alike s t e = in_step (closed s) (closed t) (ap closed (one_state s t e))

-- two replays of paired calls that were carried out whole
module _ (s t z y : State) (cs ds : List Call) (os ps : List Shown) (k l : ℕ) where
  pub both_ended : KeptToEnd s (take k (moves cs)) os z → KeptToEnd t (take l (moves ds)) ps y → k ≡ length cs → l ≡ length ds → EndAlike s t (moves cs) (moves ds) os ps z y
  both_ended r q all all' same p =
      let whole : take k (moves cs) ≡ moves cs = take_all k (moves cs) (omega (arith, all, length-map cs move)) in
      let whole' : take l (moves ds) ≡ moves ds = take_all l (moves ds) (omega (arith, all', length-map ds move)) in
      let one : KeptTo s (moves cs) os r.last = subst (λ x. KeptTo s x os r.last) whole r.kept in
      let other : KeptTo t (moves ds) ps q.last = subst (λ x. KeptTo t x ps q.last) whole' q.kept in
      let both = one.alike t q.last (moves ds) ps other.reached same p in
      (both.0, subst (λ x. InStep x y) (sym r.closes) (subst (λ x. InStep (closed r.last) x) (sym q.closes) (closed_alike r.last q.last both.1)))

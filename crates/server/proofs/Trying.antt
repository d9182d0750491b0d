-- Writes put to a memory one after the other.
use Rattle.std.proofs.Common.{◌≡◌, ℕ, ◌+◌, ◌-◌, ◌/◌, ◌%◌, ◌<◌, List, [], ◌∷◌, ◌++◌, Ok, Result, sym, refl, ap, ◌∙◌, subst, add-one, arith}
use Rattle.device.specs.declared.types.Device.{Device}
use Rattle.memory.specs.declared.refusal.Refusal.{Refusal}
use Rattle.memory.specs.Meaning.{Meaning, write_answer, written}
use Rattle.memory.specs.Leaving.{Write, Leaving, LeftBy, Leads, Tries}
use Rattle.server.specs.Writes.{after_writes, as_point, spread}

-- no write would be refused
abbrev pub AllTaken : Meaning → List Write → Type 0
AllTaken m [] = Unit {0}
AllTaken m (w ∷ ws) = (write_answer m w.0 w.1 w.2 ≡ Ok tt) × AllTaken m ws

-- one part behind the other
pub leads_on : {S : Type 0} (R : Leaving S) (s t u : S) (us vs : List Write) → Leads R s us t → Leads R t vs u → Leads R s (us ++ vs) u
leads_on R s t u [] vs a b = subst (λ x. Leads R x vs u) a b
leads_on R s t u (w ∷ us) vs a b = (a.0, a.1, leads_on R a.0 t u us vs a.2 b)

-- what is left of writes: wherever these lead from here, all lead from the beginning
pub record IsRest {S : Type 0} (R : Leaving S) (s : S) (all : List Write) (u : S) (rest : List Write) : Type 0 where
  pub on : (t : S) → Leads R u rest t → Leads R s all t

module _ {S : Type 0} (R : Leaving S) (s : S) (all : List Write) where
  -- a turn: the writes of one entry, and then the rest
  pub rest_turn : (u u' : S) (us vs ws : List Write) → IsRest R s all u ws → Leads R u us u' → us ++ vs ≡ ws → IsRest R s all u' vs
  rest_turn u u' us vs ws i l e = record { on = λ t h. i.on t (subst (λ x. Leads R u x t) e (leads_on R u u' t us vs l h)) }

  -- the end, where none is left
  pub rest_none : (u : S) (ws : List Write) → IsRest R s all u ws → ws ≡ [] → Leads R s all u
  rest_none u ws i e = i.on u (subst (λ x. Leads R u x u) (sym e) refl)

-- the beginning, where all are left
pub rest_all : {S : Type 0} (R : Leaving S) (s : S) (all : List Write) (ws : List Write) → ws ≡ all → IsRest R s all s ws
rest_all R s all ws e = record { on = λ t h. subst (λ x. Leads R s x t) e h }

-- one write that answered so
pub tries_one : {S : Type 0} (means : S → Meaning) (leaves : Leaving S) (s t : S) (d : Device) (n v : ℕ) (r : Result (Unit {0}) Refusal) → r ≡ write_answer (means s) d n v
    → means t ≡ written r (means s) d n v → LeftBy leaves r s d n v t → Leads (Tries means leaves) s (as_point d n v) t
tries_one means leaves s t d n v r e f l =
    let P : Result (Unit {0}) Refusal → Type 0 = λ q. LeftBy leaves q s d n v t × (means t ≡ written q (means s) d n v) in
    let one : P (write_answer (means s) d n v) = subst P e (l, f) in
    (t, one, refl)

pub spread_turn : (d : Device) (n i v : ℕ) → i < 16 → as_point d (n + i) (v % 2) ++ spread d (n + (i + 1)) (16 - (i + 1)) (v / 2) ≡ spread d (n + i) (16 - i) v
spread_turn d n i v h =
    let one : 16 - i ≡ 16 - (i + 1) + 1 = omega arith in
    let next : n + (i + 1) ≡ n + i + 1 = omega arith in
    rw (one, add-one (16 - (i + 1)), next)

-- what a write leaves open and inside stays so
still : (m : Meaning) (d : Device) (n v : ℕ) (us : List Write) → AllTaken m us → AllTaken (written (Ok tt) m d n v) us
still m d n v [] s = tt
still m d n v (u ∷ us) s = (s.0, still m d n v us s.1)

-- where no write is refused, all are made
pub all_made : {S : Type 0} (means : S → Meaning) (leaves : Leaving S) (s t : S) (ws : List Write) → AllTaken (means s) ws → Leads (Tries means leaves) s ws t
    → Leads leaves s ws t × (means t ≡ after_writes (means s) ws)
all_made means leaves s t [] a h = (h, ap means h)
all_made means leaves s t (w ∷ ws) a h =
    let u = h.0 in
    let left : leaves s w.0 w.1 w.2 u = subst (λ r. LeftBy leaves r s w.0 w.1 w.2 u) a.0 h.1.0 in
    let moved : means u ≡ written (Ok tt) (means s) w.0 w.1 w.2 = h.1.1 ∙ ap (λ r. written r (means s) w.0 w.1 w.2) a.0 in
    let rest = all_made means leaves u t ws (subst (λ m. AllTaken m ws) (sym moved) (still (means s) w.0 w.1 w.2 ws a.1)) h.2 in
    ((u, left, rest.0), rest.1 ∙ ap (λ m. after_writes m ws) moved)

-- Where the point writes of a list of calls lead the memory.
use Rattle.std.proofs.Common.{◌≡◌, ℕ, ◌+◌, ◌⊎◌, inl, inr, Bool, List, [], ◌∷◌, ◌++◌, take, drop, length, Ok, Err, Option, Result, sym, refl, ap, ◌∙◌, subst, add-one}
use Rattle.std.proofs.lemmas.List.{append-nil, append_assoc}
use Rattle.device.specs.declared.types.Device.{Device}
use Rattle.memory.specs.declared.refusal.Refusal.{Refusal}
use Rattle.memory.specs.Meaning.{Meaning, write_answer}
use Rattle.memory.specs.Leaving.{Leaving, LeftBy, Leads}
use Rattle.wire.specs.declared.code.Code.{Code}
use Rattle.server.specs.Registered.{Listed}
use Rattle.server.specs.Serves.{served}
use Rattle.server.proofs.Trying.{leads_on}
use Rattle.history.specs.declared.call.Call.{Call}
use Rattle.history.specs.declared.call.Call.TheVariants.{Open, End}
use Rattle.history.proofs.Onward.{state, take_next}
use Rattle.server.specs.Histories.{Aside, Move, Reached, Shown, State, after, made_by, made_through, only_ok, setting, step}
use Rattle.history.specs.Moves.{Left, move, moves}

made_on : (s : State) (ms : List Move) (m : Move) → made_through s (ms ++ m ∷ []) ≡ made_through s ms ++ made_by (after s ms) m
made_on s [] m = append-nil (made_by s m)
made_on s (n ∷ ms) m = ap (λ ws. made_by s n ++ ws) (made_on (step s n) ms m) ∙ sym (append_assoc (made_by s n) (made_through (step s n) ms) (made_by (after (step s n) ms) m))

module _ {S : Type 0} (leaves : Leaving S) where
  -- one call more of a list, the first of those that are left
  pub led_more : (s₀ : State) (all : List Move) (k k' : ℕ) (d : Call) (m : Move) (cs cs' : List Call) (os : List Shown) (s : State) (x y z : S)
      → k' ≡ k + 1 → cs ≡ d ∷ cs' → move d ≡ m → Left all k cs → Reached s₀ (take k all) os s
      → Leads leaves x (made_through s₀ (take k all)) y → Leads leaves y (made_by s m) z → Leads leaves x (made_through s₀ (take k' all)) z
  led_more s₀ all k k' d m cs cs' os s x y z next here named left so_far before one =
      let first : drop k all ≡ m ∷ moves cs' = left ∙ ap moves here ∙ ap (λ n. n ∷ moves cs') named in
      let to : take k' all ≡ take k all ++ m ∷ [] = ap (λ n. take n all) (next ∙ add-one k) ∙ take_next all k m (moves cs') first in
      let made : made_through s₀ (take k' all) ≡ made_through s₀ (take k all) ++ made_by s m = ap (made_through s₀) to ∙ made_on s₀ (take k all) m ∙ ap (λ t. made_through s₀ (take k all) ++ made_by t m) (sym so_far.led) in
      subst (λ ws. Leads leaves x ws z) (sym made) (leads_on leaves x y z _ _ before one)

  -- the flag of a call under another name
  pub led_flag : (m : Meaning) (flag flag' : Bool) (b : Aside) (g : Option Listed) (c : Move) (y z : S) → flag ≡ flag' → Leads leaves y (made_by (state m flag b g) c) z → Leads leaves y (made_by (state m flag' b g) c) z
  led_flag m flag flag' b g c y z e l = subst (λ f. Leads leaves y (made_by (state m f b g) c) z) e l

  -- a frame with its reply space under another name
  pub led_space : (code : Code) (xs before space : List ℕ) (m : Meaning) (flag : Bool) (g : Option Listed) (y z : S) → before ≡ space
      → Leads leaves y (served code xs (length before) m flag g).writes z → Leads leaves y (served code xs (length space) m flag g).writes z
  led_space code xs before space m flag g y z e l = subst (λ sp. Leads leaves y (served code xs (length sp) m flag g).writes z) e l

  -- a value given by the bench
  pub led_setting : (s : State) (d : Device) (n v : ℕ) (y z : S) (r : Result (Unit {0}) Refusal) → r ≡ write_answer s.meaning d n v → LeftBy leaves r y d n v z → Leads leaves y (made_by s (setting d n v)) z
  led_setting s d n v y z r e l = subst (λ q. Leads leaves y (only_ok q (d, n, v)) z) e (go r l)
    where
      go : (q : Result (Unit {0}) Refusal) → LeftBy leaves q y d n v z → Leads leaves y (only_ok q (d, n, v)) z
      go (Ok u) h = (z, h, refl)
      go (Err f) h = h

  -- what is declined
  pub led_declined : (s : State) (c : Call) (y : S) → (c ≡ Open) ⊎ (c ≡ End) → Leads leaves y (made_by s (move c)) y
  led_declined s c y (inl e) = subst (λ ws. Leads leaves y ws y) (sym (ap (λ k. made_by s (move k)) e)) refl
  led_declined s c y (inr e) = subst (λ ws. Leads leaves y ws y) (sym (ap (λ k. made_by s (move k)) e)) refl

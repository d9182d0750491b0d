-- The laws of a call follow from what it came to.
use Rattle.std.proofs.Common.{◌≡◌, ℕ, suc, ◌+◌, ◌≤◌, Bool, true, false, List, [], ◌∷◌, length, take, drop, set, is_some, Ok, Err, Option, Result, sym, refl, ap, ◌∙◌, subst, arith, drop-set-lt}
use lib.Seq.{sets}
use Rattle.memory.specs.Meaning.{Meaning}
use Rattle.memory.specs.Leaving.{Write, Leaving, Leads}
use Rattle.wire.specs.declared.code.Code.{Code}
use Rattle.frame.specs.declared.fault.Fault.{Fault}
use Rattle.frame.specs.declared.header.Header.{Header}
use Rattle.frame.specs.Headers.{tested}
use Rattle.request.specs.Requests.{Asked, read_bits, read_words, write_bits, write_words, random_read, register, monitor, random_bits, random_write}
use Rattle.request.specs.Readings.{request_in}
use Rattle.server.specs.declared.answer.Answer.{Answer}
use Rattle.server.specs.Registered.{Listed}
use Rattle.server.specs.Serves.{Served, Came, done, late_fault, answered, taken_up, served}
use Rattle.server.specs.Laws.{FaultsMoveNothing, SpaceKept}

no_fault : {P : Type 0} → ◌≡◌ {A = Bool} false true → P
no_fault e = let z : ◌≡◌ {A = ℕ} 0 1 = cc in absurd (omega arith)

carried_out : (h : Header) (a : Asked) (m : Meaning) (g : Option Listed) → is_some (late_fault h (done a m g).answer) ≡ true → (done a m g).writes ≡ []
carried_out h (read_bits d i n) m g e = refl
carried_out h (read_words d i n) m g e = refl
carried_out h (write_bits d i vs) m g e = no_fault e
carried_out h (write_words d i vs) m g e = no_fault e
carried_out h (random_read ws ds) m g e = refl
carried_out h (register ws ds) m g e = refl
carried_out h monitor m g e = refl
carried_out h (random_bits ss) m g e = no_fault e
carried_out h (random_write ws ds) m g e = no_fault e

judged : (code : Code) (h : Header) (m : Meaning) (g : Option Listed) (r : Result Asked Fault) → is_some (answered code h m g r).fault_met ≡ true → (answered code h m g r).writes ≡ []
judged code h m g (Ok a) e = carried_out h a m g e
judged code h m g (Err f) e = refl

took : (code : Code) (m : Meaning) (flag : Bool) (g : Option Listed) (xs : List ℕ) (r : Result Header Fault) → is_some (taken_up code m flag g xs r).fault_met ≡ true → (taken_up code m flag g xs r).writes ≡ []
took code m flag g xs (Ok h) e = judged code h m g (request_in code m flag h (take h.size xs)) e
took code m flag g xs (Err f) e = refl

-- no writes lead nowhere else
pub stays : {S : Type 0} (leaves : Leaving S) (s t : S) (ws : List Write) → Leads leaves s ws t → ws ≡ [] → t ≡ s
stays leaves s t ws l e = subst (λ x. Leads leaves s x t) e l

pub faults_move_nothing : {S R : Type 0} (leaves : Leaving S) (code : Code) (xs : List ℕ) (space : ℕ) (m m' : Meaning) (flag : Bool) (g g' : Option Listed) (a : Answer) (r r' : List ℕ) (s s' : S) (k k' : R)
    → Came (served code xs space m flag g) a r r' m' g' → Leads leaves s (served code xs space m flag g).writes s' → (is_some a.fault ≡ true → k' ≡ k) → FaultsMoveNothing a s k s' k'
faults_move_nothing leaves code xs space m m' flag g g' a r r' s s' k k' c l kept e =
    (stays leaves s s' _ l (took code m flag g xs (tested code space xs) (ap is_some (sym c.tells.meets) ∙ e)), kept e)

-- a request that was judged takes the frame
pub takes_frame : (code : Code) (h : Header) (m : Meaning) (g : Option Listed) (r : Result Asked Fault) → (answered code h m g r).taken ≡ h.size
takes_frame code h m g (Ok a) = refl
takes_frame code h m g (Err f) = refl

-- stores leave what is behind them
past_sets : (l : List ℕ) (i k : ℕ) (vs : List ℕ) → i + length vs ≤ k → drop k (sets l i vs) ≡ drop k l
past_sets l i k [] h = refl
past_sets l i k (v ∷ vs) h = past_sets (set l i v) (suc i) k vs (omega arith) ∙ drop-set-lt k l i v (omega arith)

empty : (xs : List ℕ) → length xs ≡ 0 → xs ≡ []
empty [] e = refl
empty (x ∷ xs) e = absurd (omega arith)

pub space_kept : (s : Served) (a : Answer) (r r' : List ℕ) (m : Meaning) (g : Option Listed) → Came s a r r' m g → SpaceKept a r r'
space_kept s a r r' m g c =
    let t = c.tells in
    record {
      silent = λ e. t.reply ∙ ap (sets r 0) (empty s.bytes (sym t.long ∙ e));
      behind = ap (drop a.length) t.reply ∙ past_sets r 0 a.length s.bytes (omega (arith, t.long));
    }

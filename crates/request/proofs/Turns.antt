-- Lists of entries and of points: that all may be read, and a turn of a loop over them.
use Rattle.std.proofs.Common.{◌≡◌, ℕ, zero, suc, ◌+◌, ◌-◌, ◌/◌, ◌%◌, ◌^◌, ◌<◌, ◌≤◌, Bool, true, false, cond, ◌&&◌, eqb, leb, List, [], ◌∷◌, length, drop, IfOk, OnOk, Ok, Err, Result, sym, refl, ap, ◌∙◌, add-one, arith, drop-drop}
use Rattle.std.specs.List.{list_all, range_with_len}
use Rattle.std.proofs.lemmas.List.{get_or_past}
use Rattle.memory.specs.Meaning.{Meaning}
use Rattle.wire.specs.declared.code.Code.{Code}
use Rattle.wire.specs.declared.code.Code.TheVariants.{Binary, Ascii}
use Rattle.wire.specs.declared.code.FieldFault.{FieldFault}
use Rattle.wire.specs.Numbers.{then}
use Rattle.wire.specs.Points.{bits_size}
use Rattle.frame.specs.declared.fault.Fault.{Fault}
use Rattle.request.specs.Fields.{number_at, list_end, ends, CanRead, ReadsWithin, list_in, while_read, bit_in, bits_in}
use Rattle.request.specs.Limits.{random_bits_ok, all_bits}
use Rattle.request.specs.Entries.{bit_setting_at}
use Rattle.request.specs.Lists.{bits_list}

-- entries that begin within a bound and end within it may all be read
pub can_read : {X : Type 0} (asks : ℕ → Type 0) (gives : ℕ → Result (X × ℕ) Fault → Type 0) (bound : ℕ) → bound < 2 ^ 64 → ReadsWithin asks gives bound → (n at : ℕ) → at ≤ bound → CanRead asks gives n at
can_read asks gives bound fits each zero at h = tt
can_read {X} asks gives bound fits each (suc n) at h = ((each at h).0, λ r k. on r ((each at h).1 r k) (λ end i. can_read asks gives bound fits each n end i))
  where
    on : (r : Result (X × ℕ) Fault) → IfOk r (λ a. at + a.1 ≤ bound) → ((end : ℕ) → end ≤ bound → CanRead asks gives n end) → IfOk r (λ a. (at + a.1 < 2 ^ 64) × CanRead asks gives n (at + a.1))
    on (Ok a) k ih = (omega arith, ih (at + a.1) k)
    on (Err e) k ih = tt

-- entries that each take one place may all be read, if each of the places may
pub can_count : {X : Type 0} (asks : ℕ → Type 0) (gives : ℕ → Result (X × ℕ) Fault → Type 0) (count : ℕ) → count < 2 ^ 64
    → ((i : ℕ) → i < count → asks i × ((r : Result (X × ℕ) Fault) → gives i r → IfOk r (λ a. a.1 ≡ 1)))
    → (n i : ℕ) → i + n ≡ count → CanRead asks gives n i
can_count asks gives count fits each zero i h = tt
can_count {X} asks gives count fits each (suc n) i h =
    let e = each i (omega arith) in
    (e.0, λ r k. on r (e.1 r k) (λ next d. can_count asks gives count fits each n next d))
  where
    on : (r : Result (X × ℕ) Fault) → IfOk r (λ a. a.1 ≡ 1) → ((next : ℕ) → next + n ≡ count → CanRead asks gives n next) → IfOk r (λ a. (i + a.1 < 2 ^ 64) × CanRead asks gives n (i + a.1))
    on (Ok a) k ih = (omega (arith, k), ih (i + a.1) (omega (arith, k)))
    on (Err e) k ih = tt

-- where each entry of a list in the frame is read alike in a part of it, the part has them all
pub all_there : {X : Type 0} (bytes : List ℕ) (r : ℕ → Result (X × ℕ) Fault) (q : List ℕ → Result (X × ℕ) FieldFault)
    → ((at : ℕ) (a : X × ℕ) → r at ≡ Ok a → q (drop at bytes) ≡ Ok a)
    → (n at end : ℕ) → list_end r n at ≡ Ok end → length (list_in q n (drop at bytes)) ≡ n
all_there {X} bytes r q reads zero at end h = refl
all_there {X} bytes r q reads (suc n) at end h = go (r at) refl h (λ a i. all_there bytes r q reads n (at + a.1) end i)
  where
    go : (y : Result (X × ℕ) Fault) → r at ≡ y → then y (λ a. list_end r n (at + a.1)) ≡ Ok end
        → ((a : X × ℕ) → list_end r n (at + a.1) ≡ Ok end → length (list_in q n (drop (at + a.1) bytes)) ≡ n)
        → length (while_read (q (drop at bytes)) (λ a. a.0 ∷ list_in q n (drop a.1 (drop at bytes)))) ≡ suc n
    go (Ok a) d h ih = rw (reads at a d, drop-drop a.1 at bytes) (ap suc (ih a h))
    go (Err f) d h ih = let z : ◌≡◌ {A = ℕ} 0 1 = cc in omega arith

pub there_if_read : {X : Type 0} (bytes : List ℕ) (r : ℕ → Result (X × ℕ) Fault) (q : List ℕ → Result (X × ℕ) FieldFault)
    → ((at : ℕ) (a : X × ℕ) → r at ≡ Ok a → q (drop at bytes) ≡ Ok a)
    → (n at : ℕ) (y : Result ℕ Fault) → y ≡ list_end r n at → OnOk y (length (list_in q n (drop at bytes)) ≡ n)
there_if_read bytes r q reads n at (Ok end) e = all_there bytes r q reads n at end (sym e)
there_if_read bytes r q reads n at (Err f) e = tt

-- the list of a random write in bits, once its entries were read to their end
pub bits_read : (code : Code) (m : Meaning) (bytes : List ℕ) (at n used place last : ℕ)
    → number_at code bytes at 1 ≡ Ok (n, used) → random_bits_ok n ≡ true → place ≡ at + used → list_end (bit_setting_at code m bytes) n place ≡ Ok last
    → bits_list code m bytes at ≡ ends bytes last (n, place)
bits_read code m bytes at n used place last e b p l = rw (e, b, sym p, l)

-- points that are to be bits, by the index of each
pub all_bits_from : (code : Code) (xs : List ℕ) (i n : ℕ) → list_all (λ k. leb (bit_in code xs k) 1) (range_with_len i n) ≡ all_bits (bits_in code xs i n)
all_bits_from code xs i zero = refl
all_bits_from code xs i (suc n) = ap (λ b. leb (bit_in code xs i) 1 && b) (all_bits_from code xs (i + 1) n)

-- a point past the end of the bytes
zero_half : (b : Bool) → cond b (0 / 16) (0 % 16) ≡ 0
zero_half true = refl
zero_half false = refl

pub past_end : (code : Code) (xs : List ℕ) (i : ℕ) → length xs < bits_size code (i + 1) → bit_in code xs i ≡ 0
past_end Binary xs i h =
    let out : length xs ≤ i / 2 = omega arith in
    rw (get_or_past xs (i / 2) 0 out) (zero_half (eqb (i % 2) 0))
past_end Ascii xs i h =
    let out : length xs ≤ i = omega arith in
    rw (get_or_past xs i 0 out)

-- a turn of a loop that carries out a list that a request holds
module _ {X : Type 0} (q : List ℕ → Result (X × ℕ) FieldFault) (xs : List ℕ) (count i at : ℕ) (below : i < count) where
  in_step : list_in q (count - i) (drop at xs) ≡ while_read (q (drop at xs)) (λ a. a.0 ∷ list_in q (count - (i + 1)) (drop a.1 (drop at xs)))
  in_step =
      let one : count - i ≡ count - (i + 1) + 1 = omega arith in
      rw (one, add-one (count - (i + 1)))

  pub in_goes_on : (a : X × ℕ) → q (drop at xs) ≡ Ok a → list_in q (count - i) (drop at xs) ≡ a.0 ∷ list_in q (count - (i + 1)) (drop (at + a.1) xs)
  in_goes_on a e =
      in_step ∙ ap (λ y. while_read y (λ a. a.0 ∷ list_in q (count - (i + 1)) (drop a.1 (drop at xs)))) e
      ∙ ap (λ ys. a.0 ∷ list_in q (count - (i + 1)) ys) (drop-drop a.1 at xs)

  pub in_stops : (f : FieldFault) → q (drop at xs) ≡ Err f → list_in q (count - i) (drop at xs) ≡ []
  in_stops f e = in_step ∙ ap (λ y. while_read y (λ a. a.0 ∷ list_in q (count - (i + 1)) (drop a.1 (drop at xs)))) e

pub in_none_left : {X : Type 0} (q : List ℕ → Result (X × ℕ) FieldFault) (xs : List ℕ) (count i : ℕ) → count ≤ i → list_in q (count - i) xs ≡ []
in_none_left q xs count i h =
    let z : count - i ≡ 0 = omega arith in
    rw z

-- A request with lists asks, as it is held, what the walk reads; and what it holds has all of its entries.
use Rattle.std.proofs.Common.{◌≡◌, ℕ, ◌+◌, ◌*◌, Bool, true, false, cond, leb, List, length, drop, IfOk, Ok, Err, Result, sym, refl, ap, ◌∙◌, subst, drop-drop}
use Rattle.memory.specs.Meaning.{Meaning}
use Rattle.wire.specs.declared.code.Code.{Code}
use Rattle.wire.specs.declared.code.FieldFault.{FieldFault}
use Rattle.wire.specs.Numbers.{then, per_byte}
use Rattle.frame.specs.declared.fault.Cause.TheVariants.{RandomBitCount, RandomCount, BadSize}
use Rattle.frame.specs.declared.fault.Fault.{Fault}
use Rattle.frame.specs.Faults.{fault}
use Rattle.request.specs.Fields.{number_at, counts_at, list_end, list_in, ends}
use Rattle.request.specs.Limits.{random_ok, random_bits_ok, random_write_ok}
use Rattle.request.specs.Walks.{Walk, done, run, list}
use Rattle.request.specs.Requests.{Asked, random_read, register, random_bits, random_write, RandomRead, RandomBits, RandomWrite}
use Rattle.request.specs.Judging.{access, setting, bit_setting, judged}
use Rattle.request.specs.Requests.{Register as Registering}
use Rattle.request.specs.Entries.{access_at, access_in, setting_at, setting_in, bit_setting_at}
use Rattle.request.specs.Readings.{held_random_bits, Held, held_random_read, held_register, held_random_write, asked, asked_of, Whole}
use Rattle.request.specs.Lists.{two_lists, random_list, write_list, bits_list}
use Rattle.request.proofs.Lists.{Entry, walked, free_list, end_is}
use Rattle.request.proofs.Turns.{all_there}
use Rattle.request.proofs.Parts.{access_law, setting_law, bit_setting_law}

-- what is held of the frame from where the lists begin
abbrev pub holding : (ℕ → ℕ → List ℕ → ℕ → Held) → List ℕ → Result (ℕ × ℕ × ℕ) Fault → Result Held Fault
holding make bytes r = then r (λ a. Ok (make a.0 a.1 (drop a.2 bytes) a.2))

abbrev pub holding_bits : List ℕ → Result (ℕ × ℕ) Fault → Result Held Fault
holding_bits bytes r = then r (λ a. Ok (held_random_bits a.0 (drop a.1 bytes) a.1))

-- what is held as such asks what it does, and has all of its entries
pub as_held : (code : Code) {x : Result Held Fault} {y : Result Asked Fault} → asked code x ≡ y → IfOk x (Whole code) → (r : Result Held Fault) → r ≡ x → (asked code r ≡ y) × IfOk r (Whole code)
as_held code d w r e = (ap (asked code) e ∙ d, subst (λ z. IfOk z (Whole code)) (sym e) w)

-- two lists
module _ {X : Type 0} (code : Code) (bytes : List ℕ) (e₁ e₂ : (X → Walk Asked) → Walk Asked) (r₁ r₂ : ℕ → Result (X × ℕ) Fault) (q₁ q₂ : List ℕ → Result (X × ℕ) FieldFault) (size₁ size₂ : ℕ)
    (law₁ : Entry code bytes e₁ r₁ q₁ size₁) (law₂ : Entry code bytes e₂ r₂ q₂ size₂) (hold : ℕ → ℕ → List ℕ → ℕ → Held) where
  module _ (make : List X → List X → Asked) (says : (w d : ℕ) (xs : List ℕ) (p : ℕ) → asked_of code (hold w d xs p) ≡ make (list_in q₁ w xs) (list_in q₂ d (drop (w * size₁) xs))) where
    module _ (w d at p : ℕ) where
      last : (e : ℕ) → e ≡ p + w * size₁ → (z : Result ℕ Fault)
          → asked code (holding hold bytes (then z (λ f. ends bytes f (w, d, p))))
          ≡ then z (λ f. ends bytes f (make (list_in q₁ w (drop p bytes)) (list_in q₂ d (drop e bytes))))
      last e i (Ok f) = end (leb (length bytes) f)
        where
          end : (b : Bool) → asked code (holding hold bytes (cond b (Ok (w, d, p)) (Err (fault BadSize f)))) ≡ cond b (Ok (make (list_in q₁ w (drop p bytes)) (list_in q₂ d (drop e bytes)))) (Err (fault BadSize f))
          end true = ap Ok (says w d (drop p bytes) p ∙ ap (λ xs. make (list_in q₁ w (drop p bytes)) (list_in q₂ d xs)) (drop-drop (w * size₁) p bytes ∙ ap (λ k. drop k bytes) (sym i)))
          end false = refl
      last e i (Err f) = refl

      first : (y : Result ℕ Fault) → list_end r₁ w p ≡ y
          → asked code (holding hold bytes (then y (λ e. then (list_end r₂ d e) (λ f. ends bytes f (w, d, p)))))
          ≡ then y (λ e. run code bytes (list e₂ d (λ ds. done (make (list_in q₁ w (drop p bytes)) ds))) at at e)
      first (Ok e) i =
          last e (end_is code bytes e₁ r₁ q₁ size₁ law₁ w p e i) (list_end r₂ d e)
          ∙ sym (walked code bytes e₂ r₂ q₂ size₂ law₂ d (λ ds. done (make (list_in q₁ w (drop p bytes)) ds)) (λ _ _ _ _ _ _. refl) at at at at e)
      first (Err f) i = refl

      both : asked code (holding hold bytes (then (list_end r₁ w p) (λ e. then (list_end r₂ d e) (λ f. ends bytes f (w, d, p)))))
          ≡ run code bytes (list e₁ w (λ ws. list e₂ d (λ ds. done (make ws ds)))) at at p
      both =
          first (list_end r₁ w p) refl
          ∙ sym (walked code bytes e₁ r₁ q₁ size₁ law₁ w (λ ws. list e₂ d (λ ds. done (make ws ds))) (λ ws. free_list code bytes e₂ r₂ q₂ size₂ law₂ d (λ ds. done (make ws ds)) (λ _ _ _ _ _ _. refl)) at at at at p)

    two_judged : (at : ℕ) (ok : ℕ → ℕ → Bool)
        → asked code (holding hold bytes (two_lists code bytes at ok r₁ r₂))
        ≡ then (counts_at code bytes at) (λ a. cond (ok a.0 a.1) (run code bytes (list e₁ a.0 (λ ws. list e₂ a.1 (λ ds. done (make ws ds)))) at at (at + a.2)) (Err (fault RandomCount at)))
    two_judged at ok = counted (counts_at code bytes at)
      where
        tested : (a : ℕ × ℕ × ℕ) (b : Bool)
            → asked code (holding hold bytes (cond b (then (list_end r₁ a.0 (at + a.2)) (λ e. then (list_end r₂ a.1 e) (λ f. ends bytes f (a.0, a.1, at + a.2)))) (Err (fault RandomCount at))))
            ≡ cond b (run code bytes (list e₁ a.0 (λ ws. list e₂ a.1 (λ ds. done (make ws ds)))) at at (at + a.2)) (Err (fault RandomCount at))
        tested a true = both a.0 a.1 at (at + a.2)
        tested a false = refl

        counted : (x : Result (ℕ × ℕ × ℕ) Fault)
            → asked code (holding hold bytes (then x (λ a. cond (ok a.0 a.1) (then (list_end r₁ a.0 (at + a.2)) (λ e. then (list_end r₂ a.1 e) (λ f. ends bytes f (a.0, a.1, at + a.2)))) (Err (fault RandomCount at)))))
            ≡ then x (λ a. cond (ok a.0 a.1) (run code bytes (list e₁ a.0 (λ ws. list e₂ a.1 (λ ds. done (make ws ds)))) at at (at + a.2)) (Err (fault RandomCount at)))
        counted (Ok a) = tested a (ok a.0 a.1)
        counted (Err e) = refl

  module _ (P : Held → Type 0) (makes : (w d : ℕ) (xs : List ℕ) (p : ℕ) → (length (list_in q₁ w xs) ≡ w) × (length (list_in q₂ d (drop (w * size₁) xs)) ≡ d) → P (hold w d xs p)) where
    two_whole : (at : ℕ) (ok : ℕ → ℕ → Bool) → IfOk (holding hold bytes (two_lists code bytes at ok r₁ r₂)) P
    two_whole at ok = counted (counts_at code bytes at)
      where
        at_its_end : (w d p f : ℕ) (b : Bool) → P (hold w d (drop p bytes) p) → IfOk (holding hold bytes (cond b (Ok (w, d, p)) (Err (fault BadSize f)))) P
        at_its_end w d p f true h = h
        at_its_end w d p f false h = tt

        second : (w d p e : ℕ) → list_end r₁ w p ≡ Ok e → (z : Result ℕ Fault) → list_end r₂ d e ≡ z → IfOk (holding hold bytes (then z (λ f. ends bytes f (w, d, p)))) P
        second w d p e i (Ok f) j =
            let here : drop (w * size₁) (drop p bytes) ≡ drop e bytes = drop-drop (w * size₁) p bytes ∙ ap (λ k. drop k bytes) (sym (end_is code bytes e₁ r₁ q₁ size₁ law₁ w p e i)) in
            at_its_end w d p f (leb (length bytes) f)
            (makes w d (drop p bytes) p (all_there bytes r₁ q₁ law₁.reads w p e i, ap (λ xs. length (list_in q₂ d xs)) here ∙ all_there bytes r₂ q₂ law₂.reads d e f j))
        second w d p e i (Err f) j = tt

        first : (w d p : ℕ) (y : Result ℕ Fault) → list_end r₁ w p ≡ y → IfOk (holding hold bytes (then y (λ e. then (list_end r₂ d e) (λ f. ends bytes f (w, d, p))))) P
        first w d p (Ok e) i = second w d p e i (list_end r₂ d e) refl
        first w d p (Err f) i = tt

        tested : (a : ℕ × ℕ × ℕ) (b : Bool) → IfOk (holding hold bytes (cond b (then (list_end r₁ a.0 (at + a.2)) (λ e. then (list_end r₂ a.1 e) (λ f. ends bytes f (a.0, a.1, at + a.2)))) (Err (fault RandomCount at)))) P
        tested a true = first a.0 a.1 (at + a.2) (list_end r₁ a.0 (at + a.2)) refl
        tested a false = tt

        counted : (x : Result (ℕ × ℕ × ℕ) Fault)
            → IfOk (holding hold bytes (then x (λ a. cond (ok a.0 a.1) (then (list_end r₁ a.0 (at + a.2)) (λ e. then (list_end r₂ a.1 e) (λ f. ends bytes f (a.0, a.1, at + a.2)))) (Err (fault RandomCount at))))) P
        counted (Ok a) = tested a (ok a.0 a.1)
        counted (Err e) = tt

module _ (code : Code) (m : Meaning) (bytes : List ℕ) (at : ℕ) where
  pub random_judged : asked code (holding held_random_read bytes (random_list code m bytes at)) ≡ judged code m RandomRead bytes at
  random_judged =
      two_judged code bytes (access m 1) (access m 2) (access_at code m 1 bytes) (access_at code m 2 bytes) (access_in code) (access_in code) (4 * per_byte code) (4 * per_byte code)
      (access_law code m bytes 1) (access_law code m bytes 2) held_random_read random_read (λ _ _ _ _. refl) at random_ok

  pub random_whole : IfOk (holding held_random_read bytes (random_list code m bytes at)) (Whole code)
  random_whole =
      two_whole code bytes (access m 1) (access m 2) (access_at code m 1 bytes) (access_at code m 2 bytes) (access_in code) (access_in code) (4 * per_byte code) (4 * per_byte code)
      (access_law code m bytes 1) (access_law code m bytes 2) held_random_read (Whole code) (λ _ _ _ _ h. h) at random_ok

  pub register_judged : asked code (holding held_register bytes (random_list code m bytes at)) ≡ judged code m Registering bytes at
  register_judged =
      two_judged code bytes (access m 1) (access m 2) (access_at code m 1 bytes) (access_at code m 2 bytes) (access_in code) (access_in code) (4 * per_byte code) (4 * per_byte code)
      (access_law code m bytes 1) (access_law code m bytes 2) held_register register (λ _ _ _ _. refl) at random_ok

  pub register_whole : IfOk (holding held_register bytes (random_list code m bytes at)) (Whole code)
  register_whole =
      two_whole code bytes (access m 1) (access m 2) (access_at code m 1 bytes) (access_at code m 2 bytes) (access_in code) (access_in code) (4 * per_byte code) (4 * per_byte code)
      (access_law code m bytes 1) (access_law code m bytes 2) held_register (Whole code) (λ _ _ _ _ h. h) at random_ok

  pub write_judged : asked code (holding held_random_write bytes (write_list code m bytes at)) ≡ judged code m RandomWrite bytes at
  write_judged =
      two_judged code bytes (setting m 1) (setting m 2) (setting_at code m 1 bytes) (setting_at code m 2 bytes) (setting_in code 2) (setting_in code 4) (6 * per_byte code) (8 * per_byte code)
      (setting_law code m bytes 1) (setting_law code m bytes 2) held_random_write random_write (λ _ _ _ _. refl) at random_write_ok

  pub write_whole : IfOk (holding held_random_write bytes (write_list code m bytes at)) (Whole code)
  write_whole =
      two_whole code bytes (setting m 1) (setting m 2) (setting_at code m 1 bytes) (setting_at code m 2 bytes) (setting_in code 2) (setting_in code 4) (6 * per_byte code) (8 * per_byte code)
      (setting_law code m bytes 1) (setting_law code m bytes 2) held_random_write (Whole code) (λ _ _ _ _ h. h) at random_write_ok

  -- one list
  abbrev listed : ℕ × ℕ → Result ℕ Fault → Result (ℕ × ℕ) Fault
  listed n y = then y (λ e. ends bytes e (n.0, at + n.1))

  abbrev counts_bits : Result (ℕ × ℕ) Fault → Result (ℕ × ℕ) Fault
  counts_bits x = then x (λ n. cond (random_bits_ok n.0) (listed n (list_end (bit_setting_at code m bytes) n.0 (at + n.1))) (Err (fault RandomBitCount at)))

  pub bits_judged : asked code (holding_bits bytes (bits_list code m bytes at)) ≡ judged code m RandomBits bytes at
  bits_judged = counted (number_at code bytes at 1)
    where
      at_its_end : (n : ℕ × ℕ) (y : Result ℕ Fault) → asked code (holding_bits bytes (listed n y)) ≡ then y (λ e. run code bytes (done (random_bits (list_in (setting_in code 1) n.0 (drop (at + n.1) bytes)))) at at e)
      at_its_end n (Ok e) = end (leb (length bytes) e)
        where
          end : (b : Bool) → asked code (holding_bits bytes (cond b (Ok (n.0, at + n.1)) (Err (fault BadSize e)))) ≡ cond b (Ok (random_bits (list_in (setting_in code 1) n.0 (drop (at + n.1) bytes)))) (Err (fault BadSize e))
          end true = refl
          end false = refl
      at_its_end n (Err f) = refl

      tested : (n : ℕ × ℕ) (b : Bool)
          → asked code (holding_bits bytes (cond b (listed n (list_end (bit_setting_at code m bytes) n.0 (at + n.1))) (Err (fault RandomBitCount at))))
          ≡ cond b (run code bytes (list (bit_setting m) n.0 (λ vs. done (random_bits vs))) at at (at + n.1)) (Err (fault RandomBitCount at))
      tested n true =
          at_its_end n (list_end (bit_setting_at code m bytes) n.0 (at + n.1))
          ∙ sym (walked code bytes (bit_setting m) (bit_setting_at code m bytes) (setting_in code 1) (5 * per_byte code) (bit_setting_law code m bytes) n.0 (λ vs. done (random_bits vs)) (λ _ _ _ _ _ _. refl) at at at at (at + n.1))
      tested n false = refl

      counted : (x : Result (ℕ × ℕ) Fault)
          → asked code (holding_bits bytes (counts_bits x)) ≡ then x (λ n. cond (random_bits_ok n.0) (run code bytes (list (bit_setting m) n.0 (λ vs. done (random_bits vs))) at at (at + n.1)) (Err (fault RandomBitCount at)))
      counted (Ok n) = tested n (random_bits_ok n.0)
      counted (Err e) = refl

  pub bits_whole : IfOk (holding_bits bytes (bits_list code m bytes at)) (Whole code)
  bits_whole = counted (number_at code bytes at 1)
    where
      end : (n : ℕ × ℕ) (f : ℕ) (b : Bool) → length (list_in (setting_in code 1) n.0 (drop (at + n.1) bytes)) ≡ n.0 → IfOk (holding_bits bytes (cond b (Ok (n.0, at + n.1)) (Err (fault BadSize f)))) (Whole code)
      end n f true h = h
      end n f false h = tt

      at_its_end : (n : ℕ × ℕ) (y : Result ℕ Fault) → list_end (bit_setting_at code m bytes) n.0 (at + n.1) ≡ y → IfOk (holding_bits bytes (listed n y)) (Whole code)
      at_its_end n (Ok f) i =
          let law : Entry {A = Asked} code bytes (bit_setting m) (bit_setting_at code m bytes) (setting_in code 1) (5 * per_byte code) = bit_setting_law code m bytes in
          end n f (leb (length bytes) f) (all_there bytes (bit_setting_at code m bytes) (setting_in code 1) law.reads n.0 (at + n.1) f i)
      at_its_end n (Err f) i = tt

      tested : (n : ℕ × ℕ) (b : Bool) → IfOk (holding_bits bytes (cond b (listed n (list_end (bit_setting_at code m bytes) n.0 (at + n.1))) (Err (fault RandomBitCount at)))) (Whole code)
      tested n true = at_its_end n (list_end (bit_setting_at code m bytes) n.0 (at + n.1)) refl
      tested n false = tt

      counted : (x : Result (ℕ × ℕ) Fault) → IfOk (holding_bits bytes (counts_bits x)) (Whole code)
      counted (Ok n) = tested n (random_bits_ok n.0)
      counted (Err e) = tt

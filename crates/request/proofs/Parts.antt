-- The kinds of entries.
use Rattle.std.proofs.Common.{◌≡◌, ℕ, ◌+◌, ◌*◌, Bool, true, false, cond, leb, List, drop, Ok, Err, Result, sym, refl, ap, ◌∙◌, add_assoc, add-mul, arith, drop-drop}
use Rattle.device.specs.declared.types.Device.{Device}
use Rattle.device.specs.Devices.{kind_of}
use Rattle.memory.specs.Meaning.{Meaning}
use Rattle.wire.specs.declared.code.Code.{Code}
use Rattle.wire.specs.declared.code.FieldFault.{FieldFault}
use Rattle.wire.specs.Numbers.{then, per_byte, number_in}
use Rattle.wire.specs.Fields.{device_in}
use Rattle.wire.proofs.RoundTrip.{number_used, device_used}
use Rattle.frame.specs.declared.fault.Cause.TheVariants.{OutsideExtent, WrongKind, ClosedPoint, BadValue}
use Rattle.frame.specs.declared.fault.Fault.{Fault}
use Rattle.frame.specs.Faults.{fault}
use Rattle.request.specs.Fields.{placed, value_at}
use Rattle.request.specs.Limits.{is_bit, within, all_open, words_within, words_open}
use Rattle.request.specs.Walks.{Walk, run}
use Rattle.request.specs.Requests.{Access, Setting}
use Rattle.request.specs.Judging.{access, setting, bit_setting}
use Rattle.request.specs.Entries.{access_at, access_in, setting_at, setting_in, bit_setting_at}
use Rattle.request.proofs.Lists.{Entry}

-- what was read at a place was read from there
pub unplaced : {X : Type 0} (at : ℕ) (x : Result X FieldFault) (a : X) → placed at x ≡ Ok a → x ≡ Ok a
unplaced at (Ok x) a e = cc
unplaced at (Err f) a e = cc

-- a value
pub value_reads : (code : Code) (bytes : List ℕ) (at : ℕ) (a : ℕ × ℕ) → value_at code bytes at ≡ Ok a → number_in code 2 (drop at bytes) ≡ Ok a
value_reads code bytes at a e = unplaced at (number_in code 2 (drop at bytes)) a e

-- a test that passed
pub given : {X : Type 0} (b : Bool) (y : Result X Fault) (e : Fault) (a : X) → cond b y (Err e) ≡ Ok a → y ≡ Ok a
given true y e a h = h
given false y e a h = cc

through : {X A : Type 0} (b : Bool) (x : Result A Fault) (y : Result X Fault) (k : X → Result A Fault) (e : Fault) → x ≡ then y k → cond b x (Err e) ≡ then (cond b y (Err e)) k
through true x y k e h = h
through false x y k e h = refl

abbrev one : Device × ℕ × ℕ → Access × ℕ
one a = ((a.0, a.1), a.2)

abbrev two : Device × ℕ × ℕ → ℕ × ℕ → Setting × ℕ
two a v = (((a.0, a.1), v.0), a.2 + v.1)

module _ (code : Code) (m : Meaning) (bytes : List ℕ) where
  -- an access
  module _ (width : ℕ) where
    module _ {A : Type 0} (k : Access → Walk A) (free : (x : Access) (dv fd dv' fd' at : ℕ) → run code bytes (k x) dv fd at ≡ run code bytes (k x) dv' fd' at) (dv' fd' at : ℕ) where
      access_runs : (x : Result (Device × ℕ × ℕ) FieldFault)
          → then (placed at x) (λ a. cond (words_within m a.0 a.1 width) (run code bytes (k (a.0, a.1)) at at (at + a.2)) (Err (fault OutsideExtent at)))
          ≡ then (then (placed at x) (λ a. cond (words_within m a.0 a.1 width) (Ok (one a)) (Err (fault OutsideExtent at)))) (λ s. run code bytes (k s.0) dv' fd' (at + s.1))
      access_runs (Ok a) = through (words_within m a.0 a.1 width) _ (Ok (one a)) (λ s. run code bytes (k s.0) dv' fd' (at + s.1)) (fault OutsideExtent at) (free (a.0, a.1) at at dv' fd' (at + a.2))
      access_runs (Err e) = refl

    access_reads : (at : ℕ) (s : Access × ℕ) (x : Result (Device × ℕ × ℕ) FieldFault) → device_in code (drop at bytes) ≡ x
        → then (placed at x) (λ a. cond (words_within m a.0 a.1 width) (Ok (one a)) (Err (fault OutsideExtent at))) ≡ Ok s
        → (then x (λ a. Ok (one a)) ≡ Ok s) × (s.1 ≡ 4 * per_byte code)
    access_reads at s (Ok x) d h =
        let e = given (words_within m x.0 x.1 width) (Ok (one x)) (fault OutsideExtent at) s h in
        let i : one x ≡ s = cc in
        (ap Ok i, ap (λ (y : Access × ℕ). y.1) (sym i) ∙ device_used code (drop at bytes) x d)
    access_reads at s (Err e) d h = let z : ◌≡◌ {A = ℕ} 0 1 = cc in absurd (let b : ⊥ = omega arith in b)

    pub access_law : {A : Type 0} → Entry {A = A} code bytes (access m width) (access_at code m width bytes) (access_in code) (4 * per_byte code)
    access_law = record {
      runs = λ k free dv fd dv' fd' at. access_runs k free dv' fd' at (device_in code (drop at bytes));
      reads = λ at s h. (access_reads at s (device_in code (drop at bytes)) refl h).0;
      sized = λ at s h. (access_reads at s (device_in code (drop at bytes)) refl h).1;
    }

  -- a value behind a device field
  module _ {A : Type 0} (k : Setting → Walk A) (free : (x : Setting) (dv fd dv' fd' at : ℕ) → run code bytes (k x) dv fd at ≡ run code bytes (k x) dv' fd' at) (dv' fd' at : ℕ) where
    go_on : (a : Device × ℕ × ℕ) (v : ℕ × ℕ) → run code bytes (k ((a.0, a.1), v.0)) at (at + a.2) (at + a.2 + v.1) ≡ run code bytes (k ((a.0, a.1), v.0)) dv' fd' (at + (a.2 + v.1))
    go_on a v = free ((a.0, a.1), v.0) at (at + a.2) dv' fd' (at + a.2 + v.1) ∙ ap (run code bytes (k ((a.0, a.1), v.0)) dv' fd') (add_assoc at a.2 v.1)

  value_sized : (size at : ℕ) (s : Setting × ℕ) (a : Device × ℕ × ℕ) (y : Result (ℕ × ℕ) FieldFault) → number_in code size (drop a.2 (drop at bytes)) ≡ y → a.2 ≡ 4 * per_byte code
      → then (placed (at + a.2) y) (λ v. Ok (two a v)) ≡ Ok s
      → (then y (λ v. Ok (two a v)) ≡ Ok s) × (s.1 ≡ (4 + size) * per_byte code)
  value_sized size at s a (Ok v) d u h =
      let i : two a v ≡ s = cc in
      (ap Ok i, ap (λ (z : Setting × ℕ). z.1) (sym i) ∙ omega (arith, u, number_used code size (drop a.2 (drop at bytes)) v d, add-mul 4 size (per_byte code)))
  value_sized size at s a (Err e) d u h = let z : ◌≡◌ {A = ℕ} 0 1 = cc in absurd (let b : ⊥ = omega arith in b)

  -- a setting
  module _ (width : ℕ) where
    abbrev set_at : ℕ → Device × ℕ × ℕ → Result (ℕ × ℕ) FieldFault → Result (Setting × ℕ) Fault
    set_at at a y =
        cond (words_within m a.0 a.1 width) (cond (words_open m a.0 a.1 width) (then (placed (at + a.2) y) (λ v. Ok (two a v))) (Err (fault ClosedPoint at))) (Err (fault OutsideExtent at))

    module _ {A : Type 0} (k : Setting → Walk A) (free : (x : Setting) (dv fd dv' fd' at : ℕ) → run code bytes (k x) dv fd at ≡ run code bytes (k x) dv' fd' at) (dv' fd' at : ℕ) where
      value_runs : (a : Device × ℕ × ℕ) (y : Result (ℕ × ℕ) FieldFault)
          → then (placed (at + a.2) y) (λ v. run code bytes (k ((a.0, a.1), v.0)) at (at + a.2) (at + a.2 + v.1))
          ≡ then (then (placed (at + a.2) y) (λ v. Ok (two a v))) (λ s. run code bytes (k s.0) dv' fd' (at + s.1))
      value_runs a (Ok v) = go_on k free dv' fd' at a v
      value_runs a (Err e) = refl

      setting_runs : (x : Result (Device × ℕ × ℕ) FieldFault) (y : (Device × ℕ × ℕ) → Result (ℕ × ℕ) FieldFault)
          → then (placed at x) (λ a. cond (words_within m a.0 a.1 width) (cond (words_open m a.0 a.1 width) (then (placed (at + a.2) (y a)) (λ v. run code bytes (k ((a.0, a.1), v.0)) at (at + a.2) (at + a.2 + v.1))) (Err (fault ClosedPoint at))) (Err (fault OutsideExtent at)))
          ≡ then (then (placed at x) (λ a. set_at at a (y a))) (λ s. run code bytes (k s.0) dv' fd' (at + s.1))
      setting_runs (Ok a) y =
          through (words_within m a.0 a.1 width) _ _ (λ s. run code bytes (k s.0) dv' fd' (at + s.1)) (fault OutsideExtent at)
          (through (words_open m a.0 a.1 width) _ _ (λ s. run code bytes (k s.0) dv' fd' (at + s.1)) (fault ClosedPoint at) (value_runs a (y a)))
      setting_runs (Err e) y = refl

    setting_reads : (at : ℕ) (s : Setting × ℕ) (x : Result (Device × ℕ × ℕ) FieldFault) → device_in code (drop at bytes) ≡ x
        → then (placed at x) (λ a. set_at at a (number_in code (2 * width) (drop (at + a.2) bytes))) ≡ Ok s
        → (then x (λ a. then (number_in code (2 * width) (drop a.2 (drop at bytes))) (λ v. Ok (two a v))) ≡ Ok s) × (s.1 ≡ (4 + 2 * width) * per_byte code)
    setting_reads at s (Ok a) d h =
        let y = number_in code (2 * width) (drop (at + a.2) bytes) in
        let opens = given (words_within m a.0 a.1 width) (cond (words_open m a.0 a.1 width) (then (placed (at + a.2) y) (λ v. Ok (two a v))) (Err (fault ClosedPoint at))) (fault OutsideExtent at) s h in
        let value = given (words_open m a.0 a.1 width) (then (placed (at + a.2) y) (λ v. Ok (two a v))) (fault ClosedPoint at) s opens in
        value_sized (2 * width) at s a (number_in code (2 * width) (drop a.2 (drop at bytes))) refl (device_used code (drop at bytes) a d) (rw (drop-drop a.2 at bytes) value)
    setting_reads at s (Err e) d h = let z : ◌≡◌ {A = ℕ} 0 1 = cc in absurd (let b : ⊥ = omega arith in b)

    pub setting_law : {A : Type 0} → Entry {A = A} code bytes (setting m width) (setting_at code m width bytes) (setting_in code (2 * width)) ((4 + 2 * width) * per_byte code)
    setting_law = record {
      runs = λ k free dv fd dv' fd' at. setting_runs k free dv' fd' at (device_in code (drop at bytes)) (λ a. number_in code (2 * width) (drop (at + a.2) bytes));
      reads = λ at s h. (setting_reads at s (device_in code (drop at bytes)) refl h).0;
      sized = λ at s h. (setting_reads at s (device_in code (drop at bytes)) refl h).1;
    }

  -- a setting of a point in bits
  abbrev bit_at : ℕ → Device × ℕ × ℕ → Result (ℕ × ℕ) FieldFault → Result (Setting × ℕ) Fault
  bit_at at a y = then (placed (at + a.2) y) (λ v. cond (leb v.0 1) (Ok (two a v)) (Err (fault BadValue (at + a.2))))

  abbrev bit_set_at : ℕ → Device × ℕ × ℕ → Result (ℕ × ℕ) FieldFault → Result (Setting × ℕ) Fault
  bit_set_at at a y =
      cond (is_bit (kind_of a.0)) (cond (within m a.0 a.1 1) (cond (all_open m a.0 a.1 1) (bit_at at a y) (Err (fault ClosedPoint at))) (Err (fault OutsideExtent at))) (Err (fault WrongKind at))

  module _ {A : Type 0} (k : Setting → Walk A) (free : (x : Setting) (dv fd dv' fd' at : ℕ) → run code bytes (k x) dv fd at ≡ run code bytes (k x) dv' fd' at) (dv' fd' at : ℕ) where
    bit_runs : (a : Device × ℕ × ℕ) (y : Result (ℕ × ℕ) FieldFault)
        → then (placed (at + a.2) y) (λ v. cond (leb v.0 1) (run code bytes (k ((a.0, a.1), v.0)) at (at + a.2) (at + a.2 + v.1)) (Err (fault BadValue (at + a.2))))
        ≡ then (bit_at at a y) (λ s. run code bytes (k s.0) dv' fd' (at + s.1))
    bit_runs a (Ok v) = through (leb v.0 1) _ (Ok (two a v)) (λ s. run code bytes (k s.0) dv' fd' (at + s.1)) (fault BadValue (at + a.2)) (go_on k free dv' fd' at a v)
    bit_runs a (Err e) = refl

    bit_setting_runs : (x : Result (Device × ℕ × ℕ) FieldFault) (y : (Device × ℕ × ℕ) → Result (ℕ × ℕ) FieldFault)
        → then (placed at x) (λ a. cond (is_bit (kind_of a.0)) (cond (within m a.0 a.1 1) (cond (all_open m a.0 a.1 1)
        (then (placed (at + a.2) (y a)) (λ v. cond (leb v.0 1) (run code bytes (k ((a.0, a.1), v.0)) at (at + a.2) (at + a.2 + v.1)) (Err (fault BadValue (at + a.2)))))
        (Err (fault ClosedPoint at))) (Err (fault OutsideExtent at))) (Err (fault WrongKind at)))
        ≡ then (then (placed at x) (λ a. bit_set_at at a (y a))) (λ s. run code bytes (k s.0) dv' fd' (at + s.1))
    bit_setting_runs (Ok a) y =
        let K = λ (s : Setting × ℕ). run code bytes (k s.0) dv' fd' (at + s.1) in
        through (is_bit (kind_of a.0)) _ _ K (fault WrongKind at)
        (through (within m a.0 a.1 1) _ _ K (fault OutsideExtent at)
        (through (all_open m a.0 a.1 1) _ _ K (fault ClosedPoint at) (bit_runs a (y a))))
    bit_setting_runs (Err e) y = refl

  bit_given : (at : ℕ) (a : Device × ℕ × ℕ) (y : Result (ℕ × ℕ) FieldFault) (s : Setting × ℕ) → bit_at at a y ≡ Ok s → then (placed (at + a.2) y) (λ v. Ok (two a v)) ≡ Ok s
  bit_given at a (Ok v) s h = given (leb v.0 1) (Ok (two a v)) (fault BadValue (at + a.2)) s h
  bit_given at a (Err e) s h = h

  bit_setting_reads : (at : ℕ) (s : Setting × ℕ) (x : Result (Device × ℕ × ℕ) FieldFault) → device_in code (drop at bytes) ≡ x
      → then (placed at x) (λ a. bit_set_at at a (number_in code 1 (drop (at + a.2) bytes))) ≡ Ok s
      → (then x (λ a. then (number_in code 1 (drop a.2 (drop at bytes))) (λ v. Ok (two a v))) ≡ Ok s) × (s.1 ≡ 5 * per_byte code)
  bit_setting_reads at s (Ok a) d h =
      let y = number_in code 1 (drop (at + a.2) bytes) in
      let inside = given (is_bit (kind_of a.0)) (cond (within m a.0 a.1 1) (cond (all_open m a.0 a.1 1) (bit_at at a y) (Err (fault ClosedPoint at))) (Err (fault OutsideExtent at))) (fault WrongKind at) s h in
      let opens = given (within m a.0 a.1 1) (cond (all_open m a.0 a.1 1) (bit_at at a y) (Err (fault ClosedPoint at))) (fault OutsideExtent at) s inside in
      let value = bit_given at a y s (given (all_open m a.0 a.1 1) (bit_at at a y) (fault ClosedPoint at) s opens) in
      value_sized 1 at s a (number_in code 1 (drop a.2 (drop at bytes))) refl (device_used code (drop at bytes) a d) (rw (drop-drop a.2 at bytes) value)
  bit_setting_reads at s (Err e) d h = let z : ◌≡◌ {A = ℕ} 0 1 = cc in absurd (let b : ⊥ = omega arith in b)

  pub bit_setting_law : {A : Type 0} → Entry {A = A} code bytes (bit_setting m) (bit_setting_at code m bytes) (setting_in code 1) (5 * per_byte code)
  bit_setting_law = record {
    runs = λ k free dv fd dv' fd' at. bit_setting_runs k free dv' fd' at (device_in code (drop at bytes)) (λ a. number_in code 1 (drop (at + a.2) bytes));
    reads = λ at s h. (bit_setting_reads at s (device_in code (drop at bytes)) refl h).0;
    sized = λ at s h. (bit_setting_reads at s (device_in code (drop at bytes)) refl h).1;
  }

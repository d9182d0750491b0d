-- A request that some memory accepts is read alike over the largest memory, with writing on.
use Rattle.std.proofs.Common.{◌≡◌, ℕ, zero, suc, ◌+◌, ◌≤◌, Bool, true, false, cond, ◌&&◌, eqb, ltb, List, [], ◌∷◌, Ok, Err, Result, sym, refl, ap, ◌∙◌, subst, arith, le-leb, leb-true}
use Rattle.device.specs.declared.types.Device.{Device}
use Rattle.device.specs.Devices.{kind_of}
use Rattle.memory.specs.Meaning.{Meaning, extent_limit}
use Rattle.wire.specs.declared.code.Code.{Code}
use Rattle.wire.specs.Numbers.{then}
use Rattle.frame.specs.declared.fault.Cause.{Cause}
use Rattle.frame.specs.declared.header.Header.{Header}
use Rattle.frame.specs.Headers.{tested}
use Rattle.request.specs.Walks.{Walk, done, number, counts, device, words, bits, at_field, at_device, run, list}
use Rattle.request.specs.Fields.{number_at, counts_at, device_at, words_at, bits_at}
use Rattle.request.specs.Limits.{points, within, all_open}
use Rattle.request.specs.Requests.{Access, Setting, Asked, Command, ReadBits, ReadWords, WriteBits, WriteWords, RandomRead, Register, Monitor, RandomBits, RandomWrite, while_on, command_of}
use Rattle.request.specs.Judging.{access, setting, bit_setting, walk}
use Rattle.request.specs.Readings.{judged_by, request_in}
use Rattle.server.specs.Asks.{largest}

-- a walk with the same fields, whose tests of points pass wherever the other's do
data Looser {A : Type 0} : Walk A → Walk A → Type 0 where
  done_too : {a : A} → Looser (done a) (done a)
  number_too : {size : ℕ} {k k' : ℕ → Walk A} → ((v : ℕ) → Looser (k v) (k' v)) → Looser (number size k) (number size k')
  counts_too : {k k' : ℕ → ℕ → Walk A} → ((w d : ℕ) → Looser (k w d) (k' w d)) → Looser (counts k) (counts k')
  device_too : {k k' : Device → ℕ → Walk A} → ((d : Device) (i : ℕ) → Looser (k d i) (k' d i)) → Looser (device k) (device k')
  words_too : {n : ℕ} {k k' : List ℕ → Walk A} → ((vs : List ℕ) → Looser (k vs) (k' vs)) → Looser (words n k) (words n k')
  bits_too : {n : ℕ} {k k' : List ℕ → Walk A} → ((vs : List ℕ) → Looser (k vs) (k' vs)) → Looser (bits n k) (bits n k')
  field_too : {c : Cause} {b : Bool} {w w' : Walk A} → Looser w w' → Looser (at_field c b w) (at_field c b w')
  place_too : {c : Cause} {b b' : Bool} {w w' : Walk A} → (b ≡ true → b' ≡ true) → Looser w w' → Looser (at_device c b w) (at_device c b' w')

pub never : {X E P : Type 0} {e : E} {x : X} → ◌≡◌ {A = Result X E} (Err e) (Ok x) → P
never h = let z : ◌≡◌ {A = ℕ} 0 1 = cc in absurd (omega arith)

then_too : {X Y E : Type 0} (r : Result X E) (f g : X → Result Y E) (y : Y) → ((x : X) → f x ≡ Ok y → g x ≡ Ok y) → then r f ≡ Ok y → then r g ≡ Ok y
then_too (Ok x) f g y h e = h x e
then_too (Err z) f g y h e = e

cond_too : {X E : Type 0} (b b' : Bool) (x x' : Result X E) (e : E) (y : X) → (b ≡ true → b' ≡ true) → (x ≡ Ok y → x' ≡ Ok y) → cond b x (Err e) ≡ Ok y → cond b' x' (Err e) ≡ Ok y
cond_too true b' x x' e y f g h = subst (λ t. cond t x' (Err e) ≡ Ok y) (sym (f refl)) (g h)
cond_too false b' x x' e y f g h = never h

runs_too : {A : Type 0} (code : Code) (bytes : List ℕ) {w w' : Walk A} → Looser w w' → (dv fd at : ℕ) (a : A) → run code bytes w dv fd at ≡ Ok a → run code bytes w' dv fd at ≡ Ok a
runs_too code bytes done_too dv fd at a h = h
runs_too code bytes (number_too {size = size} l) dv fd at a h = then_too (number_at code bytes at size) _ _ a (λ x. runs_too code bytes (l x.0) dv at (at + x.1) a) h
runs_too code bytes (counts_too l) dv fd at a h = then_too (counts_at code bytes at) _ _ a (λ x. runs_too code bytes (l x.0 x.1) dv at (at + x.2) a) h
runs_too code bytes (device_too l) dv fd at a h = then_too (device_at code bytes at) _ _ a (λ x. runs_too code bytes (l x.0 x.1) at at (at + x.2) a) h
runs_too code bytes (words_too {n = n} l) dv fd at a h = then_too (words_at code bytes at n) _ _ a (λ x. runs_too code bytes (l x.0) dv at (at + x.1) a) h
runs_too code bytes (bits_too {n = n} l) dv fd at a h = then_too (bits_at code bytes at n) _ _ a (λ x. runs_too code bytes (l x.0) dv at (at + x.1) a) h
runs_too code bytes (field_too {b = b} l) dv fd at a h = cond_too b b _ _ _ a (λ e. e) (runs_too code bytes l dv fd at a) h
runs_too code bytes (place_too {b = b} {b' = b'} f l) dv fd at a h = cond_too b b' _ _ _ a f (runs_too code bytes l dv fd at a) h

list_too : {X A : Type 0} (e e' : (X → Walk A) → Walk A) → ((k k' : X → Walk A) → ((x : X) → Looser (k x) (k' x)) → Looser (e k) (e' k'))
    → (n : ℕ) (k k' : List X → Walk A) → ((xs : List X) → Looser (k xs) (k' xs)) → Looser (list e n k) (list e' n k')
list_too e e' one zero k k' h = h []
list_too e e' one (suc n) k k' h = one _ _ (λ x. list_too e e' one n _ _ (λ xs. h (x ∷ xs)))

opens : (d : Device) (i n : ℕ) → all_open largest d i n ≡ true
opens d i zero = refl
opens d i (suc n) = opens d (i + 1) n

module _ (m : Meaning) (small : (d : Device) → m.extent d ≤ extent_limit d) where
  inside : (d : Device) (i n : ℕ) → within m d i n ≡ true → within largest d i n ≡ true
  inside d i n h = le-leb (i + n) (extent_limit d) (omega (arith, leb-true (i + n) (m.extent d) h, small d))

  spans : {A : Type 0} {c : Cause} {w w' : Walk A} (d : Device) (i n : ℕ) → Looser w w' → Looser (at_device c (within m d i n) w) (at_device c (within largest d i n) w')
  spans d i n l = place_too (inside d i n) l

  open_too : {A : Type 0} {c : Cause} {w w' : Walk A} (d : Device) (i n : ℕ) → Looser w w' → Looser (at_device c (all_open m d i n) w) (at_device c (all_open largest d i n) w')
  open_too d i n l = place_too (λ _. opens d i n) l

  accesses_too : {A : Type 0} (width n : ℕ) (k k' : List Access → Walk A) → ((xs : List Access) → Looser (k xs) (k' xs)) → Looser (list (access m width) n k) (list (access largest width) n k')
  accesses_too width = list_too (access m width) (access largest width) (λ k k' h. device_too (λ d i. spans d i (points (kind_of d) width) (h (d, i))))

  settings_too : {A : Type 0} (width n : ℕ) (k k' : List Setting → Walk A) → ((xs : List Setting) → Looser (k xs) (k' xs)) → Looser (list (setting m width) n k) (list (setting largest width) n k')
  settings_too width = list_too (setting m width) (setting largest width)
      (λ k k' h. device_too (λ d i. spans d i (points (kind_of d) width) (open_too d i (points (kind_of d) width) (number_too (λ v. h ((d, i), v))))))

  bits_set_too : {A : Type 0} (n : ℕ) (k k' : List Setting → Walk A) → ((xs : List Setting) → Looser (k xs) (k' xs)) → Looser (list (bit_setting m) n k) (list (bit_setting largest) n k')
  bits_set_too = list_too (bit_setting m) (bit_setting largest)
      (λ k k' h. device_too (λ d i. place_too (λ e. e) (spans d i 1 (open_too d i 1 (number_too (λ v. field_too (h ((d, i), v))))))))

  walk_too : (c : Command) → Looser (walk m c) (walk largest c)
  walk_too ReadBits = device_too (λ d i. place_too (λ e. e) (number_too (λ n. field_too (spans d i n done_too))))
  walk_too ReadWords = device_too (λ d i. number_too (λ n. field_too (spans d i (points (kind_of d) n) done_too)))
  walk_too WriteBits = device_too (λ d i. place_too (λ e. e) (number_too (λ n. field_too (spans d i n (open_too d i n (bits_too (λ vs. field_too done_too)))))))
  walk_too WriteWords = device_too (λ d i. number_too (λ n. field_too (spans d i (points (kind_of d) n) (open_too d i (points (kind_of d) n) (words_too (λ vs. done_too))))))
  walk_too RandomRead = counts_too (λ w d. field_too (accesses_too 1 w _ _ (λ ws. accesses_too 2 d _ _ (λ ds. done_too))))
  walk_too Register = counts_too (λ w d. field_too (accesses_too 1 w _ _ (λ ws. accesses_too 2 d _ _ (λ ds. done_too))))
  walk_too Monitor = done_too
  walk_too RandomBits = number_too (λ n. field_too (bits_set_too n _ _ (λ vs. done_too)))
  walk_too RandomWrite = counts_too (λ w d. field_too (settings_too 1 w _ _ (λ ws. settings_too 2 d _ _ (λ ds. done_too))))

-- a command that is served is served with writing on
either : {X E : Type 0} (b : Bool) (x x' y y' : Result X E) (k : X) → (x ≡ Ok k → x' ≡ Ok k) → (y ≡ Ok k → y' ≡ Ok k) → cond b x y ≡ Ok k → cond b x' y' ≡ Ok k
either true x x' y y' k f g h = f h
either false x x' y y' k f g h = g h

writes_on : (flag : Bool) (c k : Command) → while_on flag c ≡ Ok k → while_on true c ≡ Ok k
writes_on true c k h = h
writes_on false c k h = never h

on_too : (c s : ℕ) (flag : Bool) (k : Command) → command_of c s flag ≡ Ok k → command_of c s true ≡ Ok k
on_too c s flag k =
    either (eqb c 0x0401 && eqb s 1) _ _ _ _ k (λ h. h)
    (either (eqb c 0x0401 && eqb s 0) _ _ _ _ k (λ h. h)
    (either (eqb c 0x1401 && eqb s 1) _ _ _ _ k (writes_on flag WriteBits k)
    (either (eqb c 0x1401 && eqb s 0) _ _ _ _ k (writes_on flag WriteWords k)
    (either (eqb c 0x0403 && eqb s 0) _ _ _ _ k (λ h. h)
    (either (eqb c 0x0801 && eqb s 0) _ _ _ _ k (λ h. h)
    (either (eqb c 0x0802 && eqb s 0) _ _ _ _ k (λ h. h)
    (either (eqb c 0x1402 && eqb s 1) _ _ _ _ k (writes_on flag RandomBits k)
    (either (eqb c 0x1402 && eqb s 0) _ _ _ _ k (writes_on flag RandomWrite k) (λ h. h)))))))))

pub request_too : (code : Code) (m : Meaning) → ((d : Device) → m.extent d ≤ extent_limit d) → (flag : Bool) (h : Header) (bytes : List ℕ) (a : Asked)
    → request_in code m flag h bytes ≡ Ok a → request_in code largest true h bytes ≡ Ok a
request_too code m small flag h bytes a = go (command_of h.command h.subcommand flag) refl
  where
    go : (r : Result Command Cause) → command_of h.command h.subcommand flag ≡ r → judged_by code m h bytes r ≡ Ok a → request_in code largest true h bytes ≡ Ok a
    go (Ok c) e p = ap (judged_by code largest h bytes) (on_too h.command h.subcommand flag c e) ∙ runs_too code bytes (walk_too m small c) h.data_at h.data_at h.data_at a p
    go (Err c) e p = never p

past : {X E : Type 0} (b : Bool) (e : E) (r : Result X E) (x : X) → cond b (Err e) r ≡ Ok x → r ≡ Ok x
past true e r x h = never h
past false e r x h = h

-- a frame that passes its tests passes them with the least reply space
pub tested_too : (code : Code) (space : ℕ) (xs : List ℕ) (h : Header) → tested code space xs ≡ Ok h → tested code 4096 xs ≡ Ok h
tested_too code space xs h e = past (ltb space 4096) _ _ h e

-- A request that was accepted passed every test.
use Rattle.std.proofs.Common.{◌≡◌, ℕ, zero, suc, ◌+◌, ◌*◌, Bool, true, false, cond, leb, List, [], ◌∷◌, length, drop, IfOk, Ok, Err, Result, sym, refl, ap, ◌∙◌, arith}
use Rattle.device.specs.declared.types.Device.{Device}
use Rattle.memory.specs.Meaning.{Meaning}
use Rattle.wire.specs.declared.code.Code.{Code}
use Rattle.wire.specs.Numbers.{then, per_byte, number_in}
use Rattle.wire.specs.Points.{bits_size, filled}
use Rattle.frame.specs.declared.fault.Cause.TheVariants.{BadValue}
use Rattle.frame.specs.declared.fault.Fault.{Fault}
use Rattle.frame.specs.Faults.{fault}
use Rattle.request.specs.Fields.{number_at, counts_at, device_at, present, value_at, list_end, list_in, words_at, half_at, bits_in, bits_at}
use Rattle.request.specs.Walks.{Walk, done, number, counts, device, words, bits, at_field, at_device, run, list}
use Rattle.request.specs.Requests.{Access, Setting, Asked, Command, ReadBits, ReadWords, WriteBits, WriteWords, RandomRead, Register, Monitor, RandomBits, RandomWrite}
use Rattle.request.specs.Judging.{access, setting, bit_setting, walk}
use Rattle.request.specs.Verdicts.{Test, judge, chain, access_tests, setting_tests, bit_setting_tests, tests, verdict}
use Rattle.request.specs.Writing.{Each}
use Rattle.device.specs.Devices.{kind_of}
use Rattle.request.specs.Limits.{is_bit, within, all_open, words_within, words_open}
use Rattle.request.proofs.Turns.{all_there}
use Rattle.request.proofs.Parts.{value_reads}

-- an access of `width` words lies within the extent
abbrev pub AccessOk : Meaning → ℕ → Access → Type 0
AccessOk m width e = words_within m e.0 e.1 width ≡ true

-- a setting of `width` words lies within the extent, and all of it is open
abbrev pub SettingOk : Meaning → ℕ → Setting → Type 0
SettingOk m width e = (words_within m e.0.0 e.0.1 width ≡ true) × (words_open m e.0.0 e.0.1 width ≡ true)

-- a setting of a point in bits is of a bit device, within the extent, open, and 0 or 1
abbrev pub BitSettingOk : Meaning → Setting → Type 0
BitSettingOk m e = (is_bit (kind_of e.0.0) ≡ true) × (within m e.0.0 e.0.1 1 ≡ true) × (all_open m e.0.0 e.0.1 1 ≡ true) × (leb e.1 1 ≡ true)

-- whatever a walk reads, if every test passes then what it comes to is such
abbrev pub Leads : {A : Type 0} → Walk A → (A → Type 0) → Type 0
Leads (done a) P = P a
Leads (number size k) P = (v : ℕ) → Leads (k v) P
Leads (counts k) P = (w d : ℕ) → Leads (k w d) P
Leads (device k) P = (d : Device) (i : ℕ) → Leads (k d i) P
Leads (words n k) P = (vs : List ℕ) → length vs ≡ n → Leads (k vs) P
Leads (bits n k) P = (vs : List ℕ) → length vs ≡ n → Leads (k vs) P
Leads (at_field c b w) P = b ≡ true → Leads w P
Leads (at_device c b w) P = b ≡ true → Leads w P

-- batch data that was read has a value for each point
pub words_long : (code : Code) (bytes : List ℕ) (at n : ℕ) (a : List ℕ × ℕ) → words_at code bytes at n ≡ Ok a → length a.0 ≡ n
words_long code bytes at n a h = there (present bytes at (n * (2 * per_byte code))) h
  where
    ended : (u : ℕ) (y : Result ℕ Fault) → list_end (value_at code bytes) n at ≡ y → then y (λ _. Ok (list_in (number_in code 2) n (drop at bytes), u)) ≡ Ok a → length a.0 ≡ n
    ended u (Ok e) d h =
        let s : (list_in (number_in code 2) n (drop at bytes), u) ≡ a = cc in
        ap (λ (p : List ℕ × ℕ). length p.0) (sym s) ∙ all_there bytes (value_at code bytes) (number_in code 2) (value_reads code bytes) n at e d
    ended u (Err f) d h = let z : ◌≡◌ {A = ℕ} 0 1 = cc in omega arith

    there : (x : Result ℕ Fault) → then x (λ u. then (list_end (value_at code bytes) n at) (λ _. Ok (list_in (number_in code 2) n (drop at bytes), u))) ≡ Ok a → length a.0 ≡ n
    there (Ok u) h = ended u (list_end (value_at code bytes) n at) refl h
    there (Err f) h = let z : ◌≡◌ {A = ℕ} 0 1 = cc in omega arith

pub length_bits : (code : Code) (xs : List ℕ) (i n : ℕ) → length (bits_in code xs i n) ≡ n
length_bits code xs i zero = refl
length_bits code xs i (suc n) = ap suc (length_bits code xs (i + 1) n)

pub bits_long : (code : Code) (bytes : List ℕ) (at n : ℕ) (a : List ℕ × ℕ) → bits_at code bytes at n ≡ Ok a → length a.0 ≡ n
bits_long code bytes at n a h = there (present bytes at (bits_size code n)) h
  where
    full : (u : ℕ) (b : Bool) → cond b (Ok (bits_in code (drop at bytes) 0 n, u)) (Err (fault BadValue at)) ≡ Ok a → length a.0 ≡ n
    full u true h =
        let s : (bits_in code (drop at bytes) 0 n, u) ≡ a = cc in
        ap (λ (p : List ℕ × ℕ). length p.0) (sym s) ∙ length_bits code (drop at bytes) 0 n
    full u false h = let z : ◌≡◌ {A = ℕ} 0 1 = cc in omega arith

    ended : (u : ℕ) (y : Result ℕ Fault) → then y (λ _. cond (filled code (drop at bytes) n) (Ok (bits_in code (drop at bytes) 0 n, u)) (Err (fault BadValue at))) ≡ Ok a → length a.0 ≡ n
    ended u (Ok e) h = full u (filled code (drop at bytes) n) h
    ended u (Err f) h = let z : ◌≡◌ {A = ℕ} 0 1 = cc in omega arith

    there : (x : Result ℕ Fault) → then x (λ u. then (list_end (half_at code (drop at bytes) at) n 0) (λ _. cond (filled code (drop at bytes) n) (Ok (bits_in code (drop at bytes) 0 n, u)) (Err (fault BadValue at)))) ≡ Ok a → length a.0 ≡ n
    there (Ok u) h = ended u (list_end (half_at code (drop at bytes) at) n 0) h
    there (Err f) h = let z : ◌≡◌ {A = ℕ} 0 1 = cc in omega arith

module _ {A : Type 0} (code : Code) (bytes : List ℕ) (P : A → Type 0) where
  next : {X : Type 0} (x : Result X Fault) (f : X → Result A Fault) → ((a : X) → x ≡ Ok a → IfOk (f a) P) → IfOk (then x f) P
  next (Ok a) f h = h a refl
  next (Err e) f h = tt

  tested : (b : Bool) (x : Result A Fault) (e : Fault) → (b ≡ true → IfOk x P) → IfOk (cond b x (Err e)) P
  tested true x e h = h refl
  tested false x e h = tt

  -- one case for each kind of field
  pub leads : (w : Walk A) → Leads w P → (dv fd at : ℕ) → IfOk (run code bytes w dv fd at) P
  leads (done a) h dv fd at = tested (leb (length bytes) at) (Ok a) _ (λ _. h)
  leads (number size k) h dv fd at = next (number_at code bytes at size) _ (λ a _. leads (k a.0) (h a.0) dv at (at + a.1))
  leads (counts k) h dv fd at = next (counts_at code bytes at) _ (λ a _. leads (k a.0 a.1) (h a.0 a.1) dv at (at + a.2))
  leads (device k) h dv fd at = next (device_at code bytes at) _ (λ a _. leads (k a.0 a.1) (h a.0 a.1) at at (at + a.2))
  leads (words n k) h dv fd at = next (words_at code bytes at n) _ (λ a e. leads (k a.0) (h a.0 (words_long code bytes at n a e)) dv at (at + a.1))
  leads (bits n k) h dv fd at = next (bits_at code bytes at n) _ (λ a e. leads (k a.0) (h a.0 (bits_long code bytes at n a e)) dv at (at + a.1))
  leads (at_field c b w) h dv fd at = tested b (run code bytes w dv fd at) (fault c fd) (λ e. leads w (h e) dv fd at)
  leads (at_device c b w) h dv fd at = tested b (run code bytes w dv fd at) (fault c dv) (λ e. leads w (h e) dv fd at)

-- every test passes
abbrev pub Passes : List Test → Type 0
Passes [] = Unit {0}
Passes (t ∷ ts) = (t.1 ≡ true) × Passes ts

pub judge_passes : {A : Type 0} (ts : List Test) (a : A) → Passes ts → judge ts a ≡ Ok a
judge_passes [] a h = refl
judge_passes ((c, b) ∷ ts) a h = ap (λ x. cond x (judge ts a) (Err c)) h.0 ∙ judge_passes ts a h.1

-- where the verdict accepts, every test passed
pub judge_passed : {A : Type 0} (ts : List Test) (a b : A) → judge ts a ≡ Ok b → Passes ts
judge_passed [] a b e = tt
judge_passed ((c, true) ∷ ts) a b e = (refl, judge_passed ts a b e)
judge_passed ((c, false) ∷ ts) a b e = let z : ◌≡◌ {A = ℕ} 0 1 = cc in absurd (let b : ⊥ = omega arith in b)

-- a list: its entries' tests pass one after the other
module _ {X A : Type 0} (e : (X → Walk A) → Walk A) (Q : X → Type 0) (P : A → Type 0)
    (one : (k : X → Walk A) → ((x : X) → Q x → Leads (k x) P) → Leads (e k) P) where
  leads_list : (n : ℕ) (k : List X → Walk A) → ((xs : List X) → length xs ≡ n → Each Q xs → Leads (k xs) P) → Leads (list e n k) P
  leads_list zero k h = h [] refl tt
  leads_list (suc n) k h = one (λ x. list e n (λ xs. k (x ∷ xs))) (λ x q. leads_list n (λ xs. k (x ∷ xs)) (λ xs l qs. h (x ∷ xs) (ap suc l) (q, qs)))

passes_chain : {X : Type 0} (t : X → List Test → List Test) (Q : X → Type 0) → ((x : X) (ts : List Test) → Q x → Passes ts → Passes (t x ts))
    → (xs : List X) (ts : List Test) → Each Q xs → Passes ts → Passes (chain t xs ts)
passes_chain t Q one [] ts qs h = h
passes_chain t Q one (x ∷ xs) ts qs h = one x (chain t xs ts) qs.0 (passes_chain t Q one xs ts qs.1 h)

module _ (m : Meaning) where
  abbrev Reached : Asked → Type 0
  Reached a = Passes (tests m a)

  accesses : (width n : ℕ) (k : List Access → Walk Asked) → ((xs : List Access) → length xs ≡ n → Each (AccessOk m width) xs → Leads (k xs) Reached) → Leads (list (access m width) n k) Reached
  accesses width = leads_list (access m width) (AccessOk m width) Reached (λ k h d i p. h (d, i) p)

  settings : (width n : ℕ) (k : List Setting → Walk Asked) → ((xs : List Setting) → length xs ≡ n → Each (SettingOk m width) xs → Leads (k xs) Reached) → Leads (list (setting m width) n k) Reached
  settings width = leads_list (setting m width) (SettingOk m width) Reached (λ k h d i p q v. h ((d, i), v) (p, q))

  bit_settings : (n : ℕ) (k : List Setting → Walk Asked) → ((xs : List Setting) → length xs ≡ n → Each (BitSettingOk m) xs → Leads (k xs) Reached) → Leads (list (bit_setting m) n k) Reached
  bit_settings = leads_list (bit_setting m) (BitSettingOk m) Reached (λ k h d i p q r v s. h ((d, i), v) (p, q, r, s))

  pass_accesses : (width : ℕ) (xs : List Access) (ts : List Test) → Each (AccessOk m width) xs → Passes ts → Passes (chain (access_tests m width) xs ts)
  pass_accesses width = passes_chain (access_tests m width) (AccessOk m width) (λ x ts q h. (q, h))

  pass_settings : (width : ℕ) (xs : List Setting) (ts : List Test) → Each (SettingOk m width) xs → Passes ts → Passes (chain (setting_tests m width) xs ts)
  pass_settings width = passes_chain (setting_tests m width) (SettingOk m width) (λ x ts q h. (q.0, (q.1, h)))

  -- one or two lines for each command
  reaches : (c : Command) → Leads (walk m c) Reached
  reaches ReadBits = λ d i p n q r. (p, (q, (r, tt)))
  reaches ReadWords = λ d i n p q. (p, (q, tt))
  reaches WriteBits = λ d i p n q r s vs l t. rw l (p, (q, (r, (s, (t, tt)))))
  reaches WriteWords = λ d i n p q r vs l. rw l (p, (q, (r, tt)))
  reaches RandomRead = λ w d p. accesses 1 w _ (λ ws l qs. accesses 2 d _ (λ ds k rs. rw (l, k) (p, pass_accesses 1 ws _ qs (pass_accesses 2 ds [] rs tt))))
  reaches Register = λ w d p. accesses 1 w _ (λ ws l qs. accesses 2 d _ (λ ds k rs. rw (l, k) (p, pass_accesses 1 ws _ qs (pass_accesses 2 ds [] rs tt))))
  reaches Monitor = tt
  reaches RandomBits =
      λ n p. bit_settings n _ (λ vs l qs. rw l (p, passes_chain (bit_setting_tests m) (BitSettingOk m) (λ x ts q h. (q.0, (q.1, (q.2, (q.3, h))))) vs [] qs tt))
  reaches RandomWrite = λ w d p. settings 1 w _ (λ ws l qs. settings 2 d _ (λ ds k rs. rw (l, k) (p, pass_settings 1 ws _ qs (pass_settings 2 ds [] rs tt))))

  accepts : (r : Result Asked Fault) → IfOk r Reached → IfOk r (λ a. verdict m a ≡ Ok a)
  accepts (Ok a) h = judge_passes (tests m a) a h
  accepts (Err e) h = tt

  pub passed : (code : Code) (bytes : List ℕ) (c : Command) (at : ℕ) → IfOk (run code bytes (walk m c) at at at) (λ a. verdict m a ≡ Ok a)
  passed code bytes c at = accepts (run code bytes (walk m c) at at at) (leads code bytes Reached (walk m c) (reaches c) at at at)

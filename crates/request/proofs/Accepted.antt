-- What is known of a request that was accepted: its counts, its spans, and that each write of it is accepted by the memory.
use Rattle.std.proofs.Common.{◌≡◌, ℕ, zero, suc, ◌+◌, ◌*◌, ◌<◌, ◌≤◌, true, ◌&&◌, leb, List, [], ◌∷◌, IfOk, Ok, Err, Result, sym, ap, ◌∙◌, add-zero, arith, lt-ltb, leb-true}
use Rattle.std.proofs.lemmas.Bool.{and_parts}
use Rattle.device.specs.declared.types.Device.{Device}
use Rattle.device.specs.Devices.{kind_of}
use Rattle.memory.specs.Meaning.{Meaning, value_limit, write_answer}
use Rattle.wire.specs.declared.code.Code.{Code}
use Rattle.frame.specs.declared.fault.Fault.{Fault}
use Rattle.request.specs.Fields.{bits_in}
use Rattle.request.specs.Limits.{points, within, all_open, words_within, bits_ok, words_ok, random_ok, random_bits_ok, random_write_ok}
use Rattle.request.specs.Requests.{Setting, Asked, read_bits, read_words, write_bits, random_bits, random_write}
use Rattle.request.specs.Verdicts.{Test, chain, setting_tests, bit_setting_tests, tests, verdict}
use Rattle.request.specs.Writing.{Each}
use Rattle.request.specs.Readings.{Held, held_read_bits, held_read_words, held_write_bits, held_write_words, held_random_read, held_register, held_monitor, held_random_bits, held_random_write, asked, asked_of, Whole}
use Rattle.request.specs.Laws.{Passed, Bounded}
use Rattle.request.proofs.Passed.{SettingOk, BitSettingOk, Passes, judge_passed, length_bits}

-- the tests of an accepted request passed, one by one
pub tests_passed : (m : Meaning) (a b : Asked) → verdict m a ≡ Ok b → Passes (tests m a)
tests_passed m a b e = judge_passed (tests m a) a b e

-- a number that lies between two
pub range : (low n high : ℕ) → (leb low n && leb n high) ≡ true → (low ≤ n) × (n ≤ high)
range low n high h =
    let p = and_parts (leb low n) (leb n high) h in
    (leb-true low n p.0, leb-true n high p.1)

-- the counts that a request holds, and the span of a batch
pub bounded : (code : Code) (m : Meaning) (h : Held) (b : Asked) → Whole code h → verdict m (asked_of code h) ≡ Ok b → Bounded m h
bounded code m (held_read_bits d i n) b w e =
    let p = tests_passed m (read_bits d i n) b e in
    let r = range 1 n 3584 p.1.0 in
    (r.0, r.1, leb-true (i + n) (m.extent d) p.1.1.0)
bounded code m (held_read_words d i n) b w e =
    let p = tests_passed m (read_words d i n) b e in
    let r = range 1 n 960 p.0 in
    (r.0, r.1, leb-true (i + points (kind_of d) n) (m.extent d) p.1.0)
bounded code m (held_write_bits d i n bytes place) b w e =
    let vs = bits_in code bytes 0 n in
    let p = tests_passed m (write_bits d i vs) b e in
    let r = range 1 n 3584 (ap bits_ok (sym (length_bits code bytes 0 n)) ∙ p.1.0) in
    (r.0, r.1, leb-true (i + n) (m.extent d) (ap (within m d i) (sym (length_bits code bytes 0 n)) ∙ p.1.1.0))
bounded code m (held_write_words d i n bytes place) b w e =
    let p = tests_passed m (asked_of code (held_write_words d i n bytes place)) b e in
    let r = range 1 n 960 (ap words_ok (sym w) ∙ p.0) in
    (r.0, r.1, leb-true (i + points (kind_of d) n) (m.extent d) (ap (words_within m d i) (sym w) ∙ p.1.0))
bounded code m (held_random_read w d bytes place) b l e =
    let p = tests_passed m (asked_of code (held_random_read w d bytes place)) b e in
    range 1 (w + d) 192 (ap (λ k. random_ok k d) (sym l.0) ∙ ap (random_ok _) (sym l.1) ∙ p.0)
bounded code m (held_register w d bytes place) b l e =
    let p = tests_passed m (asked_of code (held_register w d bytes place)) b e in
    range 1 (w + d) 192 (ap (λ k. random_ok k d) (sym l.0) ∙ ap (random_ok _) (sym l.1) ∙ p.0)
bounded code m held_monitor b w e = tt
bounded code m (held_random_bits n bytes place) b l e =
    let p = tests_passed m (asked_of code (held_random_bits n bytes place)) b e in
    range 1 n 188 (ap random_bits_ok (sym l) ∙ p.0)
bounded code m (held_random_write w d bytes place) b l e =
    let p = tests_passed m (asked_of code (held_random_write w d bytes place)) b e in
    range 1 (12 * w + 14 * d) 1920 (ap (λ k. random_write_ok k d) (sym l.0) ∙ ap (random_write_ok _) (sym l.1) ∙ p.0)

pub all_bounded : (code : Code) (m : Meaning) (r : Result Held Fault) → IfOk r (Whole code) → Passed m (asked code r) → IfOk r (Bounded m)
all_bounded code m (Ok h) w p = bounded code m h (asked_of code h) w p
all_bounded code m (Err e) w p = tt

-- each entry of a list passed its tests
module _ (m : Meaning) where
  each_setting : (width : ℕ) (es : List Setting) (ts : List Test) → Passes (chain (setting_tests m width) es ts) → Each (SettingOk m width) es × Passes ts
  each_setting width [] ts p = (tt, p)
  each_setting width (e ∷ es) ts p = let r = each_setting width es ts p.1.1 in (((p.0, p.1.0), r.0), r.1)

  each_bit_setting : (es : List Setting) (ts : List Test) → Passes (chain (bit_setting_tests m) es ts) → Each (BitSettingOk m) es × Passes ts
  each_bit_setting [] ts p = (tt, p)
  each_bit_setting (e ∷ es) ts p = let r = each_bit_setting es ts p.1.1.1.1 in (((p.0, p.1.0, p.1.1.0, p.1.1.1.0), r.0), r.1)

  pub write_each : (ws ds : List Setting) (b : Asked) → verdict m (random_write ws ds) ≡ Ok b → Each (SettingOk m 1) ws × Each (SettingOk m 2) ds
  write_each ws ds b e =
      let r = each_setting 1 ws (chain (setting_tests m 2) ds []) (tests_passed m (random_write ws ds) b e).1 in
      (r.0, (each_setting 2 ds [] r.1).0)

  pub bits_each : (vs : List Setting) (b : Asked) → verdict m (random_bits vs) ≡ Ok b → Each (BitSettingOk m) vs
  bits_each vs b e = (each_bit_setting vs [] (tests_passed m (random_bits vs) b e).1).0

-- each point of a span that is within and open takes a value that is not too wide
pub within_at : (m : Meaning) (d : Device) (i n k : ℕ) → within m d i n ≡ true → k < n → i + k < m.extent d
within_at m d i n k h b = let l = leb-true (i + n) (m.extent d) h in omega arith

pub open_at : (m : Meaning) (d : Device) (i n k : ℕ) → all_open m d i n ≡ true → k < n → m.opened d (i + k) ≡ true
open_at m d i zero k h b = absurd (let z : ⊥ = omega arith in z)
open_at m d i (suc n) zero h b = ap (m.opened d) (add-zero i) ∙ (and_parts (m.opened d i) (all_open m d (i + 1) n) h).0
open_at m d i (suc n) (suc k) h b =
    let on : i + suc k ≡ i + 1 + k = omega arith in
    ap (m.opened d) on ∙ open_at m d (i + 1) n k (and_parts (m.opened d i) (all_open m d (i + 1) n) h).1 (omega arith)

pub takes : (m : Meaning) (d : Device) (i n k v : ℕ) → within m d i n ≡ true → all_open m d i n ≡ true → k < n → v < value_limit (kind_of d) → write_answer m d (i + k) v ≡ Ok tt
takes m d i n k v inside opens b small =
    rw (lt-ltb (i + k) (m.extent d) (within_at m d i n k inside b), open_at m d i n k opens b, lt-ltb v (value_limit (kind_of d)) small)

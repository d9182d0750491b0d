-- No write of an accepted request is refused by the memory.
use Rattle.std.proofs.Common.{◌≡◌, ℕ, zero, suc, ◌+◌, ◌/◌, ◌%◌, ◌^◌, ◌<◌, true, leb, List, [], ◌∷◌, ◌++◌, length, Ok, sym, refl, ap, ◌∙◌, subst, add-zero, arith, le-leb, leb-true}
use Rattle.std.proofs.lemmas.Bool.{and_parts, and_from}
use Rattle.device.specs.declared.types.Device.{Device}
use Rattle.device.specs.declared.types.Kind.{Kind}
use Rattle.device.specs.declared.types.Kind.TheVariants.{Bit, Word}
use Rattle.device.specs.Devices.{kind_of}
use Rattle.memory.specs.Meaning.{Meaning, value_limit, write_answer}
use Rattle.memory.specs.Leaving.{Write}
use Rattle.request.specs.Limits.{points, is_bit, within, all_open, all_bits}
use Rattle.request.specs.Requests.{Asked, Setting, write_bits, write_words, random_bits, random_write}
use Rattle.request.specs.Verdicts.{verdict}
use Rattle.request.specs.Writing.{Each}
use Rattle.request.proofs.Passed.{SettingOk, BitSettingOk}
use Rattle.request.proofs.Accepted.{takes, tests_passed, write_each, bits_each}
use Rattle.server.specs.Writes.{in_row, spread, word_write, as_point, as_word, as_double, as_words, each}
use Rattle.server.proofs.Trying.{AllTaken}

-- a span that is within and open
pub record Free (m : Meaning) (d : Device) (i n : ℕ) : Type 0 where
  pub inside : within m d i n ≡ true
  pub opens : all_open m d i n ≡ true

open_parts : (m : Meaning) (d : Device) (i a b : ℕ) → all_open m d i (a + b) ≡ true → (all_open m d i a ≡ true) × (all_open m d (i + a) b ≡ true)
open_parts m d i zero b h =
    let here : i + 0 ≡ i = omega arith in
    let same : 0 + b ≡ b = omega arith in
    (refl, ap (λ k. all_open m d k b) here ∙ ap (all_open m d i) (sym same) ∙ h)
open_parts m d i (suc a) b h =
    let more : suc a + b ≡ suc (a + b) = omega arith in
    let p = and_parts (m.opened d i) (all_open m d (i + 1) (a + b)) (ap (all_open m d i) (sym more) ∙ h) in
    let r = open_parts m d (i + 1) a b p.1 in
    let next : i + suc a ≡ i + 1 + a = omega arith in
    (and_from (m.opened d i) (all_open m d (i + 1) a) p.0 r.0, ap (λ k. all_open m d k b) next ∙ r.1)

-- a free span is free in its parts
parts : (m : Meaning) (d : Device) (i a b : ℕ) → Free m d i (a + b) → Free m d i a × Free m d (i + a) b
parts m d i a b f =
    let l = leb-true (i + (a + b)) (m.extent d) f.inside in
    let o = open_parts m d i a b f.opens in
    (record { inside = le-leb (i + a) (m.extent d) (omega arith); opens = o.0 }, record { inside = le-leb (i + a + b) (m.extent d) (omega arith); opens = o.1 })

first : (m : Meaning) (d : Device) (i n v : ℕ) → Free m d i (suc n) → v < value_limit (kind_of d) → write_answer m d i v ≡ Ok tt
first m d i n v f small = ap (λ k. write_answer m d k v) (sym (add-zero i)) ∙ takes m d i (suc n) 0 v f.inside f.opens (omega arith) small

rest : (m : Meaning) (d : Device) (i n : ℕ) → Free m d i (suc n) → Free m d (i + 1) n
rest m d i n f =
    let one : suc n ≡ 1 + n = omega arith in
    (parts m d i 1 n (subst (Free m d i) one f)).1

pub row_taken : (m : Meaning) (d : Device) (i : ℕ) (vs : List ℕ) → Free m d i (length vs) → Each (λ v. v < value_limit (kind_of d)) vs → AllTaken m (in_row d i vs)
row_taken m d i [] f s = tt
row_taken m d i (v ∷ vs) f s = (first m d i (length vs) v f s.0, row_taken m d (i + 1) vs (rest m d i (length vs) f) s.1)

spread_taken : (m : Meaning) (d : Device) (i n v : ℕ) → kind_of d ≡ Bit → Free m d i n → AllTaken m (spread d i n v)
spread_taken m d i zero v k f = tt
spread_taken m d i (suc n) v k f =
    let small : v % 2 < value_limit (kind_of d) = rw k (omega arith) in
    (first m d i n (v % 2) f small, spread_taken m d (i + 1) n (v / 2) k (rest m d i n f))

pub word_taken : (m : Meaning) (d : Device) (i v : ℕ) → v < 65536 → Free m d i (points (kind_of d) 1) → AllTaken m (as_word d i v)
word_taken m d i v small f = go (kind_of d) refl f
  where
    go : (κ : Kind) → kind_of d ≡ κ → Free m d i (points κ 1) → AllTaken m (word_write κ d i v)
    go Bit e g = spread_taken m d i 16 v e g
    go Word e g = let low : v < value_limit (kind_of d) = rw e small in (first m d i 0 v g low, tt)

joined : (m : Meaning) (us vs : List Write) → AllTaken m us → AllTaken m vs → AllTaken m (us ++ vs)
joined m [] vs a b = b
joined m (u ∷ us) vs a b = (a.0, joined m us vs a.1 b)

more_points : (κ : Kind) (n : ℕ) → points κ (suc n) ≡ points κ 1 + points κ n
more_points Bit n = omega arith
more_points Word n = omega arith

pub words_taken : (m : Meaning) (d : Device) (i : ℕ) (vs : List ℕ) → Each (λ v. v < 65536) vs → Free m d i (points (kind_of d) (length vs)) → AllTaken m (as_words d i vs)
words_taken m d i [] s f = tt
words_taken m d i (v ∷ vs) s f =
    let p = parts m d i (points (kind_of d) 1) (points (kind_of d) (length vs)) (subst (Free m d i) (more_points (kind_of d) (length vs)) f) in
    joined m (as_word d i v) _ (word_taken m d i v s.0 p.0) (words_taken m d (i + points (kind_of d) 1) vs s.1 p.1)

pub double_taken : (m : Meaning) (d : Device) (i v : ℕ) → v < 4294967296 → Free m d i (points (kind_of d) 2) → AllTaken m (as_double d i v)
double_taken m d i v small f =
    let p = parts m d i (points (kind_of d) 1) (points (kind_of d) 1) (subst (Free m d i) (more_points (kind_of d) 1) f) in
    joined m (as_word d i (v % 65536)) _ (word_taken m d i (v % 65536) (omega arith) p.0) (word_taken m d (i + points (kind_of d) 1) (v / 65536) (omega arith) p.1)

-- each setting of a list, by what one setting needs
each_taken : (m : Meaning) (f : Device → ℕ → ℕ → List Write) (P Q : Setting → Type 0) → ((s : Setting) → P s → Q s → AllTaken m (f s.0.0 s.0.1 s.1))
    → (ss : List Setting) → Each P ss → Each Q ss → AllTaken m (each f ss)
each_taken m f P Q one [] p q = tt
each_taken m f P Q one (s ∷ ss) p q = joined m (f s.0.0 s.0.1 s.1) (each f ss) (one s p.0 q.0) (each_taken m f P Q one ss p.1 q.1)

free : (m : Meaning) (width : ℕ) (s : Setting) → SettingOk m width s → Free m s.0.0 s.0.1 (points (kind_of s.0.0) width)
free m width s ok = record { inside = ok.0; opens = ok.1 }

bits_low : (d : Device) (vs : List ℕ) → kind_of d ≡ Bit → all_bits vs ≡ true → Each (λ v. v < value_limit (kind_of d)) vs
bits_low d [] k h = tt
bits_low d (v ∷ vs) k h =
    let p = and_parts (leb v 1) (all_bits vs) h in
    let l = leb-true v 1 p.0 in
    (rw k (omega arith), bits_low d vs k p.1)

pub kind_bit : (κ : Kind) → is_bit κ ≡ true → κ ≡ Bit
kind_bit Bit e = refl
kind_bit Word e = cc

-- the four requests that write
pub bits_written : (m : Meaning) (d : Device) (i : ℕ) (vs : List ℕ) (b : Asked) → verdict m (write_bits d i vs) ≡ Ok b → AllTaken m (in_row d i vs)
bits_written m d i vs b e =
    let p = tests_passed m (write_bits d i vs) b e in
    row_taken m d i vs (record { inside = p.1.1.0; opens = p.1.1.1.0 }) (bits_low d vs (kind_bit (kind_of d) p.0) p.1.1.1.1.0)

pub words_written : (m : Meaning) (d : Device) (i : ℕ) (vs : List ℕ) (b : Asked) → Each (λ v. v < 65536) vs → verdict m (write_words d i vs) ≡ Ok b → AllTaken m (as_words d i vs)
words_written m d i vs b s e =
    let p = tests_passed m (write_words d i vs) b e in
    words_taken m d i vs s (record { inside = p.1.0; opens = p.1.1.0 })

pub random_bits_written : (m : Meaning) (ss : List Setting) (b : Asked) → verdict m (random_bits ss) ≡ Ok b → AllTaken m (each as_point ss)
random_bits_written m ss b e = each_taken m as_point (BitSettingOk m) (λ _. Unit {0}) one ss (bits_each m ss b e) (anything ss)
  where
    one : (s : Setting) → BitSettingOk m s → Unit {0} → AllTaken m (as_point s.0.0 s.0.1 s.1)
    one s ok u =
        let l = leb-true s.1 1 ok.3 in
        let small : s.1 < value_limit (kind_of s.0.0) = rw (kind_bit (kind_of s.0.0) ok.0) (omega arith) in
        (first m s.0.0 s.0.1 0 s.1 (record { inside = ok.1; opens = ok.2 }) small, tt)

    anything : (ts : List Setting) → Each (λ _. Unit {0}) ts
    anything [] = tt
    anything (t ∷ ts) = (tt, anything ts)

pub random_written : (m : Meaning) (ws ds : List Setting) (b : Asked) → Each (λ s. s.1 < 256 ^ 2) ws → Each (λ s. s.1 < 256 ^ 4) ds → verdict m (random_write ws ds) ≡ Ok b
    → AllTaken m (each as_word ws ++ each as_double ds)
random_written m ws ds b sw sd e =
    let p = write_each m ws ds b e in
    joined m (each as_word ws) (each as_double ds)
    (each_taken m as_word (SettingOk m 1) (λ s. s.1 < 256 ^ 2) (λ s ok small. word_taken m s.0.0 s.0.1 s.1 small (free m 1 s ok)) ws p.0 sw)
    (each_taken m as_double (SettingOk m 2) (λ s. s.1 < 256 ^ 4) (λ s ok small. double_taken m s.0.0 s.0.1 s.1 small (free m 2 s ok)) ds p.1 sd)

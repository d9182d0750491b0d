-- The answer to a request has the form that the request fixes, and bit points stay 0 or 1.
use Rattle.std.proofs.Common.{◌+◌, ◌≡◌, ℕ, ◌/◌, ◌%◌, ◌^◌, ◌<◌, Bool, true, false, cond, not, ◌&&◌, List, [], ◌∷◌, ◌++◌, length, map, Some, None, Ok, Err, Option, Result, sym, refl, ap, ◌∙◌, subst, arith, eqb, ltb, suc, zero}
use Rattle.std.proofs.lemmas.List.{length-map}
use Rattle.std.proofs.lemmas.Bool.{eqb-true, and_parts, ltb-true}
use Rattle.device.specs.declared.types.Device.{Device}
use Rattle.server.specs.Writes.{as_double, as_point, as_word, as_words, each, in_row, puts}
use Rattle.server.specs.Points.{Values, bits, values_of, words}
use Rattle.server.specs.Says.{by_verdict, cause_of, reaction, writes}
use Rattle.memory.specs.Meaning.{written as after_write, Meaning, put, same_point, value_limit, write_answer}
use Rattle.server.proofs.Taken.{bits_written, kind_bit, random_bits_written, random_written, words_written}
use Rattle.request.specs.Verdicts.{chain, verdict}
use Rattle.request.specs.Writing.{Each, Field, FieldFits, FitsBoth, setting_fields}
use Rattle.request.specs.Requests.{Asked, Setting, monitor, random_bits, random_read, random_write, read_bits, read_words, register, write_bits, write_words}
use Rattle.frame.specs.Replies.{one, reply_bytes, two}
use Rattle.wire.specs.declared.code.Code.TheVariants.{Ascii, Binary}
use Rattle.frame.specs.declared.fault.Cause.TheVariants.{NotRegistered, WriteOff}
use Rattle.device.specs.Devices.{kind_of, place_of}
use Rattle.wire.specs.declared.code.Code.{Code}
use Rattle.server.proofs.Accepts.{verdict_keeps}
use Rattle.frame.specs.declared.fault.Cause.{Cause}
use Rattle.server.specs.Pairs.{AnswerFits, DataFits, Many, bits_put, both_put, both_shown, list_shown, points_put, points_shown, registration, words_put, words_shown}
use Rattle.memory.specs.declared.refusal.Refusal.TheVariants.{Closed, Outside, TooWide}
use Rattle.frame.specs.declared.header.Header.{Header}
use Rattle.server.proofs.Trying.{AllTaken}
use Rattle.device.specs.declared.types.Kind.TheVariants.{Bit}
use Rattle.device.proofs.Places.{place_one}
use Rattle.server.specs.declared.points.Width.TheVariants.{Double, Word}
use Rattle.server.specs.Registered.{Listed}
use Rattle.server.specs.Answers.{Answered, Data, accepted, answer_bytes, in_both, in_words, refused}
use Rattle.server.proofs.Shows.{length_bits, length_shown, length_words}
use Rattle.server.specs.Serves.{done, unchanged}
use Rattle.wire.specs.Series.{values_bytes}
use Rattle.request.proofs.Accepted.{tests_passed}
use Rattle.memory.specs.declared.refusal.Refusal.{Refusal}
use Rattle.memory.specs.Leaving.{Write}
use Rattle.wire.specs.Numbers.{encode, hex_char}

-- a bit point holds 0 or 1
abbrev pub Narrow : Meaning → Type 0
Narrow m = (d : Device) (n : ℕ) → kind_of d ≡ Bit → m.value d n < 2

abbrev NarrowValues : Values → Type 0
NarrowValues V = (d : Device) (n : ℕ) → kind_of d ≡ Bit → V d n < 2

-- what a memory takes fits its point
fits_then : (a b c : Bool) → ◌≡◌ {A = Result (Unit {0}) Refusal} (cond a (cond b (cond c (Ok tt) (Err TooWide)) (Err Closed)) (Err Outside)) (Ok tt) → c ≡ true
fits_then true true true e = refl
fits_then true true false e = cc
fits_then true false c e = cc
fits_then false b c e = cc

taken_fits : (m : Meaning) (d : Device) (n v : ℕ) → write_answer m d n v ≡ Ok tt → v < value_limit (kind_of d)
taken_fits m d n v e = ltb-true v (value_limit (kind_of d)) (fits_then (ltb n (m.extent d)) (m.opened d n) (ltb v (value_limit (kind_of d))) e)

narrow_put : (V : Values) (d : Device) (n v : ℕ) → v < value_limit (kind_of d) → NarrowValues V → NarrowValues (put V d n v)
narrow_put V d n v fits h e k bit = go (same_point d n e k) refl
  where
    go : (b : Bool) → same_point d n e k ≡ b → cond b v (V e k) < 2
    go true s =
        let same : d ≡ e = place_one d e (eqb-true (place_of d) (place_of e) (and_parts (eqb (place_of d) (place_of e)) (eqb n k) s).0) in
        let limit : value_limit (kind_of d) ≡ 2 = ap (λ x. value_limit (kind_of x)) same ∙ ap value_limit bit in
        subst (λ l. v < l) limit fits
    go false s = h e k bit

pub narrow_set : (m : Meaning) (d : Device) (n v : ℕ) → Narrow m → Narrow (after_write (write_answer m d n v) m d n v)
narrow_set m d n v h = go (write_answer m d n v) refl
  where
    go : (r : Result (Unit {0}) Refusal) → write_answer m d n v ≡ r → Narrow (after_write r m d n v)
    go (Ok u) e = narrow_put m.value d n v (taken_fits m d n v e) h
    go (Err f) e = h

narrow_all : (m : Meaning) (V : Values) (ws : List Write) → AllTaken m ws → NarrowValues V → NarrowValues (puts V ws)
narrow_all m V [] a h = h
narrow_all m V (w ∷ ws) a h = narrow_all m (put V w.0 w.1 w.2) ws a.1 (narrow_put V w.0 w.1 w.2 (taken_fits m w.0 w.1 w.2 a.0) h)

-- the values of settings within their width
settings_small : (size : ℕ) (ss : List Setting) (fs : List Field) → Each FieldFits (chain (setting_fields size) ss fs) → Each (λ s. s.1 < 256 ^ size) ss × Each FieldFits fs
settings_small size [] fs h = (tt, h)
settings_small size (s ∷ ss) fs h = let r = settings_small size ss fs h.1.1 in ((h.1.0, r.0), r.1)

narrow_done : (a : Asked) (m : Meaning) (g : Option Listed) → FitsBoth a → verdict m a ≡ Ok a → Narrow m → Narrow (done a m g).meaning
narrow_done (read_bits d i n) m g ok e h = h
narrow_done (read_words d i n) m g ok e h = h
narrow_done (write_bits d i vs) m g ok e h = narrow_all m m.value (in_row d i vs) (bits_written m d i vs _ e) h
narrow_done (write_words d i vs) m g ok e h = narrow_all m m.value (as_words d i vs) (words_written m d i vs _ ok.1.1.0 e) h
narrow_done (random_read ws ds) m g ok e h = h
narrow_done (register ws ds) m g ok e h = h
narrow_done monitor m g ok e h = h
narrow_done (random_bits ss) m g ok e h = narrow_all m m.value (each as_point ss) (random_bits_written m ss _ e) h
narrow_done (random_write ws ds) m g ok e h =
    let one = settings_small 2 ws (chain (setting_fields 4) ds []) ok.1 in
    let two = settings_small 4 ds [] one.1 in
    narrow_all m m.value (each as_word ws ++ each as_double ds) (random_written m ws ds _ one.0 two.0 e) h

pub narrow_reaction : (a : Asked) (m : Meaning) (flag : Bool) (g : Option Listed) → FitsBoth a → Narrow m → Narrow (reaction a m flag g).meaning
narrow_reaction a m flag g ok h = go (writes a && not flag)
  where
    judged_so : (r : Result Asked Cause) → verdict m a ≡ r → Narrow (by_verdict m g r).meaning
    judged_so (Ok b) e =
        let same = verdict_keeps m a b e in
        subst (λ x. Narrow (done x m g).meaning) (sym same) (narrow_done a m g ok (e ∙ ap Ok same) h)
    judged_so (Err c) e = h

    go : (b : Bool) → Narrow (cond b (unchanged (refused WriteOff) m g) (by_verdict m g (verdict m a))).meaning
    go true = h
    go false = judged_so (verdict m a) refl

-- values that are cut to two bytes, or to four, are sent as they were
two_cut : (code : Code) (v : ℕ) → encode code 2 v ≡ encode code 2 (v % 65536)
two_cut Binary v = let a : v % 256 ≡ v % 65536 % 256 = omega arith in let b : v / 256 % 256 ≡ v % 65536 / 256 % 256 = omega arith in λ i. a i ∷ b i ∷ []
two_cut Ascii v =
    let a : v / 4096 % 16 ≡ v % 65536 / 4096 % 16 = omega arith in
    let b : v / 256 % 16 ≡ v % 65536 / 256 % 16 = omega arith in
    let c : v / 16 % 16 ≡ v % 65536 / 16 % 16 = omega arith in
    let d : v / 1 % 16 ≡ v % 65536 / 1 % 16 = omega arith in
    λ i. hex_char (a i) ∷ hex_char (b i) ∷ hex_char (c i) ∷ hex_char (d i) ∷ []

four_cut : (code : Code) (v : ℕ) → encode code 4 v ≡ encode code 4 (v % 4294967296)
four_cut Binary v =
    let w = v % 4294967296 in
    let a : v % 256 ≡ w % 256 = omega arith in
    let b : v / 256 % 256 ≡ w / 256 % 256 = omega arith in
    let c : v / 256 / 256 % 256 ≡ w / 256 / 256 % 256 = omega arith in
    let d : v / 256 / 256 / 256 % 256 ≡ w / 256 / 256 / 256 % 256 = omega arith in
    λ i. a i ∷ b i ∷ c i ∷ d i ∷ []
four_cut Ascii v =
    let w = v % 4294967296 in
    let a : v / 268435456 % 16 ≡ w / 268435456 % 16 = omega arith in
    let b : v / 16777216 % 16 ≡ w / 16777216 % 16 = omega arith in
    let c : v / 1048576 % 16 ≡ w / 1048576 % 16 = omega arith in
    let d : v / 65536 % 16 ≡ w / 65536 % 16 = omega arith in
    let e : v / 4096 % 16 ≡ w / 4096 % 16 = omega arith in
    let f : v / 256 % 16 ≡ w / 256 % 16 = omega arith in
    let g : v / 16 % 16 ≡ w / 16 % 16 = omega arith in
    let h : v / 1 % 16 ≡ w / 1 % 16 = omega arith in
    λ i. hex_char (a i) ∷ hex_char (b i) ∷ hex_char (c i) ∷ hex_char (d i) ∷ hex_char (e i) ∷ hex_char (f i) ∷ hex_char (g i) ∷ hex_char (h i) ∷ []

module _ (code : Code) (size limit : ℕ) (cut : (v : ℕ) → encode code size v ≡ encode code size (v % limit)) where
  values_cut : (vs : List ℕ) → values_bytes code size vs ≡ values_bytes code size (map (λ v. v % limit) vs)
  values_cut [] = refl
  values_cut (v ∷ vs) = λ i. cut v i ++ values_cut vs i

each_cut : (limit : ℕ) → ((v : ℕ) → v % limit < limit) → (vs : List ℕ) → Each (λ v. v < limit) (map (λ v. v % limit) vs)
each_cut limit below [] = tt
each_cut limit below (v ∷ vs) = (below v, each_cut limit below vs)

many_words : (n : ℕ) (vs : List ℕ) → length vs ≡ n → Many n 65536 (map (λ v. v % 65536) vs)
many_words n vs e = (length-map vs (λ v. v % 65536) ∙ e, each_cut 65536 (λ v. omega arith) vs)

many_doubles : (n : ℕ) (vs : List ℕ) → length vs ≡ n → Many n 4294967296 (map (λ v. v % 4294967296) vs)
many_doubles n vs e = (length-map vs (λ v. v % 4294967296) ∙ e, each_cut 4294967296 (λ v. omega arith) vs)

each_bit : (V : Values) (d : Device) (i n : ℕ) → NarrowValues V → kind_of d ≡ Bit → Each (λ v. v < 2) (bits V d i n)
each_bit V d i zero h e = tt
each_bit V d i (suc n) h e = (h d i e, each_bit V d (i + 1) n h e)

-- an answer of the form that a request fixes, which is sent as this one
pub record HasForm (g : Option Listed) (a : Asked) (x : Answered) : Type 0 where
  pub answer : Answered
  pub fits : AnswerFits g a answer
  pub bytes : (code : Code) (h : Header) → answer_bytes code h x ≡ answer_bytes code h answer
  pub cause : cause_of answer ≡ cause_of x

form_refused : (g : Option Listed) (a : Asked) (c : Cause) → HasForm g a (refused c)
form_refused g a c = record { answer = refused c; fits = tt; bytes = λ code h. refl; cause = refl }

form_kept : (g : Option Listed) (a : Asked) (d : Data) → DataFits g a d → HasForm g a (accepted d)
form_kept g a d f = record { answer = accepted d; fits = f; bytes = λ code h. refl; cause = refl }

form_both : (g : Option Listed) (a : Asked) (us vs : List ℕ) → DataFits g a (in_both (map (λ v. v % 65536) us) (map (λ v. v % 4294967296) vs)) → HasForm g a (accepted (in_both us vs))
form_both g a us vs f =
    record {
      answer = accepted (in_both (map (λ v. v % 65536) us) (map (λ v. v % 4294967296) vs));
      fits = f;
      bytes = λ code h i. reply_bytes code h 0 (values_cut code 2 65536 (two_cut code) us i ++ values_cut code 4 4294967296 (four_cut code) vs i);
      cause = refl;
    }

form_done : (a : Asked) (m : Meaning) (g : Option Listed) → verdict m a ≡ Ok a → Narrow m → HasForm g a (done a m g).answer
form_done (read_bits d i n) m g e h =
    form_kept g _ _ (points_shown (length_bits m.value d i n, each_bit m.value d i n h (kind_bit (kind_of d) (tests_passed m (read_bits d i n) _ e).0)))
form_done (read_words d i n) m g e h =
    let vs = words m.value d i n in
    record {
      answer = accepted (in_words (map (λ v. v % 65536) vs));
      fits = words_shown (many_words n vs (length_words m.value d i n));
      bytes = λ code h i. reply_bytes code h 0 (values_cut code 2 65536 (two_cut code) vs i);
      cause = refl;
    }
form_done (write_bits d i vs) m g e h = form_kept g _ _ bits_put
form_done (write_words d i vs) m g e h = form_kept g _ _ words_put
form_done (random_read ws ds) m g e h =
    let us = values_of Word m.value ws in
    let vs = values_of Double m.value ds in
    form_both g _ us vs (both_shown (many_words (length ws) us (length_shown Word m.value ws)) (many_doubles (length ds) vs (length_shown Double m.value ds)))
form_done (register ws ds) m g e h = form_kept g _ _ registration
form_done monitor m None e h = form_refused None monitor NotRegistered
form_done monitor m (Some l) e h =
    let us = values_of Word m.value l.0 in
    let vs = values_of Double m.value l.1 in
    form_both (Some l) monitor us vs (list_shown refl (many_words (length l.0) us (length_shown Word m.value l.0)) (many_doubles (length l.1) vs (length_shown Double m.value l.1)))
form_done (random_bits ss) m g e h = form_kept g _ _ points_put
form_done (random_write ws ds) m g e h = form_kept g _ _ both_put

pub answer_fits : (a : Asked) (m : Meaning) (flag : Bool) (g : Option Listed) → Narrow m → HasForm g a (reaction a m flag g).answer
answer_fits a m flag g h = go (writes a && not flag)
  where
    judged_so : (r : Result Asked Cause) → verdict m a ≡ r → HasForm g a (by_verdict m g r).answer
    judged_so (Ok b) e =
        let same = verdict_keeps m a b e in
        subst (λ x. HasForm g a (done x m g).answer) (sym same) (form_done a m g (e ∙ ap Ok same) h)
    judged_so (Err c) e = form_refused g a c

    go : (b : Bool) → HasForm g a (cond b (unchanged (refused WriteOff) m g) (by_verdict m g (verdict m a))).answer
    go true = form_refused g a WriteOff
    go false = judged_so (verdict m a) refl

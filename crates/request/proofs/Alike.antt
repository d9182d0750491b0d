-- A walk over the writing of fields comes to what the fields say.
use Rattle.std.proofs.Common.{◌≡◌, ℕ, ◌+◌, ◌*◌, ◌≤◌, Bool, true, false, cond, List, [], ◌∷◌, ◌++◌, length, Ok, Err, Result, sym, refl, ap, ◌∙◌, subst, arith, length-append, length-drop, drop_at, le-leb}
use Rattle.device.specs.declared.types.Device.{Device}
use Rattle.memory.specs.Meaning.{Meaning}
use Rattle.wire.specs.declared.code.Code.{Code}
use Rattle.wire.specs.Numbers.{per_byte, encode}
use Rattle.wire.specs.Fields.{encode_device}
use Rattle.wire.specs.Series.{values_bytes}
use Rattle.wire.specs.Points.{bits_bytes, bits_size}
use Rattle.wire.proofs.RoundTrip.{length_encode, length_device}
use Rattle.wire.proofs.Lengths.{length_values, length_bits_bytes}
use Rattle.frame.specs.declared.fault.Cause.{Cause}
use Rattle.frame.specs.declared.fault.Fault.{Fault}
use Rattle.frame.specs.declared.header.Header.{Header}
use Rattle.frame.specs.Faults.{fault}
use Rattle.request.specs.Walks.{Walk, done, number, counts, device, words, bits, at_field, at_device, run, list}
use Rattle.request.specs.Requests.{Access, Setting, Asked, read_bits, read_words, write_bits, write_words, random_read, register, monitor, random_bits, random_write, Command, command_of}
use Rattle.request.specs.Judging.{access, setting, bit_setting, walk}
use Rattle.request.specs.Verdicts.{command, Test, judge, chain, access_tests, setting_tests, bit_setting_tests, tests, verdict, forget}
use Rattle.request.specs.Writing.{Field, num, pair, dev, vals, halves, write, access_fields, setting_fields, fields, writing, FieldFits, Each, FitsBoth}
use Rattle.request.specs.Readings.{judged_by, request_in}
use Rattle.request.specs.Laws.{Alike, Passed}
use Rattle.request.proofs.Written.{Stands, on, number_back, device_back, counts_back, length_pair, words_back, bits_back}
use Rattle.request.proofs.Passed.{passed}

-- a walk over fields that are those it asks for makes the tests `ts`, and reads `a`
pub data Says {A : Type 0} : Walk A → List Field → List Test → A → Type 0 where
  says_done : {a : A} → Says (done a) [] [] a
  says_number : {size v : ℕ} {k : ℕ → Walk A} {fs : List Field} {ts : List Test} {a : A} → FieldFits (num size v) → Says (k v) fs ts a → Says (number size k) (num size v ∷ fs) ts a
  says_counts : {w d : ℕ} {k : ℕ → ℕ → Walk A} {fs : List Field} {ts : List Test} {a : A} → FieldFits (pair w d) → Says (k w d) fs ts a → Says (counts k) (pair w d ∷ fs) ts a
  says_device : {d : Device} {i : ℕ} {k : Device → ℕ → Walk A} {fs : List Field} {ts : List Test} {a : A} → FieldFits (dev d i) → Says (k d i) fs ts a → Says (device k) (dev d i ∷ fs) ts a
  says_words : {vs : List ℕ} {k : List ℕ → Walk A} {fs : List Field} {ts : List Test} {a : A} → FieldFits (vals vs) → Says (k vs) fs ts a → Says (words (length vs) k) (vals vs ∷ fs) ts a
  says_bits : {vs : List ℕ} {k : List ℕ → Walk A} {fs : List Field} {ts : List Test} {a : A} → FieldFits (halves vs) → Says (k vs) fs ts a → Says (bits (length vs) k) (halves vs ∷ fs) ts a
  says_field : {c : Cause} {b : Bool} {w : Walk A} {fs : List Field} {ts : List Test} {a : A} → Says w fs ts a → Says (at_field c b w) fs ((c, b) ∷ ts) a
  says_place : {c : Cause} {b : Bool} {w : Walk A} {fs : List Field} {ts : List Test} {a : A} → Says w fs ts a → Says (at_device c b w) fs ((c, b) ∷ ts) a

tested : {A : Type 0} (b : Bool) (x : Result A Fault) (e : Fault) (r : Result A Cause) → forget x ≡ r → forget (cond b x (Err e)) ≡ cond b r (Err e.cause)
tested true x e r h = h
tested false x e r h = refl

at_its_end : (bytes : List ℕ) (at : ℕ) → Stands bytes [] at → length bytes ≤ at
at_its_end bytes at s = omega (arith, sym (length-drop at bytes) ∙ ap length s.here)

-- one case for each kind of field, and none for a code
pub comes_to : {A : Type 0} (code : Code) (bytes : List ℕ) {w : Walk A} {fs : List Field} {ts : List Test} {a : A} → Says w fs ts a
    → (dv fd at : ℕ) → Stands bytes (write code fs) at → forget (run code bytes w dv fd at) ≡ judge ts a
comes_to code bytes says_done dv fd at s = rw (le-leb (length bytes) at (at_its_end bytes at s))
comes_to code bytes (says_number {size = size} {v = v} {fs = fs} h t) dv fd at s =
    rw (number_back code bytes (write code fs) at size v h s)
    (comes_to code bytes t dv at (at + size * per_byte code) (on bytes (encode code size v) (write code fs) at (size * per_byte code) (length_encode code size v) s))
comes_to code bytes (says_counts {w = w} {d = d} {fs = fs} h t) dv fd at s =
    rw (counts_back code bytes (write code fs) at w d h.0 h.1 s)
    (comes_to code bytes t dv at (at + 2 * per_byte code) (on bytes (encode code 1 w ++ encode code 1 d) (write code fs) at (2 * per_byte code) (length_pair code w d) s))
comes_to code bytes (says_device {d = d} {i = i} {fs = fs} h t) dv fd at s =
    rw (device_back code bytes (write code fs) at d i (h code) s)
    (comes_to code bytes t at at (at + 4 * per_byte code) (on bytes (encode_device code d i) (write code fs) at (4 * per_byte code) (length_device code d i) s))
comes_to code bytes (says_words {vs = vs} {fs = fs} h t) dv fd at s =
    rw (words_back code bytes (write code fs) vs at h s)
    (comes_to code bytes t dv at (at + length vs * (2 * per_byte code)) (on bytes (values_bytes code 2 vs) (write code fs) at (length vs * (2 * per_byte code)) (length_values code 2 vs) s))
comes_to code bytes (says_bits {vs = vs} {fs = fs} h t) dv fd at s =
    rw (bits_back code bytes (write code fs) vs at h s)
    (comes_to code bytes t dv at (at + bits_size code (length vs)) (on bytes (bits_bytes code vs) (write code fs) at (bits_size code (length vs)) (length_bits_bytes code vs) s))
comes_to code bytes (says_field {c = c} {b = b} {w = w} {ts = ts} {a = a} t) dv fd at s = tested b (run code bytes w dv fd at) (fault c fd) (judge ts a) (comes_to code bytes t dv fd at s)
comes_to code bytes (says_place {c = c} {b = b} {w = w} {ts = ts} {a = a} t) dv fd at s = tested b (run code bytes w dv fd at) (fault c dv) (judge ts a) (comes_to code bytes t dv fd at s)

-- a list: what its entries say, one after the other
says_list : {X A : Type 0} (e : (X → Walk A) → Walk A) (f : X → List Field → List Field) (t : X → List Test → List Test) (a : A)
    → ((x : X) (k : X → Walk A) (fs : List Field) (ts : List Test) → Each FieldFits (f x fs) → (Each FieldFits fs → Says (k x) fs ts a) → Says (e k) (f x fs) (t x ts) a)
    → (k : List X → Walk A) (xs : List X) (fs : List Field) (ts : List Test) → Each FieldFits (chain f xs fs) → (Each FieldFits fs → Says (k xs) fs ts a)
    → Says (list e (length xs) k) (chain f xs fs) (chain t xs ts) a
says_list e f t a one k [] fs ts ok h = h ok
says_list e f t a one k (x ∷ xs) fs ts ok h =
    one x (λ y. list e (length xs) (λ ys. k (y ∷ ys))) (chain f xs fs) (chain t xs ts) ok (λ ok2. says_list e f t a one (λ ys. k (x ∷ ys)) xs fs ts ok2 h)

module _ {A : Type 0} (m : Meaning) (width : ℕ) (a : A) where
  says_accesses : (k : List Access → Walk A) (xs : List Access) (fs : List Field) (ts : List Test) → Each FieldFits (chain access_fields xs fs) → (Each FieldFits fs → Says (k xs) fs ts a)
      → Says (list (access m width) (length xs) k) (chain access_fields xs fs) (chain (access_tests m width) xs ts) a
  says_accesses = says_list (access m width) access_fields (access_tests m width) a (λ x k fs ts ok h. says_device ok.0 (says_place (h ok.1)))

  says_settings : (k : List Setting → Walk A) (xs : List Setting) (fs : List Field) (ts : List Test) → Each FieldFits (chain (setting_fields (2 * width)) xs fs) → (Each FieldFits fs → Says (k xs) fs ts a)
      → Says (list (setting m width) (length xs) k) (chain (setting_fields (2 * width)) xs fs) (chain (setting_tests m width) xs ts) a
  says_settings = says_list (setting m width) (setting_fields (2 * width)) (setting_tests m width) a
      (λ x k fs ts ok h. says_device ok.0 (says_place (says_place (says_number ok.1.0 (h ok.1.1)))))

-- each request's walk makes its tests over its fields, and reads the request
asks : (m : Meaning) (a : Asked) → FitsBoth a → Says (walk m (command a)) (fields a) (tests m a) a
asks m (read_bits d i n) ok = says_device ok.0 (says_place (says_number ok.1.0 (says_field (says_place says_done))))
asks m (read_words d i n) ok = says_device ok.0 (says_number ok.1.0 (says_field (says_place says_done)))
asks m (write_bits d i vs) ok = says_device ok.0 (says_place (says_number ok.1.0 (says_field (says_place (says_place (says_bits ok.1.1.0 (says_field says_done)))))))
asks m (write_words d i vs) ok = says_device ok.0 (says_number ok.1.0 (says_field (says_place (says_place (says_words ok.1.1.0 says_done)))))
asks m (random_read ws ds) ok =
    says_counts ok.0 (says_field (says_accesses m 1 _ _ ws _ _ ok.1 (λ ok2. says_accesses m 2 _ _ ds [] [] ok2 (λ _. says_done))))
asks m (register ws ds) ok =
    says_counts ok.0 (says_field (says_accesses m 1 _ _ ws _ _ ok.1 (λ ok2. says_accesses m 2 _ _ ds [] [] ok2 (λ _. says_done))))
asks m monitor ok = says_done
asks m (random_bits vs) ok =
    says_number ok.0 (says_field (says_list (bit_setting m) (setting_fields 1) (bit_setting_tests m) _
    (λ x k fs ts ok h. says_device ok.0 (says_place (says_place (says_place (says_number ok.1.0 (says_field (h ok.1.1))))))) _ vs [] [] ok.1 (λ _. says_done)))
asks m (random_write ws ds) ok =
    says_counts ok.0 (says_field (says_settings m 1 _ _ ws _ _ ok.1 (λ ok2. says_settings m 2 _ _ ds [] [] ok2 (λ _. says_done))))

at_front : (front xs : List ℕ) (n : ℕ) → length front ≡ n → Stands (front ++ xs) xs n
at_front front xs n e = record { within = simp length-append (omega arith); here = drop_at front xs n e }

-- a verdict that accepts gives the request itself
judge_keeps : {A : Type 0} (ts : List Test) (a b : A) → judge ts a ≡ Ok b → b ≡ a
judge_keeps [] a b e = cc
judge_keeps ((c, true) ∷ ts) a b e = judge_keeps ts a b e
judge_keeps ((c, false) ∷ ts) a b e = cc

pub alike : (code : Code) (m : Meaning) (flag : Bool) (h : Header) (frame : List ℕ) → Alike code m flag h frame (request_in code m flag h frame)
alike code m flag h frame a front ok is-frame at-data served =
    let at = h.data_at in
    let stands : Stands frame (writing code a) at = subst (λ xs. Stands xs (writing code a) at) (sym is-frame) (at_front front (writing code a) at at-data) in
    let same : request_in code m flag h frame ≡ run code frame (walk m (command a)) at at at = ap (judged_by code m h frame) served in
    let judged : forget (request_in code m flag h frame) ≡ verdict m a = ap forget same ∙ comes_to code frame (asks m a ok) at at at stands in
    (judged, λ b e. judge_keeps (tests m a) a b (sym judged ∙ ap forget e))

pub all_passed : (code : Code) (m : Meaning) (flag : Bool) (h : Header) (frame : List ℕ) → Passed m (request_in code m flag h frame)
all_passed code m flag h frame = served (command_of h.command h.subcommand flag)
  where
    served : (c : Result Command Cause) → Passed m (judged_by code m h frame c)
    served (Ok c) = passed m code frame c h.data_at
    served (Err e) = tt

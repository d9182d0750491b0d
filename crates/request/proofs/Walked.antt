-- A request that was accepted stands in the frame, field by field, and is within the widths and the length limit of both codes.
use Rattle.std.proofs.Common.{◌≡◌, ℕ, zero, suc, ◌+◌, ◌*◌, ◌^◌, ◌<◌, ◌≤◌, Bool, true, leb, List, [], ◌∷◌, ◌++◌, length, drop, Ok, Err, Result, sym, refl, ap, ◌∙◌, subst, arith, length-append, lit<, leb-true}
use Rattle.std.proofs.lemmas.List.{drop_all}
use Rattle.std.proofs.Math.Nat.{suc-mul}
use Rattle.device.specs.declared.types.Device.{Device}
use Rattle.device.specs.declared.types.Kind.{Kind}
use Rattle.device.specs.declared.types.Kind.TheVariants.{Bit, Word}
use Rattle.device.specs.declared.types.Notation.{Notation}
use Rattle.device.specs.declared.types.Notation.TheVariants.{Decimal, Hexadecimal}
use Rattle.device.specs.Devices.{kind_of, notation_of}
use Rattle.memory.specs.Meaning.{Meaning, extent_limit}
use Rattle.wire.specs.declared.code.Code.{Code}
use Rattle.wire.specs.declared.code.Code.TheVariants.{Binary, Ascii}
use Rattle.wire.specs.Numbers.{per_byte, base, AllBytes}
use Rattle.wire.specs.Fields.{number_limit}
use Rattle.wire.proofs.Exact.{after, same_ok, passing}
use Rattle.wire.proofs.RoundTrip.{length_encode, length_device}
use Rattle.wire.proofs.Lengths.{length_values, length_bits_bytes}
use Rattle.frame.specs.declared.fault.Cause.TheVariants.{BadSize}
use Rattle.frame.specs.declared.header.Header.{Header}
use Rattle.frame.specs.Faults.{fault}
use Rattle.request.specs.Fields.{number_at, device_at, counts_at, words_at, bits_at}
use Rattle.request.specs.Walks.{Walk, done, number, counts, device, words, bits, at_field, at_device, run, list}
use Rattle.request.specs.Limits.{points, within, words_within}
use Rattle.request.specs.Requests.{Access, Setting, Asked, Command, ReadBits, ReadWords, WriteBits, WriteWords, RandomRead, Register, Monitor, RandomBits, RandomWrite, command_of}
use Rattle.request.specs.Judging.{access, setting, bit_setting, walk}
use Rattle.request.specs.Readings.{judged_by, request_in}
use Rattle.frame.specs.declared.fault.Cause.{Cause}
use Rattle.request.specs.Verdicts.{command, chain}
use Rattle.request.specs.Writing.{Field, num, pair, dev, vals, halves, write_field, write, access_fields, setting_fields, fields, writing, FieldFits, Each, FitsBoth}
use Rattle.request.proofs.Accepted.{range}
use Rattle.request.proofs.Exact.{number_here, device_here, counts_here, words_here, bits_here}

-- whatever fields within their widths a walk reads, if every test passes then they, and what it comes to, are such
abbrev Writes : {A : Type 0} → Code → Walk A → (List Field → A → Type 0) → Type 0
Writes code (done a) P = P [] a
Writes code (number size k) P = (v : ℕ) → v < 256 ^ size → Writes code (k v) (λ fs. P (num size v ∷ fs))
Writes code (counts k) P = (w d : ℕ) → w < 256 → d < 256 → Writes code (k w d) (λ fs. P (pair w d ∷ fs))
Writes code (device k) P = (d : Device) (i : ℕ) → i < number_limit code d → Writes code (k d i) (λ fs. P (dev d i ∷ fs))
Writes code (words n k) P = (vs : List ℕ) → length vs ≡ n → Each (λ v. v < 65536) vs → Writes code (k vs) (λ fs. P (vals vs ∷ fs))
Writes code (bits n k) P = (vs : List ℕ) → length vs ≡ n → Each (λ v. v < 16) vs → Writes code (k vs) (λ fs. P (halves vs ∷ fs))
Writes code (at_field c b w) P = b ≡ true → Writes code w P
Writes code (at_device c b w) P = b ≡ true → Writes code w P

-- from `at` to the end of the frame stand fields that are such
record Stands {A : Type 0} (code : Code) (bytes : List ℕ) (at : ℕ) (P : List Field → A → Type 0) (a : A) : Type 0 where
  pub fs : List Field
  pub is : drop at bytes ≡ write code fs
  pub such : P fs a

module _ {A : Type 0} (code : Code) (bytes : List ℕ) (all : AllBytes bytes) where
  -- a field in front of others
  one_field : (at end : ℕ) (f : Field) (P : List Field → A → Type 0) (a : A) → drop at bytes ≡ write_field code f ++ drop end bytes → Stands code bytes end (λ fs. P (f ∷ fs)) a → Stands code bytes at P a
  one_field at end f P a e s = record { fs = f ∷ s.fs; is = e ∙ ap (λ ys. write_field code f ++ ys) s.is; such = s.such }

  -- one case for each kind of field
  stands : (w : Walk A) (P : List Field → A → Type 0) → Writes code w P → (dv fd at : ℕ) (a : A) → run code bytes w dv fd at ≡ Ok a → Stands code bytes at P a
  stands (done x) P h dv fd at a e =
      let t = passing (leb (length bytes) at) (Ok x) (fault BadSize at) a e in
      record { fs = []; is = drop_all at bytes (leb-true (length bytes) at t.0); such = subst (P []) (same_ok x a t.1) h }
  stands (number size k) P h dv fd at a e =
      after (number_at code bytes at size) _ a e
      (λ n en g. let x = number_here code bytes all at size n en in
      one_field at (at + n.1) (num size n.0) P a x.is (stands (k n.0) (λ fs. P (num size n.0 ∷ fs)) (h n.0 x.below) dv at (at + n.1) a g))
  stands (counts k) P h dv fd at a e =
      after (counts_at code bytes at) _ a e
      (λ n en g. let x = counts_here code bytes all at n en in
      one_field at (at + n.2) (pair n.0 n.1) P a x.is (stands (k n.0 n.1) (λ fs. P (pair n.0 n.1 ∷ fs)) (h n.0 n.1 x.words x.doubles) dv at (at + n.2) a g))
  stands (device k) P h dv fd at a e =
      after (device_at code bytes at) _ a e
      (λ n en g. let x = device_here code bytes all at n en in
      one_field at (at + n.2) (dev n.0 n.1) P a x.is (stands (k n.0 n.1) (λ fs. P (dev n.0 n.1 ∷ fs)) (h n.0 n.1 x.below) at at (at + n.2) a g))
  stands (words n k) P h dv fd at a e =
      after (words_at code bytes at n) _ a e
      (λ v ev g. let x = words_here code bytes all at n v ev in
      one_field at (at + v.1) (vals v.0) P a x.is (stands (k v.0) (λ fs. P (vals v.0 ∷ fs)) (h v.0 x.long x.below) dv at (at + v.1) a g))
  stands (bits n k) P h dv fd at a e =
      after (bits_at code bytes at n) _ a e
      (λ v ev g. let x = bits_here code bytes all at n v ev in
      one_field at (at + v.1) (halves v.0) P a x.is (stands (k v.0) (λ fs. P (halves v.0 ∷ fs)) (h v.0 x.long x.below) dv at (at + v.1) a g))
  stands (at_field c b w) P h dv fd at a e =
      let t = passing b (run code bytes w dv fd at) (fault c fd) a e in
      stands w P (h t.0) dv fd at a t.1
  stands (at_device c b w) P h dv fd at a e =
      let t = passing b (run code bytes w dv fd at) (fault c dv) a e in
      stands w P (h t.0) dv fd at a t.1

-- the bytes of a field in binary, where a point in bits counts one
abbrev field_size : Field → ℕ
field_size (num size v) = size
field_size (pair w d) = 2
field_size (dev d i) = 4
field_size (vals vs) = length vs * 2
field_size (halves vs) = length vs

abbrev fields_size : List Field → ℕ
fields_size [] = 0
fields_size (f ∷ fs) = field_size f + fields_size fs

-- in either code a field takes at most twice that
field_short : (code : Code) (f : Field) → length (write_field code f) ≤ 2 * field_size f
field_short Binary (num size v) = omega (arith, length_encode Binary size v)
field_short Binary (pair w d) = omega arith
field_short Binary (dev d i) = omega (arith, length_device Binary d i)
field_short Binary (vals vs) = omega (arith, length_values Binary 2 vs)
field_short Binary (halves vs) = omega (arith, length_bits_bytes Binary vs)
field_short Ascii (num size v) = omega (arith, length_encode Ascii size v)
field_short Ascii (pair w d) = omega arith
field_short Ascii (dev d i) = omega (arith, length_device Ascii d i)
field_short Ascii (vals vs) = omega (arith, length_values Ascii 2 vs)
field_short Ascii (halves vs) = omega (arith, length_bits_bytes Ascii vs)

fields_short : (code : Code) (fs : List Field) → length (write code fs) ≤ 2 * fields_size fs
fields_short code [] = omega arith
fields_short code (f ∷ fs) = omega (arith, length-append (write_field code f) (write code fs), field_short code f, fields_short code fs)

-- the entries of a list
module _ {X : Type 0} (f : X → List Field → List Field) where
  chain_size : (k : ℕ) → ((x : X) (fs : List Field) → fields_size (f x fs) ≡ k + fields_size fs) → (xs : List X) (fs : List Field) → fields_size (chain f xs fs) ≡ length xs * k + fields_size fs
  chain_size k one [] fs = omega arith
  chain_size k one (x ∷ xs) fs = omega (arith, one x (chain f xs fs), chain_size k one xs fs, suc-mul (length xs) k)

  each_chain : (Q : X → Type 0) → ((x : X) (fs : List Field) → Q x → Each FieldFits fs → Each FieldFits (f x fs)) → (xs : List X) (fs : List Field) → Each Q xs → Each FieldFits fs → Each FieldFits (chain f xs fs)
  each_chain Q one [] fs qs h = h
  each_chain Q one (x ∷ xs) fs qs h = one x (chain f xs fs) qs.0 (each_chain Q one xs fs qs.1 h)

-- a number within the width of its device's field in both codes
abbrev InBoth : Device → ℕ → Type 0
InBoth d i = (code : Code) → i < number_limit code d

digits_wide : (t : Notation) → 65535 < base t ^ 6
digits_wide Decimal = lit< tt
digits_wide Hexadecimal = lit< tt

in_both : (d : Device) (i : ℕ) → i < 65536 → InBoth d i
in_both d i h Binary = omega arith
in_both d i h Ascii = omega (arith, digits_wide (notation_of d))

points_pos : (k : Kind) (n : ℕ) → 1 ≤ n → 1 ≤ points k n
points_pos Bit n h = omega arith
points_pos Word n h = h

-- the fields are those of a request of this command, which is within the widths and the length limit of both codes
record Asks (c : Command) (fs : List Field) (a : Asked) : Type 0 where
  pub is : fs ≡ fields a
  pub command-is : command a ≡ c
  pub fits : FitsBoth a
  pub short : fields_size (fields a) ≤ 4090

-- a list: its entries' fields stand one after the other
module _ {X A : Type 0} (code : Code) (e : (X → Walk A) → Walk A) (f : X → List Field → List Field) (Q : X → Type 0)
    (one : (k : X → Walk A) (P : List Field → A → Type 0) → ((x : X) → Q x → Writes code (k x) (λ fs. P (f x fs))) → Writes code (e k) P) where
  writes_list : (n : ℕ) (k : List X → Walk A) (P : List Field → A → Type 0) → ((xs : List X) → length xs ≡ n → Each Q xs → Writes code (k xs) (λ fs. P (chain f xs fs))) → Writes code (list e n k) P
  writes_list zero k P h = h [] refl tt
  writes_list (suc n) k P h =
      one (λ x. list e n (λ xs. k (x ∷ xs))) P (λ x q. writes_list n (λ xs. k (x ∷ xs)) (λ fs. P (f x fs)) (λ xs l qs. h (x ∷ xs) (ap suc l) (q, qs)))

-- an access whose number is within both codes, and a setting whose value has `size` bytes
abbrev AccessFits : Access → Type 0
AccessFits e = InBoth e.0 e.1

abbrev SettingFits : ℕ → Setting → Type 0
SettingFits size e = InBoth e.0.0 e.0.1 × (e.1 < 256 ^ size)

accesses_fit : (xs : List Access) (fs : List Field) → Each AccessFits xs → Each FieldFits fs → Each FieldFits (chain access_fields xs fs)
accesses_fit = each_chain access_fields AccessFits (λ x fs q h. (q, h))

settings_fit : (size : ℕ) (xs : List Setting) (fs : List Field) → Each (SettingFits size) xs → Each FieldFits fs → Each FieldFits (chain (setting_fields size) xs fs)
settings_fit size = each_chain (setting_fields size) (SettingFits size) (λ x fs q h. (q.0, (q.1, h)))

accesses_size : (xs : List Access) (fs : List Field) → fields_size (chain access_fields xs fs) ≡ length xs * 4 + fields_size fs
accesses_size = chain_size access_fields 4 (λ x fs. refl)

settings_size : (size : ℕ) (xs : List Setting) (fs : List Field) → fields_size (chain (setting_fields size) xs fs) ≡ length xs * (4 + size) + fields_size fs
settings_size size = chain_size (setting_fields size) (4 + size) (λ x fs. omega arith)

-- the two lists of a random read or a registration
random_fits : (ws ds : List Access) → length ws < 256 → length ds < 256 → Each AccessFits ws → Each AccessFits ds
    → Each FieldFits (pair (length ws) (length ds) ∷ chain access_fields ws (chain access_fields ds []))
random_fits ws ds hw hd qs rs = ((hw, hd), accesses_fit ws (chain access_fields ds []) qs (accesses_fit ds [] rs tt))

random_short : (ws ds : List Access) → length ws + length ds ≤ 192 → fields_size (pair (length ws) (length ds) ∷ chain access_fields ws (chain access_fields ds [])) ≤ 4090
random_short ws ds h = omega (arith, accesses_size ws (chain access_fields ds []), accesses_size ds [])

same_pair : (w d w' d' : ℕ) (fs : List Field) → w' ≡ w → d' ≡ d → ◌≡◌ {A = List Field} (pair w d ∷ fs) (pair w' d' ∷ fs)
same_pair w d w' d' fs l k = λ i. pair (sym l i) (sym k i) ∷ fs

module _ (m : Meaning) (small : (d : Device) → m.extent d ≤ extent_limit d) (code : Code) where
  span : (d : Device) (i n : ℕ) → 1 ≤ n → within m d i n ≡ true → InBoth d i
  span d i n pos h =
      let l = leb-true (i + n) (m.extent d) h in
      in_both d i (omega (arith, small d))

  word_span : (d : Device) (i n : ℕ) → 1 ≤ n → words_within m d i n ≡ true → InBoth d i
  word_span d i n pos h = span d i (points (kind_of d) n) (points_pos (kind_of d) n pos) h

  module _ {A : Type 0} where
    accesses : (width n : ℕ) → 1 ≤ width → (k : List Access → Walk A) (P : List Field → A → Type 0)
        → ((xs : List Access) → length xs ≡ n → Each AccessFits xs → Writes code (k xs) (λ fs. P (chain access_fields xs fs))) → Writes code (list (access m width) n k) P
    accesses width n pos = writes_list code (access m width) access_fields AccessFits (λ k P h d i hi p. h (d, i) (word_span d i width pos p)) n

    settings : (width n : ℕ) → 1 ≤ width → (k : List Setting → Walk A) (P : List Field → A → Type 0)
        → ((xs : List Setting) → length xs ≡ n → Each (SettingFits (2 * width)) xs → Writes code (k xs) (λ fs. P (chain (setting_fields (2 * width)) xs fs))) → Writes code (list (setting m width) n k) P
    settings width n pos =
        writes_list code (setting m width) (setting_fields (2 * width)) (SettingFits (2 * width)) (λ k P h d i hi p q v hv. h ((d, i), v) (word_span d i width pos p, hv)) n

    bit_settings : (n : ℕ) (k : List Setting → Walk A) (P : List Field → A → Type 0)
        → ((xs : List Setting) → length xs ≡ n → Each (SettingFits 1) xs → Writes code (k xs) (λ fs. P (chain (setting_fields 1) xs fs))) → Writes code (list (bit_setting m) n k) P
    bit_settings n = writes_list code (bit_setting m) (setting_fields 1) (SettingFits 1) (λ k P h d i hi p q r v hv s. h ((d, i), v) (span d i 1 (omega arith) q, hv)) n

  -- one or two lines for each command
  asks : (c : Command) → Writes code (walk m c) (Asks c)
  asks ReadBits = λ d i hi p n hn q r. record { is = refl; command-is = refl; fits = (span d i n (range 1 n 3584 q).0 r, (hn, tt)); short = omega arith }
  asks ReadWords = λ d i hi n hn q r. record { is = refl; command-is = refl; fits = (word_span d i n (range 1 n 960 q).0 r, (hn, tt)); short = omega arith }
  asks WriteBits = λ d i hi p n hn q r s vs l low t.
      let b = range 1 n 3584 q in
      record { is = ap (λ k. dev d i ∷ num 2 k ∷ halves vs ∷ []) (sym l); command-is = refl; fits = (span d i n b.0 r, (rw l hn, (low, tt))); short = omega (arith, l, b.1) }
  asks WriteWords = λ d i hi n hn q r s vs l low.
      let b = range 1 n 960 q in
      record { is = ap (λ k. dev d i ∷ num 2 k ∷ vals vs ∷ []) (sym l); command-is = refl; fits = (word_span d i n b.0 r, (rw l hn, (low, tt))); short = omega (arith, l, b.1) }
  asks RandomRead = λ w d hw hd p. accesses 1 w (omega arith) _ _ (λ ws l qs. accesses 2 d (omega arith) _ _ (λ ds k rs.
      record { is = same_pair w d (length ws) (length ds) _ l k; command-is = refl; fits = random_fits ws ds (rw l hw) (rw k hd) qs rs; short = random_short ws ds (omega (arith, l, k, (range 1 (w + d) 192 p).1)) }))
  asks Register = λ w d hw hd p. accesses 1 w (omega arith) _ _ (λ ws l qs. accesses 2 d (omega arith) _ _ (λ ds k rs.
      record { is = same_pair w d (length ws) (length ds) _ l k; command-is = refl; fits = random_fits ws ds (rw l hw) (rw k hd) qs rs; short = random_short ws ds (omega (arith, l, k, (range 1 (w + d) 192 p).1)) }))
  asks Monitor = record { is = refl; command-is = refl; fits = tt; short = omega arith }
  asks RandomBits = λ n hn p. bit_settings n _ _ (λ vs l qs.
      record { is = ap (λ k. num 1 k ∷ chain (setting_fields 1) vs []) (sym l); command-is = refl; fits = (rw l hn, settings_fit 1 vs [] qs tt); short = omega (arith, l, (range 1 n 188 p).1, settings_size 1 vs []) })
  asks RandomWrite = λ w d hw hd p. settings 1 w (omega arith) _ _ (λ ws l qs. settings 2 d (omega arith) _ _ (λ ds k rs.
      let b = range 1 (12 * w + 14 * d) 1920 p in
      record {
        is = same_pair w d (length ws) (length ds) _ l k;
        command-is = refl;
        fits = ((rw l hw, rw k hd), settings_fit 2 ws (chain (setting_fields 4) ds []) qs (settings_fit 4 ds [] rs tt));
        short = omega (arith, l, k, b.1, settings_size 2 ws (chain (setting_fields 4) ds []), settings_size 4 ds []);
      }))

-- the length limit of either code
all_short : (fs : List Field) → fields_size fs ≤ 4090 → (code : Code) → 6 * per_byte code + length (write code fs) ≤ 8192
all_short fs h Binary = omega (arith, fields_short Binary fs)
all_short fs h Ascii = omega (arith, fields_short Ascii fs)

-- the data of a frame is the writing of a request, whose command is served, and which is within the widths and the length limit of both codes
pub record IsAsked (code : Code) (flag : Bool) (h : Header) (frame : List ℕ) (a : Asked) : Type 0 where
  pub is : drop h.data_at frame ≡ writing code a
  pub served : command_of h.command h.subcommand flag ≡ Ok (command a)
  pub fits : FitsBoth a
  pub short : (code' : Code) → 6 * per_byte code' + length (writing code' a) ≤ 8192

asked_of : (code : Code) (flag : Bool) (h : Header) (frame : List ℕ) (c : Command) (a : Asked) → command_of h.command h.subcommand flag ≡ Ok c → Stands code frame h.data_at (Asks c) a → IsAsked code flag h frame a
asked_of code flag h frame c a e s =
    record { is = s.is ∙ ap (write code) s.such.is; served = e ∙ ap Ok (sym s.such.command-is); fits = s.such.fits; short = all_short (fields a) s.such.short }

-- a request that was accepted is written in the frame
pub request_exact : (code : Code) (m : Meaning) (flag : Bool) (h : Header) (frame : List ℕ) (a : Asked) → AllBytes frame → ((d : Device) → m.extent d ≤ extent_limit d)
    → request_in code m flag h frame ≡ Ok a → IsAsked code flag h frame a
request_exact code m flag h frame a all small e = go (command_of h.command h.subcommand flag) refl e
  where
    go : (r : Result Command Cause) → command_of h.command h.subcommand flag ≡ r → judged_by code m h frame r ≡ Ok a → IsAsked code flag h frame a
    go (Ok c) f g = asked_of code flag h frame c a f (stands code frame all (walk m c) (Asks c) (asks m small code c) h.data_at h.data_at h.data_at a g)
    go (Err c) f g = cc

-- A frame that passes the tests is the writing of a request frame, with what its header says.
use Rattle.std.proofs.Common.{◌≡◌, ℕ, ◌+◌, ◌-◌, ◌*◌, ◌^◌, ◌<◌, ◌≤◌, Bool, true, false, cond, ◌&&◌, eqb, leb, ltb, List, [], ◌∷◌, ◌++◌, length, take, drop, Ok, Err, Result, sym, refl, ap, ◌∙◌, subst, append_assoc, arith, length-drop, drop-drop, ltb-false, leb-true}
use Rattle.std.proofs.lemmas.Bool.{eqb-true, and_parts}
use Rattle.std.proofs.lemmas.List.{take-append-drop, length-take-le}
use Rattle.wire.specs.declared.code.Code.{Code}
use Rattle.wire.specs.declared.code.FieldFault.{FieldFault}
use Rattle.wire.specs.declared.series.Number.{Number}
use Rattle.wire.specs.Numbers.{per_byte, number_in, encode, AllBytes}
use Rattle.wire.specs.Series.{series_bytes}
use Rattle.wire.proofs.RoundTrip.{number_used}
use Rattle.wire.proofs.Exact.{bytes_behind, after, same_ok, passing, number_exact}
use Rattle.frame.specs.declared.fault.Cause.TheVariants.{NoReplySpace, Incomplete, BadSubheader, BadLength, NonZero}
use Rattle.frame.specs.Faults.{fault}
use Rattle.frame.specs.declared.header.Form.{Form}
use Rattle.frame.specs.declared.header.Form.TheVariants.{ThreeE, FourE}
use Rattle.frame.specs.declared.header.Header.{Header}
use Rattle.frame.specs.declared.header.Lead.{Lead}
use Rattle.frame.specs.declared.header.Route.{Route}
use Rattle.frame.specs.Headers.{placed, number_at, first_two, form_in, lead_bytes, serial_at, route_at, lead_at, frame_size, call_at, fields_at, tested}
use Rattle.frame.specs.Replies.{one, two, route_numbers}
use Rattle.frame.specs.Written.{IsWritten, Front, call_numbers, front_numbers, serial_of}

-- what was read at a place was read from there
unplaced : {X : Type 0} (present at : ℕ) (x : Result X FieldFault) (a : X) → placed present at x ≡ Ok a → x ≡ Ok a
unplaced present at (Ok x) a e = cc
unplaced present at (Err f) a e = cc

-- a number stands from `at` on, within its width
record Here (code : Code) (xs : List ℕ) (at size : ℕ) (a : ℕ × ℕ) : Type 0 where
  pub is : drop at xs ≡ encode code size a.0 ++ drop (at + a.1) xs
  pub below : a.0 < 256 ^ size
  pub used : a.1 ≡ size * per_byte code

-- numbers stand from `at` to `end`
record Stands (code : Code) (xs : List ℕ) (ns : List Number) (at end : ℕ) : Type 0 where
  pub is : drop at xs ≡ series_bytes code ns ++ drop end xs

module _ (code : Code) (xs : List ℕ) (bytes : AllBytes xs) where
  here_in : (at size : ℕ) (a : ℕ × ℕ) → number_in code size (drop at xs) ≡ Ok a → Here code xs at size a
  here_in at size a e =
      let n = number_exact code size (drop at xs) a (bytes_behind at xs bytes) e in
      let used = number_used code size (drop at xs) a e in
      record { is = n.is ∙ ap (λ ys. encode code size a.0 ++ ys) (drop-drop (size * per_byte code) at xs ∙ ap (λ k. drop (at + k) xs) (sym used)); below = n.below; used = used }

  here : (at size : ℕ) (a : ℕ × ℕ) → number_at code xs at size ≡ Ok a → Here code xs at size a
  here at size a e = here_in at size a (unplaced (length xs) at (number_in code size (drop at xs)) a e)

  -- a number in front of others
  in_front : (at size end : ℕ) (a : ℕ × ℕ) (ns : List Number) → Here code xs at size a → Stands code xs ns (at + a.1) end → Stands code xs (record { size = size; value = a.0 } ∷ ns) at end
  in_front at size end a ns x s =
      record { is = x.is ∙ ap (λ ys. encode code size a.0 ++ ys) s.is ∙ sym (append_assoc (encode code size a.0) (series_bytes code ns) (drop end xs)) }

  nothing : (at : ℕ) → Stands code xs [] at at
  nothing at = record { is = refl }

-- a route stands from `at` on, within its widths
record HereRoute (code : Code) (xs : List ℕ) (at : ℕ) (r : Route × ℕ) : Type 0 where
  pub stands : (ns : List Number) (end : ℕ) → Stands code xs ns r.1 end → Stands code xs (route_numbers r.0 ns) at end
  pub used : r.1 ≡ at + 5 * per_byte code
  pub network : r.0.network < 256
  pub pc : r.0.pc < 256
  pub module_io : r.0.module_io < 65536
  pub station : r.0.station < 256

-- what stands before the route
abbrev start_numbers : Form → ℕ → List Number → List Number
start_numbers ThreeE serial ns = one 0x50 ∷ one 0 ∷ ns
start_numbers FourE serial ns = one 0x54 ∷ one 0 ∷ two serial ∷ two 0 ∷ ns

-- the first number of a form's subheader; the second is 0
abbrev start_number : Form → ℕ
start_number ThreeE = 0x50
start_number FourE = 0x54

-- a subheader names a form
record Named (r : Result (ℕ × ℕ) FieldFault) (form : Form) : Type 0 where
  pub pair : ℕ × ℕ
  pub was : r ≡ Ok pair
  pub first : pair.0 ≡ start_number form
  pub second : pair.1 ≡ 0

two_numbers : (a b u v : ℕ) → (eqb a u && eqb b v) ≡ true → (a ≡ u) × (b ≡ v)
two_numbers a b u v e = let t = and_parts (eqb a u) (eqb b v) e in (eqb-true a u t.0, eqb-true b v t.1)

form_named : (r : Result (ℕ × ℕ) FieldFault) (form : Form) → form_in r ≡ Ok form → Named r form
form_named (Err e) form h = cc
form_named (Ok p) form h = go (eqb p.0 0x50 && eqb p.1 0) (eqb p.0 0x54 && eqb p.1 0) refl refl h
  where
    go : (b c : Bool) → (eqb p.0 0x50 && eqb p.1 0) ≡ b → (eqb p.0 0x54 && eqb p.1 0) ≡ c → cond b (Ok ThreeE) (cond c (Ok FourE) (Err (fault BadSubheader 0))) ≡ Ok form → Named (Ok p) form
    go true c e f h = let t = two_numbers p.0 p.1 0x50 0 e in subst (Named (Ok p)) (same_ok ThreeE form h) (record { pair = p; was = refl; first = t.0; second = t.1 })
    go false true e f h = let t = two_numbers p.0 p.1 0x54 0 f in subst (Named (Ok p)) (same_ok FourE form h) (record { pair = p; was = refl; first = t.0; second = t.1 })
    go false false e f h = cc

-- the subheader, and in 4E a serial and a zero word, stand at the front
record Starts (code : Code) (xs : List ℕ) (form : Form) (s : ℕ × ℕ × ℕ) : Type 0 where
  pub stands : (ns : List Number) (end : ℕ) → Stands code xs ns s.2 end → Stands code xs (start_numbers form s.0 ns) 0 end
  pub used : s.2 + 7 * per_byte code ≡ lead_bytes form * per_byte code
  pub serial : s.0 < 65536
  pub kept : (f : Front) → f.serial ≡ s.0 → serial_of form f ≡ s.0

module _ (code : Code) (xs : List ℕ) (bytes : AllBytes xs) where
  route_of : (at : ℕ) (a b c d : ℕ × ℕ) → Here code xs at 1 a → Here code xs (at + a.1) 1 b → Here code xs (at + a.1 + b.1) 2 c → Here code xs (at + a.1 + b.1 + c.1) 1 d
      → HereRoute code xs at (record { network = a.0; pc = b.0; module_io = c.0; station = d.0 }, at + a.1 + b.1 + c.1 + d.1)
  route_of at a b c d x y z w = record {
    stands = λ ns end s.
        let s4 = in_front code xs bytes (at + a.1 + b.1 + c.1) 1 end d ns w s in
        let s3 = in_front code xs bytes (at + a.1 + b.1) 2 end c (one d.0 ∷ ns) z s4 in
        let s2 = in_front code xs bytes (at + a.1) 1 end b (two c.0 ∷ one d.0 ∷ ns) y s3 in
        in_front code xs bytes at 1 end a (one b.0 ∷ two c.0 ∷ one d.0 ∷ ns) x s2;
    used = omega (arith, x.used, y.used, z.used, w.used);
    network = x.below;
    pc = y.below;
    module_io = z.below;
    station = w.below;
  }

  route_exact : (at : ℕ) (r : Route × ℕ) → route_at code xs at ≡ Ok r → HereRoute code xs at r
  route_exact at r e =
      after (number_at code xs at 1) _ r e
      (λ a ea h. after (number_at code xs (at + a.1) 1) _ r h
      (λ b eb h. after (number_at code xs (at + a.1 + b.1) 2) _ r h
      (λ c ec h. after (number_at code xs (at + a.1 + b.1 + c.1) 1) _ r h
      (λ d ed h. subst (HereRoute code xs at) (same_ok _ r h)
      (route_of at a b c d (here code xs bytes at 1 a ea) (here code xs bytes (at + a.1) 1 b eb) (here code xs bytes (at + a.1 + b.1) 2 c ec) (here code xs bytes (at + a.1 + b.1 + c.1) 1 d ed))))))

  -- a subheader that names a form
  start_of : (u end : ℕ) (a b : ℕ × ℕ) (ns : List Number) → Here code xs 0 1 a → Here code xs a.1 1 b → a.0 ≡ u → b.0 ≡ 0 → Stands code xs ns (2 * per_byte code) end → Stands code xs (one u ∷ one 0 ∷ ns) 0 end
  start_of u end a b ns x y first second s =
      let behind : 2 * per_byte code ≡ a.1 + b.1 = omega (arith, x.used, y.used) in
      let zero_plus : a.1 ≡ 0 + a.1 = omega arith in
      let s2 = in_front code xs bytes a.1 1 end b ns y (subst (λ k. Stands code xs ns k end) behind s) in
      let s1 = in_front code xs bytes 0 1 end a (one b.0 ∷ ns) x (subst (λ k. Stands code xs (one b.0 ∷ ns) k end) zero_plus s2) in
      subst (λ v. Stands code xs (one u ∷ one v ∷ ns) 0 end) second (subst (λ v. Stands code xs (one v ∷ one b.0 ∷ ns) 0 end) first s1)

  start_two : (u end : ℕ) (p : ℕ × ℕ) (ns : List Number) → first_two code xs ≡ Ok p → p.0 ≡ u → p.1 ≡ 0 → Stands code xs ns (2 * per_byte code) end → Stands code xs (one u ∷ one 0 ∷ ns) 0 end
  start_two u end p ns e eu ez s =
      after (number_in code 1 (drop 0 xs)) _ p e
      (λ a ea h. after (number_in code 1 (drop a.1 xs)) _ p h
      (λ b eb h. let same = same_ok (a.0, b.0) p h in
      start_of u end a b ns (here_in code xs bytes 0 1 a ea) (here_in code xs bytes a.1 1 b eb) (ap (λ (q : ℕ × ℕ). q.0) same ∙ eu) (ap (λ (q : ℕ × ℕ). q.1) same ∙ ez) s))

  starts_of : (s z : ℕ × ℕ) (p : ℕ × ℕ) → first_two code xs ≡ Ok p → p.0 ≡ 0x54 → p.1 ≡ 0 → Here code xs (2 * per_byte code) 2 s → Here code xs (2 * per_byte code + s.1) 2 z → z.0 ≡ 0
      → Starts code xs FourE (s.0, z.0, 2 * per_byte code + s.1 + z.1)
  starts_of s z p e eu ez x y zero-is = record {
    stands = λ ns end st.
        let at = 2 * per_byte code in
        let s2 = in_front code xs bytes (at + s.1) 2 end z ns y st in
        let s1 = in_front code xs bytes at 2 end s (two z.0 ∷ ns) x s2 in
        start_two 0x54 end p (two s.0 ∷ two 0 ∷ ns) e eu ez (subst (λ v. Stands code xs (two s.0 ∷ two v ∷ ns) at end) zero-is s1);
    used = omega (arith, x.used, y.used);
    serial = x.below;
    kept = λ f same. same;
  }

  starts : (form : Form) (s : ℕ × ℕ × ℕ) → Named (first_two code xs) form → serial_at code form xs ≡ Ok s → s.1 ≡ 0 → Starts code xs form s
  starts ThreeE s n e zero-is =
      subst (Starts code xs ThreeE) (same_ok (0, 0, 2 * per_byte code) s e)
      (record { stands = λ ns end st. start_two 0x50 end n.pair ns n.was n.first n.second st; used = omega arith; serial = omega arith; kept = λ f same. refl })
  starts FourE t n e zero-is =
      after (number_at code xs (2 * per_byte code) 2) _ t e
      (λ s es h. after (number_at code xs (2 * per_byte code + s.1) 2) _ t h
      (λ z ez h. let same = same_ok (s.0, z.0, 2 * per_byte code + s.1 + z.1) t h in
      subst (Starts code xs FourE) same
      (starts_of s z n.pair n.was n.first n.second (here code xs bytes (2 * per_byte code) 2 s es) (here code xs bytes (2 * per_byte code + s.1) 2 z ez) (ap (λ (q : ℕ × ℕ × ℕ). q.1) same ∙ zero-is))))

-- what stands before the timer is what a lead says
record Leads (code : Code) (xs : List ℕ) (l : Lead) : Type 0 where
  pub stands : (ns : List Number) (end : ℕ) → Stands code xs ns l.timer_at end → Stands code xs (start_numbers l.form l.serial (route_numbers l.route (two l.length ∷ ns))) 0 end
  pub used : l.timer_at ≡ lead_bytes l.form * per_byte code
  pub serial : l.serial < 65536
  pub kept : (f : Front) → f.serial ≡ l.serial → serial_of l.form f ≡ l.serial
  pub network : l.route.network < 256
  pub pc : l.route.pc < 256
  pub module_io : l.route.module_io < 65536
  pub station : l.route.station < 256

-- the tests of a lead passed
record Sized (code : Code) (present : ℕ) (l : Lead) (size : ℕ) : Type 0 where
  pub zero-is : l.zero ≡ 0
  pub low : 6 * per_byte code ≤ l.length
  pub high : l.length ≤ 8192
  pub there : l.timer_at + l.length ≤ present
  pub is : size ≡ l.timer_at + l.length

sized : (code : Code) (present : ℕ) (l : Lead) (size : ℕ) → frame_size code present l ≡ Ok size → Sized code present l size
sized code present l size e =
    let a = passing (eqb l.zero 0) _ (fault NonZero (4 * per_byte code)) size e in
    let b = passing (leb (6 * per_byte code) l.length && leb l.length 8192) _ (fault BadLength l.length_at) size a.1 in
    let c = passing (leb (l.timer_at + l.length) present) _ (fault Incomplete present) size b.1 in
    let r = and_parts (leb (6 * per_byte code) l.length) (leb l.length 8192) b.0 in
    record {
      zero-is = eqb-true l.zero 0 a.0;
      low = leb-true (6 * per_byte code) l.length r.0;
      high = leb-true l.length 8192 r.1;
      there = leb-true (l.timer_at + l.length) present c.0;
      is = sym (same_ok (l.timer_at + l.length) size c.1);
    }

module _ (code : Code) (xs : List ℕ) (bytes : AllBytes xs) where
  abbrev lead : Form → ℕ × ℕ × ℕ → Route × ℕ → ℕ × ℕ → Lead
  lead form s r n = record { form = form; serial = s.0; zero = s.1; route = r.0; length_at = r.1; length = n.0; timer_at = r.1 + n.1 }

  leads_of : (form : Form) (s : ℕ × ℕ × ℕ) (r : Route × ℕ) (n : ℕ × ℕ) → Starts code xs form s → HereRoute code xs s.2 r → Here code xs r.1 2 n → Leads code xs (lead form s r n)
  leads_of form s r n x y z = record {
    stands = λ ns end st. x.stands (route_numbers r.0 (two n.0 ∷ ns)) end (y.stands (two n.0 ∷ ns) end (in_front code xs bytes r.1 2 end n ns z st));
    used = omega (arith, x.used, y.used, z.used);
    serial = x.serial;
    kept = x.kept;
    network = y.network;
    pc = y.pc;
    module_io = y.module_io;
    station = y.station;
  }

  leads : (form : Form) (l : Lead) → Named (first_two code xs) form → lead_at code form xs ≡ Ok l → l.zero ≡ 0 → Leads code xs l
  leads form l named e zero-is =
      after (serial_at code form xs) _ l e
      (λ s es h. after (route_at code xs s.2) _ l h
      (λ r er h. after (number_at code xs r.1 2) _ l h
      (λ n en h. let same = same_ok (lead form s r n) l h in
      subst (Leads code xs) same
      (leads_of form s r n (starts code xs bytes form s named es (ap (λ (q : Lead). q.zero) same ∙ zero-is)) (route_exact code xs bytes s.2 r er) (here code xs bytes r.1 2 n en)))))

same_start : (form : Form) (f : Front) (n c s : ℕ) → start_numbers form f.serial (call_numbers f n c s) ≡ front_numbers form f n c s
same_start ThreeE f n c s = refl
same_start FourE f n c s = refl

module _ (code : Code) (xs : List ℕ) (bytes : AllBytes xs) where
  -- the header after a lead
  abbrev header : Lead → ℕ × ℕ → ℕ × ℕ → ℕ × ℕ → ℕ → Header
  header l t c s size = record {
    form = l.form;
    serial = l.serial;
    route = l.route;
    timer = t.0;
    command = c.0;
    subcommand = s.0;
    command_at = l.timer_at + t.1;
    data_at = l.timer_at + t.1 + c.1 + s.1;
    size = size;
  }

  written_of : (l : Lead) (t c s : ℕ × ℕ) (size : ℕ) → Leads code xs l → Sized code (length xs) l size
      → Here code xs l.timer_at 2 t → Here code xs (l.timer_at + t.1) 2 c → Here code xs (l.timer_at + t.1 + c.1) 2 s → IsWritten code xs (header l t c s size)
  written_of l t c s size lead z x y w =
      let p = per_byte code in
      let f : Front = record { form = l.form; serial = l.serial; route = l.route; timer = t.0 } in
      let at = l.timer_at + t.1 + c.1 + s.1 in
      let behind = drop at xs in
      let k = l.length - 6 * p in
      let ys = take k behind in
      let rest = drop k behind in
      let six : at ≡ l.timer_at + 6 * p = omega (arith, x.used, y.used, w.used) in
      let room : k ≤ length behind = rw (length-drop at xs) (omega (arith, z.there, z.low, six)) in
      let long : length ys ≡ k = length-take-le k behind room in
      let whole : l.length ≡ 6 * p + length ys = omega (arith, long, z.low) in
      let s3 = in_front code xs bytes (l.timer_at + t.1 + c.1) 2 at s [] w (nothing code xs bytes at) in
      let s2 = in_front code xs bytes (l.timer_at + t.1) 2 at c (two s.0 ∷ []) y s3 in
      let s1 = in_front code xs bytes l.timer_at 2 at t (two c.0 ∷ two s.0 ∷ []) x s2 in
      let s0 = lead.stands (two t.0 ∷ two c.0 ∷ two s.0 ∷ []) at s1 in
      let front : List ℕ = series_bytes code (front_numbers l.form f l.length c.0 s.0) in
      let e0 : l.serial ≡ serial_of l.form f = sym (lead.kept f refl) in
      let e1 : l.timer_at + t.1 ≡ lead_bytes l.form * p + 2 * p = omega (arith, x.used, lead.used) in
      let e2 : at ≡ lead_bytes l.form * p + 6 * p = omega (arith, six, lead.used) in
      let e3 : size ≡ lead_bytes l.form * p + (6 * p + length ys) = omega (arith, z.is, lead.used, whole) in
      record {
        front = f;
        fits = record { serial = lead.serial; network = lead.network; pc = lead.pc; module_io = lead.module_io; station = lead.station; timer = x.below };
        ys = ys;
        rest = rest;
        is = s0.is ∙ ap (λ ns. series_bytes code ns ++ behind) (same_start l.form f l.length c.0 s.0)
            ∙ ap (λ zs. front ++ zs) (sym (take-append-drop k behind)) ∙ sym (append_assoc front ys rest)
            ∙ ap (λ n. (series_bytes code (front_numbers l.form f n c.0 s.0) ++ ys) ++ rest) whole;
        head = λ i. record { form = l.form; serial = e0 i; route = l.route; timer = t.0; command = c.0; subcommand = s.0; command_at = e1 i; data_at = e2 i; size = e3 i };
      }

  call_written : (l : Lead) (size : ℕ) (h : Header) → Leads code xs l → Sized code (length xs) l size → call_at code xs l size ≡ Ok h → IsWritten code xs h
  call_written l size h lead z e =
      after (number_at code xs l.timer_at 2) _ h e
      (λ t et g. after (number_at code xs (l.timer_at + t.1) 2) _ h g
      (λ c ec g. after (number_at code xs (l.timer_at + t.1 + c.1) 2) _ h g
      (λ s es g. subst (IsWritten code xs) (same_ok (header l t c s size) h g)
      (written_of l t c s size lead z (here code xs bytes l.timer_at 2 t et) (here code xs bytes (l.timer_at + t.1) 2 c ec) (here code xs bytes (l.timer_at + t.1 + c.1) 2 s es)))))

  fields_written : (form : Form) (h : Header) → Named (first_two code xs) form → fields_at code form xs ≡ Ok h → IsWritten code xs h
  fields_written form h named e =
      after (lead_at code form xs) _ h e
      (λ l el g. after (frame_size code (length xs) l) _ h g
      (λ size es g. let z = sized code (length xs) l size es in
      call_written l size h (leads code xs bytes form l named el z.zero-is) z g))

-- a test that refuses did not
unrefused : {X E : Type 0} (b : Bool) (r : Result X E) (e : E) (x : X) → cond b (Err e) r ≡ Ok x → (b ≡ false) × (r ≡ Ok x)
unrefused true r e x h = cc
unrefused false r e x h = (refl, h)

-- a frame that passed the tests is written by the forms, and its reply space is no less than 4,096
pub tested_exact : (code : Code) (space : ℕ) (xs : List ℕ) (h : Header) → AllBytes xs → tested code space xs ≡ Ok h → IsWritten code xs h × (4096 ≤ space)
tested_exact code space xs h bytes e =
    let a = unrefused (ltb space 4096) _ (fault NoReplySpace 0) h e in
    let b = unrefused (ltb (length xs) (2 * per_byte code)) _ (fault Incomplete (length xs)) h a.1 in
    let written : IsWritten code xs h = after (form_in (first_two code xs)) _ h b.1
    (λ form named g. let c = unrefused (ltb (length xs) (lead_bytes form * per_byte code)) _ (fault Incomplete (length xs)) h g in
    fields_written code xs bytes form h (form_named (first_two code xs) form named) c.1) in
    (written, ltb-false space 4096 a.0)

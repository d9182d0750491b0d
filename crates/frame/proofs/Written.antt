-- A request frame that is written by the forms passes the tests, and its header says what was written.
use Rattle.std.proofs.Common.{◌≡◌, ℕ, ◌+◌, ◌*◌, ◌^◌, ◌<◌, ◌≤◌, List, ◌∷◌, ◌++◌, length, take, drop, Ok, Result, sym, refl, ap, ◌∙◌, subst, append_assoc, add-mul, arith, length-append, drop-drop, take_at, drop_at, le-ltb, le-leb}
use Rattle.wire.specs.declared.code.Code.{Code}
use Rattle.wire.specs.declared.series.Number.{Number}
use Rattle.wire.specs.Numbers.{per_byte, number_in, encode}
use Rattle.wire.specs.Series.{series_size, series_bytes}
use Rattle.wire.proofs.RoundTrip.{length_encode, number_back}
use Rattle.wire.proofs.Runs.{length_series}
use Rattle.frame.specs.declared.fault.Fault.{Fault}
use Rattle.frame.specs.declared.header.Form.{Form}
use Rattle.frame.specs.declared.header.Form.TheVariants.{ThreeE, FourE}
use Rattle.frame.specs.declared.header.Header.{Header}
use Rattle.frame.specs.Headers.{first_two, lead_bytes, serial_at, route_at, fields_at, tested}
use Rattle.frame.specs.Replies.{one, route_numbers}
use Rattle.frame.specs.Written.{Front, FrontFits, call_numbers, front_numbers, front_bytes, request_bytes, serial_of, header_of, TakenUp}

-- numbers stand from `at` on, with `tail` behind them
record Stands (code : Code) (bytes tail : List ℕ) (ns : List Number) (at : ℕ) : Type 0 where
  pub here : drop at bytes ≡ series_bytes code ns ++ tail

module _ {code : Code} {bytes tail : List ℕ} where
  parted : {n : Number} {ns : List Number} {at : ℕ} → Stands code bytes tail (n ∷ ns) at → drop at bytes ≡ encode code n.size n.value ++ (series_bytes code ns ++ tail)
  parted {n = n} {ns = ns} s = s.here ∙ append_assoc (encode code n.size n.value) (series_bytes code ns) tail

  -- the first is read there
  reads : {n : Number} {ns : List Number} {at : ℕ} → Stands code bytes tail (n ∷ ns) at → n.value < 256 ^ n.size → number_in code n.size (drop at bytes) ≡ Ok (n.value, n.size * per_byte code)
  reads {n = n} {ns = ns} s below = ap (number_in code n.size) (parted s) ∙ number_back code n.size n.value (series_bytes code ns ++ tail) below

  -- the others stand behind it
  next : {n : Number} {ns : List Number} {at : ℕ} → Stands code bytes tail (n ∷ ns) at → Stands code bytes tail ns (at + n.size * per_byte code)
  next {n = n} {ns = ns} {at = at} s =
      let k = n.size * per_byte code in
      record { here = sym (drop-drop k at bytes) ∙ ap (drop k) (parted s) ∙ drop_at (encode code n.size n.value) (series_bytes code ns ++ tail) k (length_encode code n.size n.value) }

  -- the same place by another sum
  moved : {ns : List Number} {at at' : ℕ} → at ≡ at' → Stands code bytes tail ns at → Stands code bytes tail ns at'
  moved e s = record { here = ap (λ k. drop k bytes) (sym e) ∙ s.here }

  first_two_back : {ns : List Number} (u : ℕ) → u < 256 → Stands code bytes tail (one u ∷ one 0 ∷ ns) 0 → first_two code bytes ≡ Ok (u, 0)
  first_two_back u below s =
      let e : 0 + 1 * per_byte code ≡ 1 * per_byte code = omega arith in
      rw (reads s below, reads (moved e (next s)) (omega arith))

-- a header by its form, its serial and the places of its parts
abbrev placed_at : Front → Form → ℕ → ℕ → ℕ → ℕ → ℕ → ℕ → Header
placed_at f form serial c s command-at data-at size =
    record { form = form; serial = serial; route = f.route; timer = f.timer; command = c; subcommand = s; command_at = command-at; data_at = data-at; size = size }

module _ {code : Code} {bytes tail : List ℕ} (f : Front) (fits : FrontFits f) where
  route_back : {ns : List Number} {at : ℕ} → Stands code bytes tail (route_numbers f.route ns) at
      → route_at code bytes at ≡ Ok (f.route, at + 1 * per_byte code + 1 * per_byte code + 2 * per_byte code + 1 * per_byte code)
  route_back s =
      let s1 = next s in
      let s2 = next s1 in
      let s3 = next s2 in
      rw (reads s fits.network, reads s1 fits.pc, reads s2 fits.module_io, reads s3 fits.station)

  -- what stands from the route on, which begins at `at`
  call_back : (form : Form) (serial n c s at lead : ℕ) → Stands code bytes tail (call_numbers f n c s) at → serial_at code form bytes ≡ Ok (serial, 0, at) → at + 7 * per_byte code ≡ lead
      → c < 65536 → s < 65536 → 6 * per_byte code ≤ n → n ≤ 8192 → lead + n ≤ length bytes
      → fields_at code form bytes ≡ Ok (placed_at f form serial c s (lead + 2 * per_byte code) (lead + 6 * per_byte code) (lead + n))
  call_back form serial n c s at lead s0 serial-is lead_is hc hs low high All-there =
      let p = per_byte code in
      let k = at + 1 * p + 1 * p + 2 * p + 1 * p in
      let s4 = next (next (next (next s0))) in
      let s5 = next s4 in
      let s6 = next s5 in
      let s7 = next s6 in
      let present : k + 2 * p + n ≤ length bytes = omega arith in
      let e1 : k + 2 * p + 2 * p ≡ lead + 2 * p = omega arith in
      let e2 : k + 2 * p + 2 * p + 2 * p + 2 * p ≡ lead + 6 * p = omega arith in
      let e3 : k + 2 * p + n ≡ lead + n = omega arith in
      rw (
        serial-is,
        route_back s0,
        reads s4 (omega arith),
        le-leb (6 * per_byte code) n low,
        le-leb n 8192 high,
        le-leb (k + 2 * p + n) (length bytes) present,
        reads s5 fits.timer,
        reads s6 hc,
        reads s7 hs,
      )
      (λ i. Ok (placed_at f form serial c s (e1 i) (e2 i) (e3 i)))

  by_form : (form : Form) (space n c s : ℕ) → Stands code bytes tail (front_numbers form f n c s) 0 → c < 65536 → s < 65536 → 6 * per_byte code ≤ n → n ≤ 8192
      → 4096 ≤ space → lead_bytes form * per_byte code + n ≤ length bytes
      → tested code space bytes ≡ Ok (placed_at f form (serial_of form f) c s (lead_bytes form * per_byte code + 2 * per_byte code) (lead_bytes form * per_byte code + 6 * per_byte code) (lead_bytes form * per_byte code + n))
  by_form ThreeE space n c s s0 hc hs low high room All-there =
      let p = per_byte code in
      let e1 : 0 + 1 * p + 1 * p ≡ 2 * p = omega arith in
      let e2 : 2 * p + 7 * p ≡ 9 * p = omega arith in
      rw (le-ltb space 4096 room, le-ltb (length bytes) (2 * p) (omega arith), first_two_back 0x50 (omega arith) s0, le-ltb (length bytes) (9 * p) (omega arith))
      (call_back ThreeE 0 n c s (2 * p) (9 * p) (moved e1 (next (next s0))) refl e2 hc hs low high All-there)
  by_form FourE space n c s s0 hc hs low high room All-there =
      let p = per_byte code in
      let e1 : 0 + 1 * p + 1 * p ≡ 2 * p = omega arith in
      let e2 : 2 * p + 2 * p + 2 * p + 7 * p ≡ 13 * p = omega arith in
      let s2 = moved e1 (next (next s0)) in
      let s3 = next s2 in
      let serial-is : serial_at code FourE bytes ≡ Ok (f.serial, 0, 2 * p + 2 * p + 2 * p) = rw (reads s2 fits.serial, reads s3 (omega arith)) in
      rw (le-ltb space 4096 room, le-ltb (length bytes) (2 * p) (omega arith), first_two_back 0x54 (omega arith) s0, le-ltb (length bytes) (13 * p) (omega arith))
      (call_back FourE f.serial n c s (2 * p + 2 * p + 2 * p) (13 * p) (next s3) serial-is e2 hc hs low high All-there)

front_size : (form : Form) (f : Front) (n c s : ℕ) → series_size (front_numbers form f n c s) ≡ lead_bytes form + 6
front_size ThreeE f n c s = refl
front_size FourE f n c s = refl

-- the data stands where the header says
pub length_front : (code : Code) (f : Front) (c s n : ℕ) → length (front_bytes code f c s n) ≡ (header_of code f c s n).data_at
length_front code f c s n =
    length_series code (front_numbers f.form f (6 * per_byte code + n) c s)
    ∙ ap (λ k. k * per_byte code) (front_size f.form f (6 * per_byte code + n) c s)
    ∙ add-mul (lead_bytes f.form) 6 (per_byte code)

-- the frame is as long as the header says
pub length_request : (code : Code) (f : Front) (c s : ℕ) (ys : List ℕ) → length (request_bytes code f c s ys) ≡ (header_of code f c s (length ys)).size
length_request code f c s ys = length-append (front_bytes code f c s (length ys)) ys ∙ omega (arith, length_front code f c s (length ys))

-- so the header cuts the frame off from what follows it
pub take_request : (code : Code) (f : Front) (c s : ℕ) (ys rest : List ℕ) → take (header_of code f c s (length ys)).size (request_bytes code f c s ys ++ rest) ≡ request_bytes code f c s ys
take_request code f c s ys rest = take_at (request_bytes code f c s ys) rest (header_of code f c s (length ys)).size (length_request code f c s ys)

pub taken_up : (code : Code) (space : ℕ) (xs : List ℕ) → TakenUp code space xs (tested code space xs)
taken_up code space xs = record {
  back = λ f c s ys rest fits hc hs short room is.
      let s0 : Stands code xs (ys ++ rest) (front_numbers f.form f (6 * per_byte code + length ys) c s) 0 = record { here = is ∙ append_assoc (front_bytes code f c s (length ys)) ys rest } in
      let long : length xs ≡ length (request_bytes code f c s ys) + length rest = ap length is ∙ length-append (request_bytes code f c s ys) rest in
      by_form f fits f.form space (6 * per_byte code + length ys) c s s0 hc hs (omega arith) short room (omega (arith, long, length_request code f c s ys));
}

pub so_taken_up : (code : Code) (space : ℕ) (xs : List ℕ) (r : Result Header Fault) → r ≡ tested code space xs → TakenUp code space xs r
so_taken_up code space xs r e = subst (TakenUp code space xs) (sym e) (taken_up code space xs)

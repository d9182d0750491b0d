-- The tests of a frame in their order, and what its header says.
-- Sizes are in bytes of the binary form; `per_byte` turns them into wire bytes.
use Rattle.std.specs.Prelude.{ℕ, ◌+◌, ◌*◌, cond, ◌&&◌, List, length, drop, Ok, Err, Result, ◌==◌, nat_le, nat_lt}
use Rattle.wire.specs.declared.code.Code.{Code}
use Rattle.wire.specs.declared.code.FieldFault.{FieldFault}
use Rattle.wire.specs.declared.code.FieldFault.TheVariants.{Missing, Unknown, Digit}
use Rattle.wire.specs.Numbers.{then, per_byte, number_in}
use Rattle.frame.specs.declared.fault.Cause.TheVariants.{NoReplySpace, Incomplete, BadSubheader, BadDigit, NonZero, BadLength}
use Rattle.frame.specs.declared.fault.Fault.{Fault}
use Rattle.frame.specs.declared.header.Form.{Form}
use Rattle.frame.specs.declared.header.Form.TheVariants.{ThreeE, FourE}
use Rattle.frame.specs.declared.header.Header.{Header}
use Rattle.frame.specs.declared.header.Lead.{Lead}
use Rattle.frame.specs.declared.header.Route.{Route}
use Rattle.frame.specs.Faults.{fault}

-- a field that is not there, or the first bad digit of the field at `at`, in a frame of `present` bytes (no number is unknown)
abbrev pub field_fault : ℕ → ℕ → FieldFault → Fault
field_fault present at Missing = fault Incomplete present
field_fault present at Unknown = fault BadDigit at
field_fault present at (Digit o) = fault BadDigit (at + o)

abbrev pub placed : {X : Type 0} → ℕ → ℕ → Result X FieldFault → Result X Fault
placed present at (Ok x) = Ok x
placed present at (Err e) = Err (field_fault present at e)

-- the number at `at`, and the wire bytes that it takes
abbrev pub number_at : Code → List ℕ → ℕ → ℕ → Result (ℕ × ℕ) Fault
number_at code xs at size = placed (length xs) at (number_in code size (drop at xs))

-- the subheader's two bytes, in the order in which they are sent
abbrev pub first_two : Code → List ℕ → Result (ℕ × ℕ) FieldFault
first_two code xs = then (number_in code 1 (drop 0 xs)) (λ a. then (number_in code 1 (drop a.1 xs)) (λ b. Ok (a.0, b.0)))

-- 50 00 is 3E, 54 00 is 4E, and anything else, a bad digit too, is a wrong subheader
abbrev pub form_in : Result (ℕ × ℕ) FieldFault → Result Form Fault
form_in (Ok p) =
    cond (p.0 == 0x50 && p.1 == 0) (Ok ThreeE)
    (cond (p.0 == 0x54 && p.1 == 0) (Ok FourE)
    (Err (fault BadSubheader 0)))
form_in (Err e) = Err (fault BadSubheader 0)

-- the fields up to the length: subheader 2, in 4E serial 2 and zero 2, route 5, length 2
abbrev pub lead_bytes : Form → ℕ
lead_bytes ThreeE = 9
lead_bytes FourE = 13

-- the serial, the zero word, and where the route begins
abbrev pub serial_at : Code → Form → List ℕ → Result (ℕ × ℕ × ℕ) Fault
serial_at code ThreeE xs = Ok (0, 0, 2 * per_byte code)
serial_at code FourE xs =
    then (number_at code xs (2 * per_byte code) 2) (λ s.
    then (number_at code xs (2 * per_byte code + s.1) 2) (λ z.
    Ok (s.0, z.0, 2 * per_byte code + s.1 + z.1)))

-- network 1, PC 1, module I/O 2, station 1; and where the next field begins
abbrev pub route_at : Code → List ℕ → ℕ → Result (Route × ℕ) Fault
route_at code xs at =
    then (number_at code xs at 1) (λ a.
    then (number_at code xs (at + a.1) 1) (λ b.
    then (number_at code xs (at + a.1 + b.1) 2) (λ c.
    then (number_at code xs (at + a.1 + b.1 + c.1) 1) (λ d.
    Ok (record { network = a.0; pc = b.0; module_io = c.0; station = d.0 }, at + a.1 + b.1 + c.1 + d.1)))))

abbrev pub lead_at : Code → Form → List ℕ → Result Lead Fault
lead_at code form xs =
    then (serial_at code form xs) (λ s.
    then (route_at code xs s.2) (λ r.
    then (number_at code xs r.1 2) (λ n.
    Ok (record { form = form; serial = s.0; zero = s.1; route = r.0; length_at = r.1; length = n.0; timer_at = r.1 + n.1 }))))

-- the size of the whole frame: the zero word is zero; the length, which counts wire bytes from the timer on, is 6 (in ASCII 12) to 8,192; and the frame is all there
abbrev pub frame_size : Code → ℕ → Lead → Result ℕ Fault
frame_size code present l =
    cond (l.zero == 0)
    (cond (nat_le (6 * per_byte code) l.length && nat_le l.length 8192)
    (cond (nat_le (l.timer_at + l.length) present) (Ok (l.timer_at + l.length)) (Err (fault Incomplete present)))
    (Err (fault BadLength l.length_at)))
    (Err (fault NonZero (4 * per_byte code)))

-- the timer, the command and the subcommand, with the places of the command and of the data
abbrev pub call_at : Code → List ℕ → Lead → ℕ → Result Header Fault
call_at code xs l size =
    then (number_at code xs l.timer_at 2) (λ t.
    then (number_at code xs (l.timer_at + t.1) 2) (λ c.
    then (number_at code xs (l.timer_at + t.1 + c.1) 2) (λ s.
    Ok (record {
      form = l.form;
      serial = l.serial;
      route = l.route;
      timer = t.0;
      command = c.0;
      subcommand = s.0;
      command_at = l.timer_at + t.1;
      data_at = l.timer_at + t.1 + c.1 + s.1;
      size = size;
    }))))

-- what follows the subheader
abbrev pub fields_at : Code → Form → List ℕ → Result Header Fault
fields_at code form xs = then (lead_at code form xs) (λ l. then (frame_size code (length xs) l) (λ size. call_at code xs l size))

-- the first test that a frame fails, or its header
abbrev pub tested : Code → ℕ → List ℕ → Result Header Fault
tested code space xs =
    cond (nat_lt space 4096) (Err (fault NoReplySpace 0))
    (cond (nat_lt (length xs) (2 * per_byte code)) (Err (fault Incomplete (length xs)))
    (then (form_in (first_two code xs)) (λ form.
    cond (nat_lt (length xs) (lead_bytes form * per_byte code)) (Err (fault Incomplete (length xs)))
    (fields_at code form xs))))

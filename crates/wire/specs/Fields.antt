-- A device field on the wire: a device and a number of three bytes.
use Rattle.std.specs.Prelude.{ℕ, ◌*◌, ◌^◌, cond, List, [], ◌∷◌, ◌++◌, length, drop, Ok, Err, Result, ok_or, nat_le, slice_index}
use Rattle.device.specs.declared.types.Device.{Device}
use Rattle.device.specs.Devices.{code_of, symbol_of, notation_of}
use Rattle.device.specs.Search.{device_by_code, device_by_symbol}
use Rattle.wire.specs.declared.code.Code.{Code}
use Rattle.wire.specs.declared.code.Code.TheVariants.{Binary, Ascii}
use Rattle.wire.specs.declared.code.FieldFault.{FieldFault}
use Rattle.wire.specs.declared.code.FieldFault.TheVariants.{Missing, Unknown}
use Rattle.wire.specs.Numbers.{then, per_byte, base, low_first, digits_run, low_bytes}
pub use Rattle.wire.specs.Numbers.{digit_chars}

-- the device of a field that is all there, in binary by its fourth byte, in ASCII by its first two characters; or the fault that there is none
abbrev pub device_named : Code → List ℕ → Result Device FieldFault
device_named Binary xs = ok_or (device_by_code (slice_index xs 3)) Unknown
device_named Ascii xs = ok_or (device_by_symbol (slice_index xs 0) (slice_index xs 1)) Unknown

-- the number of a field that is all there: in binary three bytes, in ASCII six digits in the device's notation
abbrev pub device_number : Code → Device → List ℕ → Result ℕ FieldFault
device_number Binary d xs = Ok (low_first 3 xs)
device_number Ascii d xs = digits_run (notation_of d) 6 2 0 (drop 2 xs)

-- the device field at the front: the device, the number, and the wire bytes that it takes; a bad digit's place counts from the front
abbrev pub device_in : Code → List ℕ → Result (Device × ℕ × ℕ) FieldFault
device_in code xs =
    cond (nat_le (4 * per_byte code) (length xs))
    (then (device_named code xs) (λ d. then (device_number code d xs) (λ n. Ok (d, n, 4 * per_byte code))))
    (Err Missing)

-- what is sent for a device field: in binary the number and the code, in ASCII the symbol and six digits in the device's notation
abbrev pub encode_device : Code → Device → ℕ → List ℕ
encode_device Binary d n = low_bytes 3 n ++ code_of d ∷ []
encode_device Ascii d n = symbol_of d ++ digit_chars (notation_of d) 6 n

-- one more than the largest number that a device's field can hold
abbrev pub number_limit : Code → Device → ℕ
number_limit Binary d = 2 ^ 24
number_limit Ascii d = base (notation_of d) ^ 6

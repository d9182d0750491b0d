-- The entries of a request's lists: in a frame, with their tests, and in a list that was tested.
use Rattle.std.specs.Prelude.{ℕ, ◌+◌, ◌*◌, cond, List, drop, Ok, Err, Result, nat_le}
use Rattle.device.specs.Devices.{kind_of}
use Rattle.memory.specs.Meaning.{Meaning}
use Rattle.wire.specs.declared.code.Code.{Code}
use Rattle.wire.specs.declared.code.FieldFault.{FieldFault}
use Rattle.wire.specs.Numbers.{then, number_in}
use Rattle.wire.specs.Fields.{device_in}
use Rattle.frame.specs.declared.fault.Cause.TheVariants.{OutsideExtent, WrongKind, ClosedPoint, BadValue}
use Rattle.frame.specs.declared.fault.Fault.{Fault}
use Rattle.frame.specs.Faults.{fault}
use Rattle.request.specs.Fields.{number_at, device_at}
use Rattle.request.specs.Limits.{is_bit, within, all_open, words_within, words_open}
use Rattle.request.specs.Requests.{Access, Setting}

-- an access of `width` words in a frame, tested, and the wire bytes that it takes
abbrev pub access_at : Code → Meaning → ℕ → List ℕ → ℕ → Result (Access × ℕ) Fault
access_at code m width bytes at =
    then (device_at code bytes at) (λ a. cond (words_within m a.0 a.1 width) (Ok ((a.0, a.1), a.2)) (Err (fault OutsideExtent at)))

-- an access at the front of a list
abbrev pub access_in : Code → List ℕ → Result (Access × ℕ) FieldFault
access_in code xs = then (device_in code xs) (λ a. Ok ((a.0, a.1), a.2))

-- a setting of `width` words in a frame, tested
abbrev pub setting_at : Code → Meaning → ℕ → List ℕ → ℕ → Result (Setting × ℕ) Fault
setting_at code m width bytes at =
    then (device_at code bytes at) (λ a.
    cond (words_within m a.0 a.1 width)
    (cond (words_open m a.0 a.1 width)
    (then (number_at code bytes (at + a.2) (2 * width)) (λ v. Ok (((a.0, a.1), v.0), a.2 + v.1)))
    (Err (fault ClosedPoint at)))
    (Err (fault OutsideExtent at)))

-- a setting of one point in bits in a frame, tested
abbrev pub bit_setting_at : Code → Meaning → List ℕ → ℕ → Result (Setting × ℕ) Fault
bit_setting_at code m bytes at =
    then (device_at code bytes at) (λ a.
    cond (is_bit (kind_of a.0))
    (cond (within m a.0 a.1 1)
    (cond (all_open m a.0 a.1 1)
    (then (number_at code bytes (at + a.2) 1) (λ v. cond (nat_le v.0 1) (Ok (((a.0, a.1), v.0), a.2 + v.1)) (Err (fault BadValue (at + a.2)))))
    (Err (fault ClosedPoint at)))
    (Err (fault OutsideExtent at)))
    (Err (fault WrongKind at)))

-- a setting with a value of `size` bytes at the front of a list
abbrev pub setting_in : Code → ℕ → List ℕ → Result (Setting × ℕ) FieldFault
setting_in code size xs =
    then (device_in code xs) (λ a. then (number_in code size (drop a.2 xs)) (λ v. Ok (((a.0, a.1), v.0), a.2 + v.1)))

-- The fields of a request's data, at their places in the frame.
-- A field is tested for presence, then for its digits, then for its value.
use Rattle.std.specs.Prelude.{◌≡◌, ℕ, zero, suc, ◌+◌, ◌*◌, ◌^◌, ◌<◌, ◌≤◌, cond, List, [], ◌∷◌, length, drop, IfOk, Ok, Err, Result, nat_le}
use Rattle.std.specs.Result.{result_unwrap_or}
use Rattle.device.specs.declared.types.Device.{Device}
use Rattle.wire.specs.declared.code.Code.{Code}
use Rattle.wire.specs.declared.code.FieldFault.{FieldFault}
use Rattle.wire.specs.declared.code.FieldFault.TheVariants.{Missing, Unknown, Digit}
use Rattle.wire.specs.Numbers.{then, per_byte, number_in}
use Rattle.wire.specs.Fields.{device_in}
use Rattle.wire.specs.Points.{bits_size, half_in, filled}
use Rattle.frame.specs.declared.fault.Cause.TheVariants.{DataDigit, UnknownDevice, BadValue, BadSize}
use Rattle.frame.specs.declared.fault.Fault.{Fault}
use Rattle.frame.specs.Faults.{fault}

-- the fault of the field that stands at `at`; a bad digit has its own place
abbrev pub data_fault : ℕ → FieldFault → Fault
data_fault at Missing = fault BadSize at
data_fault at Unknown = fault UnknownDevice at
data_fault at (Digit o) = fault DataDigit (at + o)

abbrev pub placed : {X : Type 0} → ℕ → Result X FieldFault → Result X Fault
placed at (Ok x) = Ok x
placed at (Err e) = Err (data_fault at e)

-- a number, and the wire bytes that it takes
abbrev pub number_at : Code → List ℕ → ℕ → ℕ → Result (ℕ × ℕ) Fault
number_at code bytes at size = placed at (number_in code size (drop at bytes))

-- a device field: the device, the number, and the wire bytes that it takes
abbrev pub device_at : Code → List ℕ → ℕ → Result (Device × ℕ × ℕ) Fault
device_at code bytes at = placed at (device_in code (drop at bytes))

-- a field of n wire bytes is there
abbrev pub present : List ℕ → ℕ → ℕ → Result ℕ Fault
present bytes at n = cond (nat_le (at + n) (length bytes)) (Ok n) (Err (fault BadSize at))

-- a pair of counts is one field: two numbers of one byte
abbrev pub counts_at : Code → List ℕ → ℕ → Result (ℕ × ℕ × ℕ) Fault
counts_at code bytes at =
    then (present bytes at (2 * per_byte code)) (λ used.
    then (number_at code bytes at 1) (λ a.
    then (number_at code bytes (at + a.1) 1) (λ b.
    Ok (a.0, b.0, used))))

-- n entries, each read by `r` at its place: where they end
abbrev pub list_end : {X : Type 0} → (ℕ → Result (X × ℕ) Fault) → ℕ → ℕ → Result ℕ Fault
list_end r zero at = Ok at
list_end r (suc n) at = then (r at) (λ a. list_end r n (at + a.1))

-- n entries from `at` on may each be read, by what is asked of a reader at a place and what may come of it, and end at a place that fits
abbrev pub CanRead : {X : Type 0} → (ℕ → Type 0) → (ℕ → Result (X × ℕ) Fault → Type 0) → ℕ → ℕ → Type 0
CanRead asks gives zero at = Unit {0}
CanRead asks gives (suc n) at = asks at × ((r : _) → gives at r → IfOk r (λ a. (at + a.1 < 2 ^ 64) × CanRead asks gives n (at + a.1)))

-- an entry that begins within n bytes may be read, and ends within them
abbrev pub ReadsWithin : {X : Type 0} → (ℕ → Type 0) → (ℕ → Result (X × ℕ) Fault → Type 0) → ℕ → Type 0
ReadsWithin asks gives n = (at : ℕ) → at ≤ n → asks at × ((r : _) → gives at r → IfOk r (λ a. at + a.1 ≤ n))

-- what may come of a reader at a place is what `r` says
abbrev pub Reads : {X : Type 0} → (ℕ → Result (X × ℕ) Fault → Type 0) → (ℕ → Result (X × ℕ) Fault) → Type 0
Reads gives r = (at : ℕ) (y : _) → gives at y → y ≡ r at

abbrev pub while_read : {X Y : Type 0} → Result X FieldFault → (X → List Y) → List Y
while_read (Ok x) f = f x
while_read (Err e) f = []

-- n entries at the front, each read by `r`; the list ends where one cannot be read
abbrev pub list_in : {X : Type 0} → (List ℕ → Result (X × ℕ) FieldFault) → ℕ → List ℕ → List X
list_in r zero xs = []
list_in r (suc n) xs = while_read (r xs) (λ a. a.0 ∷ list_in r n (drop a.1 xs))

-- a value of two bytes
abbrev pub value_at : Code → List ℕ → ℕ → Result (ℕ × ℕ) Fault
value_at code bytes at = number_at code bytes at 2

-- the write data of a batch in words is one field: n values of two bytes
abbrev pub words_at : Code → List ℕ → ℕ → ℕ → Result (List ℕ × ℕ) Fault
words_at code bytes at n =
    then (present bytes at (n * (2 * per_byte code))) (λ used.
    then (list_end (value_at code bytes) n at) (λ _.
    Ok (list_in (number_in code 2) n (drop at bytes), used)))

-- the digit of the point with index i among points in bits, which stand at `at`; the next has the next index
abbrev pub half_at : Code → List ℕ → ℕ → ℕ → Result (ℕ × ℕ) Fault
half_at code xs at i = then (placed (at + i) (half_in code xs i)) (λ d. Ok (d, 1))

-- the value of the point with index i, and 0 where it cannot be read
abbrev pub bit_in : Code → List ℕ → ℕ → ℕ
bit_in code xs i = result_unwrap_or (half_in code xs i) 0

-- the values of n points from index i on
abbrev pub bits_in : Code → List ℕ → ℕ → ℕ → List ℕ
bits_in code xs i zero = []
bits_in code xs i (suc n) = bit_in code xs i ∷ bits_in code xs (i + 1) n

-- the write data of a batch in bits is one field: the digits of n points, an odd end filled by 0
abbrev pub bits_at : Code → List ℕ → ℕ → ℕ → Result (List ℕ × ℕ) Fault
bits_at code bytes at n =
    then (present bytes at (bits_size code n)) (λ used.
    then (list_end (half_at code (drop at bytes) at) n 0) (λ _.
    cond (filled code (drop at bytes) n) (Ok (bits_in code (drop at bytes) 0 n, used)) (Err (fault BadValue at))))

-- the answer, if the frame ends at `at`
abbrev pub ends : {A : Type 0} → List ℕ → ℕ → A → Result A Fault
ends bytes at a = cond (nat_le (length bytes) at) (Ok a) (Err (fault BadSize at))

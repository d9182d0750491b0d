-- A row of points or words, as a batch names it: the device, the first number, how many there are, and where what follows them begins.
use Rattle.std.specs.Prelude.{◌≡◌, ℕ, ◌+◌, ◌*◌, true, List, Ok}
use Rattle.device.specs.declared.types.Device.{Device}
use Rattle.device.specs.Devices.{kind_of}
use Rattle.memory.specs.Meaning.{Meaning}
use Rattle.wire.specs.declared.code.Code.{Code}
use Rattle.wire.specs.Numbers.{per_byte}
use Rattle.request.specs.Fields.{number_at, device_at}
use Rattle.request.specs.Limits.{is_bit, within, words_within, bits_ok, words_ok}

abbrev pub Row : Type 0
Row = Device × ℕ × ℕ × ℕ

-- what stands at `at` are a device, a number and a count; behind them the next field begins
abbrev pub IsRow : Code → List ℕ → ℕ → Row → Type 0
IsRow code bytes at r =
    (device_at code bytes at ≡ Ok (r.0, r.1, 4 * per_byte code)) × (number_at code bytes (at + 4 * per_byte code) 2 ≡ Ok (r.2, 2 * per_byte code)) × (r.3 ≡ at + 4 * per_byte code + 2 * per_byte code)

-- a row of points in bits that passed its tests
abbrev pub IsBitRow : Code → Meaning → List ℕ → ℕ → Row → Type 0
IsBitRow code m bytes at r = IsRow code bytes at r × (is_bit (kind_of r.0) ≡ true) × (bits_ok r.2 ≡ true) × (within m r.0 r.1 r.2 ≡ true)

-- a row of words that passed its tests
abbrev pub IsWordRow : Code → Meaning → List ℕ → ℕ → Row → Type 0
IsWordRow code m bytes at r = IsRow code bytes at r × (words_ok r.2 ≡ true) × (words_within m r.0 r.1 r.2 ≡ true)

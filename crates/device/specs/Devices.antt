-- Each device's code, kind, symbol and number notation.
use Rattle.std.specs.Prelude.{ℕ, List, [], ◌∷◌, map, slice_index_or}
use Rattle.device.specs.declared.table.Row.{Row}
use Rattle.device.specs.declared.types.Device.{Device}
use Rattle.device.specs.declared.types.Device.TheVariants.{M, SM, L, X, Y, B, D, SD, ZR, W, TS, TN}
use Rattle.device.specs.declared.types.Kind.{Kind}
use Rattle.device.specs.declared.types.Kind.TheVariants.{Bit, Word}
use Rattle.device.specs.declared.types.Notation.{Notation}
use Rattle.device.specs.declared.types.Notation.TheVariants.{Decimal, Hexadecimal}

-- the code in a binary device field
abbrev pub code_of : Device → ℕ
code_of M = 0x90
code_of SM = 0x91
code_of L = 0x92
code_of X = 0x9C
code_of Y = 0x9D
code_of B = 0xA0
code_of D = 0xA8
code_of SD = 0xA9
code_of ZR = 0xB0
code_of W = 0xB4
code_of TS = 0xC1
code_of TN = 0xC2

-- whether a point is one bit or one word
abbrev pub kind_of : Device → Kind
kind_of M = Bit
kind_of SM = Bit
kind_of L = Bit
kind_of X = Bit
kind_of Y = Bit
kind_of B = Bit
kind_of D = Word
kind_of SD = Word
kind_of ZR = Word
kind_of W = Word
kind_of TS = Bit
kind_of TN = Word

-- how a number is written in an ASCII device field
abbrev pub notation_of : Device → Notation
notation_of M = Decimal
notation_of SM = Decimal
notation_of L = Decimal
notation_of X = Hexadecimal
notation_of Y = Hexadecimal
notation_of B = Hexadecimal
notation_of D = Decimal
notation_of SD = Decimal
notation_of ZR = Hexadecimal
notation_of W = Hexadecimal
notation_of TS = Decimal
notation_of TN = Decimal

-- the symbol in an ASCII device field, in character codes: a single letter is filled by a star (42)
abbrev pub symbol_of : Device → List ℕ
symbol_of M = 77 ∷ 42 ∷ []
symbol_of SM = 83 ∷ 77 ∷ []
symbol_of L = 76 ∷ 42 ∷ []
symbol_of X = 88 ∷ 42 ∷ []
symbol_of Y = 89 ∷ 42 ∷ []
symbol_of B = 66 ∷ 42 ∷ []
symbol_of D = 68 ∷ 42 ∷ []
symbol_of SD = 83 ∷ 68 ∷ []
symbol_of ZR = 90 ∷ 82 ∷ []
symbol_of W = 87 ∷ 42 ∷ []
symbol_of TS = 84 ∷ 83 ∷ []
symbol_of TN = 84 ∷ 78 ∷ []

abbrev pub row_of : Device → Row
row_of d = record { device = d; code = code_of d; symbol = symbol_of d; kind = kind_of d; notation = notation_of d }

-- the devices in ascending order of code, the order of the table and of every storage
abbrev pub devices : List Device
devices = M ∷ SM ∷ L ∷ X ∷ Y ∷ B ∷ D ∷ SD ∷ ZR ∷ W ∷ TS ∷ TN ∷ []

abbrev pub rows : List Row
rows = map row_of devices

-- the place of a device in that order
abbrev pub place_of : Device → ℕ
place_of M = 0
place_of SM = 1
place_of L = 2
place_of X = 3
place_of Y = 4
place_of B = 5
place_of D = 6
place_of SD = 7
place_of ZR = 8
place_of W = 9
place_of TS = 10
place_of TN = 11

-- the device at a place, and M past the last
abbrev pub device_at_place : ℕ → Device
device_at_place p = slice_index_or devices p M

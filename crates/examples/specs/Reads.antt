-- Reads worked out by hand, as one computed test.
use Rattle.std.specs.Prelude.{ℕ, Bool, ◌&&◌, List, [], ◌∷◌, codes}
use Rattle.device.specs.declared.types.Device.{Device}
use Rattle.device.specs.declared.types.Device.TheVariants.{M, D}
use Rattle.wire.specs.declared.code.Code.TheVariants.{Binary, Ascii}
use Rattle.examples.specs.Taking.{replies, reads_as, meets}

abbrev gains : List (Device × ℕ × ℕ)
gains = (D, 2, 0x1234) ∷ []

-- reading D2, which is 1234H, in ASCII and in binary
abbrev read_ascii : Bool
read_ascii = replies Ascii gains (codes "500000FF03FF000018001004010000D*0000020001") (codes "D00000FF03FF00000800001234")

abbrev read_binary : Bool
read_binary =
    replies Binary gains
    (0x50 ∷ 0x00 ∷ 0x00 ∷ 0xFF ∷ 0xFF ∷ 0x03 ∷ 0x00 ∷ 0x0C ∷ 0x00 ∷ 0x10 ∷ 0x00 ∷ 0x01 ∷ 0x04 ∷ 0x00 ∷ 0x00 ∷ 0x02 ∷ 0x00 ∷ 0x00 ∷ 0xA8 ∷ 0x01 ∷ 0x00 ∷ [])
    (0xD0 ∷ 0x00 ∷ 0x00 ∷ 0xFF ∷ 0xFF ∷ 0x03 ∷ 0x00 ∷ 0x04 ∷ 0x00 ∷ 0x00 ∷ 0x00 ∷ 0x34 ∷ 0x12 ∷ [])

-- the same in 4E, with the serial 1234H
abbrev read_serial : Bool
read_serial =
    replies Binary gains
    (0x54 ∷ 0x00 ∷ 0x34 ∷ 0x12 ∷ 0x00 ∷ 0x00 ∷ 0x00 ∷ 0xFF ∷ 0xFF ∷ 0x03 ∷ 0x00 ∷ 0x0C ∷ 0x00 ∷ 0x10 ∷ 0x00 ∷ 0x01 ∷ 0x04 ∷ 0x00 ∷ 0x00 ∷ 0x02 ∷ 0x00 ∷ 0x00 ∷ 0xA8 ∷ 0x01 ∷ 0x00 ∷ [])
    (0xD4 ∷ 0x00 ∷ 0x34 ∷ 0x12 ∷ 0x00 ∷ 0x00 ∷ 0x00 ∷ 0xFF ∷ 0xFF ∷ 0x03 ∷ 0x00 ∷ 0x04 ∷ 0x00 ∷ 0x00 ∷ 0x00 ∷ 0x34 ∷ 0x12 ∷ [])

abbrev one_zero_one : List (Device × ℕ × ℕ)
one_zero_one = (M, 0, 1) ∷ (M, 2, 1) ∷ []

-- M0 to M2 being 1, 0, 1 read as bits 10 10, in ASCII 101
abbrev three_bits : Bool
three_bits =
    reads_as Ascii 22 one_zero_one (codes "500000FF03FF000018001004010001M*0000000003") (codes "101")
    && reads_as Binary 11 one_zero_one
    (0x50 ∷ 0x00 ∷ 0x00 ∷ 0xFF ∷ 0xFF ∷ 0x03 ∷ 0x00 ∷ 0x0C ∷ 0x00 ∷ 0x10 ∷ 0x00 ∷ 0x01 ∷ 0x04 ∷ 0x01 ∷ 0x00 ∷ 0x00 ∷ 0x00 ∷ 0x00 ∷ 0x90 ∷ 0x03 ∷ 0x00 ∷ [])
    (0x10 ∷ 0x10 ∷ [])

-- M0 and M3 alone on: the word at M0 is 0009
abbrev bits_as_word : Bool
bits_as_word = reads_as Ascii 22 ((M, 0, 1) ∷ (M, 3, 1) ∷ []) (codes "500000FF03FF000018001004010000M*0000000001") (codes "0009")

-- with 64 points of M a word at M48 is taken, and at M49 it gets C056
abbrev last_word : Bool
last_word =
    meets Ascii [] (codes "500000FF03FF000018001004010000M*0000480001") 0
    && meets Ascii [] (codes "500000FF03FF000018001004010000M*0000490001") 0xC056

-- the subheader is not taken low byte first
abbrev subheader_order : Bool
subheader_order =
    meets Binary gains
    (0x00 ∷ 0x50 ∷ 0x00 ∷ 0xFF ∷ 0xFF ∷ 0x03 ∷ 0x00 ∷ 0x0C ∷ 0x00 ∷ 0x10 ∷ 0x00 ∷ 0x01 ∷ 0x04 ∷ 0x00 ∷ 0x00 ∷ 0x02 ∷ 0x00 ∷ 0x00 ∷ 0xA8 ∷ 0x01 ∷ 0x00 ∷ [])
    3
    && meets Ascii gains (codes "005000FF03FF000018001004010000D*0000020001") 3

-- the numbers of D are decimal in ASCII: D10 is not the sixteenth register
abbrev decimal_numbers : Bool
decimal_numbers = reads_as Ascii 22 ((D, 10, 1) ∷ (D, 16, 2) ∷ []) (codes "500000FF03FF000018001004010000D*0000100001") (codes "0001")

-- D0 being 5678H and D1 1234H, the double word at D0 is 78 56 34 12
abbrev double_word : Bool
double_word =
    reads_as Binary 11 ((D, 0, 0x5678) ∷ (D, 1, 0x1234) ∷ [])
    (0x50 ∷ 0x00 ∷ 0x00 ∷ 0xFF ∷ 0xFF ∷ 0x03 ∷ 0x00 ∷ 0x0C ∷ 0x00 ∷ 0x10 ∷ 0x00 ∷ 0x03 ∷ 0x04 ∷ 0x00 ∷ 0x00 ∷ 0x00 ∷ 0x01 ∷ 0x00 ∷ 0x00 ∷ 0x00 ∷ 0xA8 ∷ [])
    (0x78 ∷ 0x56 ∷ 0x34 ∷ 0x12 ∷ [])

abbrev pub reads_worked : Bool
reads_worked = read_ascii && read_binary && read_serial && three_bits && bits_as_word && last_word && subheader_order && decimal_numbers && double_word

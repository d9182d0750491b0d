-- The verdict on a request's field values alone, in no code.
use Rattle.std.specs.Prelude.{ℕ, Bool, cond, List, [], ◌∷◌, length, Ok, Err, Result, nat_le}
use Rattle.device.specs.Devices.{kind_of}
use Rattle.memory.specs.Meaning.{Meaning}
use Rattle.frame.specs.declared.fault.Cause.{Cause}
use Rattle.frame.specs.declared.fault.Cause.TheVariants.{BitCount, WordCount, RandomBitCount, RandomCount, OutsideExtent, WrongKind, ClosedPoint, BadValue}
use Rattle.frame.specs.declared.fault.Fault.{Fault}
use Rattle.request.specs.Limits.{is_bit, within, all_open, words_within, words_open, bits_ok, words_ok, random_ok, random_bits_ok, random_write_ok, all_bits}
use Rattle.request.specs.Requests.{Access, Setting, Asked, read_bits, read_words, write_bits, write_words, random_read, register, monitor, random_bits, random_write, Command, ReadBits, ReadWords, WriteBits, WriteWords, RandomRead, Register, Monitor, RandomBits, RandomWrite}

-- the command of a request
abbrev pub command : Asked → Command
command (read_bits d i n) = ReadBits
command (read_words d i n) = ReadWords
command (write_bits d i vs) = WriteBits
command (write_words d i vs) = WriteWords
command (random_read ws ds) = RandomRead
command (register ws ds) = Register
command monitor = Monitor
command (random_bits vs) = RandomBits
command (random_write ws ds) = RandomWrite

-- a test, and the cause where it fails
abbrev pub Test : Type 0
Test = Cause × Bool

-- the first test that fails gives the cause
abbrev pub judge : {A : Type 0} → List Test → A → Result A Cause
judge [] a = Ok a
judge (t ∷ ts) a = cond t.1 (judge ts a) (Err t.0)

-- what each entry of a list gives, one after the other
abbrev pub chain : {X Y : Type 0} → (X → List Y → List Y) → List X → List Y → List Y
chain f [] ys = ys
chain f (x ∷ xs) ys = f x (chain f xs ys)

-- the tests of an access of `width` words
abbrev pub access_tests : Meaning → ℕ → Access → List Test → List Test
access_tests m width e ts = (OutsideExtent, words_within m e.0 e.1 width) ∷ ts

-- the tests of a setting of `width` words
abbrev pub setting_tests : Meaning → ℕ → Setting → List Test → List Test
setting_tests m width e ts = (OutsideExtent, words_within m e.0.0 e.0.1 width) ∷ (ClosedPoint, words_open m e.0.0 e.0.1 width) ∷ ts

-- the tests of a setting of a point in bits
abbrev pub bit_setting_tests : Meaning → Setting → List Test → List Test
bit_setting_tests m e ts =
    (WrongKind, is_bit (kind_of e.0.0)) ∷ (OutsideExtent, within m e.0.0 e.0.1 1) ∷ (ClosedPoint, all_open m e.0.0 e.0.1 1) ∷ (BadValue, nat_le e.1 1) ∷ ts

-- what is tested of a request's field values, in order
abbrev pub tests : Meaning → Asked → List Test
tests m (read_bits d i n) = (WrongKind, is_bit (kind_of d)) ∷ (BitCount, bits_ok n) ∷ (OutsideExtent, within m d i n) ∷ []
tests m (read_words d i n) = (WordCount, words_ok n) ∷ (OutsideExtent, words_within m d i n) ∷ []
tests m (write_bits d i vs) =
    (WrongKind, is_bit (kind_of d)) ∷ (BitCount, bits_ok (length vs)) ∷ (OutsideExtent, within m d i (length vs)) ∷ (ClosedPoint, all_open m d i (length vs)) ∷ (BadValue, all_bits vs) ∷ []
tests m (write_words d i vs) =
    (WordCount, words_ok (length vs)) ∷ (OutsideExtent, words_within m d i (length vs)) ∷ (ClosedPoint, words_open m d i (length vs)) ∷ []
tests m (random_read ws ds) = (RandomCount, random_ok (length ws) (length ds)) ∷ chain (access_tests m 1) ws (chain (access_tests m 2) ds [])
tests m (register ws ds) = (RandomCount, random_ok (length ws) (length ds)) ∷ chain (access_tests m 1) ws (chain (access_tests m 2) ds [])
tests m monitor = []
tests m (random_bits vs) = (RandomBitCount, random_bits_ok (length vs)) ∷ chain (bit_setting_tests m) vs []
tests m (random_write ws ds) = (RandomCount, random_write_ok (length ws) (length ds)) ∷ chain (setting_tests m 1) ws (chain (setting_tests m 2) ds [])

-- the verdict on a request's field values
abbrev pub verdict : Meaning → Asked → Result Asked Cause
verdict m a = judge (tests m a) a

-- a judgment without its place
abbrev pub forget : {A : Type 0} → Result A Fault → Result A Cause
forget (Ok a) = Ok a
forget (Err e) = Err e.cause

-- The walk over each command's fields, and the judgment of a request's data by it.
use Rattle.std.specs.Prelude.{ℕ, ◌*◌, List, Result, nat_le}
use Rattle.device.specs.Devices.{kind_of}
use Rattle.memory.specs.Meaning.{Meaning}
use Rattle.wire.specs.declared.code.Code.{Code}
use Rattle.frame.specs.declared.fault.Cause.TheVariants.{BitCount, WordCount, RandomBitCount, RandomCount, OutsideExtent, WrongKind, ClosedPoint, BadValue}
use Rattle.frame.specs.declared.fault.Fault.{Fault}
use Rattle.request.specs.Walks.{Walk, done, number, counts, device, words, bits, at_field, at_device, run, list}
use Rattle.request.specs.Limits.{is_bit, within, all_open, words_within, words_open, bits_ok, words_ok, random_ok, random_bits_ok, random_write_ok, all_bits}
use Rattle.request.specs.Requests.{Access, Setting, Asked, read_bits, read_words, write_bits, write_words, random_read, register, monitor, random_bits, random_write, Command, ReadBits, ReadWords, WriteBits, WriteWords, RandomRead, Register, Monitor, RandomBits, RandomWrite}

-- an entry of a list to read: `width` words from a device's number on
abbrev pub access : {A : Type 0} → Meaning → ℕ → (Access → Walk A) → Walk A
access m width k = device (λ d i. at_device OutsideExtent (words_within m d i width) (k (d, i)))

-- an entry of a list to write: `width` words from a device's number on, and their value
abbrev pub setting : {A : Type 0} → Meaning → ℕ → (Setting → Walk A) → Walk A
setting m width k =
    device (λ d i. at_device OutsideExtent (words_within m d i width) (at_device ClosedPoint (words_open m d i width) (number (2 * width) (λ v. k ((d, i), v)))))

-- an entry of a list of bits to write
abbrev pub bit_setting : {A : Type 0} → Meaning → (Setting → Walk A) → Walk A
bit_setting m k =
    device (λ d i. at_device WrongKind (is_bit (kind_of d)) (at_device OutsideExtent (within m d i 1) (at_device ClosedPoint (all_open m d i 1)
    (number 1 (λ v. at_field BadValue (nat_le v 1) (k ((d, i), v)))))))

-- the fields of each command, and the tests in their order
abbrev pub walk : Meaning → Command → Walk Asked
walk m ReadBits =
    device (λ d i. at_device WrongKind (is_bit (kind_of d)) (number 2 (λ n. at_field BitCount (bits_ok n) (at_device OutsideExtent (within m d i n) (done (read_bits d i n))))))
walk m ReadWords =
    device (λ d i. number 2 (λ n. at_field WordCount (words_ok n) (at_device OutsideExtent (words_within m d i n) (done (read_words d i n)))))
walk m WriteBits =
    device (λ d i. at_device WrongKind (is_bit (kind_of d)) (number 2 (λ n. at_field BitCount (bits_ok n) (at_device OutsideExtent (within m d i n) (at_device ClosedPoint (all_open m d i n)
    (bits n (λ vs. at_field BadValue (all_bits vs) (done (write_bits d i vs)))))))))
walk m WriteWords =
    device (λ d i. number 2 (λ n. at_field WordCount (words_ok n) (at_device OutsideExtent (words_within m d i n) (at_device ClosedPoint (words_open m d i n)
    (words n (λ vs. done (write_words d i vs)))))))
walk m RandomRead =
    counts (λ w d. at_field RandomCount (random_ok w d) (list (access m 1) w (λ ws. list (access m 2) d (λ ds. done (random_read ws ds)))))
walk m Register =
    counts (λ w d. at_field RandomCount (random_ok w d) (list (access m 1) w (λ ws. list (access m 2) d (λ ds. done (register ws ds)))))
walk m Monitor = done monitor
walk m RandomBits =
    number 1 (λ n. at_field RandomBitCount (random_bits_ok n) (list (bit_setting m) n (λ vs. done (random_bits vs))))
walk m RandomWrite =
    counts (λ w d. at_field RandomCount (random_write_ok w d) (list (setting m 1) w (λ ws. list (setting m 2) d (λ ds. done (random_write ws ds)))))

-- the judgment of a request's data, which stands from `at` to the end of the frame: the first fault with its place, or what was asked
abbrev pub judged : Code → Meaning → Command → List ℕ → ℕ → Result Asked Fault
judged code m c frame at = run code frame (walk m c) at at at

-- What the calls of a history ask, by their bytes alone, and whether they were accepted.
use Rattle.std.specs.Prelude.{ℕ, Bool, true, false, List, [], ◌∷◌, ◌++◌, take, is_ok, is_none, Some, None, Ok, Err, Option, Result}
use Rattle.memory.specs.Meaning.{Meaning, extent_limit}
use Rattle.memory.specs.Leaving.{Write}
use Rattle.wire.specs.declared.code.Code.{Code}
use Rattle.wire.specs.Numbers.{then}
use Rattle.frame.specs.declared.fault.Fault.{Fault}
use Rattle.frame.specs.Headers.{tested}
use Rattle.request.specs.Requests.{Asked, read_bits, read_words, write_bits, write_words, random_read, register, monitor, random_bits, random_write}
use Rattle.request.specs.Readings.{request_in}
use Rattle.server.specs.declared.points.Width.TheVariants.{Word, Double}
use Rattle.server.specs.Points.{Values, bits, words, values_of}
use Rattle.server.specs.Writes.{in_row, as_point, as_word, as_double, as_words, each}
use Rattle.server.specs.Registered.{Listed}
use Rattle.server.specs.Answers.{Data, in_bits, in_words, in_both}
use Rattle.server.specs.Histories.{Move, frame, setting, opening, ending, Shown, taken, written, window}

-- the largest memory: every device has as many points as it may have, and all are open
abbrev pub largest : Meaning
largest = record { extent = extent_limit; value = λ d n. 0; opened = λ d n. true }

-- what a frame asks: what the largest memory is asked by it, with writing on
abbrev pub asked_in : Code → List ℕ → Result Asked Fault
asked_in code xs = then (tested code 4096 xs) (λ h. request_in code largest true h (take h.size xs))

-- the points that a request gives values, with the values, in its order
abbrev pub writes_of : Asked → List Write
writes_of (read_bits d i n) = []
writes_of (read_words d i n) = []
writes_of (write_bits d i vs) = in_row d i vs
writes_of (write_words d i vs) = as_words d i vs
writes_of (random_read ws ds) = []
writes_of (register ws ds) = []
writes_of monitor = []
writes_of (random_bits ss) = each as_point ss
writes_of (random_write ws ds) = each as_word ws ++ each as_double ds

abbrev pub writes_if_read : Result Asked Fault → List Write
writes_if_read (Ok a) = writes_of a
writes_if_read (Err e) = []

-- the points that a call gives values, with the values, if it is accepted
abbrev pub sent : Move → List Write
sent (frame code xs space) = writes_if_read (asked_in code xs)
sent (setting d n v) = (d, n, v) ∷ []
sent opening = []
sent ending = []

-- the list that a request registers
abbrev pub list_of : Asked → Option Listed
list_of (read_bits d i n) = None
list_of (read_words d i n) = None
list_of (write_bits d i vs) = None
list_of (write_words d i vs) = None
list_of (random_read ws ds) = None
list_of (register ws ds) = Some (ws, ds)
list_of monitor = None
list_of (random_bits ss) = None
list_of (random_write ws ds) = None

abbrev pub list_if_read : Result Asked Fault → Option Listed
list_if_read (Ok a) = list_of a
list_if_read (Err e) = None

-- the list that a call registers, if it is accepted
abbrev pub list_sent : Move → Option Listed
list_sent (frame code xs space) = list_if_read (asked_in code xs)
list_sent (setting d n v) = None
list_sent opening = None
list_sent ending = None

-- what a read shows of a memory with these values, by the forms
abbrev pub data_shown : Asked → Values → Option Data
data_shown (read_bits d i n) V = Some (in_bits (bits V d i n))
data_shown (read_words d i n) V = Some (in_words (words V d i n))
data_shown (write_bits d i vs) V = None
data_shown (write_words d i vs) V = None
data_shown (random_read ws ds) V = Some (in_both (values_of Word V ws) (values_of Double V ds))
data_shown (register ws ds) V = None
data_shown monitor V = None
data_shown (random_bits ss) V = None
data_shown (random_write ws ds) V = None

-- a frame is accepted if it met no fault, which is the end code 0000; a setting if the memory did not refuse it
abbrev pub is_accepted : Shown → Bool
is_accepted (taken t n f space) = is_none f
is_accepted (written r) = is_ok r
is_accepted (window f) = false

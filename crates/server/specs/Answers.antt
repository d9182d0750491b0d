-- What a request is answered, in no code, and the bytes of that answer.
use Rattle.std.specs.Prelude.{ℕ, List, [], ◌++◌}
use Rattle.wire.specs.declared.code.Code.{Code}
use Rattle.wire.specs.Series.{series_bytes, values_bytes}
use Rattle.wire.specs.Points.{bits_bytes}
use Rattle.frame.specs.declared.fault.Cause.{Cause}
use Rattle.frame.specs.declared.header.Header.{Header}
use Rattle.frame.specs.Faults.{number_of}
use Rattle.frame.specs.Replies.{reply_bytes, error_numbers}

-- the data values of a reply: none, points in bits, words of two bytes, or words and then double words of four bytes
pub data Data : Type 0 where
  no_data : Data
  in_bits : List ℕ → Data
  in_words : List ℕ → Data
  in_both : List ℕ → List ℕ → Data

abbrev pub data_bytes : Code → Data → List ℕ
data_bytes code no_data = []
data_bytes code (in_bits vs) = bits_bytes code vs
data_bytes code (in_words vs) = values_bytes code 2 vs
data_bytes code (in_both ws ds) = values_bytes code 2 ws ++ values_bytes code 4 ds

-- an accepted request gets its data, a refused one its cause
pub data Answered : Type 0 where
  accepted : Data → Answered
  refused : Cause → Answered

-- the reply: end code 0000 and the data, or the cause's end code and the route, the command and the subcommand
abbrev pub answer_bytes : Code → Header → Answered → List ℕ
answer_bytes code h (accepted d) = reply_bytes code h 0 (data_bytes code d)
answer_bytes code h (refused c) = reply_bytes code h (number_of c) (series_bytes code (error_numbers h))

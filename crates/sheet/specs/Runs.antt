-- What a run of a sheet comes to: how it ends, what it leaves, and the calls that it makes.
use Rattle.std.specs.Prelude.{ℕ, zero, suc, ◌+◌, Bool, cond, ◌&&◌, List, [], ◌∷◌, ◌++◌, length, Some, None, Ok, Err, Option, Result, ◌==◌, nat_le, slice_index}
use Rattle.std.proofs.lemmas.List.Edits.{sets}
use Rattle.wire.specs.declared.code.Code.{Code}
use Rattle.frame.specs.declared.fault.Cause.TheVariants.{NoVersion}
use Rattle.frame.specs.declared.fault.Fault.{Fault}
use Rattle.frame.specs.Faults.{fault}
use Rattle.server.specs.Histories.{Move, frame, opening, ending, State, at_frame, step}
use Rattle.sheet.specs.declared.run.Reason.{Reason}
use Rattle.sheet.specs.declared.run.Reason.TheVariants.{Finished, Cancelled, Stopped}
use Rattle.sheet.specs.declared.run.RunEnd.{RunEnd}
use Rattle.sheet.specs.Records.{record_bytes, tested_record}

-- how a run ends, the reply space then, and the server's state then, in its window if it has one
pub record Ended : Type 0 where
  pub result : RunEnd
  pub space : List ℕ
  pub left : State

-- that, and the calls that the run makes
pub record Run : Type 0 where
  pub end : Ended
  pub calls : List Move

abbrev pub ended_by : Reason → ℕ → ℕ → List ℕ → State → Ended
ended_by why count next space s = record { result = record { reason = why; count = count; next = next }; space = space; left = s }

-- a run that ends here
abbrev pub stop : Reason → ℕ → ℕ → List ℕ → State → Run
stop why count next space s = record { end = ended_by why count next space s; calls = [] }

-- a call, and then a run
abbrev pub calling : Move → Run → Run
calling m r = record { end = r.end; calls = m ∷ r.calls }

-- what is left of a run: from a place in the sheet, with this count, this reply space and this state
abbrev pub Rest : Type 0
Rest = ℕ → ℕ → List ℕ → State → Run

-- a reply without an error counts, and the run goes on at the record behind; an error reply stops it there
abbrev pub replied : Option Fault → Rest → Rest
replied None rest behind count space s = rest behind (count + 1) space s
replied (Some f) rest behind count space s = stop (Stopped f) count behind space s

-- a frame is carried out, and its reply stands at the front of the reply space
abbrev pub frame_taken : Code → List ℕ → Rest → Rest
frame_taken code bytes rest behind count space s =
    calling (frame code bytes space)
    (replied (at_frame s code bytes space).fault_met rest behind count (sets space 0 (at_frame s code bytes space).bytes) (step s (frame code bytes space)))

-- a record that passes its tests, and is of this length, has its frame carried out; one that fails a test stops the run
abbrev pub with_record : Result ℕ Fault → Code → List ℕ → Rest → Rest
with_record (Ok size) code sheet rest at count space s = frame_taken code (record_bytes sheet at size) rest (at + 2 + size) count space s
with_record (Err f) code sheet rest at count space s = stop (Stopped f) count at space s

-- no record is left
abbrev pub at_end : List ℕ → ℕ → Bool
at_end sheet at = at == length sheet

-- why a run is over before the record at a place, with so many frames still allowed
abbrev pub over_at : List ℕ → ℕ → ℕ → Option Reason
over_at sheet at allowed = cond (at_end sheet at) (Some Finished) (cond (allowed == 0) (Some Cancelled) None)

-- the records from a place on, with so many frames still allowed
unfoldable pub records : Code → List ℕ → ℕ → Rest
records code sheet zero at count space s =
    cond (at_end sheet at) (stop Finished count at space s)
    (stop Cancelled count at space s)
records code sheet (suc n) at count space s =
    cond (at_end sheet at) (stop Finished count at space s)
    (with_record (tested_record code (length space) sheet at) code sheet (λ at' count' space' s'. records code sheet n at' count' space' s') at count space s)

-- a sheet begins with its version byte
abbrev pub has_version : List ℕ → Bool
has_version sheet = nat_le 1 (length sheet) && slice_index sheet 0 == 1

-- and ends by 7 at its first byte where it does not
abbrev pub without_version : RunEnd
without_version = record { reason = Stopped (fault NoVersion 0); count = 0; next = 0 }

-- a run between the opening and the ending of a window
abbrev pub in_window : Run → Run
in_window r = record { end = r.end; calls = opening ∷ r.calls ++ ending ∷ [] }

-- a run of a whole sheet, with so many frames allowed; without its version byte there is no window and no call
abbrev pub sheet_run : Code → List ℕ → ℕ → List ℕ → State → Run
sheet_run code sheet allowed space s =
    cond (has_version sheet)
    (in_window (records code sheet allowed 1 0 space (step s opening)))
    (stop (Stopped (fault NoVersion 0)) 0 0 space s)

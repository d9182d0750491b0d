-- A run in the words of its sheet: which frames were answered, what is left of the sheet, and why the run was over.
use Rattle.std.specs.Prelude.{◌≡◌, ◌≢◌, ◌↔◌, ◌⊎◌, ℕ, ◌+◌, ◌/◌, ◌%◌, ◌<◌, ◌≤◌, List, [], ◌∷◌, ◌++◌, length, map, Some, None, Ok, Err, Option}
use Rattle.std.specs.List.{AllByRecursion}
use Rattle.wire.specs.declared.code.Code.{Code}
use Rattle.frame.specs.declared.fault.Cause.TheVariants.{NoVersion, BadRecord}
use Rattle.frame.specs.declared.fault.Fault.{Fault}
use Rattle.frame.specs.declared.header.Header.{Header}
use Rattle.frame.specs.Faults.{fault}
use Rattle.frame.specs.Headers.{tested}
use Rattle.server.specs.Histories.{Move, frame, setting, opening, ending, Shown, taken, written, window}
use Rattle.sheet.specs.declared.run.Reason.TheVariants.{Finished, Cancelled, Stopped}
use Rattle.sheet.specs.declared.run.RunEnd.{RunEnd}
use Rattle.sheet.specs.Laws.{good_replies}

-- a record: the length of its frame in two bytes, the high byte first, and the frame
abbrev pub record_of : List ℕ → List ℕ
record_of xs = length xs / 256 ∷ length xs % 256 ∷ xs

-- records one behind the other
abbrev pub records_of : List (List ℕ) → List ℕ
records_of [] = []
records_of (xs ∷ fs) = record_of xs ++ records_of fs

-- a sheet: its version byte, and records
abbrev pub sheet_of : List (List ℕ) → List ℕ
sheet_of fs = 1 ∷ records_of fs

-- a frame that passes its tests, with no byte after it
pub record Alone (code : Code) (space : ℕ) (xs : List ℕ) : Type 0 where
  pub header : Header
  pub passes : tested code space xs ≡ Ok header
  pub whole : header.size ≡ length xs

-- the fault of the next record, where `rest` is what is left of the sheet, from the place `at` on
pub data NextFails (code : Code) (space at : ℕ) (rest : List ℕ) : Fault → Type 0 where
  -- it is cut off: something is left, and no record stands at its front
  cut_off : rest ≢ [] → ((xs more : List ℕ) → rest ≢ record_of xs ++ more) → NextFails code space at rest (fault BadRecord at)
  -- its frame fails a test, over the record's bytes alone
  bad_frame : (xs more : List ℕ) (f : Fault) → rest ≡ record_of xs ++ more → tested code space xs ≡ Err f → NextFails code space at rest f
  -- bytes stand after its frame
  bytes_after : (xs more : List ℕ) (h : Header) → rest ≡ record_of xs ++ more → tested code space xs ≡ Ok h → h.size < length xs
      → NextFails code space at rest (fault BadRecord (at + 2 + h.size))

-- the fault of each reply, frame by frame: none for 0000
abbrev pub faults_met : List Shown → List (Option Fault)
faults_met [] = []
faults_met (taken n long met space ∷ os) = met ∷ faults_met os
faults_met (written r ∷ os) = faults_met os
faults_met (window w ∷ os) = faults_met os

-- each reply was 0000
abbrev pub AllGood : List (Option Fault) → Type 0
AllGood mets = AllByRecursion (λ met. met ≡ None) mets

-- the last reply told the fault f, and each before it was 0000
abbrev pub LastFails : List (Option Fault) → Fault → Type 0
LastFails [] f = ⊥
LastFails (None ∷ mets) f = LastFails mets f
LastFails (Some g ∷ mets) f = (g ≡ f) × (mets ≡ [])

-- a call, whatever reply space it was given
abbrev pub but_space : Move → Move
but_space (frame code xs space) = frame code xs []
but_space (setting d n v) = setting d n v
but_space opening = opening
but_space ending = ending

-- a run of a sheet with its version byte, in a reply space of so many bytes and with so many frames allowed:
-- its calls showed the outcomes os, and it ended as r says
pub record SheetRun (code : Code) (sheet : List ℕ) (allowed space : ℕ) (calls : List Move) (os : List Shown) (r : RunEnd) : Type 0 where
  -- the frames that were answered, and what is left behind their records
  pub frames : List (List ℕ)
  pub rest : List ℕ
  pub is : sheet ≡ sheet_of frames ++ rest
  -- a window is opened, each of the frames is taken once, in their order, and the window is ended
  pub answered : map but_space calls ≡ opening ∷ map (λ xs. frame code xs []) frames ++ ending ∷ []
  pub alone : AllByRecursion (Alone code space) frames
  pub within : length frames ≤ allowed
  -- how many replies were 0000, and the place behind the records of the answered frames
  pub count : r.count ≡ good_replies os
  pub next : r.next ≡ length (sheet_of frames)
  -- each record was answered with 0000
  pub finished : (r.reason ≡ Finished) ↔ (AllGood (faults_met os) × (rest ≡ []))
  -- the cancel number came first
  pub cancelled : (r.reason ≡ Cancelled) ↔ (AllGood (faults_met os) × (rest ≢ []) × (length frames ≡ allowed))
  -- the next record has a fault, or the last reply told one
  pub stopped : (f : Fault)
      → (r.reason ≡ Stopped f) ↔ ((AllGood (faults_met os) × (length frames < allowed) × NextFails code space (length (sheet_of frames)) rest f) ⊎ LastFails (faults_met os) f)

-- a run of a sheet without its version byte: nothing is called
pub record NoVersionRun (sheet : List ℕ) (calls : List Move) (r : RunEnd) : Type 0 where
  pub lacks : (bytes : List ℕ) → sheet ≢ 1 ∷ bytes
  pub none : calls ≡ []
  pub ends : r ≡ record { reason = Stopped (fault NoVersion 0); count = 0; next = 0 }

-- a run in the words of its sheet, by its calls and what they showed, whatever computes them
abbrev pub RunBySheet : Code → List ℕ → ℕ → ℕ → List Move → List Shown → RunEnd → Type 0
RunBySheet code sheet allowed space calls os r = SheetRun code sheet allowed space calls os r ⊎ NoVersionRun sheet calls r

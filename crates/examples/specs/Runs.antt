-- Runs of sheets worked out by hand, as one computed test over the definition of a run.
use Rattle.std.specs.Prelude.{ℕ, Bool, true, false, ◌&&◌, List, [], ◌∷◌, ◌++◌, replicate, None, ◌==◌}
use Rattle.device.specs.declared.types.Device.TheVariants.{D}
use Rattle.wire.specs.declared.code.Code.TheVariants.{Binary}
use Rattle.frame.specs.Faults.{number_of}
use Rattle.server.specs.Histories.{State, no_window}
use Rattle.sheet.specs.declared.run.Reason.{Reason}
use Rattle.sheet.specs.declared.run.Reason.TheVariants.{Finished, Cancelled, Stopped}
use Rattle.sheet.specs.declared.run.RunEnd.{RunEnd}
use Rattle.sheet.specs.Runs.{sheet_run}

-- a server over 16 points a device, all 0 and open, with writing off and nothing registered
abbrev resting : State
resting = record {
  meaning = record { extent = λ d. 16; value = λ d n. 0; opened = λ d n. true };
  flag = false;
  registered = None;
  aside = no_window;
}

-- how a run of a sheet ends, with this cancel number and a reply space of 4,096 bytes
abbrev ran : ℕ → List ℕ → RunEnd
ran cancel sheet = (sheet_run Binary sheet cancel (replicate 4096 0) resting).end.result

abbrev is_finished : Reason → Bool
is_finished Finished = true
is_finished Cancelled = false
is_finished (Stopped f) = false

abbrev is_cancelled : Reason → Bool
is_cancelled Finished = false
is_cancelled Cancelled = true
is_cancelled (Stopped f) = false

abbrev is_stopped : ℕ → ℕ → Reason → Bool
is_stopped number place Finished = false
is_stopped number place Cancelled = false
is_stopped number place (Stopped f) = number_of f.cause == number && f.place == place

abbrev tells : (Reason → Bool) → ℕ → ℕ → RunEnd → Bool
tells why count next r = why r.reason && r.count == count && r.next == next

-- a record that writes 7 into D2, and one that writes into D16, which is not there
abbrev writes_d2 : List ℕ
writes_d2 = 0 ∷ 23 ∷ 0x50 ∷ 0 ∷ 0 ∷ 0xFF ∷ 0xFF ∷ 3 ∷ 0 ∷ 14 ∷ 0 ∷ 0x10 ∷ 0 ∷ 0x01 ∷ 0x14 ∷ 0 ∷ 0 ∷ 2 ∷ 0 ∷ 0 ∷ 0xA8 ∷ 1 ∷ 0 ∷ 7 ∷ 0 ∷ []

abbrev writes_d16 : List ℕ
writes_d16 = 0 ∷ 23 ∷ 0x50 ∷ 0 ∷ 0 ∷ 0xFF ∷ 0xFF ∷ 3 ∷ 0 ∷ 14 ∷ 0 ∷ 0x10 ∷ 0 ∷ 0x01 ∷ 0x14 ∷ 0 ∷ 0 ∷ 16 ∷ 0 ∷ 0 ∷ 0xA8 ∷ 1 ∷ 0 ∷ 7 ∷ 0 ∷ []

-- the empty sheet is stopped by 7, a cut-off record by 8, and a record of length 0 by 2
abbrev bad_sheets : Bool
bad_sheets =
    tells (is_stopped 7 0) 0 0 (ran 5 []) && tells (is_stopped 8 1) 0 1 (ran 5 (1 ∷ 0 ∷ 5 ∷ 0x50 ∷ []))
    && tells (is_stopped 8 1) 0 1 (ran 5 (1 ∷ 0 ∷ [])) && tells (is_stopped 2 0) 0 1 (ran 5 (1 ∷ 0 ∷ 0 ∷ []))

-- the cancel number is tested after the end of the sheet
abbrev cancels : Bool
cancels =
    tells is_finished 0 1 (ran 0 (1 ∷ [])) && tells is_cancelled 0 1 (ran 0 (1 ∷ writes_d2)) && tells is_finished 1 26 (ran 1 (1 ∷ writes_d2))
    && tells is_cancelled 1 26 (ran 1 (1 ∷ writes_d2 ++ writes_d2))

-- an error reply stops a run at the record behind, and what was written before stands
abbrev stops : Bool
stops =
    let sheet = 1 ∷ writes_d2 ++ writes_d16 ++ writes_d2 in
    tells (is_stopped 0xC056 15) 1 51 (ran 5 sheet) && (sheet_run Binary sheet 5 (replicate 4096 0) resting).end.left.meaning.value D 2 == 7

-- bytes after a frame: it is not carried out, and 8 is at the byte after it
abbrev bytes_after : Bool
bytes_after =
    let sheet = 1 ∷ 0 ∷ 22 ∷ 0x50 ∷ 0 ∷ 0 ∷ 0xFF ∷ 0xFF ∷ 3 ∷ 0 ∷ 12 ∷ 0 ∷ 0x10 ∷ 0 ∷ 0x01 ∷ 0x04 ∷ 0 ∷ 0 ∷ 2 ∷ 0 ∷ 0 ∷ 0xA8 ∷ 1 ∷ 0 ∷ 0xFF ∷ [] in
    tells (is_stopped 8 24) 0 1 (ran 5 sheet)

abbrev pub runs_worked : Bool
runs_worked = bad_sheets && cancels && stops && bytes_after

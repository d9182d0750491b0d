-- What the numbers and slices of a call stand for, or the status that refuses them.
use Rattle.std.specs.Prelude.{ℕ, cond, List, length, Ok, Err, Result, ◌==◌, nat_lt}
use Rattle.device.specs.declared.types.Device.{Device}
use Rattle.device.specs.Devices.{device_at_place}
use Rattle.wire.specs.declared.code.Code.{Code}
use Rattle.wire.specs.declared.code.Code.TheVariants.{Binary, Ascii}
use Rattle.memory.specs.declared.layout.Form.{Form}
use Rattle.memory.specs.Making.{is_fit}

-- the code that a number names
abbrev pub code_named : ℕ → Result Code ℕ
code_named n = cond (n == 0) (Ok Binary) (cond (n == 1) (Ok Ascii) (Err 101))

-- the device at a place
abbrev pub device_named_by : ℕ → Result Device ℕ
device_named_by p = cond (nat_lt p 12) (Ok (device_at_place p)) (Err 103)

-- an extent for each device
abbrev pub extents_of : List ℕ → Result (List ℕ) ℕ
extents_of es = cond (length es == 12) (Ok es) (Err 102)

-- the same, of storage that can be made over so many units
abbrev pub fitting : Form → ℕ → List ℕ → Result (List ℕ) ℕ
fitting f n es = cond (length es == 12) (cond (is_fit f es n) (Ok es) (Err 9)) (Err 102)

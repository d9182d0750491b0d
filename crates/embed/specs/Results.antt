-- What the calls on points answer and leave, by what their arguments stand for.
use Rattle.std.specs.Prelude.{ℕ, List, Some, None, Ok, Err, Option, Result}
use Rattle.device.specs.declared.types.Device.{Device}
use Rattle.memory.specs.declared.layout.Form.{Form}
use Rattle.memory.specs.declared.refusal.Refusal.{Refusal}
use Rattle.memory.specs.Refusals.{number_of}
use Rattle.memory.specs.Meaning.{Meaning, told, write_answer}
use Rattle.memory.specs.Making.{needed}
use Rattle.memory.specs.Stored.{stored, units_after}
use Rattle.embed.specs.declared.results.BenchSize.{BenchSize}
use Rattle.embed.specs.declared.results.BenchValue.{BenchValue}
use Rattle.embed.specs.Arguments.{device_named_by}

-- the status of an answer: 0, or the refusal's number
abbrev pub status_of : Result (Unit {0}) Refusal → ℕ
status_of (Ok _) = 0
status_of (Err r) = number_of r

abbrev pub size_of : Result ℕ Refusal → BenchSize
size_of (Ok n) = record { units = n; status = 0 }
size_of (Err r) = record { units = 0; status = number_of r }

-- how many units storage of these extents takes
abbrev pub size_in : Form → Result (List ℕ) ℕ → BenchSize
size_in f (Ok es) = size_of (needed f es)
size_in f (Err s) = record { units = 0; status = s }

abbrev pub value_told : Option ℕ → BenchValue
value_told (Some v) = record { status = 0; value = v }
value_told None = record { status = 11; value = 0 }

-- what a point of a memory holds
abbrev pub point_of : Meaning → Result Device ℕ → ℕ → BenchValue
point_of m (Ok d) n = value_told (told m d n)
point_of m (Err s) n = record { status = s; value = 0 }

-- what a point in storage holds
abbrev pub read_in : Form → List ℕ → Result (List ℕ) ℕ → ℕ → ℕ → BenchValue
read_in f us (Ok es) p n = point_of (stored f us es) (device_named_by p) n
read_in f us (Err s) p n = record { status = s; value = 0 }

-- what a setting of a point in storage of these extents answers, and the units after it
abbrev pub setting_status : Form → List ℕ → List ℕ → Result Device ℕ → ℕ → ℕ → ℕ
setting_status f us es (Ok d) n v = status_of (write_answer (stored f us es) d n v)
setting_status f us es (Err s) n v = s

abbrev pub setting_units : Form → List ℕ → List ℕ → Result Device ℕ → ℕ → ℕ → List ℕ
setting_units f us es (Ok d) n v = units_after f (write_answer (stored f us es) d n v) us es d n v
setting_units f us es (Err s) n v = us

-- the same, where the extents may be refused, and then nothing changes
abbrev pub set_status : Form → List ℕ → Result (List ℕ) ℕ → ℕ → ℕ → ℕ → ℕ
set_status f us (Ok es) p n v = setting_status f us es (device_named_by p) n v
set_status f us (Err s) p n v = s

abbrev pub set_units : Form → List ℕ → Result (List ℕ) ℕ → ℕ → ℕ → ℕ → List ℕ
set_units f us (Ok es) p n v = setting_units f us es (device_named_by p) n v
set_units f us (Err s) p n v = us

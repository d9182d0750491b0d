-- Writes and registrations worked out by hand, as one computed test.
use Rattle.std.specs.Prelude.{ℕ, zero, suc, Bool, true, false, ◌&&◌, List, [], ◌∷◌, ◌++◌, length, Some, None, Ok, Err, codes, Option, Result, ◌==◌}
use Rattle.device.specs.declared.types.Device.TheVariants.{D}
use Rattle.memory.specs.Meaning.{Meaning}
use Rattle.wire.specs.declared.code.Code.{Code}
use Rattle.wire.specs.declared.code.Code.TheVariants.{Binary, Ascii}
use Rattle.frame.specs.declared.fault.Fault.{Fault}
use Rattle.frame.specs.Faults.{number_of}
use Rattle.request.specs.Requests.{Setting, Asked, random_write}
use Rattle.request.specs.Judging.{judged}
use Rattle.request.specs.Verdicts.{command}
use Rattle.request.specs.Writing.{writing}
use Rattle.server.specs.Registered.{Listed}
use Rattle.server.specs.Serves.{served}
use Rattle.examples.specs.Taking.{memory_of, take, met}

-- a random write gives D5 1 and then 2: D5 is 2
abbrev later_wins : Bool
later_wins = ((take Ascii [] (codes "500000FF03FF000028001014020000" ++ codes "0200D*0000050001D*0000050002")).meaning.value D 5) == 2

-- the end code of a request over a memory of 65,536 points a device, by the verdict on its field values
abbrev wide : Meaning
wide = record { extent = λ d. 65536; value = λ d n. 0; opened = λ d n. true }

abbrev settings : ℕ → List Setting
settings zero = []
settings (suc n) = ((D, n), 7) ∷ settings n

abbrev number_met : Result Asked Fault → ℕ
number_met (Ok b) = 0
number_met (Err f) = number_of f.cause

abbrev end_code : Code → Asked → ℕ
end_code code a = number_met (judged code wide (command a) (writing code a) 0)

abbrev gets : Asked → ℕ → Bool
gets a n = end_code Binary a == n && end_code Ascii a == n

-- a random write takes 160 words and not 161, 137 double words and not 138
abbrev write_limits : Bool
write_limits =
    gets (random_write (settings 160) []) 0 && gets (random_write (settings 161) []) 0xC054
    && gets (random_write [] (settings 137)) 0 && gets (random_write [] (settings 138)) 0xC054

-- D1 being closed, a random write to D0 and D1 gets C05F and D0 is unmoved
abbrev closed_second : Bool
closed_second =
    let s = served Ascii (codes "500000FF03FF000028001014020000" ++ codes "0200D*0000000001D*0000010002") 4096 (record { extent = λ d. 64; value = λ d n. 0; opened = λ d n. (n == 0) }) true None in
    (met s.fault_met == 0xC05F) && s.meaning.value D 0 == 0

abbrev one_word : Option Listed → Bool
one_word None = false
one_word (Some l) = length l.0 == 1

-- a registration that is refused leaves the old one
abbrev registration_kept : Bool
registration_kept =
    let s = served Ascii (codes "500000FF03FF000018001008010000" ++ codes "0100D*000064") 4096 (memory_of []) true (Some ((D, 3) ∷ [], [])) in
    (met s.fault_met == 0xC056) && one_word s.registered

abbrev pub writes_worked : Bool
writes_worked = later_wins && write_limits && closed_second && registration_kept

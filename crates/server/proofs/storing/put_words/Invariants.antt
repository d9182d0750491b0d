use Rattle.std.proofs.Common.{◌+◌, ◌-◌, ◌*◌, ◌<◌, drop}
use Rattle.device.specs.Devices.{kind_of}
use Rattle.memory.specs.Leaving.{Tries}
use Rattle.wire.specs.Numbers.{number_in}
use Rattle.request.specs.Fields.{list_in}
use Rattle.request.specs.Limits.{points}
use Rattle.request.specs.Writing.{Each}
use Rattle.server.specs.Writes.{as_words}
use Rattle.server.proofs.Trying.{IsRest}
use Rattle.server.proofs.storing.put_words.Given as goal

abbrev pub invariant-loop-i : goal.invariant-loop-i
invariant-loop-i g l =
    let R = Tries g.M.ReadableMemory.means g.M.WritableMemory.leaves in
    let r = number_in g.C.WireCode.which 2 in
    IsRest R l.initial.memory (as_words l.device l.number (list_in r l.count l.bytes)) l.memory (as_words l.device (l.number + l.i * points (kind_of l.device) 1) (list_in r (l.count - l.i) (drop l.place l.bytes)))
    × (Each (λ v. v < 65536) (list_in r (l.count - l.i) (drop l.place l.bytes)) → Each (λ v. v < 65536) (list_in r l.count l.bytes))

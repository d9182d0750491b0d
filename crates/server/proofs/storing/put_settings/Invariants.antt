use Rattle.std.proofs.Common.{◌-◌, ◌^◌, ◌<◌, drop}
use Rattle.memory.specs.Leaving.{Tries}
use Rattle.request.specs.Entries.{setting_in}
use Rattle.request.specs.Fields.{list_in}
use Rattle.request.specs.Writing.{Each}
use Rattle.server.specs.Points.{bytes_of}
use Rattle.server.specs.Writes.{each, as_width}
use Rattle.server.proofs.Trying.{IsRest}
use Rattle.server.proofs.storing.put_settings.Given as goal

abbrev pub invariant-loop : goal.invariant-loop
invariant-loop g l =
    let R = Tries g.M.ReadableMemory.means g.M.WritableMemory.leaves in
    let r = setting_in g.C.WireCode.which (bytes_of l.width) in
    IsRest R l.initial.memory (each (as_width l.width) (list_in r l.count (drop l.from l.list))) l.memory (each (as_width l.width) (list_in r (l.count - l.counter) (drop l.place l.list)))
    × (Each (λ s. s.1 < 256 ^ bytes_of l.width) (list_in r (l.count - l.counter) (drop l.place l.list)) → Each (λ s. s.1 < 256 ^ bytes_of l.width) (list_in r l.count (drop l.from l.list)))

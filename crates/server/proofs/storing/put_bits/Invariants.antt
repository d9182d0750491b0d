use Rattle.std.proofs.Common.{◌+◌, ◌-◌}
use Rattle.memory.specs.Leaving.{Tries}
use Rattle.request.specs.Fields.{bits_in}
use Rattle.server.specs.Writes.{in_row}
use Rattle.server.proofs.Trying.{IsRest}
use Rattle.server.proofs.storing.put_bits.Given as goal

abbrev pub invariant-loop-i : goal.invariant-loop-i
invariant-loop-i g l =
    let R = Tries g.M.ReadableMemory.means g.M.WritableMemory.leaves in
    let code = g.C.WireCode.which in
    IsRest R l.initial.memory (in_row l.device l.number (bits_in code l.bytes 0 l.count)) l.memory (in_row l.device (l.number + l.i) (bits_in code l.bytes l.i (l.count - l.i)))

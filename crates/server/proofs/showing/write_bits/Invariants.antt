use Rattle.std.proofs.Common.{◌≡◌, ◌+◌, ◌-◌, ◌*◌}
use lib.Seq.{sets}
use Rattle.wire.specs.Points.{bits_bytes, bits_size}
use Rattle.server.specs.Points.{bits}
use Rattle.server.proofs.showing.write_bits.Given as goal

abbrev pub invariant-loop-i : goal.invariant-loop-i
invariant-loop-i g l =
    let code = g.C.WireCode.which in
    let V = (g.M.ReadableMemory.means l.memory).value in
    (sets l.out l.place (bits_bytes code (bits V l.device (l.number + 2 * l.i) (l.count - 2 * l.i))) ≡ sets l.initial.out l.at (bits_bytes code (bits V l.device l.number l.count)))
    × (l.place + bits_size code (l.count - 2 * l.i) ≡ l.at + bits_size code l.count)

use Rattle.std.proofs.Common.{◌≡◌, ◌+◌, ◌-◌, ◌*◌}
use lib.Seq.{sets}
use Rattle.wire.specs.Numbers.{per_byte}
use Rattle.wire.specs.Series.{values_bytes}
use Rattle.device.specs.Devices.{kind_of}
use Rattle.request.specs.Limits.{points}
use Rattle.server.specs.Points.{words}
use Rattle.server.proofs.showing.write_words.Given as goal

abbrev pub invariant-loop-i : goal.invariant-loop-i
invariant-loop-i g l =
    let code = g.C.WireCode.which in
    let V = (g.M.ReadableMemory.means l.memory).value in
    (sets l.out l.place (values_bytes code 2 (words V l.device (l.number + l.i * points (kind_of l.device) 1) (l.count - l.i))) ≡ sets l.initial.out l.at (values_bytes code 2 (words V l.device l.number l.count)))
    × (l.place + (l.count - l.i) * (2 * per_byte code) ≡ l.at + l.count * (2 * per_byte code))

use Rattle.std.proofs.Common.{◌≡◌, ℕ, ◌+◌, ◌-◌, ◌*◌, List, take, drop}
use lib.Seq.{sets}
use Rattle.device.specs.declared.types.Device.{Device}
use Rattle.wire.specs.Numbers.{per_byte}
use Rattle.wire.specs.Series.{values_bytes}
use Rattle.server.specs.Points.{bytes_of, values_of}
use Rattle.server.specs.Registered.{all_of}
use Rattle.server.proofs.showing.write_kept.Given as goal

abbrev pub invariant-loop-i : goal.invariant-loop-i
invariant-loop-i g l =
    let code = g.C.WireCode.which in
    let V = (g.M.ReadableMemory.means l.memory).value in
    let k = bytes_of l.width * per_byte code in
    let all = all_of (g.R.Registering.lists l.registration) in
    let shown : List (Device × ℕ) → List ℕ = λ as'. values_bytes code (bytes_of l.width) (values_of l.width V as') in
    (sets l.out l.place (shown (take (l.count - l.i) (drop (l.from + l.i) all))) ≡ sets l.initial.out l.at (shown (take l.count (drop l.from all)))) × (l.place + (l.count - l.i) * k ≡ l.at + l.count * k)

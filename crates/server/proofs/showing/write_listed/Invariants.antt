use Rattle.std.proofs.Common.{◌≡◌, ℕ, ◌+◌, ◌-◌, ◌*◌, ◌≤◌, List, length, drop}
use lib.Seq.{sets}
use Rattle.device.specs.declared.types.Device.{Device}
use Rattle.wire.specs.Numbers.{per_byte}
use Rattle.wire.specs.Series.{values_bytes}
use Rattle.request.specs.Entries.{access_in}
use Rattle.request.specs.Fields.{list_in}
use Rattle.server.specs.Points.{bytes_of, values_of}
use Rattle.server.proofs.showing.write_listed.Given as goal

abbrev pub invariant-loop : goal.invariant-loop
invariant-loop g l =
    let code = g.C.WireCode.which in
    let V = (g.M.ReadableMemory.means l.memory).value in
    let k = bytes_of l.width * per_byte code in
    let all = list_in (access_in code) l.count (drop l.from l.list) in
    let left = list_in (access_in code) (l.count - l.counter) (drop l.next l.list) in
    let shown : List (Device × ℕ) → List ℕ = λ as'. values_bytes code (bytes_of l.width) (values_of l.width V as') in
    (sets l.out l.place (shown left) ≡ sets l.initial.out l.at (shown all)) × (l.place + length left * k ≡ l.at + length all * k) × (l.place + (l.count - l.counter) * k ≤ l.at + l.count * k)

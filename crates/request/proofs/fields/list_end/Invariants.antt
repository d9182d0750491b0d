use Rattle.std.proofs.Common.{◌≡◌, ◌-◌, ◌≤◌}
use Rattle.request.specs.Fields.{list_end, CanRead, Reads, ReadsWithin}
use Rattle.request.proofs.fields.list_end.Given as goal

abbrev pub invariant-loop : goal.invariant-loop
invariant-loop g l =
    let asks = goal.F-pre g l.read in
    let gives = goal.F-post g l.read in
    CanRead asks gives (l.count - l.counter) l.place
    × ((r : _) → Reads gives r → list_end r (l.count - l.counter) l.place ≡ list_end r l.count l.at)
    × ((n : _) → ReadsWithin asks gives n → l.at ≤ n → l.place ≤ n)

use Rattle.std.proofs.Common.{◌≡◌, ◌-◌, length, drop}
use lib.Seq.{sets}
use Rattle.request.specs.Fields.{list_in}
use Rattle.request.specs.Entries.{access_in}
use Rattle.server.specs.Registered.{accesses}
use Rattle.server.proofs.registration.lists.fill.Given as goal

abbrev pub invariant-loop-entry : goal.invariant-loop-entry
invariant-loop-entry g l =
    let r = access_in g.C.WireCode.which in
    let before = l.initial.entry-items in
    sets (accesses l.entry-items) l.entry-index (list_in r (length before - l.entry-index) (drop l.place l.list)) ≡ sets (accesses before) 0 (list_in r (length before) (drop l.from l.list))

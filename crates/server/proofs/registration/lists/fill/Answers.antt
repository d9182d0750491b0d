use Rattle.std.proofs.Common.{length, sym, ap, ◌∙◌, arith}
use Rattle.std.proofs.lemmas.List.{set-get_or}
use lib.Seq.{sets}
use Rattle.request.specs.Entries.{access_in}
use Rattle.request.proofs.Turns.{in_goes_on, in_stops}
use Rattle.server.specs.Registered.{accesses}
use Rattle.server.proofs.Listing.{fill_turn}
use Rattle.server.proofs.registration.lists.fill.Goals as goal

pub returns-in_default : goal.returns-in_default
returns-in_default g c =
    let x = c.args in
    let l = c.loop-entry in
    let read = sym (sym c.in_default.is ∙ c.access_at.ensures.value) in
    let none = in_stops (access_in g.C.WireCode.which) x.list.now (length x.entries.now) l.entry-index l.place (omega arith) _ read in
    ap accesses (set-get_or l.entry-items l.entry-index _) ∙ sym (ap (sets (accesses l.entry-items) l.entry-index) none) ∙ l.invariant

pub loop-entry-preserved : goal.loop-entry-preserved
loop-entry-preserved g c =
    let x = c.args in
    let l = c.loop-entry in
    let q = c.in-Ok in
    let got = in_goes_on (access_in g.C.WireCode.which) x.list.now (length x.entries.now) l.entry-index l.place (omega arith) _ (sym (sym q.is ∙ c.access_at.ensures.value)) in
    fill_turn l.entry-items l.entry-index (record { device = q.device; number = q.number }) _ _ got ∙ l.invariant

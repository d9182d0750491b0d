use Rattle.std.proofs.Common.{ℕ, ◌*◌, ◌^◌, ◌<◌, List, drop, ap, subst}
use Rattle.memory.specs.Leaving.{Leads, Tries}
use Rattle.request.specs.Entries.{setting_in}
use Rattle.request.specs.Fields.{list_in}
use Rattle.request.specs.Writing.{Each}
use Rattle.server.specs.Writes.{each, as_double}
use Rattle.server.proofs.Trying.{leads_on}
use Rattle.server.proofs.storing.put_random.Goals as goal

pub returns : goal.returns
returns g c =
    let x = c.args in
    let R = Tries g.M.ReadableMemory.means g.M.WritableMemory.leaves in
    let code = g.C.WireCode.which in
    let one = c.put_settings in
    let two = c.put_settings-2 in
    let part = ap (λ n. drop (x.words * n) x.list.now) c.field_size.ensures in
    record {
      leads = leads_on R x.memory.now one.new.memory two.new.memory _ _ one.ensures.leads
          (subst (λ (l : List ℕ). Leads R one.new.memory (each as_double (list_in (setting_in code 4) x.doubles l)) two.new.memory) part two.ensures.leads);
      words = one.ensures.small;
      doubles = subst (λ (l : List ℕ). Each (λ s. s.1 < 256 ^ 4) (list_in (setting_in code 4) x.doubles l)) part two.ensures.small;
    }

use Rattle.std.proofs.Common.{sym, subst}
use Rattle.request.specs.Readings.{held}
use Rattle.request.specs.Laws.{Alike, Passed}
use Rattle.request.proofs.Accepted.{all_bounded}
use Rattle.request.proofs.Alike.{alike, all_passed}
use Rattle.request.proofs.reading.read_request.Goals as goal

pub returns : goal.returns
returns g c =
    let code = g.C.WireCode.which in
    let s = c.args.memory.now in
    let m = g.M.ReadableMemory.means s in
    let flag = c.args.write_flag in
    let h = c.args.header in
    let frame = c.args.frame.now in
    let e = c.read_command.ensures.value in
    let tested = subst (Passed m) (sym e) (all_passed code m flag h frame) in
    record {
      value = e;
      whole = c.read_command.ensures.whole;
      stands = c.read_command.ensures.stands;
      alike = subst (Alike code m flag h frame) (sym e) (alike code m flag h frame);
      passed = tested;
      bounded = all_bounded code m (held c.read_command.result) c.read_command.ensures.whole tested;
    }

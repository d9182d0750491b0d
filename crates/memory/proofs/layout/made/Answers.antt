use Rattle.std.proofs.Common.{sym, ◌∙◌, arith}
use Rattle.memory.proofs.Smallness.{small_each, none_room}
use Rattle.memory.proofs.layout.made.Goals as goal

pub returns-then-starts-units-clause-small : goal.returns-then-starts-units-clause-small
returns-then-starts-units-clause-small c = small_each c.args.extents (sym c.all_small.ensures ∙ c.if-all_small.true)

pub returns-else-all_small-clause-fits : goal.returns-else-all_small-clause-fits
returns-else-all_small-clause-fits c = omega (arith, none_room c.args.form)

use Rattle.std.proofs.Common.{Ok, ap, sym, ◌∙◌}
use Rattle.device.specs.declared.types.Notation.TheVariants.{Hexadecimal}
use Rattle.wire.proofs.Gathered.{table_good}
use Rattle.wire.proofs.ascii.read_hex_digit.Goals as goal

pub returns-then-value-lt-NO_DIGIT : goal.returns-then-value-lt-NO_DIGIT
returns-then-value-lt-NO_DIGIT c =
    let e = c.table_digit-value.ensures in
    ap Ok e ∙ sym (table_good Hexadecimal c.args.place c.args.byte (rw (← e) c.if-value-lt-NO_DIGIT.true))

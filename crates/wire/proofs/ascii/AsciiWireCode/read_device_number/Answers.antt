use Rattle.std.proofs.Common.{drop, ap, ◌∙◌}
use Rattle.wire.specs.Numbers.{digits_run}
use Rattle.wire.proofs.ascii.AsciiWireCode.read_device_number.Goals as goal

pub returns-in-Decimal-clause-value : goal.returns-in-Decimal-clause-value
returns-in-Decimal-clause-value c = c.read_digits.ensures.value ∙ ap (λ t. digits_run t 6 2 0 (drop 2 c.args.bytes.now)) c.in-Decimal.ensures

pub returns-in-Hexadecimal-clause-value : goal.returns-in-Hexadecimal-clause-value
returns-in-Hexadecimal-clause-value c = c.read_digits-in-Hexadecimal.ensures.value ∙ ap (λ t. digits_run t 6 2 0 (drop 2 c.args.bytes.now)) c.in-Hexadecimal.ensures

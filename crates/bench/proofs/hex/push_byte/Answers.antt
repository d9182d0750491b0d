use Rattle.std.proofs.Common.{◌/◌, ◌%◌, [], ◌∷◌, string_bytes}
use Rattle.wire.specs.Numbers.{hex_char}
use Rattle.bench.proofs.Digits.{added}
use Rattle.bench.proofs.hex.push_byte.Goals as goal

pub returns : goal.returns
returns c =
    let b = c.args.byte in
    added (string_bytes c.args.text.now) (hex_char (b / 16) ∷ []) (hex_char (b % 16) ∷ []) c.in_ok-push_digit.ensures c.in_ok-push_digit-2.ensures

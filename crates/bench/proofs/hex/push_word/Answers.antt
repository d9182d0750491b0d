use Rattle.std.proofs.Common.{◌/◌, ◌%◌, string_bytes}
use Rattle.bench.specs.Hex.{byte_text}
use Rattle.bench.proofs.Digits.{added}
use Rattle.bench.proofs.hex.push_word.Goals as goal

pub returns : goal.returns
returns c =
    let w = c.args.word in
    added (string_bytes c.args.text.now) (byte_text (w / 256)) (byte_text (w % 256)) c.in_ok-push_byte.ensures c.in_ok-push_byte-2.ensures

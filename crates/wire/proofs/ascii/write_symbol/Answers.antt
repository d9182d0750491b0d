use Rattle.std.proofs.Common.{◌+◌, ◌-◌, ◌∙◌, arith}
use Rattle.device.specs.Devices.{symbol_of}
use Rattle.wire.proofs.Places.{part_sets}
use Rattle.wire.proofs.RoundTrip.{length_symbol}
use Rattle.wire.proofs.ascii.write_symbol.Goals as goal

pub returns : goal.returns
returns c =
    let at = c.args.at in
    part_sets c.args.out.now at (at + 2 - at) (symbol_of c.args.device) c.copy_from_slice.new.self (omega (arith, length_symbol c.args.device)) (omega arith) (c.copy_from_slice.ensures.after ∙ c.symbol.ensures)

-- All frames worked out by hand, as one computed test over the definition of the server.
use Rattle.std.specs.Prelude.{Bool, ◌&&◌}
use Rattle.examples.specs.Reads.{reads_worked}
use Rattle.examples.specs.Writes.{writes_worked}

abbrev pub worked : Bool
worked = reads_worked && writes_worked

use Rattle.std.proofs.Common.{◌≡◌, map, drop}
use lib.Seq.{sets}
use Rattle.embed.specs.Registered.{kept_of}
use Rattle.embed.proofs.registered.write_entries.Given as goal

abbrev pub invariant-loop-i : goal.invariant-loop-i
invariant-loop-i l = sets l.entries l.i (map kept_of (drop l.i l.accesses)) ≡ sets l.initial.entries 0 (map kept_of l.accesses)

use Rattle.std.proofs.Common.{refl}
use Rattle.sheet.specs.Records.{tested_record}
use Rattle.sheet.specs.Runs.{records}
use Rattle.examples.proofs.worked_runs.Goals as goal

pub returns : goal.returns
unfolding records tested_record
returns c = refl

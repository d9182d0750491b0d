use Rattle.std.proofs.Common.{ap, ◌∙◌}
use Rattle.server.specs.Registered.{device_and_number}
use Rattle.embed.proofs.Entries.{kept_access}
use Rattle.embed.proofs.registered.BenchRegistrationRegistering.access.Goals as goal

pub returns : goal.returns
returns c = ap device_and_number c.access.ensures ∙ kept_access c.args.self.now c.args.index c.requires

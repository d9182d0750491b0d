use Rattle.std.proofs.Common.{◌≡◌, ◌-◌, ◌≤◌, length}
use Rattle.server.specs.Registered.{registered}
use Rattle.server.specs.Histories.{Aside, state_at}
use Rattle.sheet.specs.Runs.{records}
use Rattle.sheet.proofs.Turns.{LedRest}
use Rattle.sheet.proofs.run.run_records.Given as goal

abbrev pub invariant-loop-reason : goal.invariant-loop-reason
invariant-loop-reason g l =
    let m = g.M.ReadableMemory in
    ((b : Aside) → (records l.code l.sheet (l.cancel - l.count) l.at l.count l.reply (state_at m.means registered l.memory l.settings l.registration b)).end
    ≡ (records l.code l.sheet l.cancel 1 0 l.initial.reply (state_at m.means registered l.initial.memory l.settings l.initial.registration b)).end)
    × ((b : Aside) (z : g.row.M.Denot) → LedRest g.M.WritableMemory.leaves l.code l.sheet (l.cancel - l.count) l.at l.count l.reply (state_at m.means registered l.memory l.settings l.registration b) l.memory z
    → LedRest g.M.WritableMemory.leaves l.code l.sheet l.cancel 1 0 l.initial.reply (state_at m.means registered l.initial.memory l.settings l.initial.registration b) l.initial.memory z)
    × (l.at ≤ length l.sheet)
    × (l.count ≤ l.cancel)

abbrev pub decreases-loop-reason : goal.decreases-loop-reason
decreases-loop-reason g l = length l.sheet - l.at

use Rattle.std.proofs.Common.{◌≡◌, ℕ, ◌≤◌, length, get_or}
use Rattle.memory.specs.Layout.{start}
use Rattle.memory.proofs.layout.starts_of.Given as goal

abbrev pub invariant-loop-place : goal.invariant-loop-place
invariant-loop-place l = (length l.starts ≡ 13) × ((p : ℕ) → p ≤ l.place → get_or l.starts p 0 ≡ start l.form l.extents p)

-- What writes leave of the memory itself, to the last byte: its meaning says no more than what its points show.
use Rattle.std.specs.Prelude.{◌≡◌, ℕ, List, [], ◌∷◌, Ok, Err, Result}
use Rattle.device.specs.declared.types.Device.{Device}
use Rattle.memory.specs.Meaning.{Meaning, write_answer, written}
use Rattle.memory.specs.declared.refusal.Refusal.{Refusal}

-- a device, a number and the value that the point is given
abbrev pub Write : Type 0
Write = Device × ℕ × ℕ

-- a relation of a memory, a write, and the memory then
abbrev pub Leaving : Type 0 → Type 1
Leaving S = S → Device → ℕ → ℕ → S → Type 0

-- what a write that answered r leaves: a refusal leaves the memory that was there
abbrev pub LeftBy : {S : Type 0} → Leaving S → Result (Unit {0}) Refusal → S → Device → ℕ → ℕ → S → Type 0
LeftBy leaves (Ok _) s d n v t = leaves s d n v t
LeftBy leaves (Err _) s d n v t = t ≡ s

-- writes lead from one memory to another, each as it leaves the memory that it finds; no write leaves the memory that was there
abbrev pub Leads : {S : Type 0} → Leaving S → S → List Write → S → Type 0
Leads leaves s [] t = t ≡ s
Leads {S} leaves s (w ∷ ws) t = (u : S) × leaves s w.0 w.1 w.2 u × Leads leaves u ws t

-- a write that is put to a memory which may refuse it: what it leaves of the memory, and of its meaning
abbrev pub Tries : {S : Type 0} → (S → Meaning) → Leaving S → Leaving S
Tries means leaves s d n v t =
    LeftBy leaves (write_answer (means s) d n v) s d n v t × (means t ≡ written (write_answer (means s) d n v) (means s) d n v)

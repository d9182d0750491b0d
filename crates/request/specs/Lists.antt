-- How the requests with lists are read: the counts, then each entry, to the end of the frame.
use Rattle.std.specs.Prelude.{ℕ, ◌+◌, Bool, cond, List, Err, Result}
use Rattle.memory.specs.Meaning.{Meaning}
use Rattle.wire.specs.declared.code.Code.{Code}
use Rattle.wire.specs.Numbers.{then}
use Rattle.frame.specs.declared.fault.Cause.TheVariants.{RandomBitCount, RandomCount}
use Rattle.frame.specs.declared.fault.Fault.{Fault}
use Rattle.frame.specs.Faults.{fault}
use Rattle.request.specs.Fields.{number_at, counts_at, list_end, ends}
use Rattle.request.specs.Limits.{random_ok, random_bits_ok, random_write_ok}
use Rattle.request.specs.Entries.{access_at, setting_at, bit_setting_at}

-- two counts that pass a test, and two lists behind them to the end of the frame: the counts, and where the lists begin
abbrev pub two_lists : {X : Type 0} → Code → List ℕ → ℕ → (ℕ → ℕ → Bool) → (ℕ → Result (X × ℕ) Fault) → (ℕ → Result (X × ℕ) Fault) → Result (ℕ × ℕ × ℕ) Fault
two_lists code bytes at ok r s =
    then (counts_at code bytes at) (λ a.
    cond (ok a.0 a.1)
    (then (list_end r a.0 (at + a.2)) (λ e. then (list_end s a.1 e) (λ f. ends bytes f (a.0, a.1, at + a.2))))
    (Err (fault RandomCount at)))

-- the lists of a random read or a registration
abbrev pub random_list : Code → Meaning → List ℕ → ℕ → Result (ℕ × ℕ × ℕ) Fault
random_list code m bytes at = two_lists code bytes at random_ok (access_at code m 1 bytes) (access_at code m 2 bytes)

-- the lists of a random write
abbrev pub write_list : Code → Meaning → List ℕ → ℕ → Result (ℕ × ℕ × ℕ) Fault
write_list code m bytes at = two_lists code bytes at random_write_ok (setting_at code m 1 bytes) (setting_at code m 2 bytes)

-- the list of a random write in bits: its count, and where it begins
abbrev pub bits_list : Code → Meaning → List ℕ → ℕ → Result (ℕ × ℕ) Fault
bits_list code m bytes at =
    then (number_at code bytes at 1) (λ n.
    cond (random_bits_ok n.0)
    (then (list_end (bit_setting_at code m bytes) n.0 (at + n.1)) (λ e. ends bytes e (n.0, at + n.1)))
    (Err (fault RandomBitCount at)))

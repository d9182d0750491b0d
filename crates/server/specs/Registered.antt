-- What a registration lists.
use Rattle.std.specs.Prelude.{ℕ, ◌-◌, List, [], ◌++◌, length, map, take, drop, Some, None, Option, slice_index_or}
use Rattle.device.specs.declared.types.Device.{Device}
use Rattle.device.specs.declared.types.Device.TheVariants.{M}
use Rattle.server.specs.declared.registration.Access.{Access}
use Rattle.server.specs.declared.registration.Registration.{Registration}

-- the accesses of one word, and those of a double word
abbrev pub Listed : Type 0
Listed = List (Device × ℕ) × List (Device × ℕ)

abbrev pub accesses : List Access → List (Device × ℕ)
accesses es = map (λ e. (e.device, e.number)) es

abbrev pub listed : Option ℕ → ℕ → List (Device × ℕ) → Option Listed
listed None w es = None
listed (Some n) w es = Some (take w es, take (n - w) (drop w es))

-- absent until the first accepted registration
abbrev pub registered : Registration → Option Listed
registered r = listed r.count r.words (accesses r.entries)

-- the accesses of one word, and those of a double word; none where nothing is registered
abbrev pub words_of : Option Listed → List (Device × ℕ)
words_of None = []
words_of (Some l) = l.0

abbrev pub doubles_of : Option Listed → List (Device × ℕ)
doubles_of None = []
doubles_of (Some l) = l.1

-- how many there are of either, if anything is registered
abbrev pub counts_of : Option Listed → Option (ℕ × ℕ)
counts_of None = None
counts_of (Some l) = Some (length l.0, length l.1)

-- the accesses of one word and behind them those of a double word
abbrev pub all_of : Option Listed → List (Device × ℕ)
all_of o = words_of o ++ doubles_of o

-- an access as a device and a number
abbrev pub device_and_number : Access → Device × ℕ
device_and_number a = (a.device, a.number)

-- the access with an index, and that of M0 where there is none
abbrev pub listed_access : Option Listed → ℕ → Device × ℕ
listed_access o i = slice_index_or (all_of o) i (M, 0)

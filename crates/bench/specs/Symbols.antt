-- A device by its symbol without star.
use Rattle.std.specs.Prelude.{ℕ, cond, List, [], ◌∷◌, None, Option, ◌==◌}
use Rattle.device.specs.declared.types.Device.{Device}
use Rattle.device.specs.Search.{device_by_symbol}

-- a single letter stands for itself and a star (42); a star is not written
abbrev pub named_device : List ℕ → Option Device
named_device [] = None
named_device (a ∷ []) = device_by_symbol a 42
named_device (a ∷ b ∷ []) = cond (b == 42) None (device_by_symbol a b)
named_device (a ∷ b ∷ c ∷ xs) = None

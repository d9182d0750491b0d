-- What a registration that the caller keeps lists.
use Rattle.std.specs.Prelude.{ℕ, ◌+◌, Bool, cond, not, ◌&&◌, ◌||◌, List, map, take, drop, Some, None, Option, nat_le, nat_lt}
use Rattle.std.specs.List.{list_all}
use Rattle.device.specs.declared.types.Device.{Device}
use Rattle.device.specs.Devices.{device_at_place, place_of}
use Rattle.server.specs.declared.registration.Access.{Access}
use Rattle.server.specs.Registered.{Listed, accesses}
use Rattle.embed.specs.declared.registered.BenchAccess.{BenchAccess}
use Rattle.embed.specs.declared.registered.BenchRegistration.{BenchRegistration}

-- whether a device has the place of an access
abbrev pub is_named : BenchAccess → Bool
is_named e = nat_lt e.device 12

-- whether it can be listed: nothing is registered, or as many accesses as can be at most, each of a device
abbrev pub is_listing : BenchRegistration → Bool
is_listing k = not k.registered || (nat_le (k.words + k.doubles) 192 && list_all is_named (take (k.words + k.doubles) k.entries))

-- an access by the place of its device, and the other way round
abbrev pub entry_access : BenchAccess → Access
entry_access e = record { device = device_at_place e.device; number = e.number }

abbrev pub kept_of : Access → BenchAccess
kept_of a = record { device = place_of a.device; number = a.number }

abbrev pub entries_in : BenchRegistration → List (Device × ℕ)
entries_in k = accesses (map entry_access k.entries)

-- what is registered by it: nothing where it holds more than can be registered
abbrev pub kept_list : BenchRegistration → Option Listed
kept_list k = cond (k.registered && nat_le (k.words + k.doubles) 192) (Some (take k.words (entries_in k), take k.doubles (drop k.words (entries_in k)))) None

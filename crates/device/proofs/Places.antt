-- Each device stands at its place in the table.
use Rattle.std.proofs.Common.{◌≡◌, ◌<◌, sym, refl, ap, ◌∙◌, lit<}
use Rattle.device.specs.declared.types.Device.{Device}
use Rattle.device.specs.declared.types.Device.TheVariants.{M, SM, L, X, Y, B, D, SD, ZR, W, TS, TN}
use Rattle.device.specs.Devices.{place_of, device_at_place}

pub place_below : (d : Device) → place_of d < 12
place_below M = lit< tt
place_below SM = lit< tt
place_below L = lit< tt
place_below X = lit< tt
place_below Y = lit< tt
place_below B = lit< tt
place_below D = lit< tt
place_below SD = lit< tt
place_below ZR = lit< tt
place_below W = lit< tt
place_below TS = lit< tt
place_below TN = lit< tt

pub at_place : (d : Device) → device_at_place (place_of d) ≡ d
at_place M = refl
at_place SM = refl
at_place L = refl
at_place X = refl
at_place Y = refl
at_place B = refl
at_place D = refl
at_place SD = refl
at_place ZR = refl
at_place W = refl
at_place TS = refl
at_place TN = refl

-- no two devices share a place
pub place_one : (d e : Device) → place_of d ≡ place_of e → d ≡ e
place_one d e p = sym (at_place d) ∙ ap device_at_place p ∙ at_place e

-- A loop that writes what it makes of each entry into the place of the same number.
use Rattle.std.proofs.Common.{◌≡◌, ℕ, zero, suc, ◌+◌, ◌<◌, ◌≤◌, Bool, true, false, cond, ◌&&◌, leb, ltb, List, [], ◌∷◌, ◌++◌, length, get_or, map, take, drop, Some, None, sym, refl, ap, ◌∙◌, append-nil, arith}
use Rattle.std.proofs.lemmas.List.{length-map, drop_all, get_or-take}
use Rattle.std.proofs.Math.Seq.{take-add}
use Rattle.std.proofs.Math.ListN.{get_or-map}
use lib.Seq.{sets, sets-eq}
use Rattle.device.specs.declared.types.Device.{Device}
use Rattle.device.specs.declared.types.Device.TheVariants.{M}
use Rattle.std.specs.List.{list_all}
use Rattle.std.proofs.lemmas.Bool.{lt-ltb, and_from}
use Rattle.device.specs.Devices.{place_of}
use Rattle.device.proofs.Places.{at_place, place_below}
use Rattle.server.specs.declared.registration.Access.{Access}
use Rattle.server.specs.Registered.{accesses, all_of, listed_access, device_and_number}
use Rattle.embed.specs.declared.registered.BenchAccess.{BenchAccess}
use Rattle.embed.specs.declared.registered.BenchRegistration.{BenchRegistration}
use Rattle.embed.specs.Registered.{is_named, entry_access, kept_of, entries_in, kept_list}

-- all are written
pub all_written : {A B : Type 0} (f : A → B) (xs : List A) (before after : List B) → length before ≡ length xs → after ≡ sets before 0 (map f xs) → after ≡ map f xs
all_written f xs before after e h =
    let long : length (map f xs) ≡ length xs = length-map xs f in
    h ∙ sets-eq (map f xs) before 0 (omega (arith, long, e)) ∙ ap (λ l. map f xs ++ l) (drop_all (0 + length (map f xs)) before (omega (arith, long, e))) ∙ append-nil (map f xs)

-- what is kept of accesses stands for these
pub kept_back : (es : List Access) → accesses (map entry_access (map kept_of es)) ≡ accesses es
kept_back [] = refl
kept_back (e ∷ es) = λ i. (at_place e.device i, e.number) ∷ kept_back es i

-- an entry that holds no access
abbrev pub none_kept : BenchAccess
none_kept = record { device = 0; number = 0 }

take_short : {A : Type 0} (n : ℕ) (xs : List A) → length (take n xs) ≤ n
take_short zero xs = omega arith
take_short (suc n) [] = omega arith
take_short (suc n) (x ∷ xs) = let h = take_short n xs in omega (arith, h)

-- the accesses that it keeps where it keeps any
abbrev all_kept : BenchRegistration → List (Device × ℕ)
all_kept k = take k.words (entries_in k) ++ take k.doubles (drop k.words (entries_in k))

entry_in : (k : BenchRegistration) (i : ℕ) → i < length (all_kept k) → device_and_number (entry_access (get_or k.entries i none_kept)) ≡ get_or (all_kept k) i (M, 0)
entry_in k i l =
    let whole : all_kept k ≡ take (k.words + k.doubles) (entries_in k) = sym (take-add k.words k.doubles (entries_in k)) in
    let below : i < k.words + k.doubles = omega (arith, l, ap length whole, take_short (k.words + k.doubles) (entries_in k)) in
    sym
    (ap (λ xs. get_or xs i (M, 0)) whole
    ∙ get_or-take (k.words + k.doubles) (entries_in k) i (M, 0) below
    ∙ get_or-map device_and_number (map entry_access k.entries) i (entry_access none_kept)
    ∙ ap device_and_number (get_or-map entry_access k.entries i none_kept))

-- the entry with an index is the access with that index
pub kept_access : (k : BenchRegistration) (i : ℕ) → i < length (all_of (kept_list k)) → device_and_number (entry_access (get_or k.entries i none_kept)) ≡ listed_access (kept_list k) i
kept_access k i h = go (k.registered && leb (k.words + k.doubles) 192) h
  where
    go : (b : Bool) → i < length (all_of (cond b (Some (take k.words (entries_in k), take k.doubles (drop k.words (entries_in k)))) None))
        → device_and_number (entry_access (get_or k.entries i none_kept)) ≡ listed_access (cond b (Some (take k.words (entries_in k), take k.doubles (drop k.words (entries_in k)))) None) i
    go true l = entry_in k i l
    go false l = absurd (omega arith)

-- what is kept of accesses names devices
pub all_named : (n : ℕ) (es : List Access) → list_all is_named (take n (map kept_of es)) ≡ true
all_named zero es = refl
all_named (suc n) [] = refl
all_named (suc n) (e ∷ es) = and_from (ltb (place_of e.device) 12) _ (lt-ltb (place_of e.device) 12 (place_below e.device)) (all_named n es)

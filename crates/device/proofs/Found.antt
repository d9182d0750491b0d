-- The search finds the device that has the code or the symbol, and none exactly when no device has it.
use Rattle.std.proofs.Common.{◌≡◌, ℕ, Bool, true, false, cond, eqb, List, [], ◌∷◌, map, get_or, Some, None, Option, sym, refl, ap, ◌∙◌, arith, MatchOption}
use Rattle.std.proofs.lemmas.Bool.{eqb-true, and_parts}
use Rattle.device.specs.declared.table.Row.{Row}
use Rattle.device.specs.declared.types.Device.{Device}
use Rattle.device.specs.declared.types.Device.TheVariants.{M, SM, L, X, Y, B, D, SD, ZR, W, TS, TN}
use Rattle.device.specs.Devices.{code_of, symbol_of, devices, row_of}
use Rattle.device.specs.Search.{first_row, has_code, has_symbol, device_by_code, device_by_symbol}

pub code_back : (d : Device) → device_by_code (code_of d) ≡ Some d
code_back M = refl
code_back SM = refl
code_back L = refl
code_back X = refl
code_back Y = refl
code_back B = refl
code_back D = refl
code_back SD = refl
code_back ZR = refl
code_back W = refl
code_back TS = refl
code_back TN = refl

-- the search by a symbol's two characters
abbrev by_pair : List ℕ → Option Device
by_pair s = device_by_symbol (get_or s 0 0) (get_or s 1 0)

pub symbol_back : (d : Device) → device_by_symbol (get_or (symbol_of d) 0 0) (get_or (symbol_of d) 1 0) ≡ Some d
symbol_back M = refl
symbol_back SM = refl
symbol_back L = refl
symbol_back X = refl
symbol_back Y = refl
symbol_back B = refl
symbol_back D = refl
symbol_back SD = refl
symbol_back ZR = refl
symbol_back W = refl
symbol_back TS = refl
symbol_back TN = refl

-- the device that is found passes the test
passes : (test : Row → Bool) (ds : List Device) (d : Device) → first_row test (map row_of ds) ≡ Some d → test (row_of d) ≡ true
passes test [] d e = cc
passes test (x ∷ xs) d e = go (test (row_of x)) refl e (passes test xs d)
  where
    go : (b : Bool) → test (row_of x) ≡ b → cond b (Some x) (first_row test (map row_of xs)) ≡ Some d
        → (first_row test (map row_of xs) ≡ Some d → test (row_of d) ≡ true) → test (row_of d) ≡ true
    go true t f more = let same : x ≡ d = cc in ap (λ y. test (row_of y)) (sym same) ∙ t
    go false t f more = more f

both : (d : Device) (a b : ℕ) → get_or (symbol_of d) 0 0 ≡ a → get_or (symbol_of d) 1 0 ≡ b → symbol_of d ≡ a ∷ b ∷ []
both d a b p q = pair d ∙ (λ i. p i ∷ q i ∷ [])
  where
    pair : (e : Device) → symbol_of e ≡ get_or (symbol_of e) 0 0 ∷ get_or (symbol_of e) 1 0 ∷ []
    pair M = refl
    pair SM = refl
    pair L = refl
    pair X = refl
    pair Y = refl
    pair B = refl
    pair D = refl
    pair SD = refl
    pair ZR = refl
    pair W = refl
    pair TS = refl
    pair TN = refl

-- by any key that leads back to its device
module _ {K : Type 0} (key : Device → K) (find : K → Option Device) (back : (d : Device) → find (key d) ≡ Some d) where
  settled : (k : K) (o : Option Device) → find k ≡ o → ((d : Device) → find k ≡ Some d → key d ≡ k) → MatchOption o ((d : Device) → key d ≡ k → ⊥) (λ d. key d ≡ k)
  settled k None e sound = λ d f. let g : find k ≡ Some d = ap find (sym f) ∙ back d in let z : ◌≡◌ {A = ℕ} 0 1 = cc in omega arith
  settled k (Some d) e sound = sound d e

pub by_code_found : (code : ℕ) (o : Option Device) → o ≡ device_by_code code → MatchOption o ((d : Device) → code_of d ≡ code → ⊥) (λ d. code_of d ≡ code)
by_code_found code o e = settled code_of device_by_code code_back code o (sym e) (λ d f. eqb-true (code_of d) code (passes (has_code code) devices d f))

pub by_symbol_found : (a b : ℕ) (o : Option Device) → o ≡ device_by_symbol a b → MatchOption o ((d : Device) → symbol_of d ≡ a ∷ b ∷ [] → ⊥) (λ d. symbol_of d ≡ a ∷ b ∷ [])
by_symbol_found a b o e =
    settled symbol_of by_pair symbol_back (a ∷ b ∷ []) o (sym e)
    (λ d f. let t = and_parts (eqb (get_or (symbol_of d) 0 0) a) (eqb (get_or (symbol_of d) 1 0) b) (passes (has_symbol a b) devices d f) in both d a b (eqb-true _ _ t.0) (eqb-true _ _ t.1))

-- Past the end of the bytes nothing can be read.
use Rattle.std.proofs.Common.{◌≡◌, ℕ, zero, suc, ◌<◌, List, [], ◌∷◌, length, drop, Err, refl, ap, ◌∙◌, arith}
use Rattle.wire.specs.declared.code.Code.{Code}
use Rattle.wire.specs.declared.code.Code.TheVariants.{Binary, Ascii}
use Rattle.wire.specs.declared.code.FieldFault.TheVariants.{Missing}
use Rattle.wire.specs.Numbers.{number_in}
use Rattle.request.specs.Entries.{access_in, setting_in}

drop_past : (xs : List ℕ) (at : ℕ) → length xs < at → drop at xs ≡ []
drop_past [] zero h = refl
drop_past [] (suc at) h = refl
drop_past (x ∷ xs) zero h = absurd (let b : ⊥ = omega arith in b)
drop_past (x ∷ xs) (suc at) h = drop_past xs at (omega arith)

no_access : (code : Code) → access_in code [] ≡ Err Missing
no_access Binary = refl
no_access Ascii = refl

no_setting : (code : Code) (size : ℕ) → setting_in code size [] ≡ Err Missing
no_setting Binary size = refl
no_setting Ascii size = refl

no_word : (code : Code) → number_in code 2 [] ≡ Err Missing
no_word Binary = refl
no_word Ascii = refl

module _ (code : Code) (xs : List ℕ) (at : ℕ) (h : length xs < at) where
  pub access_past : access_in code (drop at xs) ≡ Err Missing
  access_past = ap (access_in code) (drop_past xs at h) ∙ no_access code

  pub setting_past : (size : ℕ) → setting_in code size (drop at xs) ≡ Err Missing
  setting_past size = ap (setting_in code size) (drop_past xs at h) ∙ no_setting code size

  pub word_past : number_in code 2 (drop at xs) ≡ Err Missing
  word_past = ap (number_in code 2) (drop_past xs at h) ∙ no_word code

-- A list of twelve numbers, put together from them.
use Rattle.std.proofs.Common.{◌≡◌, ℕ, List, [], ◌∷◌, length, slice_index_or, refl, arith}

pub twelve : (es : List ℕ) → length es ≡ 12
    → (slice_index_or es 0 0 ∷ slice_index_or es 1 0 ∷ slice_index_or es 2 0 ∷ slice_index_or es 3 0 ∷ slice_index_or es 4 0 ∷ slice_index_or es 5 0 ∷ slice_index_or es 6 0 ∷ slice_index_or es 7 0 ∷ slice_index_or es 8 0 ∷ slice_index_or es 9 0 ∷ slice_index_or es 10 0 ∷ slice_index_or es 11 0 ∷ []) ≡ es
twelve [] z = absurd (omega (arith, z))
twelve (a ∷ []) z = absurd (omega (arith, z))
twelve (a ∷ b ∷ []) z = absurd (omega (arith, z))
twelve (a ∷ b ∷ c ∷ []) z = absurd (omega (arith, z))
twelve (a ∷ b ∷ c ∷ d ∷ []) z = absurd (omega (arith, z))
twelve (a ∷ b ∷ c ∷ d ∷ e ∷ []) z = absurd (omega (arith, z))
twelve (a ∷ b ∷ c ∷ d ∷ e ∷ f ∷ []) z = absurd (omega (arith, z))
twelve (a ∷ b ∷ c ∷ d ∷ e ∷ f ∷ g ∷ []) z = absurd (omega (arith, z))
twelve (a ∷ b ∷ c ∷ d ∷ e ∷ f ∷ g ∷ h ∷ []) z = absurd (omega (arith, z))
twelve (a ∷ b ∷ c ∷ d ∷ e ∷ f ∷ g ∷ h ∷ i ∷ []) z = absurd (omega (arith, z))
twelve (a ∷ b ∷ c ∷ d ∷ e ∷ f ∷ g ∷ h ∷ i ∷ j ∷ []) z = absurd (omega (arith, z))
twelve (a ∷ b ∷ c ∷ d ∷ e ∷ f ∷ g ∷ h ∷ i ∷ j ∷ k ∷ []) z = absurd (omega (arith, z))
twelve (a ∷ b ∷ c ∷ d ∷ e ∷ f ∷ g ∷ h ∷ i ∷ j ∷ k ∷ l ∷ []) z = refl
twelve (a ∷ b ∷ c ∷ d ∷ e ∷ f ∷ g ∷ h ∷ i ∷ j ∷ k ∷ l ∷ m ∷ es) z = absurd (omega (arith, z))

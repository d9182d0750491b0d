-- A text between quotation marks.
use Rattle.std.specs.Prelude.{◌≡◌, ◌≢◌, ℕ, ◌<◌, true, List, ◌∷◌, ◌++◌, length, slice_index}
use Rattle.bench.specs.Blanks.{is_blank}

-- what stands inside, up to a closing mark (34), behind which nothing but blanks stands
pub record Quoted (text inside : List ℕ) : Type 0 where
  pub behind : List ℕ
  pub cut : text ≡ inside ++ 34 ∷ behind
  pub plain : (k : ℕ) → k < length inside → slice_index inside k ≢ 34
  pub ends : (k : ℕ) → k < length behind → is_blank (slice_index behind k) ≡ true

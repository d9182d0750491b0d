-- One number more of a series.
use Rattle.std.proofs.Common.{◌≡◌, ℕ, zero, suc, ◌+◌, ◌*◌, ◌<◌, ◌≤◌, List, [], ◌∷◌, length, get_or, drop, sym, ap, ◌∙◌, add-mul, arith, length-append}
use lib.Seq.{sets}
use Rattle.std.proofs.lemmas.List.{drop_more, drop_all}
use Rattle.wire.specs.declared.code.Code.{Code}
use Rattle.wire.specs.declared.series.Number.{Number}
use Rattle.wire.specs.Numbers.{per_byte, encode}
use Rattle.wire.specs.Series.{AllShort, series_size, series_bytes}
use Rattle.wire.proofs.Places.{sets_sets}
use Rattle.wire.proofs.RoundTrip.{length_encode}

-- what is read where there is no number
abbrev pub no_number : Number
no_number = record { size = 0; value = 0 }

pub short_at : (ns : List Number) (i : ℕ) → AllShort ns → i < length ns → (get_or ns i no_number).size ≤ 4
short_at [] i h k = absurd (omega arith)
short_at (n ∷ ns) zero h k = h.0
short_at (n ∷ ns) (suc i) h k = short_at ns i h.1 (omega arith)

module _ (code : Code) (ns : List Number) (i : ℕ) (below : i < length ns) where
  abbrev n : Number
  n = get_or ns i no_number

  pub size_turn : series_size (drop i ns) * per_byte code ≡ n.size * per_byte code + series_size (drop (i + 1) ns) * per_byte code
  size_turn = ap (λ l. series_size l * per_byte code) (drop_more ns i no_number below) ∙ add-mul n.size (series_size (drop (i + 1) ns)) (per_byte code)

  pub series_turn : (out : List ℕ) (place : ℕ)
      → sets (sets out place (encode code n.size n.value)) (place + n.size * per_byte code) (series_bytes code (drop (i + 1) ns)) ≡ sets out place (series_bytes code (drop i ns))
  series_turn out place =
      sets_sets out place (n.size * per_byte code) (encode code n.size n.value) (series_bytes code (drop (i + 1) ns)) (length_encode code n.size n.value)
      ∙ ap (λ l. sets out place (series_bytes code l)) (sym (drop_more ns i no_number below))

pub series_ended : (ns : List Number) (i : ℕ) → length ns ≤ i → drop i ns ≡ []
series_ended ns i h = drop_all i ns h

-- how long a series is
pub length_series : (code : Code) (ns : List Number) → length (series_bytes code ns) ≡ series_size ns * per_byte code
length_series code [] = omega arith
length_series code (n ∷ ns) =
    length-append (encode code n.size n.value) (series_bytes code ns)
    ∙ (λ i. length_encode code n.size n.value i + length_series code ns i)
    ∙ sym (add-mul n.size (series_size ns) (per_byte code))

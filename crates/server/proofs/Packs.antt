-- Bit points packed into a word, one point more at a turn.
use Rattle.std.proofs.Common.{◌≡◌, ℕ, zero, suc, ◌+◌, ◌-◌, ◌*◌, ◌^◌, ◌<◌, ◌≤◌, pow-suc, add-one, sym, refl, arith}
use Rattle.device.specs.declared.types.Device.{Device}
use Rattle.device.specs.declared.types.Kind.{Kind}
use Rattle.device.specs.declared.types.Kind.TheVariants.{Bit, Word as Whole}
use Rattle.device.specs.Devices.{kind_of}
use Rattle.request.specs.Limits.{points}
use Rattle.server.specs.declared.points.Width.{Width}
use Rattle.server.specs.declared.points.Width.TheVariants.{Point, Word, Double}
use Rattle.server.specs.Points.{Values, packed, word_of, word, value_of}

module _ (V : Values) (d : Device) (n i w b : ℕ) (pos : 0 < i) (few : i ≤ 16) where
  pub packed_turn : w ≡ packed V d (n + i) (16 - i) → b ≡ V d (n + (i - 1)) → b + 2 * w ≡ packed V d (n + (i - 1)) (16 - (i - 1))
  packed_turn e f =
      let one : 16 - (i - 1) ≡ 16 - i + 1 = omega arith in
      let next : n + (i - 1) + 1 ≡ n + i = omega arith in
      rw (one, add-one (16 - i), next, ← e, ← f)

  pub packed_below : w < 2 ^ (16 - i) → b < 2 → b + 2 * w < 2 ^ (16 - (i - 1))
  packed_below h g =
      let one : 16 - (i - 1) ≡ 16 - i + 1 = omega arith in
      rw (one, add-one (16 - i), pow-suc 2 (16 - i)) (omega arith)

-- where no point holds anything from a number on, no value that is read there is other than 0
module _ (V : Values) (d : Device) where
  packed_none : (n k : ℕ) → ((j : ℕ) → n ≤ j → V d j ≡ 0) → packed V d n k ≡ 0
  packed_none n zero h = refl
  packed_none n (suc k) h = omega (arith, h n (omega arith), packed_none (n + 1) k (λ j l. h j (omega arith)))

  word_none : (n : ℕ) → ((j : ℕ) → n ≤ j → V d j ≡ 0) → word V d n ≡ 0
  word_none n h = go (kind_of d)
    where
      go : (κ : Kind) → word_of κ V d n ≡ 0
      go Bit = packed_none n 16 h
      go Whole = h n (omega arith)

  pub value_none : (width : Width) (n : ℕ) → ((j : ℕ) → n ≤ j → V d j ≡ 0) → 0 ≡ value_of width V d n
  value_none Point n h = sym (h n (omega arith))
  value_none Word n h = sym (word_none n h)
  value_none Double n h = omega (arith, word_none n h, word_none (n + points (kind_of d) 1) (λ j l. h j (omega arith)))

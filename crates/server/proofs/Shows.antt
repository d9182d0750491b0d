-- One word or two points more of a reply's data.
use Rattle.std.proofs.Common.{◌≡◌, ℕ, zero, suc, ◌+◌, ◌-◌, ◌*◌, ◌/◌, ◌<◌, ◌≤◌, List, [], ◌∷◌, ◌++◌, length, get_or, take, drop, sym, refl, ap, ◌∙◌, add-mul, add-one, arith}
use Rattle.std.proofs.Math.Nat.{suc-mul}
use Rattle.std.proofs.lemmas.List.{drop_more}
use lib.Seq.{sets}
use Rattle.device.specs.declared.types.Device.{Device}
use Rattle.server.specs.declared.points.Width.{Width}
use Rattle.device.specs.Devices.{kind_of}
use Rattle.wire.specs.declared.code.Code.{Code}
use Rattle.wire.specs.declared.code.Code.TheVariants.{Binary, Ascii}
use Rattle.wire.specs.Numbers.{per_byte, encode}
use Rattle.wire.specs.Series.{values_bytes}
use Rattle.wire.specs.Points.{bits_bytes, bits_size}
use Rattle.wire.proofs.Places.{sets_sets}
use Rattle.wire.proofs.RoundTrip.{length_encode}
use Rattle.request.specs.Limits.{points}
use Rattle.server.specs.Points.{Values, word, words, bits, bytes_of, value_of, values_of}

-- one more of so many
pub one_of : (count i k : ℕ) → i < count → (count - i) * k ≡ k + (count - (i + 1)) * k
one_of count i k h =
    let one : count - i ≡ 1 + (count - (i + 1)) = omega arith in
    ap (λ n. n * k) one ∙ add-mul 1 (count - (i + 1)) k ∙ ap (λ n. n + (count - (i + 1)) * k) (omega arith)

-- one step more from a number
pub step_on : (n i p : ℕ) → n + (i + 1) * p ≡ n + i * p + p
step_on n i p = ap (λ k. n + k) (add-mul i 1 p) ∙ omega arith

module _ (code : Code) (V : Values) (d : Device) where
  pub words_turn : (out : List ℕ) (place n count i : ℕ) → i < count
      → sets (sets out place (encode code 2 (word V d (n + i * points (kind_of d) 1)))) (place + 2 * per_byte code) (values_bytes code 2 (words V d (n + (i + 1) * points (kind_of d) 1) (count - (i + 1))))
      ≡ sets out place (values_bytes code 2 (words V d (n + i * points (kind_of d) 1) (count - i)))
  words_turn out place n count i h =
      let at = n + i * points (kind_of d) 1 in
      let one : count - i ≡ count - (i + 1) + 1 = omega arith in
      rw (one, add-one (count - (i + 1)), step_on n i (points (kind_of d) 1)) (sets_sets out place (2 * per_byte code) (encode code 2 (word V d at)) _ (length_encode code 2 (word V d at)))

  two_more : (a b : ℕ) (vs : List ℕ) → bits_bytes code (a ∷ b ∷ []) ++ bits_bytes code vs ≡ bits_bytes code (a ∷ b ∷ vs)
  two_more a b vs = go code
    where
      go : (c : Code) → bits_bytes c (a ∷ b ∷ []) ++ bits_bytes c vs ≡ bits_bytes c (a ∷ b ∷ vs)
      go Binary = refl
      go Ascii = refl

  two_long : (a b : ℕ) → length (bits_bytes code (a ∷ b ∷ [])) ≡ bits_size code 2
  two_long a b = go code
    where
      go : (c : Code) → length (bits_bytes c (a ∷ b ∷ [])) ≡ bits_size c 2
      go Binary = refl
      go Ascii = refl

  pub bits_turn : (out : List ℕ) (place n count i : ℕ) → i < count / 2
      → sets (sets out place (bits_bytes code (V d (n + 2 * i) ∷ V d (n + 2 * i + 1) ∷ []))) (place + bits_size code 2) (bits_bytes code (bits V d (n + 2 * (i + 1)) (count - 2 * (i + 1))))
      ≡ sets out place (bits_bytes code (bits V d (n + 2 * i) (count - 2 * i)))
  bits_turn out place n count i h =
      let next = n + 2 * i in
      let two : count - 2 * i ≡ count - 2 * (i + 1) + 1 + 1 = omega arith in
      let on : next + 1 + 1 ≡ n + 2 * (i + 1) = omega arith in
      let tail : bits V d next (count - 2 * i) ≡ V d next ∷ V d (next + 1) ∷ bits V d (n + 2 * (i + 1)) (count - 2 * (i + 1)) =
      rw (two, add-one (count - 2 * (i + 1) + 1), add-one (count - 2 * (i + 1)), on) in
      sets_sets out place (bits_size code 2) (bits_bytes code (V d next ∷ V d (next + 1) ∷ [])) _ (two_long (V d next) (V d (next + 1)))
      ∙ ap (sets out place)
      (two_more (V d next) (V d (next + 1)) (bits V d (n + 2 * (i + 1)) (count - 2 * (i + 1)))
      ∙ ap (bits_bytes code) (sym tail))

  pub bits_left : (count i : ℕ) → i < count / 2 → bits_size code (count - 2 * i) ≡ bits_size code 2 + bits_size code (count - 2 * (i + 1))
  bits_left count i h = go code
    where
      go : (c : Code) → bits_size c (count - 2 * i) ≡ bits_size c 2 + bits_size c (count - 2 * (i + 1))
      go Binary = omega arith
      go Ascii = omega arith

-- how many values there are
pub length_words : (V : Values) (d : Device) (n k : ℕ) → length (words V d n k) ≡ k
length_words V d n zero = refl
length_words V d n (suc k) = ap suc (length_words V d (n + points (kind_of d) 1) k)

pub length_bits : (V : Values) (d : Device) (n k : ℕ) → length (bits V d n k) ≡ k
length_bits V d n zero = refl
length_bits V d n (suc k) = ap suc (length_bits V d (n + 1) k)

-- the next access of so many from an index on
pub kept_more : (all : List (Device × ℕ)) (d : Device × ℕ) (from count i : ℕ) → i < count → from + count ≤ length all
    → take (count - i) (drop (from + i) all) ≡ get_or all (from + i) d ∷ take (count - (i + 1)) (drop (from + (i + 1)) all)
kept_more all d from count i h room =
    let one : count - i ≡ suc (count - (i + 1)) = omega arith in
    let next : from + i + 1 ≡ from + (i + 1) = omega arith in
    ap (λ n. take n (drop (from + i) all)) one
    ∙ ap (take (suc (count - (i + 1)))) (drop_more all (from + i) d (omega arith))
    ∙ ap (λ n. get_or all (from + i) d ∷ take (count - (i + 1)) (drop n all)) next

-- one access more of a request's list
pub listed_turn : (code : Code) (width : Width) (V : Values) (out : List ℕ) (place v n : ℕ) (a : Device × ℕ) (rest all : List (Device × ℕ)) → all ≡ a ∷ rest → v ≡ value_of width V a.0 a.1 → n ≡ bytes_of width
    → sets (sets out place (encode code n v)) (place + n * per_byte code) (values_bytes code (bytes_of width) (values_of width V rest)) ≡ sets out place (values_bytes code (bytes_of width) (values_of width V all))
listed_turn code width V out place v n a rest all is e f =
    rw (e, f)
    (sets_sets out place (bytes_of width * per_byte code) (encode code (bytes_of width) (value_of width V a.0 a.1)) _ (length_encode code (bytes_of width) _)
    ∙ ap (λ l. sets out place (values_bytes code (bytes_of width) (values_of width V l))) (sym is))

-- and what it adds to their length
pub long_turn : (a : Device × ℕ) (rest all : List (Device × ℕ)) (k : ℕ) → all ≡ a ∷ rest → length all * k ≡ k + length rest * k
long_turn a rest all k is = ap (λ l. length l * k) is ∙ suc-mul (length rest) k ∙ omega arith

pub length_shown : (width : Width) (V : Values) (as' : List (Device × ℕ)) → length (values_of width V as') ≡ length as'
length_shown width V [] = refl
length_shown width V (a ∷ rest) = ap suc (length_shown width V rest)

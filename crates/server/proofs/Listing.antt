-- A turn of a loop over what a request holds.
use Rattle.std.proofs.Common.{◌≡◌, ℕ, zero, suc, ◌+◌, ◌-◌, ◌*◌, ◌<◌, List, [], ◌∷◌, ◌++◌, length, take, drop, set, Result, sym, refl, ap, ◌∙◌, append-nil, add-one, arith, take_at, drop_at}
use Rattle.std.proofs.lemmas.List.{length-map, take-map, drop-map, drop_all}
use borrow.Rule.Slice.PartMut.{put_mid, post_of}
use lib.Seq.{sets, sets-eq}
use Rattle.device.specs.declared.types.Device.{Device}
use Rattle.device.specs.declared.types.Device.TheVariants.{M}
use Rattle.device.specs.Devices.{kind_of}
use Rattle.memory.specs.Leaving.{Write}
use Rattle.wire.specs.declared.code.Code.{Code}
use Rattle.wire.specs.declared.code.FieldFault.{FieldFault}
use Rattle.server.specs.declared.registration.Access.{Access}
use Rattle.server.specs.Registered.{accesses, device_and_number}
use Rattle.request.specs.Requests.{Setting}
use Rattle.request.specs.Fields.{bit_in, bits_in, list_in}
use Rattle.request.specs.Limits.{points}
use Rattle.server.proofs.Shows.{step_on}
use Rattle.server.specs.Writes.{as_point, in_row, as_word, as_words, each}

-- one point more of bit data
pub bits_more : (code : Code) (xs : List ℕ) (d : Device) (n count i : ℕ) → i < count
    → as_point d (n + i) (bit_in code xs i) ++ in_row d (n + (i + 1)) (bits_in code xs (i + 1) (count - (i + 1))) ≡ in_row d (n + i) (bits_in code xs i (count - i))
bits_more code xs d n count i h =
    let one : count - i ≡ count - (i + 1) + 1 = omega arith in
    let next : n + (i + 1) ≡ n + i + 1 = omega arith in
    rw (one, add-one (count - (i + 1)), next)

-- one word more
pub words_more : (d : Device) (n i v : ℕ) (vs ws : List ℕ) → ws ≡ v ∷ vs
    → as_word d (n + i * points (kind_of d) 1) v ++ as_words d (n + (i + 1) * points (kind_of d) 1) vs ≡ as_words d (n + i * points (kind_of d) 1) ws
words_more d n i v vs ws e =
    let at = n + i * points (kind_of d) 1 in
    ap (λ k. as_word d at v ++ as_words d k vs) (step_on n i (points (kind_of d) 1)) ∙ ap (as_words d at) (sym e)

-- one setting more of a list
pub each_more : (f : Device → ℕ → ℕ → List Write) (s : Setting) (ss all : List Setting) → all ≡ s ∷ ss → f s.0.0 s.0.1 s.1 ++ each f ss ≡ each f all
each_more f s ss all e = ap (each f) (sym e)

-- the entry that holds no access yet
abbrev pub no_access : Access
no_access = record { device = M; number = 0 }

-- an access that is put among others
pub accesses_set : (es : List Access) (k : ℕ) (a : Access) → accesses (set es k a) ≡ set (accesses es) k (a.device, a.number)
accesses_set [] zero a = refl
accesses_set [] (suc k) a = refl
accesses_set (e ∷ es) zero a = refl
accesses_set (e ∷ es) (suc k) a = ap (λ l. (e.device, e.number) ∷ l) (accesses_set es k a)

-- one access more is put
pub fill_turn : (es : List Access) (i : ℕ) (a : Access) (rest all : List (Device × ℕ)) → all ≡ (a.device, a.number) ∷ rest
    → sets (accesses (set es i a)) (i + 1) rest ≡ sets (accesses es) i all
fill_turn es i a rest all e =
    ap (λ l. sets l (i + 1) rest) (accesses_set es i a)
    ∙ ap (λ k. sets (set (accesses es) i (a.device, a.number)) k rest) (add-one i)
    ∙ ap (sets (accesses es) i) (sym e)

-- entries that were filled with as many accesses of a list hold these
pub filled : (r : List ℕ → Result ((Device × ℕ) × ℕ) FieldFault) (es es' : List Access) (n : ℕ) (xs : List ℕ) → length es ≡ n → length (list_in r n xs) ≡ n
    → accesses es' ≡ sets (accesses es) 0 (list_in r (length es) xs) → accesses es' ≡ list_in r n xs
filled r es es' n xs e long h =
    let vs = list_in r n xs in
    let same : length (accesses es) ≡ n = length-map es (λ (a : Access). (a.device, a.number)) ∙ e in
    let none : drop (0 + length vs) (accesses es) ≡ [] = drop_all (0 + length vs) (accesses es) (omega (arith, same, long)) in
    h ∙ ap (λ k. sets (accesses es) 0 (list_in r k xs)) e ∙ sets-eq vs (accesses es) 0 (omega (arith, same, long)) ∙ ap (λ l. vs ++ l) none ∙ append-nil vs

-- two parts of entries, one behind the other, are found again
module _ (es one two : List Access) (w n : ℕ) (lw : length one ≡ w) (ln : length two ≡ n) where
  behind : List Access
  behind = post_of w n (one ++ drop w es)

  both : put_mid w n (one ++ drop w es) two ≡ one ++ (two ++ behind)
  unfolding behind
  both = ap (λ l. l ++ (two ++ post_of w n (one ++ drop w es))) (take_at one (drop w es) w lw)

  pub first_back : take w (accesses (put_mid w n (one ++ drop w es) two)) ≡ accesses one
  first_back = ap (λ l. take w (accesses l)) both ∙ take-map device_and_number w (one ++ (two ++ behind)) ∙ ap accesses (take_at one _ w lw)

  pub second_back : take n (drop w (accesses (put_mid w n (one ++ drop w es) two))) ≡ accesses two
  second_back =
      ap (λ l. take n (drop w (accesses l))) both
      ∙ ap (take n) (drop-map device_and_number w (one ++ (two ++ behind)) ∙ ap accesses (drop_at one _ w lw))
      ∙ take-map device_and_number n (two ++ behind)
      ∙ ap accesses (take_at two behind n ln)

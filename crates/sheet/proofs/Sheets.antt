-- What a run of a sheet comes to, in the words of the sheet.
use Rattle.std.proofs.Common.{◌≡◌, ◌≢◌, ◌↔◌, ◌⊎◌, inl, inr, ⊎_elim, ℕ, zero, suc, ◌+◌, ◌*◌, ◌/◌, ◌%◌, ◌<◌, ◌≤◌, Bool, true, false, cond, ◌&&◌, ◌==◌, nat_le, nat_lt, List, [], ◌∷◌, ◌++◌, length, take, drop, map, slice_index, Some, None, Ok, Err, Option, Result, sym, refl, ap, ◌∙◌, subst, append_assoc, arith, length-append, length-drop, length-take-le, take-append-drop, drop-drop, get_or-drop, take_at, le-leb}
use Rattle.std.proofs.lemmas.Bool.{leb-true, ltb-true, ltb-false, eqb-true, eqb-false}
use Rattle.std.proofs.lemmas.List.{drop_more, drop_all}
use lib.Seq.{sets, length-sets}
use Rattle.wire.specs.declared.code.Code.{Code}
use Rattle.wire.specs.Numbers.{AllBytes, then, per_byte}
use Rattle.frame.specs.declared.fault.Cause.TheVariants.{NoReplySpace, Incomplete, NoVersion, BadRecord}
use Rattle.frame.specs.declared.fault.Fault.{Fault}
use Rattle.frame.specs.declared.header.Header.{Header}
use Rattle.frame.specs.Faults.{fault}
use Rattle.frame.specs.declared.header.Form.{Form}
use Rattle.frame.specs.Headers.{number_at, first_two, form_in, lead_bytes, lead_at, frame_size, fields_at, tested}
use Rattle.sheet.specs.Laws.{counts, good_replies}
use Rattle.sheet.specs.Runs.{Run, Rest, stop, calling, replied, with_record, at_end, records, has_version, without_version, in_window, sheet_run}
use Rattle.server.specs.Histories.{frame, opening, ending, Shown, taken, State, at_frame, step, shown}
use Rattle.std.specs.List.{AllByRecursion}
use Rattle.sheet.specs.Records.{said_size, record_size, record_bytes, frame_alone, tested_part, tested_record}
use Rattle.sheet.specs.declared.run.Reason.{Reason}
use Rattle.sheet.specs.declared.run.RunEnd.{RunEnd}
use Rattle.sheet.specs.declared.run.Reason.TheVariants.{Finished, Cancelled, Stopped}
use Rattle.sheet.specs.Sheets.{record_of, records_of, sheet_of, Alone, NextFails, cut_off, bad_frame, bytes_after, faults_met, AllGood, LastFails, but_space, RunBySheet}

-- the two bytes of a length
halves : (high low : ℕ) → low < 256 → (high ≡ (high * 256 + low) / 256) × (low ≡ (high * 256 + low) % 256)
halves high low b = (omega arith, omega arith)

-- a record of this length stands at a place of the sheet
record Stands (sheet : List ℕ) (at size : ℕ) : Type 0 where
  here : drop at sheet ≡ record_of (record_bytes sheet at size) ++ drop (at + 2 + size) sheet
  long : length (record_bytes sheet at size) ≡ size
  inside : at + 2 + size ≤ length sheet

-- what stands behind the length of a record: so many bytes, and the rest
behind_length : (sheet : List ℕ) (at size : ℕ) → drop (at + 1 + 1) sheet ≡ record_bytes sheet at size ++ drop (at + 2 + size) sheet
behind_length sheet at size =
    let two : at + 1 + 1 ≡ at + 2 = omega arith in
    ap (λ n. drop n sheet) two
    ∙ sym (take-append-drop size (drop (at + 2) sheet))
    ∙ ap (λ ys. record_bytes sheet at size ++ ys) (drop-drop size (at + 2) sheet)

stands : (sheet : List ℕ) (at : ℕ) → AllBytes sheet → at + 2 ≤ length sheet → at + 2 + said_size sheet at ≤ length sheet
    → Stands sheet at (said_size sheet at)
stands sheet at bytes front all =
    let size = said_size sheet at in
    let xs = record_bytes sheet at size in
    let long : length xs ≡ size = length-take-le size (drop (at + 2) sheet) (omega (arith, length-drop (at + 2) sheet)) in
    let two = halves (slice_index sheet at) (slice_index sheet (at + 1)) (bytes (at + 1)) in
    let high : slice_index sheet at ≡ length xs / 256 = two.0 ∙ ap (λ n. n / 256) (sym long) in
    let low : slice_index sheet (at + 1) ≡ length xs % 256 = two.1 ∙ ap (λ n. n % 256) (sym long) in
    record {
      here = drop_more sheet at 0 (omega arith)
          ∙ ap (λ ys. slice_index sheet at ∷ ys) (drop_more sheet (at + 1) 0 (omega arith))
          ∙ (λ i. high i ∷ low i ∷ behind_length sheet at size i);
      long = long;
      inside = all;
    }

-- a record with a length stands there
sized : (sheet : List ℕ) (at size : ℕ) → AllBytes sheet → record_size sheet at ≡ Some size → Stands sheet at size
sized sheet at size bytes e = go (nat_le (at + 2) (length sheet)) (nat_le (at + 2 + said_size sheet at) (length sheet)) refl refl e
  where
    go : (v w : Bool) → nat_le (at + 2) (length sheet) ≡ v → nat_le (at + 2 + said_size sheet at) (length sheet) ≡ w
        → cond v (cond w (Some (said_size sheet at)) None) None ≡ Some size → Stands sheet at size
    go true true a b h =
        let same : said_size sheet at ≡ size = cc in
        subst (Stands sheet at) same (stands sheet at bytes (leb-true _ _ a) (leb-true _ _ b))
    go true false a b h = absurd cc
    go false w a b h = absurd cc

-- and one that stands there has its length
has_size : (sheet : List ℕ) (at : ℕ) (xs more : List ℕ) → drop at sheet ≡ record_of xs ++ more → record_size sheet at ≡ Some (length xs)
has_size sheet at xs more e =
    let room : at + 2 + length xs ≤ length sheet = omega (arith, length-drop at sheet, ap length e, length-append xs more) in
    let high : slice_index sheet (at + 0) ≡ length xs / 256 = sym (get_or-drop at sheet 0 0) ∙ ap (λ ys. slice_index ys 0) e in
    let low : slice_index sheet (at + 1) ≡ length xs % 256 = sym (get_or-drop at sheet 1 0) ∙ ap (λ ys. slice_index ys 1) e in
    let here : at + 0 ≡ at = omega arith in
    let high' : slice_index sheet at ≡ length xs / 256 = ap (slice_index sheet) (sym here) ∙ high in
    let said : said_size sheet at ≡ length xs = omega arith in
    rw (said, le-leb (at + 2) (length sheet) (omega arith), le-leb (at + 2 + length xs) (length sheet) room)

-- what holds of a result, if there is one
record Holds {X : Type 0} (P : X → Type 0) (r : Result X Fault) : Type 0 where
  of : (x : X) → r ≡ Ok x → P x

on_ok : {X : Type 0} (P : X → Type 0) (x : X) → P x → Holds P (Ok x)
on_ok P x h = record { of = λ y e. let same : x ≡ y = cc in subst P same h }

-- it holds of a fault, of a choice if it holds of each branch, and of two steps if it holds of each second one
on_err : {X : Type 0} (P : X → Type 0) (f : Fault) → Holds P (Err f)
on_err P f = record { of = λ x e. absurd cc }

on_cond : {X : Type 0} (P : X → Type 0) (b : Bool) (x y : Result X Fault) → Holds P x → Holds P y → Holds P (cond b x y)
on_cond P true x y h k = h
on_cond P false x y h k = k

on_then : {X Y : Type 0} (P : Y → Type 0) (r : Result X Fault) (f : X → Result Y Fault) → ((x : X) → r ≡ Ok x → Holds P (f x)) → Holds P (then r f)
on_then P (Ok x) f h = h x refl
on_then P (Err e) f h = on_err P e

-- the last of three tests finds the size within what is present
on_size : (size present : ℕ) (f : Fault) → Holds (λ n. n ≤ present) (cond (nat_le size present) (Ok size) (Err f))
on_size size present f = go (nat_le size present) refl
  where
    go : (b : Bool) → nat_le size present ≡ b → Holds (λ n. n ≤ present) (cond b (Ok size) (Err f))
    go true e = on_ok (λ n. n ≤ present) size (leb-true _ _ e)
    go false e = on_err _ f

-- a frame that passes its tests is all there
module _ (code : Code) (xs : List ℕ) where
  abbrev There : Header → Type 0
  There h = h.size ≤ length xs

  fields_there : (form : Form) → Holds There (fields_at code form xs)
  fields_there form =
      on_then There (lead_at code form xs) _ (λ l _. on_then There (frame_size code (length xs) l) _ (λ size e.
      let within : ℕ → Type 0 = λ n. n ≤ length xs in
      let size_there = on_cond within _ _ _ (on_cond within _ _ _ (on_size (l.timer_at + l.length) (length xs) _) (on_err _ _)) (on_err _ _) in
      on_then There (number_at code xs l.timer_at 2) _ (λ t _.
      on_then There (number_at code xs (l.timer_at + t.1) 2) _ (λ c _.
      on_then There (number_at code xs (l.timer_at + t.1 + c.1) 2) _ (λ s _. on_ok There _ (size_there.of size e))))))

  frame_there : (space : ℕ) → Holds There (tested code space xs)
  frame_there space =
      let few = nat_lt (length xs) in
      on_cond There (nat_lt space 4096) (Err (fault NoReplySpace 0)) _ (on_err There _)
      (on_cond There (few (2 * per_byte code)) (Err (fault Incomplete (length xs))) _ (on_err There _)
      (on_then There (form_in (first_two code xs)) _ (λ form _.
      on_cond There (few (lead_bytes form * per_byte code)) (Err (fault Incomplete (length xs))) _ (on_err There _) (fields_there form))))

-- what the tests of the next record tell: its frame is whole and alone, or its fault
module _ (code : Code) (space : ℕ) (sheet : List ℕ) (at : ℕ) where
  abbrev Judged : Result ℕ Fault → Type 0
  Judged (Ok size) = Stands sheet at size × Alone code space (record_bytes sheet at size)
  Judged (Err f) = drop at sheet ≢ [] → NextFails code space at (drop at sheet) f

  behind_frame : (size : ℕ) (h : Header) → Stands sheet at size → tested code space (record_bytes sheet at size) ≡ Ok h
      → (b : Bool) → nat_lt h.size size ≡ b → Judged (cond b (Err (fault BadRecord (at + 2 + h.size))) (Ok size))
  behind_frame size h s t true e = λ _.
      let less = ltb-true h.size size e in
      bytes_after (record_bytes sheet at size) (drop (at + 2 + size) sheet) h s.here t (omega (arith, s.long))
  behind_frame size h s t false e =
      let more = ltb-false h.size size e in
      let there = (frame_there code (record_bytes sheet at size) space).of h t in
      (s, record { header = h; passes = t; whole = omega (arith, s.long) })

  framed : (size : ℕ) → Stands sheet at size → (q : Result Header Fault) → tested code space (record_bytes sheet at size) ≡ q
      → Judged (then q (λ h. frame_alone at size h.size))
  framed size s (Ok h) t = behind_frame size h s t (nat_lt h.size size) refl
  framed size s (Err f) t = λ _. bad_frame (record_bytes sheet at size) (drop (at + 2 + size) sheet) f s.here t

  by_size : AllBytes sheet → (o : Option ℕ) → record_size sheet at ≡ o → Judged (tested_part code space sheet at o)
  by_size bytes None e = λ some. cut_off some (λ xs more h. let no : Some (length xs) ≡ None = sym (has_size sheet at xs more h) ∙ e in absurd cc)
  by_size bytes (Some size) e = framed size (sized sheet at size bytes e) (tested code space (record_bytes sheet at size)) refl

  judged : AllBytes sheet → Judged (tested_record code space sheet at)
  unfolding tested_record
  judged bytes = by_size bytes (record_size sheet at) refl

-- two records at the front of the same bytes are one
same_record : (xs ms ys ns : List ℕ) → record_of xs ++ ms ≡ record_of ys ++ ns → xs ≡ ys
same_record xs ms ys ns e =
    let high : length xs / 256 ≡ length ys / 256 = ap (λ zs. slice_index zs 0) e in
    let low : length xs % 256 ≡ length ys % 256 = ap (λ zs. slice_index zs 1) e in
    let long : length xs ≡ length ys = omega arith in
    sym (take_at xs ms (length xs) refl) ∙ ap (λ zs. take (length xs) (drop 2 zs)) e ∙ take_at ys ns (length xs) (sym long)

-- the next record has one fault
module _ {code : Code} {space at : ℕ} {rest : List ℕ} where
  not_at_end : {f : Fault} → NextFails code space at rest f → rest ≢ []
  not_at_end (cut_off some none) e = some e
  not_at_end (bad_frame xs more f is t) e = absurd cc
  not_at_end (bytes_after xs more h is t less) e = absurd cc

  one_fault : {f g : Fault} → NextFails code space at rest f → NextFails code space at rest g → f ≡ g
  one_fault (cut_off some none) (cut_off some' none') = refl
  one_fault (cut_off some none) (bad_frame ys ns g is' t') = absurd (none ys ns is')
  one_fault (cut_off some none) (bytes_after ys ns k is' t' less') = absurd (none ys ns is')
  one_fault (bad_frame xs ms f is t) (cut_off some' none') = absurd (none' xs ms is)
  one_fault (bad_frame xs ms f is t) (bad_frame ys ns g is' t') = let same = same_record xs ms ys ns (sym is ∙ is') in cc
  one_fault (bad_frame xs ms f is t) (bytes_after ys ns k is' t' less') = let same = same_record xs ms ys ns (sym is ∙ is') in absurd cc
  one_fault (bytes_after xs ms h is t less) (cut_off some' none') = absurd (none' xs ms is)
  one_fault (bytes_after xs ms h is t less) (bad_frame ys ns g is' t') = let same = same_record xs ms ys ns (sym is ∙ is') in absurd cc
  one_fault (bytes_after xs ms h is t less) (bytes_after ys ns k is' t' less') =
      let same = same_record xs ms ys ns (sym is ∙ is') in
      let one : h ≡ k = cc in
      ap (λ (x : Header). fault BadRecord (at + 2 + x.size)) one

-- replies are all good, or the last tells one fault
not_both : (mets : List (Option Fault)) (f : Fault) → AllGood mets → LastFails mets f → ⊥
not_both [] f g l = l
not_both (None ∷ mets) f g l = not_both mets f g.1 l
not_both (Some x ∷ mets) f g l = absurd (let no : Some x ≡ None = g.0 in cc)

one_last : (mets : List (Option Fault)) (f g : Fault) → LastFails mets f → LastFails mets g → f ≡ g
one_last [] f g l k = absurd l
one_last (None ∷ mets) f g l k = one_last mets f g l k
one_last (Some x ∷ mets) f g l k = sym l.0 ∙ k.0

-- why a run is over, by cases: with so many frames allowed and answered, and `rest` left from a place on
data Over (code : Code) (space allowed answered at : ℕ) (mets : List (Option Fault)) (rest : List ℕ) : Reason → Type 0 where
  at_end_of : AllGood mets → rest ≡ [] → Over code space allowed answered at mets rest Finished
  as_many_as_allowed : AllGood mets → rest ≢ [] → answered ≡ allowed → Over code space allowed answered at mets rest Cancelled
  at_next : (f : Fault) → AllGood mets → answered < allowed → NextFails code space at rest f → Over code space allowed answered at mets rest (Stopped f)
  at_last : (f : Fault) → LastFails mets f → Over code space allowed answered at mets rest (Stopped f)

-- one frame more that was answered with 0000
one_more : {code : Code} {space allowed answered at : ℕ} {mets : List (Option Fault)} {rest : List ℕ} {why : Reason}
    → Over code space allowed answered at mets rest why → Over code space (suc allowed) (suc answered) at (None ∷ mets) rest why
one_more (at_end_of good end) = at_end_of (refl, good) end
one_more (as_many_as_allowed good some n) = as_many_as_allowed (refl, good) some (ap suc n)
one_more (at_next f good less x) = at_next f (refl, good) (omega arith) x
one_more (at_last f x) = at_last f x

-- the same place by another sum
moved : {code : Code} {space allowed answered at at' : ℕ} {mets : List (Option Fault)} {rest : List ℕ} {why : Reason}
    → at ≡ at' → Over code space allowed answered at mets rest why → Over code space allowed answered at' mets rest why
moved {code} {space} {allowed} {answered} {mets = mets} {rest = rest} {why = why} e o = subst (λ k. Over code space allowed answered k mets rest why) e o

-- each case excludes the others, so a reason holds exactly in its case
module _ {code : Code} {space allowed answered at : ℕ} {mets : List (Option Fault)} {rest : List ℕ} where
  finishes : {why : Reason} → Over code space allowed answered at mets rest why → (why ≡ Finished) ↔ (AllGood mets × (rest ≡ []))
  finishes (at_end_of good end) = ((λ _. (good, end)), (λ _. refl))
  finishes (as_many_as_allowed good some n) = ((λ w. absurd cc), (λ h. absurd (some h.1)))
  finishes (at_next f good less x) = ((λ w. absurd cc), (λ h. absurd (not_at_end x h.1)))
  finishes (at_last f x) = ((λ w. absurd cc), (λ h. absurd (not_both mets f h.0 x)))

  cancels : {why : Reason} → Over code space allowed answered at mets rest why → (why ≡ Cancelled) ↔ (AllGood mets × (rest ≢ []) × (answered ≡ allowed))
  cancels (at_end_of good end) = ((λ w. absurd cc), (λ h. absurd (h.1 end)))
  cancels (as_many_as_allowed good some n) = ((λ _. (good, some, n)), (λ _. refl))
  cancels (at_next f good less x) = ((λ w. absurd cc), (λ h. absurd (omega (arith, h.2))))
  cancels (at_last f x) = ((λ w. absurd cc), (λ h. absurd (not_both mets f h.0 x)))

  stops : {why : Reason} → Over code space allowed answered at mets rest why → (f : Fault)
      → (why ≡ Stopped f) ↔ ((AllGood mets × (answered < allowed) × NextFails code space at rest f) ⊎ LastFails mets f)
  stops (at_end_of good end) f = ((λ w. absurd cc), ⊎_elim (λ h. absurd (not_at_end h.2 end)) (λ l. absurd (not_both mets f good l)))
  stops (as_many_as_allowed good some n) f = ((λ w. absurd cc), ⊎_elim (λ h. absurd (omega (arith, h.1))) (λ l. absurd (not_both mets f good l)))
  stops (at_next g good less x) f = (
    (λ w. let same : g ≡ f = cc in inl (good, less, subst (NextFails code space at rest) same x)),
    ⊎_elim (λ h. ap Stopped (one_fault x h.2)) (λ l. absurd (not_both mets f good l)),
  )
  stops (at_last g x) f = (
    (λ w. let same : g ≡ f = cc in inr (subst (LastFails mets) same x)),
    ⊎_elim (λ h. absurd (not_both mets g h.0 x)) (λ l. ap Stopped (one_last mets g f x l)),
  )

-- what a run that showed these outcomes covers from a place on, with its ending:
-- the records of the frames that it answered, and what is left
record Covers (code : Code) (sheet : List ℕ) (room allowed at count : ℕ) (frames : List (List ℕ)) (rest : List ℕ) (r : Run)
    (os : List Shown) : Type 0 where
  here : drop at sheet ≡ records_of frames ++ rest
  answered : map but_space (r.calls ++ ending ∷ []) ≡ map (λ xs. frame code xs []) frames ++ ending ∷ []
  alone : AllByRecursion (Alone code room) frames
  within : length frames ≤ allowed
  counted : r.end.result.count ≡ count + good_replies os
  next : r.end.result.next ≡ at + length (records_of frames)

module _ (code : Code) (sheet : List ℕ) (room : ℕ) (bytes : AllBytes sheet) where
  -- a run that ends here covers nothing
  covers_none : (why : Reason) (n at count count' : ℕ) (space : List ℕ) (s : State) → count' ≡ count
      → Covers code sheet room n at count [] (drop at sheet) (stop why count' at space s) (shown s (ending ∷ []))
  covers_none why n at count count' space s e =
      record { here = refl; answered = refl; alone = tt; within = omega arith; counted = omega arith; next = omega arith }

  -- a frame that was answered, and then the rest of the run
  covers_one : (n at size count : ℕ) (space after : List ℕ) (took long : ℕ) (met : Option Fault)
      (frames : List (List ℕ)) (rest : List ℕ) (r : Run) (os : List Shown)
      → Stands sheet at size → Alone code room (record_bytes sheet at size) → Covers code sheet room n (at + 2 + size) (count + counts met) frames rest r os
      → Covers code sheet room (suc n) at count (record_bytes sheet at size ∷ frames) rest
      (calling (frame code (record_bytes sheet at size) space) r) (taken took long met after ∷ os)
  covers_one n at size count space after took long met frames rest r os s alone w =
      let xs = record_bytes sheet at size in
      record {
        here = s.here ∙ ap (λ ys. record_of xs ++ ys) w.here ∙ sym (append_assoc (record_of xs) (records_of frames) rest);
        answered = ap (λ ms. frame code xs [] ∷ ms) w.answered;
        alone = (alone, w.alone);
        within = omega (arith, w.within);
        counted = omega (arith, w.counted);
        next = omega (arith, w.next, s.long, length-append xs (records_of frames));
      }

  -- and why it is over
  record Walked (n at count : ℕ) (r : Run) (os : List Shown) : Type 0 where
    frames : List (List ℕ)
    rest : List ℕ
    covers : Covers code sheet room n at count frames rest r os
    over : Over code room n (length frames) r.end.result.next (faults_met os) rest r.end.result.reason

  -- a run that ends here
  ends : (why : Reason) (n at count : ℕ) (space : List ℕ) (s : State) → Over code room n 0 at [] (drop at sheet) why
      → Walked n at count (stop why count at space s) (shown s (ending ∷ []))
  ends why n at count space s over =
      record { frames = []; rest = drop at sheet; covers = covers_none why n at count count space s refl; over = over }

  -- every run from here on, where the reply space is of this size
  abbrev AllWalked : ℕ → Rest → Type 0
  AllWalked n rest =
      (at count : ℕ) (space : List ℕ) (s : State) → at ≤ length sheet → length space ≡ room
      → Walked n at count (rest at count space s) (shown s ((rest at count space s).calls ++ ending ∷ []))

  -- a reply of 0000, and then the rest of the run; or a fault, which ends it
  after_reply : (n at size count : ℕ) (space after : List ℕ) (s : State) (took long : ℕ) (met : Option Fault) (rest : Rest)
      → AllWalked n rest → Stands sheet at size → Alone code room (record_bytes sheet at size) → length after ≡ room
      → Walked (suc n) at count (calling (frame code (record_bytes sheet at size) space) (replied met rest (at + 2 + size) count after s))
      (taken took long met after ∷ shown s ((replied met rest (at + 2 + size) count after s).calls ++ ending ∷ []))
  after_reply n at size count space after s took long None rest h there alone same =
      let w = h (at + 2 + size) (count + 1) after s there.inside same in
      let covers = covers_one n at size count space after took long None w.frames w.rest _ _ there alone w.covers in
      record { frames = record_bytes sheet at size ∷ w.frames; rest = w.rest; covers = covers; over = one_more w.over }
  after_reply n at size count space after s took long (Some f) rest h there alone same =
      let none = covers_none (Stopped f) n (at + 2 + size) (count + 0) count after s (omega arith) in
      let left = drop (at + 2 + size) sheet in
      let covers = covers_one n at size count space after took long (Some f) [] left _ _ there alone none in
      record { frames = record_bytes sheet at size ∷ []; rest = left; covers = covers; over = at_last f (refl, refl) }

  -- a record whose frame is answered, or one that fails a test
  with_tests : (n : ℕ) (rest : Rest) → AllWalked n rest → (at count : ℕ) (space : List ℕ) (s : State) (q : Result ℕ Fault)
      → Judged code room sheet at q → drop at sheet ≢ [] → length space ≡ room
      → Walked (suc n) at count (with_record q code sheet rest at count space s) (shown s ((with_record q code sheet rest at count space s).calls ++ ending ∷ []))
  with_tests n rest h at count space s (Ok size) j some same =
      let t = at_frame s code (record_bytes sheet at size) space in
      let s' = step s (frame code (record_bytes sheet at size) space) in
      after_reply n at size count space (sets space 0 t.bytes) s' t.taken (length t.bytes) t.fault_met rest h j.0 j.1 (length-sets space 0 t.bytes ∙ same)
  with_tests n rest h at count space s (Err f) j some same =
      ends (Stopped f) (suc n) at count space s (at_next f tt (omega arith) (j some))

  -- no record is left, or one is
  at_rest : (n at count : ℕ) (space : List ℕ) (s : State) (r : Run) → at ≤ length sheet
      → (drop at sheet ≢ [] → Walked n at count r (shown s (r.calls ++ ending ∷ [])))
      → (b : Bool) → at_end sheet at ≡ b
      → Walked n at count (cond b (stop Finished count at space s) r) (shown s ((cond b (stop Finished count at space s) r).calls ++ ending ∷ []))
  at_rest n at count space s r inside h true e =
      let end : drop at sheet ≡ [] = drop_all at sheet (omega (arith, eqb-true at (length sheet) e)) in
      ends Finished n at count space s (at_end_of tt end)
  at_rest n at count space s r inside h false e =
      h (λ none. let long = ap length none in let no = eqb-false at (length sheet) e in omega (arith, length-drop at sheet))

  walked : (n : ℕ) → AllWalked n (records code sheet n)
  unfolding records
  walked zero at count space s inside same =
      at_rest zero at count space s (stop Cancelled count at space s) inside
      (λ some. ends Cancelled zero at count space s (as_many_as_allowed tt some refl))
      (at_end sheet at) refl
  walked (suc n) at count space s inside same =
      at_rest (suc n) at count space s (with_record (tested_record code (length space) sheet at) code sheet (records code sheet n) at count space s) inside
      (λ some. with_tests n (records code sheet n) (walked n) at count space s (tested_record code (length space) sheet at)
      (subst (λ k. Judged code room sheet at (tested_record code k sheet at)) (sym same) (judged code room sheet at bytes)) some same)
      (at_end sheet at) refl

-- a sheet with its version byte begins with it
begins : (sheet : List ℕ) → has_version sheet ≡ true → sheet ≡ 1 ∷ drop 1 sheet
begins [] e = absurd cc
begins (x ∷ xs) e = go (nat_le 1 (suc (length xs))) e
  where
    go : (v : Bool) → (v && x == 1) ≡ true → x ∷ xs ≡ 1 ∷ xs
    go true h = ap (λ y. y ∷ xs) (eqb-true x 1 h)
    go false h = absurd cc

-- and one that begins with it has it
has_its_version : (sheet rest : List ℕ) → sheet ≡ 1 ∷ rest → has_version sheet ≡ true
has_its_version sheet rest e = ap has_version e ∙ ap (λ v. v && true) (le-leb 1 (suc (length rest)) (omega arith))

module _ (code : Code) (sheet : List ℕ) (allowed : ℕ) (space : List ℕ) (s : State) where
  -- the run with and without the version byte
  abbrev run : Bool → Run
  run v = cond v (in_window (records code sheet allowed 1 0 space (step s opening))) (stop (Stopped (fault NoVersion 0)) 0 0 space s)

  -- what holds of a run, by its calls, its outcomes and its end
  abbrev BySheet : Run → Type 0
  BySheet r = RunBySheet code sheet allowed (length space) r.calls (shown s r.calls) r.end.result

  with_version : AllBytes sheet → sheet ≡ 1 ∷ drop 1 sheet → BySheet (run true)
  with_version bytes one =
      let w = walked code sheet (length space) bytes allowed 1 0 space (step s opening) (omega (arith, ap length one)) refl in
      let next : (records code sheet allowed 1 0 space (step s opening)).end.result.next ≡ length (sheet_of w.frames) = w.covers.next ∙ omega arith in
      let over = moved next w.over in
      inl record {
        frames = w.frames;
        rest = w.rest;
        is = one ∙ ap (λ ys. 1 ∷ ys) w.covers.here;
        answered = ap (λ ms. opening ∷ ms) w.covers.answered;
        alone = w.covers.alone;
        within = w.covers.within;
        count = w.covers.counted ∙ omega arith;
        next = next;
        finished = finishes over;
        cancelled = cancels over;
        stopped = stops over;
      }

  no_version : has_version sheet ≡ false → BySheet (run false)
  no_version e = inr record { lacks = λ rest is. let has = has_its_version sheet rest is in absurd cc; none = refl; ends = refl }

  -- every run of a sheet
  by_sheet : AllBytes sheet → BySheet (sheet_run code sheet allowed space s)
  by_sheet bytes = go (has_version sheet) refl
    where
      go : (v : Bool) → has_version sheet ≡ v → BySheet (run v)
      go true e = with_version bytes (begins sheet e)
      go false e = no_version e

  -- however its end was told
  abbrev pub ToldBySheet : RunEnd → Type 0
  ToldBySheet r =
      let calls = (sheet_run code sheet allowed space s).calls in
      RunBySheet code sheet allowed (length space) calls (shown s calls) r

  pub ends_by_sheet : (r : RunEnd) → r ≡ (sheet_run code sheet allowed space s).end.result → AllBytes sheet → ToldBySheet r
  ends_by_sheet r e bytes = subst ToldBySheet (sym e) (by_sheet bytes)

  pub no_version_told : (r : RunEnd) → r ≡ without_version → false ≡ has_version sheet → AllBytes sheet → ToldBySheet r
  no_version_told r e lacks bytes = ends_by_sheet r (e ∙ ap (λ v. (run v).end.result) lacks) bytes

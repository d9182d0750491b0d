-- What the tests of a record come to.
use Rattle.std.proofs.Common.{◌≡◌, ℕ, ◌+◌, ◌-◌, List, take, drop, Some, None, Err, Result, ap, ◌∙◌, arith}
use Rattle.wire.specs.declared.code.Code.{Code}
use Rattle.wire.specs.Numbers.{then}
use Rattle.frame.specs.declared.fault.Cause.TheVariants.{BadRecord}
use Rattle.frame.specs.declared.fault.Fault.{Fault}
use Rattle.frame.specs.declared.header.Header.{Header}
use Rattle.frame.specs.Faults.{fault}
use Rattle.frame.specs.Headers.{tested}
use Rattle.sheet.specs.Records.{record_size, record_bytes, frame_alone, tested_part, tested_record}

-- the part of the sheet that a record's frame lies in
pub part : (sheet : List ℕ) (at size : ℕ) → take (at + 2 + size - (at + 2)) (drop (at + 2) sheet) ≡ record_bytes sheet at size
part sheet at size = ap (λ n. take n (drop (at + 2) sheet)) (omega arith)

pub cut_off : (code : Code) (space : ℕ) (sheet : List ℕ) (at : ℕ) → None ≡ record_size sheet at → Err (fault BadRecord at) ≡ tested_record code space sheet at
unfolding tested_record
cut_off code space sheet at e = ap (tested_part code space sheet at) e

pub all_there : (code : Code) (space : ℕ) (sheet : List ℕ) (at size : ℕ) (q : Result Header Fault) → Some size ≡ record_size sheet at → q ≡ tested code space (take (at + 2 + size - (at + 2)) (drop (at + 2) sheet))
    → then q (λ h. frame_alone at size h.size) ≡ tested_record code space sheet at
unfolding tested_record
all_there code space sheet at size q e t =
    ap (λ r. then r (λ h. frame_alone at size h.size)) (t ∙ ap (tested code space) (part sheet at size))
    ∙ ap (tested_part code space sheet at) e

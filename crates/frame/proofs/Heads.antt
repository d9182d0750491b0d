-- How long the parts of a reply are, and how they come together.
use Rattle.std.proofs.Common.{◌≡◌, ℕ, ◌+◌, ◌*◌, List, ◌++◌, length, sym, refl, ap, ◌∙◌, arith}
use lib.Seq.{sets}
use Rattle.wire.specs.declared.code.Code.{Code}
use Rattle.wire.specs.Numbers.{per_byte}
use Rattle.wire.specs.Series.{series_size, series_bytes}
use Rattle.wire.proofs.Places.{sets_sets}
use Rattle.wire.proofs.Runs.{length_series}
use Rattle.frame.specs.declared.header.Form.{Form}
use Rattle.frame.specs.declared.header.Form.TheVariants.{ThreeE, FourE}
use Rattle.frame.specs.declared.header.Header.{Header}
use Rattle.frame.specs.Replies.{head_numbers, head_size, head_bytes, reply_bytes, error_numbers}

numbers_size : (form : Form) (h : Header) (n end : ℕ) → series_size (head_numbers form h n end) ≡ head_size form
numbers_size ThreeE h n end = refl
numbers_size FourE h n end = refl

pub length_head : (code : Code) (h : Header) (n end : ℕ) → length (head_bytes code h n end) ≡ head_size h.form * per_byte code
length_head code h n end =
    length_series code (head_numbers h.form h (2 * per_byte code + n) end) ∙ ap (λ k. k * per_byte code) (numbers_size h.form h (2 * per_byte code + n) end)

pub length_error : (code : Code) (h : Header) → length (series_bytes code (error_numbers h)) ≡ 9 * per_byte code
length_error code h = length_series code (error_numbers h)

-- the head and then the data are the whole reply
pub head_then_data : (code : Code) (h : Header) (end n at : ℕ) (bytes out : List ℕ) → length bytes ≡ n → at ≡ head_size h.form * per_byte code
    → sets (sets out 0 (head_bytes code h n end)) at bytes ≡ sets out 0 (reply_bytes code h end bytes)
head_then_data code h end n at bytes out long e =
    ap (λ k. sets (sets out 0 (head_bytes code h n end)) k bytes) (e ∙ sym (zero_plus (head_size h.form * per_byte code)))
    ∙ sets_sets out 0 (head_size h.form * per_byte code) (head_bytes code h n end) bytes (length_head code h n end)
    ∙ ap (λ k. sets out 0 (head_bytes code h k end ++ bytes)) (sym long)
  where
    zero_plus : (k : ℕ) → 0 + k ≡ k
    zero_plus k = omega arith

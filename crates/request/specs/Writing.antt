-- A request's field values, and their writing in a code.
use Rattle.std.specs.Prelude.{ℕ, ◌^◌, ◌<◌, List, [], ◌∷◌, ◌++◌, length}
use Rattle.device.specs.declared.types.Device.{Device}
use Rattle.wire.specs.declared.code.Code.{Code}
use Rattle.wire.specs.Numbers.{encode}
use Rattle.wire.specs.Fields.{encode_device, number_limit}
use Rattle.wire.specs.Series.{values_bytes}
use Rattle.wire.specs.Points.{bits_bytes}
use Rattle.request.specs.Requests.{Access, Setting, Asked, read_bits, read_words, write_bits, write_words, random_read, register, monitor, random_bits, random_write}
use Rattle.request.specs.Verdicts.{chain}

-- a field, by its values
pub data Field : Type 0 where
  -- a number of so many bytes
  num : ℕ → ℕ → Field
  -- a pair of counts
  pair : ℕ → ℕ → Field
  -- a device and a number
  dev : Device → ℕ → Field
  -- values of two bytes
  vals : List ℕ → Field
  -- points in bits
  halves : List ℕ → Field

-- what is sent for a field
abbrev pub write_field : Code → Field → List ℕ
write_field code (num size v) = encode code size v
write_field code (pair w d) = encode code 1 w ++ encode code 1 d
write_field code (dev d i) = encode_device code d i
write_field code (vals vs) = values_bytes code 2 vs
write_field code (halves vs) = bits_bytes code vs

abbrev pub write : Code → List Field → List ℕ
write code [] = []
write code (f ∷ fs) = write_field code f ++ write code fs

-- the fields of an access
abbrev pub access_fields : Access → List Field → List Field
access_fields e fs = dev e.0 e.1 ∷ fs

-- the fields of a setting with a value of `size` bytes
abbrev pub setting_fields : ℕ → Setting → List Field → List Field
setting_fields size e fs = dev e.0.0 e.0.1 ∷ num size e.1 ∷ fs

-- the fields of a request's data, in order
abbrev pub fields : Asked → List Field
fields (read_bits d i n) = dev d i ∷ num 2 n ∷ []
fields (read_words d i n) = dev d i ∷ num 2 n ∷ []
fields (write_bits d i vs) = dev d i ∷ num 2 (length vs) ∷ halves vs ∷ []
fields (write_words d i vs) = dev d i ∷ num 2 (length vs) ∷ vals vs ∷ []
fields (random_read ws ds) = pair (length ws) (length ds) ∷ chain access_fields ws (chain access_fields ds [])
fields (register ws ds) = pair (length ws) (length ds) ∷ chain access_fields ws (chain access_fields ds [])
fields monitor = []
fields (random_bits vs) = num 1 (length vs) ∷ chain (setting_fields 1) vs []
fields (random_write ws ds) = pair (length ws) (length ds) ∷ chain (setting_fields 2) ws (chain (setting_fields 4) ds [])

-- the request's data in a code
abbrev pub writing : Code → Asked → List ℕ
writing code a = write code (fields a)

-- each entry of a list is such
abbrev pub Each : {X : Type 0} → (X → Type 0) → List X → Type 0
Each P [] = Unit {0}
Each P (x ∷ xs) = P x × Each P xs

-- a field whose values are within the widths of both codes
abbrev pub FieldFits : Field → Type 0
FieldFits (num size v) = v < 256 ^ size
FieldFits (pair w d) = (w < 256) × (d < 256)
FieldFits (dev d i) = (code : Code) → i < number_limit code d
FieldFits (vals vs) = Each (λ v. v < 65536) vs
FieldFits (halves vs) = Each (λ v. v < 16) vs

-- a request whose fields are within the widths of both codes
abbrev pub FitsBoth : Asked → Type 0
FitsBoth a = Each FieldFits (fields a)

-- Bytes and words in hexadecimal digits.
use Rattle.std.specs.Prelude.{ℕ, ◌+◌, ◌-◌, ◌*◌, ◌/◌, ◌%◌, cond, ◌&&◌, List, [], ◌∷◌, ◌++◌, Some, None, Option, option_and_then, ◌==◌, nat_le}
use Rattle.wire.specs.Numbers.{hex_value, hex_char}

-- the value of a digit, its letters in either case
abbrev pub digit_value : ℕ → Option ℕ
digit_value c = cond (nat_le 97 c && nat_le c 102) (Some (c - 87)) (hex_value c)

-- a byte by the values of its two digits
abbrev pub joined : Option ℕ → Option ℕ → Option ℕ
joined (Some h) (Some l) = Some (16 * h + l)
joined (Some h) None = None
joined None l = None

abbrev pub byte_value : ℕ → ℕ → Option ℕ
byte_value h l = joined (digit_value h) (digit_value l)

-- one byte before others, where all are there
abbrev pub before : Option ℕ → Option (List ℕ) → Option (List ℕ)
before (Some x) (Some xs) = Some (x ∷ xs)
before (Some x) None = None
before None xs = None

-- the bytes of a run of digits; none where a character is no digit, or a digit stands alone
abbrev pub bytes_in : List ℕ → Option (List ℕ)
bytes_in [] = Some []
bytes_in (a ∷ []) = None
bytes_in (a ∷ b ∷ xs) = before (byte_value a b) (bytes_in xs)

-- the words of bytes, the high byte first; none where a byte stands alone
abbrev pub pairs : List ℕ → Option (List ℕ)
pairs [] = Some []
pairs (h ∷ []) = None
pairs (h ∷ l ∷ bs) = before (Some (h * 256 + l)) (pairs bs)

-- the words of a run of digits
abbrev pub words_in : List ℕ → Option (List ℕ)
words_in xs = option_and_then pairs (bytes_in xs)

-- the digits that a word gives, with a dash (45) for none; an empty word gives nothing
abbrev pub digits_of : List ℕ → Option (List ℕ)
digits_of [] = None
digits_of (c ∷ []) = Some (cond (c == 45) [] (c ∷ []))
digits_of (c ∷ d ∷ cs) = Some (c ∷ d ∷ cs)

-- the two digits of a byte
abbrev pub byte_text : ℕ → List ℕ
byte_text b = hex_char (b / 16) ∷ hex_char (b % 16) ∷ []

-- the digits of bytes
abbrev pub bytes_text : List ℕ → List ℕ
bytes_text [] = []
bytes_text (b ∷ bs) = byte_text b ++ bytes_text bs

-- the bytes of words, the high byte first
abbrev pub halves : List ℕ → List ℕ
halves [] = []
halves (w ∷ ws) = w / 256 ∷ w % 256 ∷ halves ws

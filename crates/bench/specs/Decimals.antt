-- Decimal numbers below 2^32.
use Rattle.std.specs.Prelude.{ℕ, ◌+◌, ◌-◌, ◌*◌, ◌^◌, cond, ◌&&◌, List, [], ◌∷◌, Some, None, Option, option_and_then, nat_le, nat_lt}

-- the number with one more digit behind it
abbrev pub with_digit : ℕ → ℕ → Option ℕ
with_digit v c = cond (nat_le 48 c && nat_le c 57 && nat_lt (10 * v + (c - 48)) (2 ^ 32)) (Some (10 * v + (c - 48))) None

-- the number with digits behind it
abbrev pub with_digits : ℕ → List ℕ → Option ℕ
with_digits v [] = Some v
with_digits v (c ∷ cs) = option_and_then (λ n. with_digits n cs) (with_digit v c)

-- the number of a run of at least one digit
abbrev pub decimal_in : List ℕ → Option ℕ
decimal_in [] = None
decimal_in (c ∷ cs) = with_digits 0 (c ∷ cs)

-- a number where it is at most m
abbrev pub up_to : ℕ → Option ℕ → Option ℕ
up_to m (Some v) = cond (nat_le v m) (Some v) None
up_to m None = None

abbrev pub decimal_up_to : ℕ → List ℕ → Option ℕ
decimal_up_to m cs = up_to m (decimal_in cs)

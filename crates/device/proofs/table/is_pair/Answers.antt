use Rattle.std.proofs.Common.{◌≡◌, ℕ, ◌+◌, ◌*◌, ◌<◌, ◌&&◌, eqb, arith}
use Rattle.std.proofs.lemmas.Bool.Decides.{nat_tests}
use Rattle.device.proofs.table.is_pair.Goals as goal

-- two pairs are the same if their numbers are
pair_test : (a b x y : ℕ) → a < 256 → b < 256 → x < 256 → y < 256 → eqb (a + b * 256) (x + y * 256) ≡ (eqb a x && eqb b y)
pair_test a b x y h g k l = grind (arith, nat_tests)

pub returns : goal.returns
returns c = rw (c.from_le_bytes.ensures, c.from_le_bytes-2.ensures) (pair_test c.args.one c.args.other c.args.first c.args.second (omega arith) (omega arith) (omega arith) (omega arith))

-- The fields of a reply frame, each a number with its size in bytes, and the bytes of a whole reply.
use Rattle.std.specs.Prelude.{ℕ, ◌+◌, ◌*◌, List, [], ◌∷◌, ◌++◌, length}
use Rattle.wire.specs.declared.code.Code.{Code}
use Rattle.wire.specs.declared.series.Number.{Number}
use Rattle.wire.specs.Numbers.{per_byte}
use Rattle.wire.specs.Series.{series_bytes}
use Rattle.frame.specs.declared.header.Form.{Form}
use Rattle.frame.specs.declared.header.Form.TheVariants.{ThreeE, FourE}
use Rattle.frame.specs.declared.header.Header.{Header}
use Rattle.frame.specs.declared.header.Route.{Route}

-- a number of one byte, and of two
abbrev pub one : ℕ → Number
one v = record { size = 1; value = v }

abbrev pub two : ℕ → Number
two v = record { size = 2; value = v }

-- network 1, PC 1, module I/O 2, station 1, and what follows
abbrev pub route_numbers : Route → List Number → List Number
route_numbers r rest = one r.network ∷ one r.pc ∷ two r.module_io ∷ one r.station ∷ rest

-- what stands before the route: the subheader, D0 00 or D4 00 in that order; in 4E the serial and the zero word
abbrev pub subheader_numbers : Form → Header → List Number
subheader_numbers ThreeE h = one 0xD0 ∷ one 0 ∷ []
subheader_numbers FourE h = one 0xD4 ∷ one 0 ∷ two h.serial ∷ two 0 ∷ []

-- what stands before the data: that, the route, the length and the end code
abbrev pub head_numbers : Form → Header → ℕ → ℕ → List Number
head_numbers form h n end = subheader_numbers form h ++ route_numbers h.route (two n ∷ two end ∷ [])

-- and how many bytes that is
abbrev pub head_size : Form → ℕ
head_size ThreeE = 11
head_size FourE = 15

-- what stands before n wire bytes of data; the length counts wire bytes from the end code on
abbrev pub head_bytes : Code → Header → ℕ → ℕ → List ℕ
head_bytes code h n end = series_bytes code (head_numbers h.form h (2 * per_byte code + n) end)

-- a whole reply
abbrev pub reply_bytes : Code → Header → ℕ → List ℕ → List ℕ
reply_bytes code h end bytes = head_bytes code h (length bytes) end ++ bytes

-- the data of an error reply: the route, the command and the subcommand
abbrev pub error_numbers : Header → List Number
error_numbers h = route_numbers h.route (two h.command ∷ two h.subcommand ∷ [])

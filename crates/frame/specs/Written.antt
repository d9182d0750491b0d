-- A request frame by what its sender chooses, and its writing in a code.
use Rattle.std.specs.Prelude.{◌≡◌, ℕ, ◌+◌, ◌*◌, ◌<◌, ◌≤◌, List, [], ◌∷◌, ◌++◌, length, Ok, Result}
use Rattle.wire.specs.declared.code.Code.{Code}
use Rattle.wire.specs.declared.series.Number.{Number}
use Rattle.wire.specs.Numbers.{per_byte}
use Rattle.wire.specs.Series.{series_bytes}
use Rattle.frame.specs.declared.fault.Fault.{Fault}
use Rattle.frame.specs.declared.header.Form.{Form}
use Rattle.frame.specs.declared.header.Form.TheVariants.{ThreeE, FourE}
use Rattle.frame.specs.declared.header.Header.{Header}
use Rattle.frame.specs.declared.header.Route.{Route}
use Rattle.frame.specs.Headers.{lead_bytes}
use Rattle.frame.specs.Replies.{one, two, route_numbers}

-- what a sender chooses of a request frame besides the request: its form, in 4E its serial, the route and the timer
pub record Front : Type 0 where
  pub form : Form
  pub serial : ℕ
  pub route : Route
  pub timer : ℕ

-- each within its width
pub record FrontFits (f : Front) : Type 0 where
  pub serial : f.serial < 65536
  pub network : f.route.network < 256
  pub pc : f.route.pc < 256
  pub module_io : f.route.module_io < 65536
  pub station : f.route.station < 256
  pub timer : f.timer < 65536

-- the route, the length, the timer, the command and the subcommand
abbrev pub call_numbers : Front → ℕ → ℕ → ℕ → List Number
call_numbers f n c s = route_numbers f.route (two n ∷ two f.timer ∷ two c ∷ two s ∷ [])

-- what stands before the data: the subheader, 50 00 or 54 00 in that order; in 4E the serial and the zero word; and the rest
abbrev pub front_numbers : Form → Front → ℕ → ℕ → ℕ → List Number
front_numbers ThreeE f n c s = one 0x50 ∷ one 0 ∷ call_numbers f n c s
front_numbers FourE f n c s = one 0x54 ∷ one 0 ∷ two f.serial ∷ two 0 ∷ call_numbers f n c s

-- what stands before n wire bytes of data; the length counts wire bytes from the timer on
abbrev pub front_bytes : Code → Front → ℕ → ℕ → ℕ → List ℕ
front_bytes code f c s n = series_bytes code (front_numbers f.form f (6 * per_byte code + n) c s)

-- a whole request frame: command, subcommand and data
abbrev pub request_bytes : Code → Front → ℕ → ℕ → List ℕ → List ℕ
request_bytes code f c s ys = front_bytes code f c s (length ys) ++ ys

-- a 3E frame has no serial
abbrev pub serial_of : Form → Front → ℕ
serial_of ThreeE f = 0
serial_of FourE f = f.serial

-- the header of a frame with n wire bytes of data
abbrev pub header_of : Code → Front → ℕ → ℕ → ℕ → Header
header_of code f c s n = record {
  form = f.form;
  serial = serial_of f.form f;
  route = f.route;
  timer = f.timer;
  command = c;
  subcommand = s;
  command_at = lead_bytes f.form * per_byte code + 2 * per_byte code;
  data_at = lead_bytes f.form * per_byte code + 6 * per_byte code;
  size = lead_bytes f.form * per_byte code + (6 * per_byte code + n);
}

-- a frame that is written by the forms, with any data and with anything behind it, and this header
pub record IsWritten (code : Code) (xs : List ℕ) (h : Header) : Type 0 where
  pub front : Front
  pub fits : FrontFits front
  pub ys : List ℕ
  pub rest : List ℕ
  pub is : xs ≡ request_bytes code front h.command h.subcommand ys ++ rest
  pub head : h ≡ header_of code front h.command h.subcommand (length ys)

-- a frame that is written by the forms is taken up, and its header says what was written, whatever follows it
pub record TakenUp (code : Code) (space : ℕ) (xs : List ℕ) (r : Result Header Fault) : Type 0 where
  pub back : (f : Front) (c s : ℕ) (ys rest : List ℕ) → FrontFits f → c < 65536 → s < 65536 → 6 * per_byte code + length ys ≤ 8192 → 4096 ≤ space
      → xs ≡ request_bytes code f c s ys ++ rest → r ≡ Ok (header_of code f c s (length ys))

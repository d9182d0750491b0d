-- Two histories whose calls are paired one by one, and outcomes that say the same.
use Rattle.std.specs.Prelude.{◌≡◌, ℕ, ◌<◌, ◌≤◌, Bool, List, [], ◌∷◌, length, Some, Err, Option, Result}
use Rattle.device.specs.declared.types.Device.{Device}
use Rattle.memory.specs.declared.refusal.Refusal.{Refusal}
use Rattle.wire.specs.declared.code.Code.{Code}
use Rattle.frame.specs.declared.fault.Fault.{Fault}
use Rattle.frame.specs.Faults.{number_of}
use Rattle.frame.specs.Headers.{tested}
use Rattle.request.specs.Requests.{Access, Setting, Asked, read_bits, read_words, write_bits, write_words, random_read, register, monitor, random_bits, random_write}
use Rattle.request.specs.Writing.{Each}
use Rattle.server.specs.Answers.{Data, no_data, in_bits, in_words, in_both, Answered, accepted, refused}
use Rattle.server.specs.Says.{Sendable, frame_of}
use Rattle.server.specs.Writings.{Says}
use Rattle.server.specs.Histories.{Move, frame, setting, opening, ending, Shown, taken, written, window, State}
use Rattle.server.specs.Latest.{list_then, TakenWhole, Draws}
use Rattle.server.specs.Registered.{Listed}

-- two frames that say the same: both are the writing of one request, within the widths and the length limit of both codes
pub record SaySame (code : Code) (xs : List ℕ) (code' : Code) (xs' : List ℕ) : Type 0 where
  pub asked : Asked
  pub sendable : Sendable asked
  pub one : Says code xs asked
  pub other : Says code' xs' asked

-- a frame that fails by 2 to 6
pub record Unfit (code : Code) (xs space : List ℕ) : Type 0 where
  pub why : Fault
  pub fails : tested code (length space) xs ≡ Err why
  pub least : 2 ≤ number_of why.cause
  pub most : number_of why.cause ≤ 6

-- calls that are paired one by one; the reply space of each frame is at least 4,096 bytes
pub data Paired : List Move → List Move → Type 0 where
  no_calls : Paired [] []
  frames_alike : {code code' : Code} {xs xs' space space' : List ℕ} {ms ms' : List Move} → 4096 ≤ length space → 4096 ≤ length space' → SaySame code xs code' xs'
      → Paired ms ms' → Paired (frame code xs space ∷ ms) (frame code' xs' space' ∷ ms')
  frames_unfit : {code code' : Code} {xs xs' space space' : List ℕ} {ms ms' : List Move} → 4096 ≤ length space → 4096 ≤ length space' → Unfit code xs space → Unfit code' xs' space'
      → Paired ms ms' → Paired (frame code xs space ∷ ms) (frame code' xs' space' ∷ ms')
  settings_alike : {d : Device} {n v : ℕ} {ms ms' : List Move} → Paired ms ms' → Paired (setting d n v ∷ ms) (setting d n v ∷ ms')
  openings : {ms ms' : List Move} → Paired ms ms' → Paired (opening ∷ ms) (opening ∷ ms')
  endings : {ms ms' : List Move} → Paired ms ms' → Paired (ending ∷ ms) (ending ∷ ms')

-- so many values, each below a limit
abbrev pub Many : ℕ → ℕ → List ℕ → Type 0
Many n limit vs = (length vs ≡ n) × Each (λ v. v < limit) vs

-- the data that a request fixes the form of, where this is registered: as many points as it asks for, each 0 or 1; as many words of two bytes; as many words
-- and double words, and for a monitor as many as are registered; none for what writes or registers
pub data DataFits (g : Option Listed) : Asked → Data → Type 0 where
  points_shown : {d : Device} {i n : ℕ} {vs : List ℕ} → Many n 2 vs → DataFits g (read_bits d i n) (in_bits vs)
  words_shown : {d : Device} {i n : ℕ} {vs : List ℕ} → Many n 65536 vs → DataFits g (read_words d i n) (in_words vs)
  both_shown : {ws ds : List Access} {us vs : List ℕ} → Many (length ws) 65536 us → Many (length ds) 4294967296 vs → DataFits g (random_read ws ds) (in_both us vs)
  list_shown : {l : Listed} {us vs : List ℕ} → g ≡ Some l → Many (length l.0) 65536 us → Many (length l.1) 4294967296 vs → DataFits g monitor (in_both us vs)
  registration : {ws ds : List Access} → DataFits g (register ws ds) no_data
  bits_put : {d : Device} {i : ℕ} {vs : List ℕ} → DataFits g (write_bits d i vs) no_data
  words_put : {d : Device} {i : ℕ} {vs : List ℕ} → DataFits g (write_words d i vs) no_data
  points_put : {ss : List Setting} → DataFits g (random_bits ss) no_data
  both_put : {ws ds : List Setting} → DataFits g (random_write ws ds) no_data

-- an answer that a request may draw, where this is registered
abbrev pub AnswerFits : Option Listed → Asked → Answered → Type 0
AnswerFits g a (accepted d) = DataFits g a d
AnswerFits g a (refused c) = Unit {0}

-- frames that say the same drew replies that say the same: both frames were taken whole, and both replies are the writing of one answer, of the form that
-- their request fixes, each in its own code and behind the header of its own frame
pub record RepliesSame (g : Option Listed) {code code' : Code} {xs xs' : List ℕ} (p : SaySame code xs code' xs') (space space' : List ℕ) (o o' : Shown) : Type 0 where
  pub answer : Answered
  pub fits : AnswerFits g p.asked answer
  pub one : TakenWhole (length (frame_of code p.one.front p.asked)) answer o × Draws p.one answer space o
  pub other : TakenWhole (length (frame_of code' p.other.front p.asked)) answer o' × Draws p.other answer space' o'

-- a frame that is not taken up draws no reply, and its reply space is kept
abbrev pub NoReply : {code : Code} {xs space : List ℕ} → Unfit code xs space → Shown → Type 0
NoReply {space = space} unfit o = o ≡ taken 0 0 (Some unfit.why) space

-- the first of two lists of outcomes are such, and behind them the others are such
abbrev pub FirstThen : (Shown → Shown → Type 0) → (Shown → List Shown → List Shown → Type 0) → List Shown → List Shown → Type 0
FirstThen P Q [] [] = ⊥
FirstThen P Q [] (o' ∷ os') = ⊥
FirstThen P Q (o ∷ os) [] = ⊥
FirstThen P Q (o ∷ os) (o' ∷ os') = P o o' × Q o os os'

-- outcomes of paired calls that say the same, where this is registered on both: frames that say the same both draw replies that do, unfit ones draw none, and
-- settings, openings and endings are answered alike
abbrev pub AllSame : Option Listed → {ms ms' : List Move} → Paired ms ms' → List Shown → List Shown → Type 0
AllSame g no_calls os os' = (os ≡ []) × (os' ≡ [])
AllSame g (frames_alike {code = code} {xs = xs} {space = space} {space' = space'} room room' same p) os os' =
    FirstThen (RepliesSame g same space space') (λ o. AllSame (list_then g (frame code xs space) o) p) os os'
AllSame g (frames_unfit room room' u u' p) os os' = FirstThen (λ o o'. NoReply u o × NoReply u' o') (λ o. AllSame g p) os os'
AllSame g (settings_alike p) os os' = FirstThen (λ o o'. (r : Result (Unit {0}) Refusal) × (o ≡ written r) × (o' ≡ written r)) (λ o. AllSame g p) os os'
AllSame g (openings p) os os' = FirstThen (λ o o'. (f : Option Bool) × (o ≡ window f) × (o' ≡ window f)) (λ o. AllSame g p) os os'
AllSame g (endings p) os os' = FirstThen (λ o o'. (f : Option Bool) × (o ≡ window f) × (o' ≡ window f)) (λ o. AllSame g p) os os'

-- two servers whose memories mean the same, with equal write flags and registrations, and with a window open on neither or on both, which give back the same flag
pub record InStep (s t : State) : Type 0 where
  pub meaning : s.meaning ≡ t.meaning
  pub flag : s.flag ≡ t.flag
  pub registered : s.registered ≡ t.registered
  pub aside : s.aside ≡ t.aside

-- calls that are paired one by one, of two servers that start alike: the outcomes say the same, and both end alike
abbrev pub EndAlike : State → State → List Move → List Move → List Shown → List Shown → State → State → Type 0
EndAlike s t ms ns os ps s' t' = InStep s t → (p : Paired ms ns) → AllSame s.registered p os ps × InStep s' t'

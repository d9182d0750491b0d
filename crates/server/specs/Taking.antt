-- What taking a frame comes to.
use Rattle.std.specs.Prelude.{◌≡◌, ℕ, ◌≤◌, true, List, length, is_some, None, Ok}
use Rattle.memory.specs.Meaning.{Meaning}
use Rattle.request.specs.Requests.{Asked, monitor}
use Rattle.request.specs.Verdicts.{verdict}
use Rattle.wire.specs.declared.code.Code.{Code}
use Rattle.server.specs.declared.answer.Answer.{Answer}
use Rattle.server.specs.Serves.{Came}
use Rattle.server.specs.Says.{writes, Sendable, AlikeAnswer}
use Rattle.server.specs.Laws.{SpaceKept}
use Rattle.server.specs.Writings.{Says, SaysOnly}
use Rattle.server.specs.Histories.{State, at_frame}
use Rattle.server.specs.Asks.{asked_in}

-- a frame that is answered with no fault is the writing of one request, which is what it asks, and passes its tests
abbrev pub AcceptedSays : Code → List ℕ → Meaning → Answer → Type 0
AcceptedSays code xs m r = r.fault ≡ None → (a : Asked) × SaysOnly code xs a × (asked_in code xs ≡ Ok a) × (verdict m a ≡ Ok a)

-- a frame that is the writing of a request whose field values pass their tests is answered with no fault, but for a write while the flag is off and a monitor
-- with nothing registered
abbrev pub PassingAccepted : State → Code → List ℕ → ℕ → Answer → Type 0
PassingAccepted s code xs space r =
    (a : Asked) → Says code xs a → Sendable a → 4096 ≤ space → verdict s.meaning a ≡ Ok a → (writes a ≡ true → s.flag ≡ true) → (a ≡ monitor → is_some s.registered ≡ true)
    → r.fault ≡ None

-- the frame at the front of xs, in a code, was answered r; before that the state was s and the reply space `before`, and then they were s' and `after`
pub record IsServed (s : State) (code : Code) (xs : List ℕ) (r : Answer) (before after : List ℕ) (s' : State) : Type 0 where
  -- the answer, every byte of the reply space, the memory's meaning and the registration are those that the rules fix
  pub came : Came (at_frame s code xs before) r before after s'.meaning s'.registered
  -- no byte of the reply space is touched but those of a reply
  pub space : SpaceKept r before after
  -- a frame that is the writing of a request is answered by its field values alone, in whichever code
  pub alike : AlikeAnswer code xs s.meaning s.flag s.registered r before after s'.meaning s'.registered
  -- a frame that is answered with no fault is the writing of one request, and of no other
  pub one : AcceptedSays code xs s.meaning r
  -- and one that is the writing of a request that passes its tests is
  pub accepts : PassingAccepted s code xs (length before) r

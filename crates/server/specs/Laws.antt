-- What every call of the server keeps to.
use Rattle.std.specs.Prelude.{◌≡◌, ℕ, ◌≤◌, true, false, List, ◌++◌, drop, is_some}
use Rattle.wire.specs.declared.code.Code.{Code}
use Rattle.frame.specs.Written.{Front, FrontFits}
use Rattle.request.specs.Requests.{Asked}
use Rattle.server.specs.declared.answer.Answer.{Answer}
use Rattle.server.specs.Says.{writes, frame_of, Sendable}

-- a call that meets a fault leaves the memory and the registration what they were
abbrev pub FaultsMoveNothing : {S R : Type 0} → Answer → S → R → S → R → Type 0
FaultsMoveNothing a m r m' r' = is_some a.fault ≡ true → (m' ≡ m) × (r' ≡ r)

-- a frame that is the writing of a request which writes no point leaves the memory what it was: a read, a registration, a monitor
abbrev pub ReadsMoveNothing : {S : Type 0} → Code → List ℕ → ℕ → S → S → Type 0
ReadsMoveNothing code xs space m m' =
    (a : Asked) (f : Front) (rest : List ℕ) → FrontFits f → Sendable a → 4096 ≤ space → xs ≡ frame_of code f a ++ rest → writes a ≡ false → m' ≡ m

-- a call that sends no reply leaves every byte of the reply space, and no call touches the space behind its reply
pub record SpaceKept (a : Answer) (before after : List ℕ) : Type 0 where
  pub silent : a.length ≡ 0 → after ≡ before
  pub behind : drop a.length after ≡ drop a.length before

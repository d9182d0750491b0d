-- A frame that is the writing of a request.
use Rattle.std.specs.Prelude.{◌≡◌, ℕ, List, ◌++◌}
use Rattle.wire.specs.declared.code.Code.{Code}
use Rattle.frame.specs.Written.{Front, FrontFits}
use Rattle.request.specs.Requests.{Asked}
use Rattle.server.specs.Says.{Sendable, frame_of}

-- a frame that is the writing of a request in a code, with any form, serial, route and timer, and anything behind it
pub record Says (code : Code) (xs : List ℕ) (a : Asked) : Type 0 where
  pub front : Front
  pub fits : FrontFits front
  pub rest : List ℕ
  pub is : xs ≡ frame_of code front a ++ rest

-- a frame that is the writing of one request: of this one, which is within the widths and the length limit of both codes, and of no other such
pub record SaysOnly (code : Code) (xs : List ℕ) (a : Asked) : Type 0 where
  pub says : Says code xs a
  pub sendable : Sendable a
  pub only : (b : Asked) → Sendable b → Says code xs b → b ≡ a

-- The numbers of the causes, the layers that find them, and a fault by its cause and place.
use Rattle.std.specs.Prelude.{ℕ}
use Rattle.frame.specs.declared.fault.Cause.{Cause}
use Rattle.frame.specs.declared.fault.Cause.TheVariants.{NoReplySpace, Incomplete, BadSubheader, BadDigit, NonZero, BadLength, NoVersion, BadRecord, WriteOff, DataDigit, BitCount, WordCount, RandomBitCount, RandomCount, OutsideExtent, UnknownCommand, UnknownDevice, WrongKind, NotRegistered, ClosedPoint, BadValue, BadSize}
use Rattle.frame.specs.declared.fault.Layer.{Layer}
use Rattle.frame.specs.declared.fault.Layer.TheVariants.{Frame, Sheet, Device, Request}
use Rattle.frame.specs.declared.fault.Fault.{Fault}

-- 1 to 6 for a frame that is not taken up, 7 and 8 for a sheet; else the end code of the reply
abbrev pub number_of : Cause → ℕ
number_of NoReplySpace = 1
number_of Incomplete = 2
number_of BadSubheader = 3
number_of BadDigit = 4
number_of NonZero = 5
number_of BadLength = 6
number_of NoVersion = 7
number_of BadRecord = 8
number_of WriteOff = 0x0055
number_of DataDigit = 0xC050
number_of BitCount = 0xC051
number_of WordCount = 0xC052
number_of RandomBitCount = 0xC053
number_of RandomCount = 0xC054
number_of OutsideExtent = 0xC056
number_of UnknownCommand = 0xC059
number_of UnknownDevice = 0xC05B
number_of WrongKind = 0xC05C
number_of NotRegistered = 0xC05D
number_of ClosedPoint = 0xC05F
number_of BadValue = 0xC060
number_of BadSize = 0xC061

abbrev pub layer_of : Cause → Layer
layer_of NoReplySpace = Frame
layer_of Incomplete = Frame
layer_of BadSubheader = Frame
layer_of BadDigit = Frame
layer_of NonZero = Frame
layer_of BadLength = Frame
layer_of NoVersion = Sheet
layer_of BadRecord = Sheet
layer_of WriteOff = Request
layer_of DataDigit = Request
layer_of BitCount = Request
layer_of WordCount = Request
layer_of RandomBitCount = Request
layer_of RandomCount = Request
layer_of OutsideExtent = Device
layer_of UnknownCommand = Request
layer_of UnknownDevice = Device
layer_of WrongKind = Device
layer_of NotRegistered = Request
layer_of ClosedPoint = Device
layer_of BadValue = Request
layer_of BadSize = Request

abbrev pub fault : Cause → ℕ → Fault
fault c p = record { cause = c; place = p }

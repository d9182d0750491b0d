-- How layers and flags are named in an answer, and codes in a script.
use Rattle.std.specs.Prelude.{ℕ, Bool, true, false, List, codes}
use Rattle.wire.specs.declared.code.Code.{Code}
use Rattle.wire.specs.declared.code.Code.TheVariants.{Ascii, Binary}
use Rattle.frame.specs.declared.fault.Layer.{Layer}
use Rattle.frame.specs.declared.fault.Layer.TheVariants.{Frame, Sheet, Device, Request}

abbrev pub layer_text : Layer → List ℕ
layer_text Frame = codes "frame"
layer_text Sheet = codes "sheet"
layer_text Device = codes "device"
layer_text Request = codes "request"

abbrev pub flag_text : Bool → List ℕ
flag_text true = codes "on"
flag_text false = codes "off"

abbrev pub code_text : Code → List ℕ
code_text Ascii = codes "ascii"
code_text Binary = codes "binary"

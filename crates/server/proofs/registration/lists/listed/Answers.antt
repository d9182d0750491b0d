use Rattle.std.proofs.Common.{◌≡◌, ◌+◌, ◌-◌, ◌*◌, ◌++◌, List, length, take, drop, replicate, Some, sym, ap, ◌∙◌, arith, length-append, length-take-le, length-drop}
use Rattle.std.proofs.lemmas.List.{length-map}
use Rattle.wire.specs.Numbers.{per_byte}
use Rattle.request.specs.Fields.{list_in}
use Rattle.request.specs.Entries.{access_in}
use Rattle.server.specs.declared.registration.Access.{Access}
use Rattle.server.specs.Registered.{accesses, device_and_number}
use Rattle.server.proofs.Listing.{no_access, filled, first_back, second_back}
use Rattle.server.proofs.registration.lists.listed.Goals as goal

pub returns : goal.returns
returns g c =
    let x = c.args in
    let code = g.C.WireCode.which in
    let r = access_in code in
    let es : List Access = replicate 192 no_access in
    let n = x.words + x.doubles - x.words in
    let one = c.fill.new.entries in
    let two = c.fill-2.new.entries in
    let ws = list_in r x.words x.list.now in
    let ds = list_in r x.doubles (drop (x.words * (4 * per_byte code)) x.list.now) in
    let long : length (take x.words es) ≡ x.words = length-take-le x.words es (omega (arith, c.requires.few)) in
    let first : accesses one ≡ ws = filled r (take x.words es) one x.words x.list.now long c.requires.whole.0 c.fill.ensures in
    let lw : length one ≡ x.words = sym (length-map one device_and_number) ∙ ap length first ∙ c.requires.whole.0 in
    let parts : List Access = one ++ drop x.words es in
    let after : length parts ≡ 192 = length-append one (drop x.words es) ∙ (λ i. lw i + length-drop x.words es i) ∙ omega (arith, c.requires.few) in
    let behind : length (take n (drop x.words parts)) ≡ n = length-take-le n (drop x.words parts) (omega (arith, after, length-drop x.words parts, c.requires.few)) in
    let back : n ≡ x.doubles = omega arith in
    let size : list_in r n (drop (x.words * c.field_size.result) x.list.now) ≡ ds =
    (λ i. list_in r (back i) (drop (x.words * c.field_size.ensures i) x.list.now)) in
    let second : accesses two ≡ ds = filled r (take n (drop x.words parts)) two n (drop (x.words * c.field_size.result) x.list.now) behind (ap length size ∙ c.requires.whole.1 ∙ sym back) c.fill-2.ensures ∙ size in
    let ln : length two ≡ n = sym (length-map two device_and_number) ∙ ap length second ∙ c.requires.whole.1 ∙ sym back in
    let front = first_back es one two x.words n lw ln ∙ first in
    let rest = second_back es one two x.words n lw ln ∙ second in
    λ i. Some (front i, rest i)

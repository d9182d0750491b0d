use Rattle.std.proofs.Common.{◌≡◌, ◌+◌, ◌-◌, ◌≤◌, Bool, cond, leb, Some, None, map, take, drop, sym, ap, ◌∙◌, arith, le-leb}
use Rattle.server.specs.Counts.{counted}
use Rattle.server.specs.Registered.{accesses, listed}
use Rattle.embed.specs.Registered.{entry_access, kept_of}
use Rattle.std.specs.List.{list_all}
use Rattle.std.proofs.lemmas.Bool.{and_from}
use Rattle.embed.specs.Registered.{is_named}
use Rattle.embed.proofs.Entries.{kept_back, all_named}
use Rattle.embed.proofs.registered.keep.Goals as goal

pub returns-in-Some-clause-lists : goal.returns-in-Some-clause-lists
returns-in-Some-clause-lists c =
    let r = c.args.registration.now in
    let count : Some c.in-Some.count ≡ r.count = sym c.in-Some.is ∙ c.count.ensures.value in
    let words = c.word_count-words.ensures.value in
    let same : accesses (map entry_access c.write_entries.new.entries) ≡ accesses r.entries =
    ap (λ es. accesses (map entry_access es)) (c.write_entries.ensures ∙ ap (map kept_of) c.entries.ensures) ∙ kept_back r.entries in
    let n = c.word_count-words.result in
    let few : n + (c.in-Some.count - n) ≤ 192 = omega (arith, c.count.ensures.few, c.word_count-words.ensures, ap counted count) in
    let es = accesses (map entry_access c.write_entries.new.entries) in
    ap (λ (b : Bool). cond b (Some (take n es, take (c.in-Some.count - n) (drop n es))) None) (le-leb _ _ few)
    ∙ (λ i. listed (count i) (words i) (same i))

pub returns-in-Some-clause-listing : goal.returns-in-Some-clause-listing
returns-in-Some-clause-listing c =
    let r = c.args.registration.now in
    let count : Some c.in-Some.count ≡ r.count = sym c.in-Some.is ∙ c.count.ensures.value in
    let n = c.word_count-words.result in
    let few : n + (c.in-Some.count - n) ≤ 192 = omega (arith, c.count.ensures.few, c.word_count-words.ensures, ap counted count) in
    let named = ap (λ es. list_all is_named (take (n + (c.in-Some.count - n)) es)) c.write_entries.ensures ∙ all_named (n + (c.in-Some.count - n)) c.entries.result.now in
    and_from (leb (n + (c.in-Some.count - n)) 192) _ (le-leb _ _ few) named

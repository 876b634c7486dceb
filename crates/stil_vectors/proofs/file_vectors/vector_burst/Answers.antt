use Rattle.std.proofs.Common.{◌≡◌, ◌+◌, ◌∙◌, ap, sym, subst, length, arith, take, drop, List}
use Rattle.statement.specs.Stils.{Item, Vector, clock}
use Rattle.stil_write.specs.StilFiles.{item_at, words_of}
use Rattle.stil_vectors.specs.FileVectors.{IsPulsed, bits_of, together, values_of}
use Rattle.statement.specs.Tests.{has_pulse}
use Rattle.stil_vectors.proofs.VectorLemmas.{clock_count, vector_cycles, vector_facts}
use Rattle.stil_vectors.proofs.file_vectors.vector_burst.Goals as goal

pub has_pulse-pulse-requires-clause-item : goal.has_pulse-pulse-requires-clause-item
has_pulse-pulse-requires-clause-item c = let n = ap length c.items-items.ensures in let l = c.requires.item in omega (arith, n, l)

pub has_pulse-pulse-requires-clause-word : goal.has_pulse-pulse-requires-clause-word
has_pulse-pulse-requires-clause-word c =
    let k = vector_facts c.args.file.now c.items-items.result.now c.args.place c.sound.ensures c.items-items.ensures c.requires.item c.requires.vector in
    subst (λ n. IsPulsed n (words_of (item_at c.items-items.result.now c.args.place))) (sym (ap length c.chains-chains.ensures)) k.pulse

pub driven-requires-clause-item : goal.driven-requires-clause-item
driven-requires-clause-item c = let n = ap length c.items-items.ensures in let l = c.requires.item in omega (arith, n, l)

pub driven-requires-clause-words : goal.driven-requires-clause-words
driven-requires-clause-words c =
    let k = vector_facts c.args.file.now c.items-items.result.now c.args.place c.sound.ensures c.items-items.ensures c.requires.item c.requires.vector in
    let w = ap length c.chains-chains.ensures in
    let n = k.count in
    omega (arith, n, w)

pub strobed-requires-clause-item : goal.strobed-requires-clause-item
strobed-requires-clause-item c = let n = ap length c.items-items.ensures in let l = c.requires.item in omega (arith, n, l)

pub strobed-requires-clause-words : goal.strobed-requires-clause-words
strobed-requires-clause-words c =
    let k = vector_facts c.args.file.now c.items-items.result.now c.args.place c.sound.ensures c.items-items.ensures c.requires.item c.requires.vector in
    let w = ap length c.chains-chains.ensures in
    let n = k.count in
    let m = c.min.ensures in
    let p = clock_count c.args.file.now in
    omega (arith, n, w, m, p)

pub returns : goal.returns
returns c =
    let f = c.args.file.now in
    let words = words_of (item_at c.items-items.result.now c.args.place) in
    let w = ap length c.chains-chains.ensures in
    let m = c.min.ensures in
    let p = clock_count f in
    let start : length c.chains-chains.result.now + 1 + c.min.result ≡ length f.chains + 1 + length (clock f) = omega (arith, w, m, p) in
    c.single.ensures
    ∙ vector_cycles f (item_at f.items c.args.place) words c.in_ok-drive.drive.items c.in_ok-strobe.strobe.items c.has_pulse-pulse.result
    (c.requires.vector ∙ ap (λ (is : List Item). Vector (words_of (item_at is c.args.place))) (sym c.items-items.ensures))
    (c.in_ok-drive.ensures ∙ ap (λ n. bits_of (together (take (n + 1) words))) w)
    (c.in_ok-strobe.ensures ∙ ap (λ n. values_of (together (drop n words))) start)
    (c.has_pulse-pulse.ensures ∙ ap (λ n. has_pulse n words) w)

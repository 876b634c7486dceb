use Rattle.std.proofs.Common.{◌≡◌, ◌≤◌, ◌<◌, length, arith, subst, sym, ◌∙◌, ap}
use Rattle.std.specs.Prelude.{Some, slice_get}
use Rattle.std.proofs.lemmas.Option.{get_or_from_slice_get, slice_get_within}
use Rattle.stil_write.specs.StilFiles.{item_at, words_of}
use Rattle.stil_vectors.proofs.VectorLemmas.{clock_word, no_pulse, pulse_is}
use Rattle.stil_vectors.proofs.file_vectors.has_pulse.Goals as goal

pub returns-then-chains-eq0 : goal.returns-then-chains-eq0
returns-then-chains-eq0 c = sym (no_pulse c.args.chains (words_of (item_at c.args.items.now c.args.place)) c.if-chains-eq0.true)

pub word-word-requires-clause-word : goal.word-word-requires-clause-word
word-word-requires-clause-word c =
    let words = words_of (item_at c.args.items.now c.args.place) in
    let w = clock_word c.args.chains words c.if-chains-eq0.false c.requires.word in
    let l = slice_get_within words _ w.0 w.1 in
    let k = c.requires.clock in
    omega (arith, l, k)

pub bounds-word-0 : goal.bounds-word-0
bounds-word-0 c =
    let words = words_of (item_at c.args.items.now c.args.place) in
    let w = clock_word c.args.chains words c.if-chains-eq0.false c.requires.word in
    let here : slice_get words c.args.clock ≡ Some w.0 = ap (slice_get words) c.requires.clock ∙ w.1 in
    let s : w.0 ≡ c.word-word.result.now = (let k : Some w.0 ≡ Some c.word-word.result.now = sym here ∙ c.word-word.ensures in cc) in
    let n : length w.0 ≡ length c.word-word.result.now = ap length s in
    let l = w.2 in
    omega (arith, n, l)

pub returns : goal.returns
returns c =
    let words = words_of (item_at c.args.items.now c.args.place) in
    sym (pulse_is c.args.chains words c.word-word.result.now c.if-chains-eq0.false (ap (slice_get words) (sym c.requires.clock) ∙ c.word-word.ensures))

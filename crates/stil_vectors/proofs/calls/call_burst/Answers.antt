use Rattle.std.proofs.Common.{◌++◌, ◌∙◌, ap, sym, refl, length, arith, replicate, List}
use Rattle.statement.specs.Benches.{Text}
use Rattle.statement.specs.declared.kinds.Tri.TheVariants.{X}
use Rattle.statement.specs.Stils.{Call, Item}
use Rattle.stil_write.specs.StilFiles.{item_at, words_of}
use Rattle.stil_vectors.specs.FileVectors.{bits_of}
use Rattle.stil_vectors.proofs.CallLemmas.{all_sized, call_cycles, ins_enough, outs_enough}
use Rattle.stil_vectors.proofs.VectorLemmas.{call_facts}
use Rattle.stil_vectors.proofs.calls.call_burst.Goals as goal

pub word-count-requires-clause-item : goal.word-count-requires-clause-item
word-count-requires-clause-item c = let n = ap length c.items-items.ensures in let l = c.requires.item in omega (arith, n, l)

pub word-count-requires-clause-word : goal.word-count-requires-clause-word
word-count-requires-clause-word c =
    let k = call_facts c.args.file.now c.items-items.result.now c.args.place c.sound.ensures c.items-items.ensures c.requires.item c.requires.call in
    let s = k.1.some in
    omega (arith, s)

pub all_ins-requires-clause-item : goal.all_ins-requires-clause-item
all_ins-requires-clause-item c = let n = ap length c.items-items.ensures in let l = c.requires.item in omega (arith, n, l)

pub all_ins-requires-clause-words : goal.all_ins-requires-clause-words
all_ins-requires-clause-words c =
    let k = call_facts c.args.file.now c.items-items.result.now c.args.place c.sound.ensures c.items-items.ensures c.requires.item c.requires.call in
    let w = ap length c.chains-width.ensures in
    let n = k.1.count in
    omega (arith, n, w)

pub all_ins-requires-clause-long : goal.all_ins-requires-clause-long
all_ins-requires-clause-long c =
    let k = call_facts c.args.file.now c.items-items.result.now c.args.place c.sound.ensures c.items-items.ensures c.requires.item c.requires.call in
    all_sized (words_of (item_at c.items-items.result.now c.args.place)) c.word-count.result.now k.0 c.word-count.ensures k.1.long

pub all_outs-requires-clause-item : goal.all_outs-requires-clause-item
all_outs-requires-clause-item c = let n = ap length c.items-items.ensures in let l = c.requires.item in omega (arith, n, l)

pub all_outs-requires-clause-words : goal.all_outs-requires-clause-words
all_outs-requires-clause-words c =
    let k = call_facts c.args.file.now c.items-items.result.now c.args.place c.sound.ensures c.items-items.ensures c.requires.item c.requires.call in
    let w = ap length c.chains-width.ensures in
    let n = k.1.count in
    omega (arith, n, w)

pub all_outs-requires-clause-long : goal.all_outs-requires-clause-long
all_outs-requires-clause-long c =
    let k = call_facts c.args.file.now c.items-items.result.now c.args.place c.sound.ensures c.items-items.ensures c.requires.item c.requires.call in
    all_sized (words_of (item_at c.items-items.result.now c.args.place)) c.word-count.result.now k.0 c.word-count.ensures k.1.long

pub invariant_of-result : goal.invariant_of-result
invariant_of-result c =
    let words = words_of (item_at c.items-items.result.now c.args.place) in
    let k = call_facts c.args.file.now c.items-items.result.now c.args.place c.sound.ensures c.items-items.ensures c.requires.item c.requires.call in
    let w = ap length c.chains-width.ensures in
    let n = k.1.count in
    record {
      ins_enough = ins_enough words c.in_ok-ins.ins.items (length c.word-count.result.now) (length c.chains-width.result.now) (omega (arith, n, w)) c.in_ok-ins.ensures;
      outs_enough = outs_enough words c.in_ok-outs.outs.items (length c.word-count.result.now) (length c.chains-width.result.now) (omega (arith, n, w)) c.in_ok-outs.ensures;
    }

pub returns : goal.returns
returns c =
    let f = c.args.file.now in
    let words = words_of (item_at c.items-items.result.now c.args.place) in
    let k = call_facts f c.items-items.result.now c.args.place c.sound.ensures c.items-items.ensures c.requires.item c.requires.call in
    call_cycles f (item_at f.items c.args.place) words c.word-count.result.now c.push_bits.new.bits.items c.in_ok-strobe.strobe.items (length c.chains-width.result.now) (length c.word-count.result.now) c.in_ok-ins.ins.items c.in_ok-outs.outs.items
    (c.requires.call ∙ ap (λ (is : List Item). Call (words_of (item_at is c.args.place))) (sym c.items-items.ensures)) c.word-count.ensures k.1.count
    (c.in_ok-push_bits.ensures ∙ ap (λ l. l ++ bits_of c.shift_word.result.now) c.new-drive.ensures.items ∙ ap bits_of c.shift_word.ensures)
    (c.in_ok-strobe.ensures ∙ ap (λ n. replicate n X) (c.len.ensures ∙ ap length c.po.ensures)) (ap length c.chains-width.ensures) refl c.in_ok-ins.ensures c.in_ok-outs.ensures

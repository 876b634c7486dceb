use Rattle.std.proofs.Common.{◌≡◌, ◌∙◌, cond, ap, sym, length, get_or, bit_and, bit_xor}
use Rattle.events.specs.Words.{ones}
use Rattle.transition_sim.proofs.WordsLaunched.{is_launched, source_low}
use Rattle.transition_sim.proofs.launching.launched.Goals.{then-fault, else-fault}
use Rattle.transition_sim.proofs.launching.launched.Goals as goal

pub bounds-first-index : goal.bounds-first-index
bounds-first-index c =
    source_low c.args.netlist.now c.sound.ensures c.args.fault.now c.requires.line c.index.result (length c.args.first.now) (c.index.ensures ∙ c.source_of.ensures) c.requires.size

pub returns : goal.returns
returns c =
    let n = c.args.netlist.now in
    let f = c.args.fault.now in
    let word = get_or c.args.first.now c.index.result 0 in
    let old : c.if-fault.old ≡ cond c.args.fault.now.value ones 0 =
    elim c.if-fault.branch [
      | then-fault w ↦ w.old-is ∙ sym (ap (λ b. cond b ones 0) w.if-fault.true)
      | else-fault w ↦ w.old-is ∙ sym (ap (λ b. cond b ones 0) w.if-fault.false)
    ] in
    is_launched n c.args.fault.now c.args.first.now c.args.used (get_or c.args.first.now c.index.result 0)
    (bit_and c.args.used (bit_xor (bit_xor (get_or c.args.first.now c.index.result 0) c.if-fault.old) ones))
    (ap (λ k. get_or c.args.first.now k 0) (c.index.ensures ∙ c.source_of.ensures))
    (ap (λ o. bit_and c.args.used (bit_xor (bit_xor (get_or c.args.first.now c.index.result 0) o) ones)) old)

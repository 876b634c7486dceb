use Rattle.std.proofs.Common.{◌∷◌, [], ap, ◌∙◌, sym, arith}
use Rattle.statement.specs.Runs.{Cycle}
use Rattle.scan_play.proofs.ApplyLemmas.{plain_made, plain_unclocked}
use Rattle.scan_play.proofs.applying.plain.Goals as goal

pub returns-then-count-eq0 : goal.returns-then-count-eq0
returns-then-count-eq0 c =
    c.single.ensures
    ∙ ap (λ (x : Cycle). x ∷ [])
    (plain_unclocked c.args.chains.now c.args.inputs.now c.in_ok-drive.drive.items c.args.strobe.items (sym c.count-count.ensures ∙ c.if-count-eq0.true) c.in_ok-drive.ensures.items)

pub returns : goal.returns
returns c =
    c.single-2.ensures
    ∙ ap (λ (x : Cycle). x ∷ [])
    (plain_made c.args.chains.now c.count-count.result c.loop-done._done c.args.inputs.now c.in_ok-drive.drive.items c.push.new.self.items c.push_zeros.new.bits.items
    c.args.strobe.items c.loop-done.strobe.items
    c.count-count.ensures c.if-count-eq0.false (let a = c.loop-done-test.false in let b = c.loop-done.auto._done-end in omega arith) c.in_ok-drive.ensures.items
    c.in_ok-push.ensures.items c.in_ok-push_zeros.ensures c.loop-done.invariant)

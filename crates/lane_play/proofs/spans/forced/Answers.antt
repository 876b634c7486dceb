use Rattle.std.proofs.Common.{sym, ◌∙◌, arith}
use Rattle.lane_play.proofs.Stuckness.{any_fault, pass_back, pass_front}
use Rattle.lane_play.proofs.spans.forced.Goals as goal

pub loop-k-init : goal.loop-k-init
loop-k-init c =
    let some = c.requires.some in
    let within = c.requires.spanned.within in
    (omega arith, pass_front c.args.faults.now c.args.line.now c.args.span c.requires.spanned c.args.value any_fault (omega arith))

pub returns : goal.returns
returns c =
    let end = c.loop-k-test.false in
    let inside = c.loop-k.invariant.0 in
    let within = c.requires.spanned.within in
    sym (c.loop-k.invariant.1 ∙ pass_back c.args.faults.now c.args.line.now c.args.span c.requires.spanned c.loop-k.k c.loop-k.made any_fault (omega arith) (omega arith))

use Rattle.std.proofs.Common.{◌∙◌, ap, arith, sym}
use Rattle.statement.specs.Reports.{Line}
use Rattle.slow_check.proofs.LeftLemmas.{all_left, with_line, without_line}
use Rattle.slow_check.proofs.leftovers.left_of.Goals as goal
use Rattle.slow_check.proofs.leftovers.left_of.Goals.{then-has_evidence+in_ok-push, else-has_evidence}

pub loop-place-preserved : goal.loop-place-preserved
loop-place-preserved c =
    let line : Line = record { fault = c.get.result.fault.now; outcome = c.get.result.outcome; pin = c.get.result.pin.now } in
    elim c.if-has_evidence.branch [
      | then-has_evidence+in_ok-push w ↦
          ap (λ left. left.items) w.left-is
          ∙ with_line c.args.faults.now c.args.lines.now c.loop-place.place w.fault-line.result line c.loop-place.left.items _ w.fault-line.ensures c.get.ensures
          (sym c.has_evidence.ensures ∙ w.if-has_evidence.true) c.loop-place.invariant w.in_ok-push.ensures.items
      | else-has_evidence w ↦
          ap (λ left. left.items) w.left-is
          ∙ without_line c.args.faults.now c.args.lines.now c.loop-place.place line c.loop-place.left.items (omega (arith, c.loop-place-test.true, c.len-place-end.ensures)) c.get.ensures
          (sym c.has_evidence.ensures ∙ w.if-has_evidence.false) c.loop-place.invariant
    ]

pub returns : goal.returns
returns c =
    let stop = c.loop-place-test.false in
    let all = c.len-place-end.ensures in
    let size = c.requires.size in
    all_left c.args.faults.now c.args.lines.now c.loop-place.place c.loop-place.left.items (omega arith) (omega arith) c.loop-place.invariant

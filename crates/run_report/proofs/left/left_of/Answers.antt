use Rattle.std.proofs.Common.{◌≡◌, ◌<◌, ◌∙◌, ap, get_or, length, false, arith}
use Rattle.run_report.proofs.LeftLemmas.{class_left, class_passed, mark_read}
use Rattle.run_report.proofs.left.left_of.Goals as goal
use Rattle.run_report.proofs.left.left_of.Goals.{then-index+in_ok-push, else-index}

pub loop-class-preserved : goal.loop-class-preserved
loop-class-preserved c =
    let marks = c.in_ok-marks.marks.items in
    let class = c.loop-class.class in
    let within : class < length c.args.classes.now.representatives = omega (arith, c.loop-class-test.true, c.count-class-end.ensures) in
    let read : get_or marks class false ≡ c.index.result.now =
    mark_read c.args.classes.now c.args.lines.now marks c.in_ok-marks.ensures class c.loop-class.left.items c.loop-class.invariant c.index.result.now within c.index.ensures in
    elim c.if-index.branch [
      | then-index+in_ok-push w ↦
          ap (λ left. left.items) w.left-is
          ∙ class_left c.args.classes.now c.args.lines.now marks c.in_ok-marks.ensures class c.loop-class.left.items c.loop-class.invariant w.representative-line.result _
          w.representative-line.ensures (read ∙ w.if-index.true) w.in_ok-push.ensures.items
      | else-index w ↦
          ap (λ left. left.items) w.left-is
          ∙ class_passed c.args.classes.now c.args.lines.now marks c.in_ok-marks.ensures class c.loop-class.left.items c.loop-class.invariant within (read ∙ w.if-index.false)
    ]

use Rattle.std.proofs.Common.{◌≡◌, ◌<◌, ℕ, Some, length, sym, subst, arith}
use Rattle.std.specs.List.{slice_get}
use Rattle.std.proofs.lemmas.Option.{slice_get-get_or}
use Rattle.statement.specs.Reports.{Line}
use Rattle.run_report.proofs.LeftLemmas.{marked_more}
use Rattle.run_report.proofs.left.marks_of.Goals as goal

pub loop-place-preserved : goal.loop-place-preserved
loop-place-preserved c =
    let classes = c.args.classes.now in
    let place = c.loop-place.place in
    let line : Line = record { fault = c.get.result.fault.now; outcome = c.get.result.outcome; pin = c.get.result.pin.now } in
    let within : place < length classes.numbers = omega (arith, c.requires.lines, c.loop-place-test.true, c.len-place-end.ensures) in
    let at : slice_get classes.numbers place ≡ Some c.class_of.result =
    subst (λ (k : ℕ). slice_get classes.numbers place ≡ Some k) (sym c.class_of.ensures) (slice_get-get_or classes.numbers place 0 within) in
    marked_more (length classes.representatives) classes.numbers c.args.lines.now place c.class_of.result line c.loop-place.marks.items c.mark.new.marks.items at c.get.ensures
    c.loop-place.invariant c.mark.ensures

use Rattle.std.proofs.Common.{◌≡◌, ◌+◌, ◌∙◌, ap, sym, subst, get_or, length, vec_len, arith}
use Rattle.std.proofs.lemmas.List.{get_or_default}
use Rattle.fault_collapse.specs.inner.Merging.{AreNumbered}
use Rattle.fault_collapse.proofs.Numbered.{first_class, old_class}
use Rattle.fault_collapse.proofs.classes.number.Goals as goal
use Rattle.fault_collapse.proofs.classes.number.Goals.{then-parent-i+in_ok-push+in_ok-push-2, else-parent-i+in_ok-push-3}

pub loop-i-preserved : goal.loop-i-preserved
loop-i-preserved c =
    let h = c.loop-i.invariant in
    elim c.if-parent-i.branch [
      | then-parent-i+in_ok-push+in_ok-push-2 w ↦
          let numbers = ap (λ v. v.items) w.numbers-is ∙ w.in_ok-push.ensures.items in
          let reps = ap (λ v. v.items) w.representatives-is ∙ w.in_ok-push-2.ensures.items in
          let more = ap vec_len w.numbers-is ∙ w.in_ok-push.ensures.len in
          let also = ap vec_len w.representatives-is ∙ w.in_ok-push-2.ensures.len in
          let count = w.len.ensures in
          record {
            size = omega arith;
            few = omega arith;
            numbered = λ first leads. first_class c.args.faults.now c.args.parents.now first c.requires.forest leads
                c.loop-i.numbers.items c.loop-i.representatives.items c.loop-i.i (h.numbered first leads) (omega arith)
                c.if-parent-i.numbers.items c.if-parent-i.representatives.items _ _ w.if-parent-i.true w.fault-line.ensures (omega arith) numbers reps;
          }
      | else-parent-i+in_ok-push-3 w ↦
          let numbers = ap (λ v. v.items) w.numbers-is ∙ w.in_ok-push-3.ensures.items in
          let reps = ap (λ v. v.items) w.representatives-is in
          let more = ap vec_len w.numbers-is ∙ w.in_ok-push-3.ensures.len in
          let also = ap vec_len w.representatives-is in
          let other = w.if-parent-i.false in
          record {
            size = omega arith;
            few = omega arith;
            numbered = λ first leads.
                subst (λ rs. AreNumbered c.args.faults.now first c.if-parent-i.numbers.items rs (c.loop-i.i + 1)) (sym reps)
                (old_class c.args.faults.now c.args.parents.now first c.requires.forest leads
                c.loop-i.numbers.items c.loop-i.representatives.items c.loop-i.i (h.numbered first leads) (omega arith)
                c.if-parent-i.numbers.items _ (let low = c.requires.forest c.loop-i.i (omega arith) in omega arith)
                (w.index.ensures ∙ get_or_default c.loop-i.numbers.items (get_or c.args.parents.now c.loop-i.i 0) w.index.result.now 0 (let low = c.requires.forest c.loop-i.i (omega arith) in omega arith)) numbers);
          }
    ]

pub returns : goal.returns
returns c first leads =
    let e : c.loop-i.i ≡ length c.args.faults.now = omega arith in
    subst (AreNumbered c.args.faults.now first c.loop-i.numbers.items c.loop-i.representatives.items) e (c.loop-i.invariant.numbered first leads)

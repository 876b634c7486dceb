use Rattle.std.proofs.Common.{[], slice_get, length, ap, sym, ◌∙◌, subst, inl, inr, arith, length-append, ◌∷◌}
use Rattle.scan_play.specs.Steps.{IsReady}
use Rattle.scan_play.proofs.PlanMarks.{marked_push}
use Rattle.scan_play.proofs.planning.mark_ready.Goals as goal

pub loop-x-preserved : goal.loop-x-preserved
loop-x-preserved c = record {
  size = omega (arith, ap length c.in_ok-push.ensures.items, length-append c.loop-x.ready.items (c.is_ready.result ∷ []), c.loop-x.invariant.size);
  are = λ y e. elim (marked_push c.loop-x.ready.items c.is_ready.result y (ap (λ xs. slice_get xs y) (sym c.in_ok-push.ensures.items) ∙ e)) [
    | inl h ↦ c.loop-x.invariant.are y h
    | inr h ↦ subst (IsReady c.args.netlist.now c.args.base.now []) (sym (h.0 ∙ c.loop-x.invariant.size)) (c.is_ready.ensures h.1)
  ];
}

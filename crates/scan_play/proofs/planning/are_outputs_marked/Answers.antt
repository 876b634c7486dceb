use Rattle.std.proofs.Common.{◌≡◌, ◌<◌, true, length, Some, slice_get, get_or, ap, sym, ◌∙◌, subst, inl, inr, arith}
use Rattle.std.proofs.lemmas.Bool.{cases_eq}
use Rattle.std.proofs.lemmas.List.{get_or_default}
use Rattle.scan_play.proofs.planning.are_outputs_marked.Goals as goal

pub loop-k-preserved : goal.loop-k-preserved
loop-k-preserved c j l s =
    elim (cases_eq j c.loop-k.k) [
      | inl last ↦
          let ids = c.outputs-outputs.result.now in
          let within : c.loop-k.k < length ids = c.loop-k-test.true in
          let is : c.index-outputs-k.result ≡ get_or c.args.netlist.now.outputs j 0 =
          c.index-outputs-k.is ∙ (get_or_default ids c.loop-k.k c.index-outputs-k.result 0 within ∙ (ap (λ xs. get_or xs c.loop-k.k 0) c.outputs-outputs.ensures
          ∙ ap (λ i. get_or c.args.netlist.now.outputs i 0) (sym last))) in
          subst (λ x. slice_get c.args.marks.now x ≡ Some true) is
          (c.is_output_marked.ensures c.if-not-is_output_marked.false (λ e. s (ap (slice_get c.args.strobe.now) last ∙ e)))
      | inr old ↦ c.loop-k.invariant j (omega (arith, l)) s
    ]

pub loop-k-init : goal.loop-k-init
loop-k-init c j l s = absurd (omega (arith, l))

pub returns : goal.returns
returns c e j l s = c.loop-k.invariant j (let f = c.loop-k-test.false in let z = ap length c.outputs-outputs.ensures in omega (arith, l)) s

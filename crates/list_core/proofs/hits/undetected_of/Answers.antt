use Rattle.std.proofs.Common.{◌≡◌, ℕ, ◌+◌, ◌<◌, true, false, length, refl, ap, sym, ◌∙◌, arith, rules}
use Rattle.std.specs.Prelude.{Some}
use Rattle.std.specs.List.{slice_get}
use Rattle.std.proofs.lemmas.List.Elements.{All-push}
use Rattle.std.proofs.lemmas.List.Quantifiers.{all_pairs_push}
use Rattle.std.proofs.lemmas.Option.{slice_get_read, get_or_from_slice_get}
use Rattle.statement.specs.declared.lines.Fault.{Fault}
use Rattle.list_core.specs.declared.verdicts.Verdict.TheVariants.{Open}
use Rattle.list_core.specs.Verdicts.{verdict_at, is_undetected}
use Rattle.list_core.proofs.HitLemmas.{one_left, none_left, all_below}
use Rattle.list_core.proofs.hits.undetected_of.Goals as goal
use Rattle.list_core.proofs.hits.undetected_of.Goals.{then-is_undetected_now+in_ok-push, else-is_undetected_now}

pub loop-class-preserved : goal.loop-class-preserved
loop-class-preserved c =
    let k = c.loop-class.class in
    let vs = c.args.verdicts.now in
    let lt : k < length vs = search rules in
    let v = c.index-verdicts-class.result in
    let here : verdict_at vs k ≡ v = get_or_from_slice_get vs k v Open (slice_get_read vs (length vs) k v refl lt c.index-verdicts-class.is) in
    elim c.if-is_undetected_now.branch [
      | then-is_undetected_now+in_ok-push w ↦ (
          let f = w.index-faults-class.result in
          let is : is_undetected (verdict_at vs k) ≡ true = ap is_undetected here ∙ (sym c.is_undetected_now.ensures ∙ w.if-is_undetected_now.true) in
          let at : slice_get c.args.faults.now k ≡ Some f = slice_get_read c.args.faults.now (length c.args.faults.now) k f refl (omega (arith, lt, c.requires.0)) w.index-faults-class.is in
          rw (w.found-is, w.in_ok-push.ensures.items) (record {
            classes = one_left c.loop-class.found.items k f vs lt is c.loop-class.invariant.classes;
            represent = All-push (λ (p : ℕ × Fault). slice_get c.args.faults.now p.0 ≡ Some p.1) c.loop-class.found.items (k, f) c.loop-class.invariant.represent at;
            below = All-push (λ (p : ℕ × Fault). p.0 < k + 1) c.loop-class.found.items (k, f) (all_below k c.loop-class.found.items c.loop-class.invariant.below) (omega arith);
            ascend = all_pairs_push (λ (p q : ℕ × Fault). p.0 < q.0) c.loop-class.found.items (k, f) c.loop-class.invariant.ascend c.loop-class.invariant.below;
          })
          )
      | else-is_undetected_now w ↦ (
          let is : is_undetected (verdict_at vs k) ≡ false = ap is_undetected here ∙ (sym c.is_undetected_now.ensures ∙ w.if-is_undetected_now.false) in
          rw w.found-is (record {
            classes = none_left c.loop-class.found.items k vs lt is c.loop-class.invariant.classes;
            represent = c.loop-class.invariant.represent;
            below = all_below k c.loop-class.found.items c.loop-class.invariant.below;
            ascend = c.loop-class.invariant.ascend;
          })
          )
    ]

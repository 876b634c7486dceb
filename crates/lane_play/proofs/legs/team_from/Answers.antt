use Rattle.std.proofs.Common.{◌≡◌, ◌+◌, ◌++◌, ◌∷◌, [], ℕ, Some, Vec, length, ap, subst, sym, ◌∙◌, arith, length-append}
use Rattle.std.specs.declared.alloc.Global.{Global}
use Rattle.std.proofs.lemmas.Option.{slice_get-get_or}
use Rattle.lane_play.specs.declared.packing.Machine.{Machine}
use Rattle.lane_play.specs.inner.Apart.{AreOpen}
use Rattle.lane_play.specs.inner.Verdicts.{is_open}
use Rattle.lane_play.proofs.ApartLemmas.{open_push, open_skip}
use Rattle.lane_play.proofs.legs.team_from.Goals.{then-is_open+in_ok-push, else-is_open}
use Rattle.lane_play.proofs.legs.team_from.Goals as goal

pub loop-place-preserved : goal.loop-place-preserved
loop-place-preserved c =
    let machines = c.args.machines.now in
    let start = c.args.start in
    let at = c.loop-place.place in
    let old = c.loop-place.places.items in
    let new = c.if-is_open.places.items in
    let here = slice_get-get_or machines at c.index-machines-place.result c.loop-place-test.true ∙ ap Some (sym c.index-machines-place.is) in
    let same = ap (λ (m : Machine). is_open m.said) c.index-machines-place.is in
    let few = c.loop-place.invariant.few in
    let sparse = c.loop-place.invariant.sparse in
    elim c.if-is_open.branch [
      | then-is_open+in_ok-push w ↦
          let e : new ≡ old ++ at ∷ [] = ap (λ (v : Vec ℕ Global). v.items) w.places-is ∙ w.in_ok-push.ensures.items in
          let long : length new ≡ length old + 1 = ap length e ∙ length-append old (at ∷ []) in
          let not_full = c.if-len-eq128.false in
          let count = c.len.ensures in
          record {
            few = omega arith;
            sparse = omega arith;
            all = subst (AreOpen machines start (at + 1)) (sym e)
                (open_push machines start at c.index-machines-place.result old here (same ∙ (sym c.is_open.ensures ∙ w.if-is_open.true)) (omega arith) c.loop-place.invariant.all);
          }
      | else-is_open w ↦
          let e : new ≡ old = ap (λ (v : Vec ℕ Global). v.items) w.places-is in
          let long : length new ≡ length old = ap length e in
          record {
            few = omega arith;
            sparse = omega arith;
            all = subst (AreOpen machines start (at + 1)) (sym e) (open_skip machines start at c.index-machines-place.result old here (same ∙ (sym c.is_open.ensures ∙ w.if-is_open.false)) c.loop-place.invariant.all);
          }
    ]

use Rattle.std.proofs.Common.{◌≡◌, ◌+◌, ◌<◌, ℕ, true, false, length, get_or, ap, sym, ◌∙◌, subst}
use Rattle.std.proofs.lemmas.List.{length-map}
use Rattle.statement.specs.Netlists.{signals}
use Rattle.refutation.specs.Refutations.{Told, may_have, told_of}
use Rattle.refutation_check.specs.inner.Marks.{is_marked}
use Rattle.refutation_check.specs.inner.Starting.{own}
use Rattle.refutation_check.specs.inner.Trails.{Trailed, Grows}
use Rattle.refutation_check.proofs.TrailLemmas.{grows_then, grows_put}
use Rattle.refutation_check.proofs.StartLemmas.{listed_below, wide_more, others_more, all_reached}
use Rattle.refutation_check.proofs.starting.widen.Goals as goal

pub put-requires : goal.put-requires
put-requires c =
    let n = c.args.netlist.now in
    let size : length c.loop-k.sets.told ≡ length c.args.marks.now =
    c.loop-k.invariant.grows.size ∙ (ap length c.requires.told ∙ (length-map (signals n) (own c.args.holds.now) ∙ sym c.requires.size)) in
    listed_below n c.args.holds.now c.args.fault.now c.args.marks.now c.args.list.now c.requires.listed c.loop-k.k c.index-list-k.result (length c.loop-k.sets.told) c.loop-k-test.true
    c.index-list-k.is size

pub loop-k-preserved : goal.loop-k-preserved
loop-k-preserved c =
    let n = c.args.netlist.now in
    let holds = c.args.holds.now in
    let f = c.args.fault.now in
    let marks = c.args.marks.now in
    let list = c.args.list.now in
    let told = c.loop-k.sets.told in
    let id = c.index-list-k.result in
    let pairs = c.reached-pairs.result in
    let size : length told ≡ length marks = c.loop-k.invariant.grows.size ∙ (ap length c.requires.told ∙ (length-map (signals n) (own holds) ∙ sym c.requires.size)) in
    let low = listed_below n holds f marks list c.requires.listed c.loop-k.k id (length told) c.loop-k-test.true c.index-list-k.is size in
    let made = sym (ap (λ (t : Trailed). t.told) c.in_ok-put.ensures.ok) in
    record {
      grows = grows_then c.args.sets.now c.loop-k.sets c.put.new.self c.loop-k.invariant.grows
          (subst (Grows c.loop-k.sets) (sym c.in_ok-put.ensures.ok) (grows_put c.loop-k.sets id pairs));
      wide = subst (λ (t : Told). (j d : ℕ) → j < c.loop-k.k + 1 → told_of t (get_or list j d) ≡ may_have holds f true (get_or list j d)) made
          (wide_more n holds f marks list c.requires.listed told c.loop-k.k id pairs c.loop-k-test.true c.index-list-k.is low c.reached-pairs.ensures c.loop-k.invariant.wide);
      others = subst (λ (t : Told). (x : ℕ) → is_marked marks x ≡ false → told_of t x ≡ told_of c.args.sets.now.told x) made
          (others_more n holds f marks list c.requires.listed told c.loop-k.k id pairs c.loop-k-test.true c.index-list-k.is low c.reached-pairs.ensures c.args.sets.now.told
          c.loop-k.invariant.others);
    }

pub returns-clause-told : goal.returns-clause-told
returns-clause-told c =
    all_reached c.args.netlist.now c.args.holds.now c.args.fault.now c.args.marks.now c.args.list.now c.requires.listed c.requires.sound c.args.sets.now.told c.loop-k.sets.told c.loop-k.k
    c.requires.told c.loop-k.invariant.grows.size c.loop-k-test.false c.loop-k.invariant.wide c.loop-k.invariant.others

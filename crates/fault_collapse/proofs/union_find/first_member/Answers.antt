use Rattle.std.proofs.Common.{◌≤◌, ◌∙◌, refl, get_or, length-set, arith}
use Rattle.fault_collapse.proofs.Forests.{halved, halved_forest}
use Rattle.fault_collapse.proofs.union_find.first_member.Goals as goal

pub loop-parents-preserved : goal.loop-parents-preserved
loop-parents-preserved c =
    let p = c.loop-parents.parents in
    let at = c.loop-parents.at in
    let i = c.loop-parents.invariant in
    let next = get_or p at 0 in
    let above : next ≤ at = i.forest at i.within in
    let higher : get_or p next 0 ≤ next = i.forest next (omega arith) in
    record {
      forest = halved_forest p at i.forest i.within _ refl;
      within = let size = length-set p at (get_or p next 0) in omega arith;
      same = λ first h. halved p at i.forest i.within _ first refl (i.same first h);
      first = λ first h. (i.same first h).kept next (omega arith) ∙ ((i.same first h).kept at i.within ∙ i.first first h);
    }

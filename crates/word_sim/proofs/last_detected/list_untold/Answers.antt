use Rattle.std.proofs.Common.{◌≡◌, ◌<◌, ◌+◌, ◌++◌, ◌∷◌, [], ℕ, List, None, drop, get_or, length, sym, subst, arith}
use Rattle.statement.specs.declared.lines.Fault.{Fault}
use Rattle.word_sim.specs.inner.Found.{untold}
use Rattle.word_sim.proofs.Untold.{no_fault, list_all_told, list_more, list_same, none_when, some_when}
use Rattle.word_sim.proofs.last_detected.list_untold.Goals as goal
use Rattle.word_sim.proofs.last_detected.list_untold.Goals.{then-is_none+in_ok-push, else-is_none}

pub loop-k-preserved : goal.loop-k-preserved
loop-k-preserved c =
    let size = c.requires.size in
    let l = c.loop-k-test.true in
    let m : c.loop-k.k < length c.args.told.now = omega arith in
    elim c.if-is_none.branch [
      | then-is_none+in_ok-push w ↦
          subst (λ v. v.items ++ untold (c.loop-k.k + 1) (drop (c.loop-k.k + 1) c.args.faults.now) (drop (c.loop-k.k + 1) c.args.told.now) ≡ untold 0 c.args.faults.now c.args.told.now) (sym w.rest-is)
          (subst (λ (items : List (ℕ × Fault)). items ++ untold (c.loop-k.k + 1) (drop (c.loop-k.k + 1) c.args.faults.now) (drop (c.loop-k.k + 1) c.args.told.now) ≡ untold 0 c.args.faults.now c.args.told.now)
          (sym w.in_ok-push.ensures.items)
          (subst (λ (g : Fault). (c.loop-k.rest.items ++ (c.loop-k.k, g) ∷ []) ++ untold (c.loop-k.k + 1) (drop (c.loop-k.k + 1) c.args.faults.now) (drop (c.loop-k.k + 1) c.args.told.now)
          ≡ untold 0 c.args.faults.now c.args.told.now) (sym w.index-faults-k.is)
          (list_more c.args.faults.now c.args.told.now c.loop-k.k w.index-faults-k.result None c.loop-k.rest.items l m c.loop-k.invariant
          (none_when (get_or c.args.told.now c.loop-k.k None) c.is_none.result c.is_none.ensures w.if-is_none.true))))
      | else-is_none w ↦
          let s = some_when (get_or c.args.told.now c.loop-k.k None) c.is_none.result c.is_none.ensures w.if-is_none.false in
          subst (λ v. v.items ++ untold (c.loop-k.k + 1) (drop (c.loop-k.k + 1) c.args.faults.now) (drop (c.loop-k.k + 1) c.args.told.now) ≡ untold 0 c.args.faults.now c.args.told.now) (sym w.rest-is)
          (list_same c.args.faults.now c.args.told.now c.loop-k.k no_fault None c.loop-k.rest.items l m c.loop-k.invariant s.0 s.1)
    ]

pub returns : goal.returns
returns c = list_all_told c.args.faults.now c.args.told.now c.loop-k.k c.loop-k.rest.items c.loop-k-test.false c.loop-k.invariant

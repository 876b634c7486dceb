use Rattle.std.proofs.Common.{refl, sym, ◌∙◌, subst}
use Rattle.pair_sim.specs.Sims.{Sim}
use Rattle.fan.specs.inner.Searching.{IsOnPath}
use Rattle.fan.proofs.Beside.{chosen_if}
use Rattle.fan.proofs.forcing.find_at.Goals.{then-is_asked+in-Nothing, else-is_asked}
use Rattle.fan.proofs.forcing.find_at.Goals as goal

pub loop-pin-preserved : goal.loop-pin-preserved
loop-pin-preserved c = elim c.if-is_asked.branch [
  | then-is_asked+in-Nothing w ↦ w.labels-is ∙ (w.in-Nothing.ensures ∙ c.loop-pin.invariant)
  | else-is_asked w ↦ w.labels-is ∙ c.loop-pin.invariant
]

pub look_beside-requires-clause-chosen : goal.look_beside-requires-clause-chosen
look_beside-requires-clause-chosen c =
    let stack = c.args.stack.now in
    let k = c.args.roled.now.case in
    let is : IsOnPath k c.loop-pin.labels stack = subst (λ (r : Sim). IsOnPath k r stack) (sym c.loop-pin.invariant) c.requires.at in
    chosen_if k is c.requires.going (c.if-is_asked.ensures refl)

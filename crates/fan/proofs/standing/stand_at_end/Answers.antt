use Rattle.std.proofs.Common.{◌-◌, List, [], ◌∷◌, ◌++◌, length, refl, sym, ◌∙◌, ap, subst}
use Rattle.netlist.specs.Conditions.{IsSound}
use Rattle.redundancy_cert.specs.declared.stacks.Side.{Side}
use Rattle.fan.proofs.Ending.{none_last, last_of, last_beside, stands_first}
use Rattle.fan.proofs.standing.stand_at_end.Goals as goal

pub stand-requires-clause-beside : goal.stand-requires-clause-beside
stand-requires-clause-beside c =
    let stack = c.args.stack.now in
    let r : Side = c.in-Some.side.now in
    last_beside c.args.roled.now.case c.args.labels.now stack c.split_at.result.0.now r c.requires.at
    (last_of stack (length stack - 1) r refl c.in-Some.ensures.value ∙ ap (λ (ss : List Side). ss ++ r ∷ []) (sym c.split_at.ensures.front))

pub returns-in-None : goal.returns-in-None
returns-in-None c =
    let stack = c.args.stack.now in
    stands_first c.args.roled.now.case (subst IsSound c.netlist.ensures c.sound.ensures) c.args.labels.now stack c.requires.at
    (none_last stack (length stack - 1) refl c.in-None.ensures.value) c.state.result c.state.ensures

use Rattle.std.proofs.Common.{◌<◌, ◌≢◌, ℕ, List, length, sym, subst, ◌∙◌}
use Rattle.std.specs.List.{All, AllPairs}
use Rattle.netlist.proofs.Settling.{inputs_below, inputs_distinct, cells_below, cells_distinct, sources_driven}
use Rattle.netlist.proofs.rules.drive_sources.Goals as goal

pub drive-requires-clause-below : goal.drive-requires-clause-below
drive-requires-clause-below g c =
    subst (λ (xs : List ℕ). All (λ x. x < length c.args.values.now.items) xs) (sym c.inputs.ensures) (inputs_below c.args.netlist.now c.requires.sound.formed.numbered _ c.requires.size)

pub drive-requires-clause-distinct : goal.drive-requires-clause-distinct
drive-requires-clause-distinct g c =
    subst (λ (xs : List ℕ). AllPairs (λ x y. x ≢ y) xs) (sym c.inputs.ensures) (inputs_distinct c.args.netlist.now c.requires.sound.formed.numbered)

pub drive-requires-2-clause-below : goal.drive-requires-2-clause-below
drive-requires-2-clause-below g c =
    cells_below c.args.netlist.now c.requires.sound.formed.numbered c.cells.result.now _ c.cells.ensures (c.drive.ensures.size ∙ c.requires.size)

pub drive-requires-2-clause-distinct : goal.drive-requires-2-clause-distinct
drive-requires-2-clause-distinct g c = cells_distinct c.args.netlist.now c.requires.sound.formed.numbered c.cells.result.now c.cells.ensures

pub returns : goal.returns
returns g c =
    sources_driven c.args.netlist.now c.requires.sound.formed.numbered (g.L.Logic.rule c.args.logic.now) c.inputs.result.now c.cells.result.now c.args.inputs.now c.args.state.now
    c.args.values.now.items c.drive.new.values.items c.drive-2.new.values.items c.requires.size
    c.inputs.ensures c.cells.ensures c.requires.inputs c.requires.state c.drive.ensures c.drive-2.ensures

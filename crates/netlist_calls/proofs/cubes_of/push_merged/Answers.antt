use Rattle.std.proofs.Common.{List, sym, ◌∙◌, subst}
use Rattle.std.specs.List.{AllPairs}
use Rattle.cubes.specs.Cubes.{Cube, HaveSameWidths}
use Rattle.netlist_calls.proofs.cubes_of.push_merged.Goals as goal

pub merge-requires : goal.merge-requires
merge-requires c =
    subst (λ (cubes : List Cube). AllPairs HaveSameWidths cubes) (c.deref.ensures.value ∙ sym c.deref-2.ensures.value) (c.are_alike.ensures c.if-not-are_alike.false)

use Rattle.std.proofs.Common.{true, refl, sym, ◌∙◌}
use Rattle.std.proofs.lemmas.Bool.{both_ways}
use Rattle.netlist.specs.Conditions.{whole}
use Rattle.scan_insert.proofs.Soundness.{refused_for_memory}
use Rattle.scan_insert.proofs.insertion.netlist_of.Goals.{in-NoMemory, in_default}
use Rattle.scan_insert.proofs.insertion.netlist_of.Goals as goal

-- Nothing is refused of a sound netlist but for want of memory.
pub prove-unreachable-requires : goal.prove-unreachable-requires
prove-unreachable-requires c = elim c.match-matches.branch [
  | in-NoMemory w ↦ both_ways true (sym w.matches-is ∙ c.if-prove.true) refl
  | in_default w ↦ w.in_default.not-NoMemory (refused_for_memory (whole c.args.parts) c.requires c.in-Err.refusal c.in-Err.ensures)
]

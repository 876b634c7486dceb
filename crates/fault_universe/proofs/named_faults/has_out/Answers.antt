use Rattle.std.proofs.Common.{false, refl}
use Rattle.std.proofs.lemmas.Bool.{both_ways}
use Rattle.fault_universe.proofs.Members.{last_branch, no_last_branch}
use Rattle.fault_universe.proofs.named_faults.has_out.Goals as goal

pub returns-in-Some : goal.returns-in-Some
returns-in-Some c =
    last_branch c.args.netlist.now c.sound.ensures c.args.y c.branches.result.now c.in-Some.reader.now c.is.result c.requires c.branches.ensures c.in-Some.ensures.value c.is.ensures

pub returns-in-None : goal.returns-in-None
returns-in-None c = (
  (λ e. absurd (both_ways false refl e)),
  (λ m. absurd (no_last_branch c.args.netlist.now c.sound.ensures c.args.y c.branches.result.now c.branches.ensures c.in-None.ensures.value m)),
)

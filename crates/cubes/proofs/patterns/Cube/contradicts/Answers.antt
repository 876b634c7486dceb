use Rattle.std.proofs.Common.{arith}
use Rattle.std.proofs.lemmas.Grind.{common_steps}
use Rattle.cubes.proofs.RowLemmas.{contradicts_iff}
use Rattle.cubes.proofs.patterns.Cube.contradicts.Goals as goal

pub returns-then-are_opposed : goal.returns-then-are_opposed
returns-then-are_opposed c = contradicts_iff c.args.self.now c.args.other.now c.requires c.are_opposed.result (grind (arith, common_steps))

pub returns-else-are_opposed : goal.returns-else-are_opposed
returns-else-are_opposed c =
    contradicts_iff c.args.self.now c.args.other.now c.requires c.are_opposed-else-are_opposed.result (grind (arith, common_steps))

use Rattle.std.proofs.Common.{subst}
use Rattle.std.specs.List.{All}
use Rattle.std.proofs.lemmas.List.{take_all}
use Rattle.std.proofs.lemmas.List.Elements.{All-more}
use Rattle.statement.specs.Patterns.{Pattern}
use Rattle.cubes.specs.Cubes.{IsPatternOf}
use Rattle.stil_patterns.proofs.obeying.are_patterns.Goals as goal

pub loop-pattern-preserved : goal.loop-pattern-preserved
loop-pattern-preserved c =
    let P : Pattern → Type 0 = IsPatternOf c.args.netlist.now c.args.holds.now in
    All-more P c.args.patterns.now c.loop-pattern.pattern-index c.pattern-item.result c.loop-pattern-test.true c.loop-pattern.invariant (subst P c.pattern-item.is c.if-not-is_pattern.ensures)

pub returns : goal.returns
returns c = subst (All (IsPatternOf c.args.netlist.now c.args.holds.now)) (take_all c.loop-pattern.pattern-index c.args.patterns.now c.loop-pattern-test.false) c.loop-pattern.invariant

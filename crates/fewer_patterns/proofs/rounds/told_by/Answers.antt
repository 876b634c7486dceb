use Rattle.std.proofs.Common.{List, Option, ℕ, subst, arith}
use Rattle.std.specs.List.{All}
use Rattle.statement.specs.declared.lines.Point.{Point}
use Rattle.statement.specs.Netlists.{Netlist}
use Rattle.cubes.specs.Cubes.{IsPatternOf}
use Rattle.fewer_patterns.specs.inner.Enough.{AllTold}
use Rattle.fewer_patterns.proofs.rounds.told_by.Goals as goal

pub returns : goal.returns
returns g c = record {
  obey = subst (λ (m : Netlist). All (IsPatternOf m c.args.aim.now.holds.now) c.args.tried.now) c.netlist.ensures c.if-not-are_patterns.ensures;
  few = omega (arith, c.if-tried-aim.false);
  detect = c.in_ok-last.ensures;
  told = subst (λ (ls : List (Option (ℕ × Point))). AllTold ls) c.deref.ensures.value (c.are_told.ensures c.if-not-are_told.false);
}

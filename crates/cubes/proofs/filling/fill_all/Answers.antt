use Rattle.std.proofs.Common.{◌≡◌, List, sym, subst, arith}
use Rattle.std.specs.List.{AllZip}
use Rattle.std.proofs.lemmas.Grind.{common_steps}
use Rattle.statement.specs.Patterns.{Pattern}
use Rattle.cubes.specs.Cubes.{AgreesWith}
use Rattle.cubes.specs.Filling.{filled_all}
use Rattle.cubes.proofs.FillLemmas.{filled_agree, filled_fit}
use Rattle.cubes.proofs.filling.fill_all.Goals as goal

pub returns-clause-patterns : goal.returns-clause-patterns
returns-clause-patterns g c = grind (arith, common_steps)

pub returns-clause-agree : goal.returns-clause-agree
returns-clause-agree g c =
    let items : c.loop-cube.patterns.items ≡ filled_all c.args.cubes.now (g.R.Rng.stream c.args.rng.now) = returns-clause-patterns g c in
    subst (λ (ps : List Pattern). AllZip AgreesWith ps c.args.cubes.now) (sym items) (filled_agree c.args.cubes.now (g.R.Rng.stream c.args.rng.now))

pub returns-clause-fit : goal.returns-clause-fit
returns-clause-fit g c n holds fit = filled_fit n holds c.args.cubes.now c.loop-cube.patterns.items (returns-clause-agree g c) fit

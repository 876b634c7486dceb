use Rattle.std.proofs.Common.{arith}
use Rattle.std.proofs.lemmas.Grind.{common_steps}
use Rattle.cubes.specs.Filling.{words_after}
use Rattle.cubes.proofs.FillLemmas.{fill_agrees, fill_fits}
use Rattle.cubes.proofs.filling.fill.Goals as goal

pub returns-clause-agrees : goal.returns-clause-agrees
returns-clause-agrees g c =
    fill_agrees c.args.cube.now c.new.result (g.R.Rng.stream c.args.rng.now) (words_after c.args.cube.now.inputs (g.R.Rng.stream c.args.rng.now))
    (grind (arith, common_steps)) (grind (arith, common_steps))

pub returns-clause-fits : goal.returns-clause-fits
returns-clause-fits g c n holds fits = fill_fits n holds c.args.cube.now c.new.result (returns-clause-agrees g c) fits

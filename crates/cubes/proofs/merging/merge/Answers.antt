use Rattle.std.proofs.Common.{List, length, ap, sym, subst, arith, rules}
use Rattle.cubes.specs.Cubes.{Cube}
use Rattle.cubes.specs.Merging.{AreMerged}
use Rattle.cubes.proofs.MergeLemmas.{none_merged, next_fits, merged_more, one_more, kept_at_end, apart_at_end, fit_at_end}
use Rattle.cubes.proofs.merging.merge.Goals as goal

pub loop-cube-init : goal.loop-cube-init
loop-cube-init c = record {
  merged = subst (λ results. AreMerged c.args.cubes.now results 0) (sym c.new-results.ensures.items) (none_merged c.args.cubes.now);
  few = omega (arith, ap (λ (results : List Cube). length results) c.new-results.ensures.items);
}

pub add-requires : goal.add-requires
add-requires c =
    next_fits c.args.cubes.now c.loop-cube.results.items c.loop-cube.cube-index c.cube-item.result
    c.loop-cube.invariant.merged c.cube-item.is c.loop-cube-test.true c.requires

pub loop-cube-preserved : goal.loop-cube-preserved
loop-cube-preserved c = record {
  merged =
      merged_more c.args.cubes.now c.loop-cube.results.items c.add.new.results.items c.loop-cube.cube-index c.cube-item.result
      c.loop-cube.invariant.merged c.cube-item.is c.loop-cube-test.true c.requires (search rules);
  few = omega (arith, one_more c.cube-item.result c.loop-cube.results.items c.add.new.results.items (search rules));
}

pub returns-clause-few : goal.returns-clause-few
returns-clause-few c = omega arith

pub returns-clause-fit : goal.returns-clause-fit
returns-clause-fit c = fit_at_end c.args.cubes.now c.loop-cube.results.items c.loop-cube.cube-index c.loop-cube.invariant.merged (omega arith)

pub returns-clause-kept : goal.returns-clause-kept
returns-clause-kept c = kept_at_end c.args.cubes.now c.loop-cube.results.items c.loop-cube.cube-index c.loop-cube.invariant.merged (omega arith)

pub returns-clause-apart : goal.returns-clause-apart
returns-clause-apart c = apart_at_end c.args.cubes.now c.loop-cube.results.items c.loop-cube.cube-index c.loop-cube.invariant.merged (omega arith)

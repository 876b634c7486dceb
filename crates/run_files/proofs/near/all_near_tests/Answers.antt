use Rattle.std.proofs.Common.{List, subst, sym}
use Rattle.std.specs.List.{All}
use Rattle.std.proofs.lemmas.List.Elements.{All-append}
use Rattle.statement.specs.Patterns.{Pattern}
use Rattle.cubes.specs.Cubes.{IsPatternOf}
use Rattle.run_files.proofs.near.all_near_tests.Goals as goal

pub loop-k-preserved : goal.loop-k-preserved
loop-k-preserved g c =
    let P : Pattern → Type 0 = IsPatternOf c.args.turning.now.core.now c.args.turning.now.holds.now in
    subst (λ (ps : List Pattern). All P ps) (sym c.in_ok-append.ensures.items)
    (All-append P c.loop-k.all.items c.in_ok-near.near.items c.loop-k.invariant c.in_ok-near.ensures.obey)

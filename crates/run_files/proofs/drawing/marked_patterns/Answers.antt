use Rattle.std.proofs.Common.{ℕ, false, List, length, get_or, ap, subst, sym, arith}
use Rattle.std.specs.List.{All}
use Rattle.std.proofs.lemmas.Result.{IfOk-weaker}
use Rattle.statement.specs.Patterns.{Pattern}
use Rattle.cubes.specs.Cubes.{IsPatternOf}
use Rattle.list_core.proofs.KeepLemmas.{kept_all, kept_few}
use Rattle.run_files.specs.inner.Batches.{AreSome}
use Rattle.run_files.proofs.drawing.marked_patterns.Goals as goal

pub returns : goal.returns
unfolding AreSome
returns c =
    let drawn = c.args.drawn.items in
    let marks = c.args.marks.now in
    IfOk-weaker c.kept.result _ _ (λ v is. (
      omega (arith, ap length is, kept_few (λ (i : ℕ). get_or marks i false) 0 drawn),
      λ n holds all. subst (λ (ps : List Pattern). All (IsPatternOf n holds) ps) (sym is) (kept_all (IsPatternOf n holds) (λ i. get_or marks i false) 0 drawn all),
    ))
    c.kept.ensures

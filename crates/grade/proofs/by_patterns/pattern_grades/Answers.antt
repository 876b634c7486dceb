use Rattle.std.proofs.Common.{◌∙◌, List, ℕ, reverse, ap, subst}
use Rattle.std.specs.List.{AllZip}
use Rattle.std.proofs.lemmas.List.{reverse-reverse}
use Rattle.std.proofs.lemmas.Result.{IfOk-weaker}
use Rattle.statement.specs.Patterns.{Pattern}
use Rattle.grade.specs.Patterns.{IsPatternGrade}
use Rattle.grade.proofs.by_patterns.pattern_grades.Goals as goal

pub returns : goal.returns
returns c =
    let n = c.args.core.now in
    let patterns = c.args.patterns.items in
    let faults = c.args.faults.now in
    let same = ap reverse (c.as_slice.ensures.value ∙ c.reverse.ensures.items) ∙ reverse-reverse patterns in
    IfOk-weaker c.latest_grades-grades.result _ _ (λ grades h.
    subst (λ (ps : List Pattern). AllZip (IsPatternGrade n c.args.chains.now ps) faults grades.items) same
    (subst (λ (cs : List (List ℕ)). AllZip (IsPatternGrade n cs (reverse c.as_slice.result.now)) faults grades.items) c.in_ok-timing.ensures.chains h)) c.latest_grades-grades.ensures

use Rattle.std.proofs.Common.{◌≡◌, ◌∙◌, ℕ, ◌<◌, Bool, false, List, length, subst, sym}
use Rattle.std.specs.List.{All, flat_map}
use Rattle.statement.specs.Patterns.{Holds, Pattern}
use Rattle.fault_collapse.specs.Numbers.{Classes}
use Rattle.certificate.specs.Certificates.{evidence_line}
use Rattle.detections.specs.Times.{IsNeededFor}
use Rattle.statement.specs.Statement.{FiveFiles, Statement}
use Rattle.good_files.specs.GoodFiles.{chains_said}
use Rattle.good_files.specs.RunTheorem.{RunTheorem, as_written}
use Rattle.good_files.specs.ScanOff.{design_chains}
use Rattle.run_files.specs.Runs.{contents_of, files_of}
use Rattle.run_files.specs.inner.Often.{Differ}
use Rattle.run_files.specs.inner.Verdicts.{MayHave, leaves_of}
use Rattle.good_files.proofs.TreesAlone.{begins_alone}
use Rattle.run_files.proofs.AskedLemmas.{are_asked, first_kept}
use Rattle.run_files.proofs.PointLemmas.{leaves_kinds}
use Rattle.run_files.proofs.truth.written_is_run.Goals as goal

pub returns : goal.returns
returns c = λ n a classes patterns verdicts made sound design run.
    let by = c.written_is_good.ensures n a classes patterns verdicts made sound design run in
    let files = files_of made in
    let holds = a.holds in
    let limit = a.limit in
    let chains = design_chains n a.chains in
    let lines = run.written.said.lines in
    let own : RunTheorem n by.good.tested.holds (design_chains n (chains_said made.said)) limit by.file files =
    subst (λ (l : ℕ). RunTheorem n by.good.tested.holds (design_chains n (chains_said made.said)) l by.file files) by.limit_is
    (c.good_files_tell_the_truth.ensures files (contents_of n by.file by.evidence made) sound design by.good) in
    let truth : RunTheorem n holds chains limit by.file files =
    subst (λ (h : Holds). RunTheorem n h chains limit by.file files) by.holds_are
    (subst (λ (cs : List (List ℕ)). RunTheorem n by.good.tested.holds cs limit by.file files) by.chains_are own) in
    let written : as_written files n by.file ≡ files =
    λ i. record { net = sym run.written.net i; scan = files.scan; stil = sym by.stil_is i; certificate = files.certificate; report = files.report } in
    record {
      file = by.file;
      evidence = by.evidence;
      net_is = run.written.net;
      good = by.good;
      holds_are = by.holds_are;
      chains_are = by.chains_are;
      limit_is = by.limit_is;
      needed =
          subst (λ (ps : List Pattern). (place : ℕ) → place < length ps → IsNeededFor n ps a.times by.good.tested.classes.representatives place) (sym by.patterns_are)
          (subst (λ (cs : Classes). (place : ℕ) → place < length patterns → IsNeededFor n patterns a.times cs.representatives place) (sym by.classes_are) run.searched.needed.each);
      differ = λ more. subst Differ (sym by.patterns_are) (run.searched.needed.differ more);
      counted = run.written.counted.most_is;
      asked = are_asked n a chains classes run.are_classes run.size patterns verdicts run.searched made.said.lines lines;
      first = first_kept n a chains classes run.are_classes run.size patterns verdicts run.searched made.said.lines lines sound c.detected_alike.ensures;
      statement = subst (λ (f : FiveFiles). Statement n holds chains f) written truth.statement;
      truth = truth;
      trees = λ none.
          let leaves = leaves_of classes.representatives verdicts in
          let alone = leaves_kinds false classes.representatives verdicts (subst (λ (b : Bool). All (MayHave b) verdicts) none run.searched.kinds) in
          c.trees_as_before.ensures n holds chains limit by.file files (flat_map (evidence_line n) leaves) truth (run.written.certificate ∙ begins_alone n leaves alone);
    }

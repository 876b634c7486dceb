-- The texts of verdicts are good files.
use Rattle.std.proofs.Common.{◌≡◌, ◌∙◌, ℕ, List, refl, sym, ap, subst, length}
use Rattle.statement.specs.declared.lines.Fault.{Fault}
use Rattle.statement.specs.Netlists.{Netlist}
use Rattle.netlist.specs.Conditions.{IsSound}
use Rattle.netlist.specs.Designs.{IsDesign}
use Rattle.statement.specs.Patterns.{Holds, Pattern}
use Rattle.statement.specs.Benches.{canonical}
use Rattle.bench_text.specs.Laws.{CanonicalTextIsRead}
use Rattle.scan_insert.specs.Scanned.{AreChainsOf, scanned_of}
use Rattle.stil_read.specs.Laws.{WrittenStands}
use Rattle.stil_read.specs.Reading.{StandsFor}
use Rattle.statement.specs.Tests.{IsFileOf}
use Rattle.fault_universe.specs.Laws.{TextsDiffer}
use Rattle.fault_collapse.specs.Laws.{DetectedAlike}
use Rattle.fault_collapse.specs.Numbers.{Classes}
use Rattle.evidence.specs.declared.kinds.Evidence.{Evidence}
use Rattle.list_core.specs.declared.verdicts.Verdict.{Verdict}
use Rattle.report.specs.declared.counts.ReportCounts.{ReportCounts}
use Rattle.run_report.specs.Outcomes.{Test}
use Rattle.good_files.specs.GoodFiles.{AreReportTotals, AreTrueFaults, Contents, IsChainCount, IsTested, StandFor, chains_said, limit_said, test_with}
use Rattle.good_files.specs.ScanOff.{design_chains}
use Rattle.good_files.proofs.Chains.{counted, made_again}
use Rattle.good_files.proofs.ReadBack.{read_back}
use Rattle.run_files.specs.declared.files.RunFiles.{RunFiles}
use Rattle.run_files.specs.Runs.{Asked, contents_of, files_of}
use Rattle.run_files.specs.inner.Laws.{AreGoodFilesBy, IsFinishedRun}
use Rattle.run_files.specs.inner.Verdicts.{AreVerdicts, leaves_of}
use Rattle.run_files.proofs.PointLemmas.{all_evident}
use Rattle.run_files.proofs.TruthLemmas.{leaves_left, true_lines}

module _ (alike : DetectedAlike) (texts : TextsDiffer) (n : Netlist) (a : Asked) (classes : Classes) (patterns : List Pattern) (verdicts : List Verdict) (made : RunFiles) (sound : IsSound n)
    (run : IsFinishedRun n a classes patterns verdicts made) where
  abbrev holds : Holds
  holds = a.holds

  abbrev asked : ℕ
  asked = a.chains

  abbrev limit : ℕ
  limit = a.limit

  abbrev found : AreVerdicts n a.holds classes.representatives a.limit patterns verdicts
  found = run.searched.verdicts_are

  abbrev evidence : List (Fault × Evidence)
  evidence = leaves_of classes.representatives verdicts

  abbrev contents : Contents
  contents = contents_of n run.written.stil.file evidence made

  abbrev said_test : Test
  said_test = test_with contents holds patterns

  -- the test by the options
  abbrev asked_test : Test
  asked_test = record { netlist = n; holds = holds; chains = design_chains n asked; limit = limit; patterns = patterns; evidence = evidence }

  chains_dealt : AreChainsOf n (design_chains n asked)
  chains_dealt = record { asked = asked; some = run.some; are = refl }

  -- the report says as many chains as were made, and the limit
  many : chains_said made.said ≡ length (design_chains n asked)
  many = ap (λ (counts : ReportCounts). counts.chains) run.written.said.numbers.counts

  most : limit_said made.said ≡ limit
  most = ap (λ (counts : ReportCounts). counts.limit) run.written.said.numbers.counts

  own_chains : design_chains n (chains_said made.said) ≡ design_chains n asked
  own_chains = ap (design_chains n) many ∙ made_again n (design_chains n asked) chains_dealt

  own_test : said_test ≡ asked_test
  own_test i = record { netlist = n; holds = holds; chains = own_chains i; limit = most i; patterns = patterns; evidence = evidence }

  true_faults : AreTrueFaults asked_test classes made.said.lines
  true_faults = record {
    lines_true =
        true_lines alike texts n sound holds (design_chains n asked) classes run.are_classes limit a.faults patterns verdicts found made.said.lines run.written.said.lines;
    left =
        leaves_left n (design_chains n asked) classes run.are_classes a.faults verdicts made.said.lines run.searched.asked run.written.said.lines found.count;
  }

  totals : AreReportTotals asked_test classes made.said
  totals =
      let numbers = run.written.said.numbers in
      record { limit = run.limit_is; head = record { counts = numbers.counts; coverage = numbers.coverage; efficiency = numbers.efficiency; times = run.written.counted.has } }

  tested : IsTested contents
  tested = record {
    holds = holds;
    patterns = patterns;
    classes = classes;
    scan = record {
      allowed = subst (IsChainCount n) (sym many) (counted n sound (design_chains n asked) chains_dealt);
      text = run.written.scan ∙ ap (λ (chains : List (List ℕ)). canonical (scanned_of n chains)) (sym own_chains);
    };
    held = record { held = run.held; said = run.written.said.numbers.held };
    test = record {
      obey = found.obey;
      is_file_of = subst (λ (chains : List (List ℕ)). IsFileOf n holds chains patterns run.written.stil.file) (sym own_chains) run.written.stil.of_patterns;
    };
    are_classes = run.are_classes;
  }

  stand : CanonicalTextIsRead → WrittenStands → IsDesign n → StandFor (files_of made) contents
  stand canonical_law stands design =
      let w = run.written in
      record {
        net = read_back canonical_law n sound design made.net.items w.net;
        scan = refl;
        stil = subst (λ (t : List ℕ). StandsFor t w.stil.file) (sym w.stil.text_is) (stands w.stil.file w.stil.is_file);
        certificate = record { each = all_evident n sound holds classes run.are_classes limit patterns verdicts found w.small; text = w.certificate };
        is_report = w.is_report;
        report = w.report;
      }

  pub good : CanonicalTextIsRead → WrittenStands → IsDesign n → AreGoodFilesBy n a classes patterns made
  unfolding tested
  good canonical_law stands design = record {
    file = run.written.stil.file;
    evidence = evidence;
    good = record {
      stand = stand canonical_law stands design;
      tested = tested;
      faults = subst (λ (t : Test). AreTrueFaults t classes made.said.lines) (sym own_test) true_faults;
      totals = subst (λ (t : Test). AreReportTotals t classes made.said) (sym own_test) totals;
    };
    stil_is = run.written.stil.text_is;
    holds_are = refl;
    chains_are = own_chains;
    limit_is = most;
    patterns_are = refl;
    classes_are = refl;
  }

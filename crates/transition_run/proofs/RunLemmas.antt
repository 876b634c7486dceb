-- The texts of verdicts are a run: good files of slow lines, which tell the truth.
use Rattle.std.proofs.Common.{◌≡◌, ◌<◌, ◌≤◌, ◌∙◌, ℕ, Bool, IsFalse, List, length, refl, sym, ap, subst}
use Rattle.std.specs.List.{All}
use Rattle.plain_text.specs.Limits.{most_limit}
use Rattle.statement.specs.declared.lines.Fault.{Fault}
use Rattle.statement.specs.Netlists.{Netlist}
use Rattle.statement.specs.Benches.{canonical}
use Rattle.statement.specs.Patterns.{Holds, Pattern}
use Rattle.statement.specs.Statement.{FiveFiles}
use Rattle.statement.specs.Faults.{universe_of}
use Rattle.netlist.specs.Conditions.{IsSound}
use Rattle.netlist.specs.Designs.{IsDesign}
use Rattle.netlist.specs.Holds.{AreHoldsOf}
use Rattle.bench_text.specs.Laws.{CanonicalTextIsRead}
use Rattle.scan_insert.specs.Scanned.{AreChainsOf, scanned_of}
use Rattle.fault_universe.specs.Laws.{FaultsHaveLines, TextsDiffer}
use Rattle.stil_read.specs.Laws.{WrittenStands}
use Rattle.stil_read.specs.Reading.{StandsFor}
use Rattle.evidence.specs.declared.kinds.Evidence.{Evidence}
use Rattle.report.specs.declared.counts.ReportCounts.{ReportCounts}
use Rattle.report.specs.Reports.{Hold, IsBenchWord}
use Rattle.good_files.specs.GoodFiles.{IsChainCount}
use Rattle.good_files.specs.ScanOff.{design_chains}
use Rattle.good_files.proofs.Chains.{counted, made_again}
use Rattle.good_files.proofs.HeldWords.{held_words}
use Rattle.good_files.proofs.ReadBack.{read_back}
use Rattle.transition_files.specs.LaunchFiles.{IsLaunchFileOf}
use Rattle.transition_tests.specs.declared.verdicts.TransitionVerdict.{TransitionVerdict}
use Rattle.transition_tests.specs.Verdicts.{AreTests, IsNeededForTransitions, MayHave}
use Rattle.transition_tests.specs.Lines.{leaves_of}
use Rattle.transition_tests.proofs.LeafLemmas.{leaves_kinds}
use Rattle.transition_report.specs.Reading.{IsTransitionReport}
use Rattle.good_slow_files.specs.Checks.{with_canonical_net}
use Rattle.good_slow_files.specs.GoodSlowFiles.{AreGoodSlowFiles, AreSlowTotals, AreTrueSlowFaults, IsSlowTested, SlowContents, SlowTest, StandForSlow, slow_chains_said, slow_limit_said, slow_test_with}
use Rattle.good_slow_files.specs.Laws.{GoodSlowFilesTellTheTruth}
use Rattle.good_slow_files.specs.Theorem.{TransitionTheorem}
use Rattle.transition_run.specs.declared.files.TransitionFiles.{TransitionFiles}
use Rattle.transition_run.specs.Runs.{IsTransitionRun, slow_contents_of, transition_files_of}
use Rattle.transition_run.specs.TreeTheorem.{TransitionTreeTheorem}
use Rattle.transition_run.specs.inner.Written.{IsWritten}
use Rattle.transition_run.proofs.FileLemmas.{verdicts_count}
use Rattle.transition_run.proofs.FormLemmas.{all_evident, all_formed, none_unasked}
use Rattle.transition_run.proofs.SaidLemmas.{lines_count}
use Rattle.transition_run.proofs.TreesAlone.{trees_alone}
use Rattle.transition_run.proofs.TruthLemmas.{leaves_left, true_lines}

-- the laws that are cited
pub record Laws : Type 0 where
  pub read : CanonicalTextIsRead
  pub stands : WrittenStands
  pub texts : TextsDiffer
  pub lines : FaultsHaveLines
  pub truth : GoodSlowFilesTellTheTruth

module _ (laws : Laws) (n : Netlist) (holds : Holds) (asked limit : ℕ) (refutes : Bool) (patterns : List Pattern) (verdicts : List TransitionVerdict) (made : TransitionFiles)
    (sound : IsSound n) (design : IsDesign n) (held : AreHoldsOf n holds) (some : 1 ≤ asked) (limited : (1 ≤ limit) × (limit ≤ most_limit))
    (tests : AreTests n holds limit patterns verdicts) (may : All (MayHave refutes) verdicts) (w : IsWritten n holds (design_chains n asked) limit patterns verdicts made) where
  abbrev chains : List (List ℕ)
  chains = design_chains n asked

  abbrev evidence : List (Fault × Evidence)
  evidence = leaves_of (universe_of n) verdicts

  abbrev contents : SlowContents
  contents = slow_contents_of n w.stil.file evidence made

  abbrev said_test : SlowTest
  said_test = slow_test_with contents holds patterns

  -- the test by what was asked for
  abbrev asked_test : SlowTest
  asked_test = record { netlist = n; holds = holds; chains = chains; limit = limit; patterns = patterns; evidence = evidence }

  chains_dealt : AreChainsOf n chains
  chains_dealt = record { asked = asked; some = some; are = refl }

  -- the report says as many chains as were made, and the limit
  many : slow_chains_said made.said ≡ length chains
  many = ap (λ (counts : ReportCounts). counts.chains) w.said.numbers.counts

  most : slow_limit_said made.said ≡ limit
  most = ap (λ (counts : ReportCounts). counts.limit) w.said.numbers.counts

  own_chains : design_chains n (slow_chains_said made.said) ≡ chains
  own_chains = ap (design_chains n) many ∙ made_again n chains chains_dealt

  own_test : said_test ≡ asked_test
  own_test i = record { netlist = n; holds = holds; chains = own_chains i; limit = most i; patterns = patterns; evidence = evidence }

  size : length verdicts ≡ length (universe_of n)
  size = verdicts_count n holds limit patterns verdicts tests

  true_faults : AreTrueSlowFaults asked_test made.said.lines
  true_faults = record {
    lines_true = true_lines n holds chains limit patterns verdicts made.said.lines (λ i j f at also. laws.texts n i j f f sound at also refl) tests.each w.said.lines
        (lines_count n chains (universe_of n) verdicts made.said.lines size w.said.lines);
    left = leaves_left n chains (universe_of n) verdicts made.said.lines size w.said.lines;
  }

  totals : AreSlowTotals asked_test made.said
  totals = record { limit = limited; numbers = w.said.numbers }

  tested : IsSlowTested contents
  tested = record {
    holds = holds;
    patterns = patterns;
    scan = record {
      allowed = subst (IsChainCount n) (sym many) (counted n sound chains chains_dealt);
      text = w.scan ∙ ap (λ (cs : List (List ℕ)). canonical (scanned_of n cs)) (sym own_chains);
    };
    held = record { held = held; said = w.said.held };
    test = record {
      obey = tests.obey;
      is_file_of = subst (λ (cs : List (List ℕ)). IsLaunchFileOf n holds cs patterns w.stil.file) (sym own_chains) w.stil.of_patterns;
    };
  }

  is_report : IsTransitionReport made.said
  is_report = record {
    counts = (w.said.counts, ap (λ (counts : ReportCounts). counts.unasked) w.said.numbers.counts ∙ none_unasked n chains _ made.said.lines w.said.lines);
    coverage = w.said.sized.coverage;
    efficiency = w.said.sized.efficiency;
    holds = subst (λ (hs : List Hold). All (λ (h : Hold). IsBenchWord h.name) hs) (sym w.said.held) (held_words n sound holds);
    lines = all_formed n chains _ made.said.lines w.said.lines;
  }

  stand : StandForSlow (transition_files_of made) contents
  stand = record {
    net = read_back laws.read n sound design made.net.items w.net;
    scan = refl;
    stil = subst (λ (t : List ℕ). StandsFor t w.stil.file) (sym w.stil.text_is) (laws.stands w.stil.file w.stil.is_file);
    certificate = record { each = all_evident n sound design laws.lines holds limit patterns verdicts tests.each w.small; text = w.certificate };
    is_report = is_report;
    report = w.report;
  }

  good : AreGoodSlowFiles (transition_files_of made) contents
  unfolding tested
  good = record {
    stand = stand;
    tested = tested;
    faults = subst (λ (t : SlowTest). AreTrueSlowFaults t made.said.lines) (sym own_test) true_faults;
    totals = subst (λ (t : SlowTest). AreSlowTotals t made.said) (sym own_test) totals;
  }

  -- ---- what they say comes true

  abbrev IsTold : List (List ℕ) → ℕ → FiveFiles → Type 0
  IsTold cs most files = (t : TransitionTheorem n holds cs most refutes files) × (t.patterns ≡ patterns)

  own_files : with_canonical_net (transition_files_of made) n ≡ transition_files_of made
  own_files i = record { net = sym w.net i; scan = made.scan.items; stil = made.stil.items; certificate = made.certificate.items; report = made.report.items }

  told : IsTold chains limit (transition_files_of made)
  unfolding tested good
  told =
      let law = laws.truth (transition_files_of made) contents refutes sound design good (leaves_kinds refutes (universe_of n) verdicts may) in
      subst (IsTold chains limit) own_files (subst (λ (m : ℕ). IsTold chains m (with_canonical_net (transition_files_of made) n)) most
      (subst (λ (cs : List (List ℕ)). IsTold cs (slow_limit_said made.said) (with_canonical_net (transition_files_of made) n)) own_chains law))

  abbrev AreNeeded : List Pattern → Type 0
  AreNeeded ps = (place : ℕ) → place < length ps → IsNeededForTransitions n (universe_of n) ps place

  trees : IsFalse refutes → TransitionTreeTheorem n holds chains limit (transition_files_of made)
  trees none =
      let alone = subst (λ (b : Bool). (t : TransitionTheorem n holds chains limit b (transition_files_of made)) × (t.patterns ≡ patterns)) none told in
      trees_alone n holds chains limit (transition_files_of made) alone.0 (subst AreNeeded (sym alone.1) tests.needed)

  pub is_run : IsTransitionRun n holds asked limit refutes made
  unfolding tested good
  is_run = record {
    file = w.stil.file;
    evidence = evidence;
    net_is = w.net;
    good = good;
    holds_are = refl;
    chains_are = own_chains;
    limit_is = most;
    needed = tests.needed;
    truth = told.0;
    trees = trees;
  }

-- From what is found of a test for slow lines to what is answered of the files.
use Rattle.std.proofs.Common.{◌≡◌, ℕ, ◌+◌, ◌≤◌, ◌^◌, ◌∙◌, List, Result, Ok, Err, IfOk, length, sym, ap, subst}
use Rattle.std.specs.List.{All}
use Rattle.statement.specs.declared.lines.Fault.{Fault}
use Rattle.statement.specs.Netlists.{Netlist}
use Rattle.statement.specs.Patterns.{Holds, Pattern}
use Rattle.statement.specs.Statement.{FiveFiles}
use Rattle.statement.specs.Faults.{universe_of}
use Rattle.netlist.specs.Conditions.{IsSound}
use Rattle.netlist.specs.Designs.{IsDesign}
use Rattle.netlist.specs.Holds.{AreHoldsOf}
use Rattle.cubes.specs.Cubes.{IsPatternOf}
use Rattle.scan_insert.specs.Scanned.{AreChainsOf}
use Rattle.evidence.specs.declared.kinds.Evidence.{Evidence}
use Rattle.transition_report.specs.Reading.{IsTransitionEvidence}
use Rattle.check_parts.specs.declared.scanning.Stitched.{Stitched}
use Rattle.check_parts.specs.Scanning.{IsStitched}
use Rattle.good_files.specs.GoodFiles.{AreHeldBy}
use Rattle.good_files.specs.ScanOff.{design_chains}
use Rattle.good_files.specs.declared.answers.Checked.{Checked}
use Rattle.good_files.specs.declared.answers.Checked.TheVariants.{Faults, False}
use Rattle.good_files.specs.declared.answers.Clause.TheVariants as clause
use Rattle.transition_files.specs.LaunchFiles.{IsLaunchFileOf}
use Rattle.good_slow_files.specs.GoodSlowFiles.{AreLaunchPatternsOf, AreSlowTotals, AreTrueSlowFaults, HasLaunchPatterns, HasSlowHolds, HasSlowScan, IsSlowTested, SlowContents, SlowTest, StandForSlow, slow_chains_said, slow_limit_said, slow_test_with}
use Rattle.good_slow_files.specs.Clauses.{IsFalseSlowFault}
use Rattle.good_slow_files.specs.Checks.{IsSlowAnswer, PassesWhereTrueSlow}
use Rattle.good_slow_files.specs.Laws.{SlowCheckedIsGood}
use Rattle.slow_check.specs.declared.reading.Said.{Said}
use Rattle.slow_check.specs.inner.Checking.{IsHeldAnswer, IsPosed, IsPosedAnswer, IsScanAnswer, IsVerdict}
use Rattle.slow_check.specs.inner.Reading.{contents_of}
use Rattle.slow_check.specs.inner.Trials.{IsTest}

-- ---- answers

module _ (c : SlowContents) (t : SlowTest) (holds : Holds) (patterns : List Pattern) (scan : HasSlowScan c) (held : HasSlowHolds c holds) (test : HasLaunchPatterns c holds patterns)
    (same : t ≡ slow_test_with c holds patterns) where
  abbrev tested : IsSlowTested c
  tested = record { holds = holds; patterns = patterns; scan = scan; held = held; test = test }

  answer_by : (answer : Checked) → IsVerdict t c.said answer → IsSlowAnswer c answer
  answer_by (False clause.ScanDiffers) is = absurd is
  answer_by (False clause.HoldDiffers) is = absurd is
  answer_by (False clause.StilDiffers) is = absurd is
  answer_by (False (clause.Fault text)) is = (tested, subst (λ (s : SlowTest). IsFalseSlowFault s c.said.lines text.items) same is)
  answer_by (False clause.TotalsDiffer) is =
      (tested, subst (λ (s : SlowTest). AreTrueSlowFaults s c.said.lines) same is.0, λ totals. is.1 (subst (λ (s : SlowTest). AreSlowTotals s c.said) (sym same) totals))
  answer_by (Faults count) is = (
    tested,
    subst (λ (s : SlowTest). AreTrueSlowFaults s c.said.lines) same is.0,
    subst (λ (s : SlowTest). AreSlowTotals s c.said) same is.1,
    is.2 ∙ ap (λ (s : SlowTest). length (universe_of s.netlist)) same,
  )

-- files of which no clause is false are good
pub passes_by : SlowCheckedIsGood → (files : FiveFiles) (c : SlowContents) → IsSound c.netlist → IsDesign c.netlist → StandForSlow files c → (answer : Checked) → IsSlowAnswer c answer
    → PassesWhereTrueSlow files answer
passes_by law files c sound design stand (Faults count) is = law files c count sound design stand is
passes_by law files c sound design stand (False which) is = tt

-- ---- clause by clause

pub no_hold : (s : Said) → ((holds : Holds) → ¬ AreHeldBy s.core s.report.holds holds) → IsScanAnswer s (False clause.HoldDiffers)
no_hold s none scan has = (has, none)

-- with these inputs held, where the report says so
pub held_by : (s : Said) (holds : Holds) → AreHeldBy s.core s.report.holds holds → (answer : Checked) → IsHeldAnswer s holds answer → IsScanAnswer s answer
held_by s holds held answer is scan has = is scan has held

pub no_stil : (s : Said) (holds : Holds) (chains : List (List ℕ)) → chains ≡ design_chains s.core (slow_chains_said s.report)
    → ((patterns : List Pattern) → All (IsPatternOf s.core holds) patterns → ¬ IsLaunchFileOf s.core holds chains patterns s.file) → IsHeldAnswer s holds (False clause.StilDiffers)
no_stil s holds chains own none scan has held =
    (has, (holds, held, λ patterns is. none patterns is.obey (subst (λ (cs : List (List ℕ)). IsLaunchFileOf s.core holds cs patterns s.file) (sym own) is.is_file_of)))

-- what is tried is the test that the texts stand for
pub posed_by : {E : Type 0} (s : Said) (holds : Holds) (patterns : List Pattern) (t : SlowTest) → t.netlist ≡ s.core → t.holds ≡ holds → t.chains ≡ design_chains s.core (slow_chains_said s.report)
    → t.limit ≡ slow_limit_said s.report → t.patterns ≡ patterns → t.evidence ≡ s.evidence.items → (r : Result Checked E) → IfOk r (IsVerdict t s.report) → IfOk r (IsPosedAnswer s holds patterns)
posed_by s holds patterns t n h c l p e (Err fault) is = tt
posed_by s holds patterns t n h c l p e (Ok answer) is = λ scan has held test.
    answer_by (contents_of scan s) t holds patterns has held test
    (λ i. record { netlist = n i; holds = h i; chains = c i; limit = l i; patterns = p i; evidence = e i }) answer is

-- the same of patterns that are looked up
pub patterns_by : {E : Type 0} (s : Said) (holds : Holds) (patterns : List Pattern) (chains : List (List ℕ)) → chains ≡ design_chains s.core (slow_chains_said s.report)
    → All (IsPatternOf s.core holds) patterns → IsLaunchFileOf s.core holds chains patterns s.file → (r : Result Checked E) → IfOk r (IsPosedAnswer s holds patterns) → IfOk r (IsHeldAnswer s holds)
patterns_by s holds patterns chains dealt obey file (Err fault) is = tt
patterns_by s holds patterns chains dealt obey file (Ok answer) is = λ scan has held.
    is scan has held (record { obey = obey; is_file_of = subst (λ (cs : List (List ℕ)). IsLaunchFileOf s.core holds cs patterns s.file) dealt file })

-- what is known of it
pub trial_by : (s : Said) (made : Stitched) (holds : Holds) (patterns : List Pattern) → IsPosed s → IsStitched s.core (design_chains s.core (slow_chains_said s.report)) made
    → AreHeldBy s.core s.report.holds holds → AreLaunchPatternsOf s.core holds made.chains s.file patterns → length patterns + 64 ≤ 2 ^ 32 → (n : Netlist) (limit : ℕ) (read : List Pattern)
    (evidence : List (Fault × Evidence)) → n ≡ s.core → read ≡ patterns → evidence ≡ s.evidence.items
    → IsTest (record { netlist = n; holds = holds; chains = made.chains; limit = limit; patterns = read; evidence = evidence })
trial_by s made holds patterns posed stitched held are few n limit read evidence o p e = record {
  sound = subst IsSound (sym o) posed.sound;
  design = subst IsDesign (sym o) posed.design;
  dealt = subst (λ (m : Netlist). AreChainsOf m made.chains) (sym o) (subst (AreChainsOf s.core) (sym stitched.chains_are) stitched.dealt);
  held = subst (λ (m : Netlist). AreHoldsOf m holds) (sym o) held.held;
  obey = subst (λ (m : Netlist). All (IsPatternOf m holds) read) (sym o) (subst (λ (ps : List Pattern). All (IsPatternOf s.core holds) ps) (sym p) are.obey);
  few = subst (λ (ps : List Pattern). length ps + 64 ≤ 2 ^ 32) (sym p) few;
  evidence = subst (λ (m : Netlist). All (IsTransitionEvidence m) evidence) (sym o) (subst (λ (es : List (Fault × Evidence)). All (IsTransitionEvidence s.core) es) (sym e) posed.evidence);
}

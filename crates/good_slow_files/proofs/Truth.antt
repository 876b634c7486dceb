-- What good files say of slow lines comes true.
use Rattle.std.proofs.Common.{◌≡◌, ◌+◌, ℕ, Bool, true, cond, zero, suc, inl, inr, List, [], ◌∷◌, length, map, get_or, option_map, Some, None, refl, sym, ◌∙◌, ap, subst, arith}
use Rattle.std.specs.List.{All, Contains, slice_get}
use Rattle.std.proofs.lemmas.List.{ext_get_or, length-map}
use Rattle.std.proofs.lemmas.List.Sums.{sum_by-cons}
use Rattle.std.proofs.lemmas.Option.{get_or_from_slice_get, slice_get-get_or, slice_get-map, slice_get_within}
use Rattle.netlist.proofs.Lists.{contains_head, contains_tail}
use Rattle.netlist.specs.Conditions.{IsSound}
use Rattle.netlist.specs.Designs.{IsDesign}
use Rattle.netlist.specs.Lines.{IsLineOf}
use Rattle.statement.specs.declared.lines.Fault.{Fault}
use Rattle.statement.specs.declared.lines.Point.{Point}
use Rattle.statement.specs.declared.outcomes.Outcome.{Outcome}
use Rattle.statement.specs.declared.outcomes.Outcome.TheVariants.{Detected, Redundant, Aborted, Unasked}
use Rattle.statement.specs.Faults.{universe_of}
use Rattle.statement.specs.Netlists.{Netlist}
use Rattle.statement.specs.Patterns.{Holds, Obeys, Pattern}
use Rattle.cubes.specs.Cubes.{IsPatternOf}
use Rattle.statement.specs.Reports.{Line}
use Rattle.statement.specs.Runs.{Cycle}
use Rattle.statement.specs.Statement.{FiveFiles}
use Rattle.statement.specs.Tests.{vectors_in}
use Rattle.fault_universe.specs.Laws.{FaultsHaveLines}
use Rattle.fault_universe.proofs.Elements.{contains_at}
use Rattle.scan_insert.specs.Laws.{ScannedIsSound}
use Rattle.scan_insert.specs.Scanned.{AreChainsOf}
use Rattle.evidence.specs.declared.kinds.Evidence.{Evidence}
use Rattle.evidence.specs.declared.kinds.Evidence.TheVariants.{Tree, Refutation}
use Rattle.evidence.specs.Evidence.{MayBe}
use Rattle.run_report.specs.Heads.{count_of, one_if_detected, one_if_redundant, one_if_aborted}
use Rattle.run_report.specs.Outcomes.{IsFirstOf, has_evidence}
use Rattle.good_files.proofs.Chains.{dealt}
use Rattle.transition_frames.specs.Transition.{DetectsTransition}
use Rattle.transition_sim.specs.Detections.{LastTransition}
use Rattle.transition_sim.specs.Laws.{ShownHasNoTransition}
use Rattle.transition_play.specs.LaunchVectors.{AreLaunchVectors}
use Rattle.transition_play.specs.Laws.{DetectedFailsSlowly, GoodPassesLaunches, LaunchVectorsFit, LaunchVectorsObey, SomeSlowRun, UndetectedPassesSlowly}
use Rattle.transition_files.specs.Laws.{LaunchFileVectors}
use Rattle.transition_report.specs.Texts.{transition_text}
use Rattle.good_slow_files.specs.Theorem.{AreUndetectedTransitions, ComesTrue, TransitionTheorem}
use Rattle.good_slow_files.specs.GoodSlowFiles.{AreGoodSlowFiles, AreTrueSlowLines, IsTrueOfSlow, SlowContents, SlowTest, slow_chains_in, slow_chains_said, slow_left_of, slow_limit_said, slow_test_in}
use Rattle.good_slow_files.specs.Checks.{with_canonical_net}

-- the laws that are cited
pub record Laws : Type 0 where
  pub lines : FaultsHaveLines
  pub sound : ScannedIsSound
  pub shown : ShownHasNoTransition
  pub vectors : LaunchFileVectors
  pub fit : LaunchVectorsFit
  pub good : GoodPassesLaunches
  pub detected : DetectedFailsSlowly
  pub undetected : UndetectedPassesSlowly
  pub run : SomeSlowRun
  pub obey : LaunchVectorsObey

same_some : {X : Type 0} (x y : X) → Some x ≡ Some y → x ≡ y
same_some x y e = cc

-- ---- lines

got : {A B : Type 0} (f : A → B) (xs : List A) (k : ℕ) (x : A) (d : B) → slice_get xs k ≡ Some x → get_or (map f xs) k d ≡ f x
got f xs k x d e = get_or_from_slice_get (map f xs) k (f x) d (slice_get-map f xs k ∙ ap (option_map f) e)

-- each fault has its line
once : (t : SlowTest) (lines : List Line) → AreTrueSlowLines t lines → map (λ (l : Line). l.fault) lines ≡ map (transition_text t.netlist) (universe_of t.netlist)
once t lines are =
    let n = t.netlist in
    let texts = map (transition_text n) (universe_of n) in
    let named = map (λ (l : Line). l.fault) lines in
    let size : length named ≡ length texts = length-map lines (λ l. l.fault) ∙ are.no_more ∙ sym (length-map (universe_of n) (transition_text n)) in
    ext_get_or [] named texts size (λ k lt.
    let w = are.each k (omega (arith, lt, length-map lines (λ l. l.fault), are.no_more)) in
    got (λ (l : Line). l.fault) lines k w.line [] w.said ∙ w.names_it ∙ sym (got (transition_text n) (universe_of n) k w.fault [] w.member))

-- what is true of a slow line is of one of the three kinds
one_kind : (t : SlowTest) (f : Fault) (o : Outcome) (pin : List ℕ) → IsTrueOfSlow t f o pin → one_if_detected o + one_if_redundant o + one_if_aborted o ≡ 1
one_kind t f (Detected place cycle) pin is = refl
one_kind t f Redundant pin is = refl
one_kind t f Aborted pin is = refl
one_kind t f Unasked pin is = absurd is

all_kinds : (lines : List Line) → ((k : ℕ) (l : Line) → slice_get lines k ≡ Some l → one_if_detected l.outcome + one_if_redundant l.outcome + one_if_aborted l.outcome ≡ 1)
    → count_of one_if_detected lines + count_of one_if_redundant lines + count_of one_if_aborted lines ≡ length lines
all_kinds [] each = refl
all_kinds (l ∷ ls) each =
    let d = sum_by-cons (λ (m : Line). one_if_detected m.outcome) l ls in
    let r = sum_by-cons (λ (m : Line). one_if_redundant m.outcome) l ls in
    let a = sum_by-cons (λ (m : Line). one_if_aborted m.outcome) l ls in
    omega (arith, each zero l refl, all_kinds ls (λ k m at. each (suc k) m at), d, r, a)

-- ---- the evidence

stands : (ps : List (Fault × Evidence)) (f : Fault) (e : Evidence) → IsFirstOf ps f e → Contains ps (f, e)
stands [] f e first = absurd first
stands (p ∷ ps) f e (inl here) = subst (λ (q : Fault × Evidence). Contains (p ∷ ps) q) (λ i. (here.0 i, here.1 i)) (contains_head p ps)
stands (p ∷ ps) f e (inr later) = contains_tail p (f, e) ps (stands ps f e later.1)

-- what is said of the first fault of some, and of the others
left_by : (t : SlowTest) (f : Fault) (l : Line) (fs : List Fault) (ls : List Line) (o : Outcome) → l.outcome ≡ o → IsTrueOfSlow t f o l.pin
    → AreUndetectedTransitions t.netlist t.patterns fs (slow_left_of fs ls) → AreUndetectedTransitions t.netlist t.patterns (f ∷ fs) (slow_left_of (f ∷ fs) (l ∷ ls))
left_by t f l fs ls (Detected place cycle) said is rest =
    let none : slow_left_of fs ls ≡ slow_left_of (f ∷ fs) (l ∷ ls) = sym (ap (λ (o : Outcome). cond (has_evidence o) (f ∷ slow_left_of fs ls) (slow_left_of fs ls)) said) in
    inl ((place, is.point, is.last), subst (AreUndetectedTransitions t.netlist t.patterns fs) none rest)
left_by t f l fs ls Redundant said is rest =
    inr (is.1.never, (slow_left_of fs ls, ap (λ (o : Outcome). cond (has_evidence o) (f ∷ slow_left_of fs ls) (slow_left_of fs ls)) said, rest))
left_by t f l fs ls Aborted said is rest =
    inr (is.1.never, (slow_left_of fs ls, ap (λ (o : Outcome). cond (has_evidence o) (f ∷ slow_left_of fs ls) (slow_left_of fs ls)) said, rest))
left_by t f l fs ls Unasked said is rest = absurd is

-- those of which a line says redundant or aborted are those that no pattern detects
left : (t : SlowTest) (fs : List Fault) (lines : List Line) → length lines ≡ length fs
    → ((k : ℕ) (f : Fault) (l : Line) → slice_get fs k ≡ Some f → slice_get lines k ≡ Some l → IsTrueOfSlow t f l.outcome l.pin)
    → AreUndetectedTransitions t.netlist t.patterns fs (slow_left_of fs lines)
left t [] lines size each = refl
left t (f ∷ fs) [] size each = absurd (omega (arith, size))
left t (f ∷ fs) (l ∷ ls) size each =
    left_by t f l fs ls l.outcome refl (each zero f l refl refl) (left t fs ls (omega (arith, size)) (λ k g m at said. each (suc k) g m at said))

-- where refutations are given, evidence may be of either kind
any_kind : (e : Evidence) → MayBe true e
any_kind (Tree nodes) = tt
any_kind (Refutation steps) = refl

pub any_kinds : (es : List (Fault × Evidence)) → All (λ (p : Fault × Evidence). MayBe true p.1) es
any_kinds es k d lt = any_kind (get_or es k d).1

-- ---- the tester

-- what a test and its file are
record IsPlayable (t : SlowTest) (cycles : List Cycle) : Type 0 where
  sound : IsSound t.netlist
  design : IsDesign t.netlist
  dealt : AreChainsOf t.netlist t.chains
  vectors : AreLaunchVectors t.netlist t.holds t.chains t.patterns cycles

never_at : (n : Netlist) (patterns : List Pattern) (f : Fault) → LastTransition n patterns f None
    → All (λ (p : Pattern). (point : Point) → ¬ DetectsTransition n f p.inputs p.cells point) patterns
never_at n patterns f never k d lt = λ point t. never k point (record { pattern = get_or patterns k d; at = slice_get-get_or patterns k d lt; detects = t })

comes_true : Laws → (t : SlowTest) (cycles : List Cycle) → IsPlayable t cycles → (f : Fault) → IsLineOf t.netlist f.line → (o : Outcome) (pin : List ℕ) → IsTrueOfSlow t f o pin
    → ComesTrue t.netlist t.holds t.chains t.limit t.patterns t.evidence cycles f o pin
comes_true laws t cycles are f line (Detected place cycle) pin is =
    let here = is.last.here in
    let output = is.seen.0 in (
      is.point,
      output,
      is.last,
      is.seen.1,
      is.seen.2,
      laws.detected t.netlist t.holds t.chains t.patterns cycles f place here.pattern is.point cycle output are.sound are.dealt are.vectors line here.at here.detects is.seen.1,
    )
comes_true laws t cycles are f line Redundant pin is =
    let e = is.0 in
    (e, (stands t.evidence f e is.1.first, is.1.shows), is.2, laws.shown t.netlist t.holds f e are.sound are.design line is.1.shows is.2)
comes_true laws t cycles are f line Aborted pin is = (
  is.0,
  (stands t.evidence f (Tree is.0) is.1.first, is.1.shows),
  is.2,
  is.3,
  is.1.never,
  laws.undetected t.netlist t.holds t.chains t.patterns cycles f are.sound are.dealt are.vectors line (never_at t.netlist t.patterns f is.1.never),
)
comes_true laws t cycles are f line Unasked pin is = absurd is

-- ---- good files

obeyed : (n : Netlist) (holds : Holds) (patterns : List Pattern) → All (IsPatternOf n holds) patterns → All (λ (p : Pattern). Obeys holds p.inputs) patterns
obeyed n holds patterns obey k d lt = (obey k d lt).obeys

truth_of : Laws → (files : FiveFiles) (c : SlowContents) (refutes : Bool) → IsSound c.netlist → IsDesign c.netlist → (good : AreGoodSlowFiles files c)
    → All (λ (p : Fault × Evidence). MayBe refutes p.1) c.evidence
    → TransitionTheorem c.netlist good.tested.holds (slow_chains_in c) (slow_limit_said c.said) refutes (with_canonical_net files c.netlist)
truth_of laws files c refutes sound design good kinds =
    let n = c.netlist in
    let holds = good.tested.holds in
    let patterns = good.tested.patterns in
    let lines = c.said.lines in
    let chains = slow_chains_in c in
    let t = slow_test_in c good.tested in
    let cycles = vectors_in c.file in
    let are_true = good.faults.lines_true in
    let of_cells = dealt n (slow_chains_said c.said) good.tested.scan.allowed in
    let vectors = laws.vectors n holds chains patterns c.file good.tested.test.is_file_of in
    let true_of : (place : ℕ) (f : Fault) (l : Line) → slice_get (universe_of n) place ≡ Some f → slice_get lines place ≡ Some l → IsTrueOfSlow t f l.outcome l.pin =
    λ place f l at said.
    let w = are_true.each place (slice_get_within (universe_of n) place f at) in
    let fault : w.fault ≡ f = same_some w.fault f (sym w.member ∙ at) in
    let line : w.line ≡ l = same_some w.line l (sym w.said ∙ said) in
    subst (λ (g : Fault). IsTrueOfSlow t g l.outcome l.pin) fault (subst (λ (m : Line). IsTrueOfSlow t w.fault m.outcome m.pin) line w.is_true) in
    let one_each : (k : ℕ) (l : Line) → slice_get lines k ≡ Some l → one_if_detected l.outcome + one_if_redundant l.outcome + one_if_aborted l.outcome ≡ 1 =
    λ k l said.
    let within = slice_get_within lines k l said in
    let w = are_true.each k (omega (arith, within, are_true.no_more)) in
    one_kind t w.fault l.outcome l.pin (true_of k w.fault l w.member said) in
    record {
      patterns = patterns;
      file = c.file;
      said = c.said;
      certified = c.evidence;
      net_is = refl;
      scan_is = good.stand.scan ∙ good.tested.scan.text;
      stil_is = good.stand.stil;
      certificate_is = good.stand.certificate.text;
      report_is = good.stand.report;
      holds_are = good.tested.held;
      obey = good.tested.test.obey;
      is_file_of = good.tested.test.is_file_of;
      driven = laws.obey n holds chains patterns cycles vectors (obeyed n holds patterns good.tested.test.obey);
      passes = laws.good n holds chains patterns cycles sound of_cells vectors;
      runs = λ f state size. laws.run n chains cycles f state (laws.sound n chains sound design of_cells) size (laws.fit n holds chains patterns cycles sound of_cells vectors);
      once = once t lines are_true;
      comes_true = λ place f line at said.
          comes_true laws t cycles (record { sound = sound; design = design; dealt = of_cells; vectors = vectors }) f
          (laws.lines n f sound (contains_at (universe_of n) place f at)) line.outcome line.pin (true_of place f line at said);
      left = subst (AreUndetectedTransitions n patterns (universe_of n)) (sym good.faults.left) (left t (universe_of n) lines are_true.no_more true_of);
      kinds = kinds;
      all = all_kinds lines one_each ∙ are_true.no_more;
      numbers = good.totals.numbers;
    }

pub truth : Laws → (files : FiveFiles) (c : SlowContents) (refutes : Bool) → IsSound c.netlist → IsDesign c.netlist → (good : AreGoodSlowFiles files c)
    → All (λ (p : Fault × Evidence). MayBe refutes p.1) c.evidence
    → (t : TransitionTheorem c.netlist good.tested.holds (slow_chains_in c) (slow_limit_said c.said) refutes (with_canonical_net files c.netlist))
    × (t.patterns ≡ good.tested.patterns)
unfolding truth_of
truth laws files c refutes sound design good kinds = (truth_of laws files c refutes sound design good kinds, refl)

-- A line of the report, as the walk through the universe sees it.
use Rattle.std.proofs.Common.{◌≡◌, ℕ, ◌<◌, ◌∙◌, Bool, true, false, MatchBool, List, [], ◌++◌, length, get_or, Option, Some, Result, Ok, Err, IfOk, sym, ap, subst}
use Rattle.std.specs.List.{slice_get}
use Rattle.std.specs.Str.{bytes_eq}
use Rattle.std.proofs.lemmas.Option.{slice_get_within}
use Rattle.statement.specs.declared.lines.Fault.{Fault}
use Rattle.statement.specs.declared.lines.Point.{Point}
use Rattle.statement.specs.Netlists.{Netlist}
use Rattle.statement.specs.Faults.{universe_of}
use Rattle.statement.specs.Reports.{Line}
use Rattle.transition_sim.specs.Detections.{LastTransition}
use Rattle.transition_report.specs.Texts.{transition_text}
use Rattle.check_parts.proofs.Lists.{zip_at, zip_long}
use Rattle.check_parts.proofs.Matches.{texts_match}
use Rattle.good_slow_files.specs.GoodSlowFiles.{IsTrueOfSlow, IsTrueSlowAt, SlowTest}
use Rattle.slow_check.specs.declared.walking.Walk.{Walk}
use Rattle.slow_check.specs.inner.Walking.{IsReady}
use Rattle.slow_check.proofs.FaultLemmas.{named_so, true_at, true_so}

module _ (w : Walk) (ready : IsReady w) (place : ℕ) where
  -- the slow line at a place
  pub member_at : (f : Fault) → slice_get w.faults.now place ≡ Some f → slice_get (universe_of w.trial.now.netlist.now) place ≡ Some f
  member_at f at = ap (λ (fs : List Fault). slice_get fs place) (sym ready.faults) ∙ at

  -- where it is last detected
  pub last_at : (f : Fault) (d : Option (ℕ × Point)) → slice_get w.faults.now place ≡ Some f
      → LastTransition w.trial.now.netlist.now w.trial.now.patterns.now f (get_or w.lasts.now place d)
  last_at f d at =
      zip_at (LastTransition w.trial.now.netlist.now w.trial.now.patterns.now) (universe_of w.trial.now.netlist.now) w.lasts.now place f d ready.lasts.each (member_at f at)

  -- there are as many places
  pub lasts_long : place < length (universe_of w.trial.now.netlist.now) → place < length w.lasts.now
  lasts_long lt = zip_long (LastTransition w.trial.now.netlist.now w.trial.now.patterns.now) (universe_of w.trial.now.netlist.now) w.lasts.now place ready.lasts.each lt

-- ---- what the walk answers

module _ (t : SlowTest) (lines : List Line) (place : ℕ) (f : Fault) (line : Line) (member : slice_get (universe_of t.netlist) place ≡ Some f) (said : slice_get lines place ≡ Some line) where
  says_so : (b : Bool) → line.fault ≡ transition_text t.netlist f → MatchBool b (IsTrueOfSlow t f line.outcome line.pin) (¬ IsTrueOfSlow t f line.outcome line.pin)
      → MatchBool b (IsTrueSlowAt t lines place) (¬ IsTrueSlowAt t lines place)
  says_so true names_it is = true_at t lines place f line member said names_it is
  says_so false names_it other = λ is. other (true_so t lines place f line member said is)

  pub all_say : {E : Type 0} (r : Result Bool E) → line.fault ≡ transition_text t.netlist f
      → IfOk r (λ b. MatchBool b (IsTrueOfSlow t f line.outcome line.pin) (¬ IsTrueOfSlow t f line.outcome line.pin))
      → IfOk r (λ b. MatchBool b (IsTrueSlowAt t lines place) (¬ IsTrueSlowAt t lines place))
  all_say (Ok b) names_it is = says_so b names_it is
  all_say (Err e) names_it is = tt

  -- it names another
  pub unnamed : ¬ (line.fault ≡ transition_text t.netlist f) → ¬ IsTrueSlowAt t lines place
  unnamed other is = other (named_so t lines place f line member said is)

-- the report has ended
pub ended : (t : SlowTest) (lines : List Line) (place : ℕ) → ¬ (place < length lines) → ¬ IsTrueSlowAt t lines place
ended t lines place past is = past (slice_get_within lines place is.line is.said)

-- a text that is compared
pub compared : (n : Netlist) (f : Fault) (b : Bool) (cleared text read line : List ℕ) → cleared ≡ [] → text ≡ cleared ++ transition_text n f → read ≡ text → b ≡ bytes_eq read line
    → MatchBool b (line ≡ transition_text n f) (¬ (line ≡ transition_text n f))
compared n f b cleared text read line none value is eq =
    let own : read ≡ transition_text n f = is ∙ (value ∙ ap (λ (t : List ℕ). t ++ transition_text n f) none) in
    texts_match (line ≡ transition_text n f) b read line eq (λ same. sym same ∙ own) (λ same. own ∙ sym same)

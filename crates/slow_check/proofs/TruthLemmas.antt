-- What is found of a slow line is what is true of it.
use Rattle.std.proofs.Common.{◌≡◌, ℕ, Bool, true, false, true≢false, MatchBool, List, Option, Some, None, IfSome, sym, subst}
use Rattle.std.specs.Option.{is_some}
use Rattle.std.proofs.lemmas.Bool.{false≢true}
use Rattle.statement.specs.declared.lines.Fault.{Fault}
use Rattle.statement.specs.declared.lines.Point.{Point}
use Rattle.statement.specs.Netlists.{Netlist}
use Rattle.statement.specs.Patterns.{Pattern}
use Rattle.netlist.specs.Conditions.{IsSound}
use Rattle.redundancy_cert.specs.declared.counts.Counts.{Counts}
use Rattle.evidence.specs.declared.kinds.Evidence.{Evidence}
use Rattle.evidence.specs.declared.kinds.Evidence.TheVariants.{Tree}
use Rattle.run_report.specs.Strobes.{IsPointOf}
use Rattle.run_report.proofs.PointLemmas.{point_inside}
use Rattle.transition_sim.specs.Detections.{IsTransitionDetectedAt, LastTransition}
use Rattle.transition_sim.specs.Shown.{ShowsFrames}
use Rattle.transition_report.specs.Strobes.{IsLaunchSeenAt}
use Rattle.check_parts.specs.Ends.{AreFirstEnds, IsLeftOpenBy, IsShutBy}
use Rattle.check_parts.specs.Sights.{IsSeenBy}
use Rattle.check_parts.proofs.EndLemmas.{open_shown, shown_open, shown_shut, shut_shown}
use Rattle.check_parts.proofs.LastLemmas.{last_once}
use Rattle.good_slow_files.specs.GoodSlowFiles.{IsSlowLeft, IsSlowSeen, SlowTest}
use Rattle.slow_check.specs.inner.Walking.{IsShownOpen, IsShownShut}

-- the point of a pattern that detects a slow line is one of the netlist
pub last_inside : (n : Netlist) → IsSound n → (patterns : List Pattern) (f : Fault) (last : Option (ℕ × Point)) → LastTransition n patterns f last → IfSome last (λ w. IsPointOf n w.1)
last_inside n sound patterns f None is = tt
last_inside n sound patterns f (Some w) is = point_inside n sound f is.here.pattern.inputs _ w.1 is.here.detects.detects

-- ---- detected

module _ (t : SlowTest) (f : Fault) where
  seen_true : (last : Option (ℕ × Point)) → LastTransition t.netlist t.patterns f last → (place cycle : ℕ) (pin : List ℕ) → IsSeenBy (IsLaunchSeenAt t.netlist t.chains) last place cycle pin
      → IsSlowSeen t f place cycle pin
  seen_true None is place cycle pin seen = absurd seen
  seen_true (Some w) is place cycle pin seen =
      subst (λ (k : ℕ). IsSlowSeen t f k cycle pin) (sym seen.0) (record { point = w.1; last = is; seen = seen.1 })

  true_seen : (last : Option (ℕ × Point)) → LastTransition t.netlist t.patterns f last → (place cycle : ℕ) (pin : List ℕ) → IsSlowSeen t f place cycle pin
      → IsSeenBy (IsLaunchSeenAt t.netlist t.chains) last place cycle pin
  true_seen None never place cycle pin is = never place is.point is.last.here
  true_seen (Some w) last place cycle pin is =
      let same = last_once (IsTransitionDetectedAt t.netlist t.patterns f) place w.0 is.point w.1 (record { here = is.last.here; last = is.last.last; first = is.last.first })
      (record { here = last.here; last = last.last; first = last.first }) in
      (same.0, subst (λ (v : ℕ × Point). IsLaunchSeenAt t.netlist t.chains v.0 v.1 cycle pin) (λ i. (same.0 i, same.1 i)) is.seen)

  pub by_sight : (b : Bool) (last : Option (ℕ × Point)) → LastTransition t.netlist t.patterns f last → (place cycle : ℕ) (pin : List ℕ)
      → MatchBool b (IsSeenBy (IsLaunchSeenAt t.netlist t.chains) last place cycle pin) (¬ IsSeenBy (IsLaunchSeenAt t.netlist t.chains) last place cycle pin)
      → MatchBool b (IsSlowSeen t f place cycle pin) (¬ IsSlowSeen t f place cycle pin)
  by_sight true last is place cycle pin seen = seen_true last is place cycle pin seen
  by_sight false last is place cycle pin unseen = λ so. unseen (true_seen last is place cycle pin so)

  -- ---- left

  -- where some pattern detects it, it isn't left
  detected_not_left : (last : Option (ℕ × Point)) → is_some last ≡ true → LastTransition t.netlist t.patterns f last → (e : Evidence) → IsSlowLeft t f e → ⊥
  detected_not_left None some is e left = absurd (false≢true some)
  detected_not_left (Some w) some is e left = left.never w.0 w.1 is.here

  pub not_redundant : (last : Option (ℕ × Point)) → is_some last ≡ true → LastTransition t.netlist t.patterns f last → IsShownShut t f → ⊥
  not_redundant last some is so = detected_not_left last some is so.0 so.1

  pub not_aborted : (last : Option (ℕ × Point)) → is_some last ≡ true → LastTransition t.netlist t.patterns f last → IsShownOpen t f → ⊥
  not_aborted last some is so = detected_not_left last some is (Tree so.0) so.1

  pub never_by : (last : Option (ℕ × Point)) → is_some last ≡ false → LastTransition t.netlist t.patterns f last → LastTransition t.netlist t.patterns f None
  never_by None none is = is
  never_by (Some w) none is = absurd (true≢false none)

  module _ (never : LastTransition t.netlist t.patterns f None) (ends : Option Counts) (are : AreFirstEnds (ShowsFrames t.netlist t.holds f) t.evidence f ends) where
    abbrev S : Evidence → Type 0
    S = ShowsFrames t.netlist t.holds f

    pub by_shut : (b : Bool) → MatchBool b (IsShutBy ends) (¬ IsShutBy ends) → MatchBool b (IsShownShut t f) (¬ IsShownShut t f)
    by_shut true shut =
        let so = shut_shown S t.evidence f ends are shut in
        (so.0, record { first = so.1.first; shows = so.1.shows; never = never }, so.1.shut)
    by_shut false unshut = λ so. unshut (shown_shut S t.evidence f ends are so.0 so.1.first so.1.shows so.2)

    pub by_open : (b : Bool) → MatchBool b (IsLeftOpenBy t.limit ends) (¬ IsLeftOpenBy t.limit ends) → MatchBool b (IsShownOpen t f) (¬ IsShownOpen t f)
    by_open true say =
        let so = open_shown S t.evidence f t.limit ends are say in
        (so.0, record { first = so.1.first; shows = so.1.shows; never = never }, so.1.closed, so.1.left_open)
    by_open false other = λ so. other (shown_open S t.evidence f t.limit ends are so.0 so.1.first so.1.shows so.2 so.3)

-- What is found of a fault by words: the last pattern that detects it, and the first point.
use Rattle.std.proofs.Common.{◌≡◌, ℕ, Bool, ◌^◌, ◌<◌, List, length, get_or, Option, Some, None, refl, sym, ◌∙◌, ap, subst, cond, arith, bit_xor}
use Rattle.std.specs.Prelude.{IfSome}
use Rattle.std.proofs.lemmas.List.{get_or_default}
use Rattle.statement.specs.declared.lines.Fault.{Fault}
use Rattle.statement.specs.declared.lines.Line.{Line}
use Rattle.netlist.specs.Conditions.{IsSound}
use Rattle.statement.specs.Netlists.{Netlist, signals}
use Rattle.netlist.specs.Settled.{at}
use Rattle.netlist.proofs.Placed.{signal_below}
use Rattle.events.specs.declared.trails.Change.{Change}
use Rattle.events.specs.Standing.{SettlesOver}
use Rattle.events.specs.Stuck.{IsObservedOnly}
use Rattle.events.specs.Trails.{AreChanges}
use Rattle.events.specs.Words.{ones, words, word_table}
use Rattle.events.proofs.Standing.{observed_settles}
use Rattle.word_sim.specs.inner.Differences.{AreDifferences, AreShown, IsSole}
use Rattle.word_sim.specs.inner.Found.{IsFoundMarked}
use Rattle.observed_points.specs.Points.{points, watched, ArePoints, IsReadAt}
use Rattle.observed_points.proofs.ObservedPoints.{signal_in, signal_within, watched_count, watched_in}
use Rattle.observed_points.proofs.PointTables.{points_few}
use Rattle.word_sim.proofs.StuckPoints.{held, sole_differences, stuck_differences}
use Rattle.word_sim.proofs.WordDetection.{differs, last_marked}

-- what is found is small
pub small_found : (n : Netlist) → IsSound n → (test : ℕ → ℕ → Bool) (used : ℕ) (found : Option (ℕ × ℕ)) → AreDifferences (length (points n)) test used found → IfSome found (λ w. (w.0 < 64) × (w.1 < 2 ^ 32))
small_found n sound test used None h = tt
small_found n sound test used (Some w) h = let s = h.some w.0 w.1 refl in let l = s.2 in let few = points_few n sound in (s.0, omega arith)

module _ (n : Netlist) (sound : IsSound n) (f : Fault) (values : List ℕ) (used : ℕ) where
  sole_is : (number g : ℕ) (found : Option (ℕ × ℕ)) → IsReadAt n f.line number → g ≡ at values 0 (signal_in n sound number) → IsSole (bit_xor g (cond f.value ones 0)) used number found
      → AreDifferences (length (points n)) (differs n sound f (at values 0) (at values 0)) used found
  sole_is number g found r e h = sole_differences n sound f values number used found r (subst (λ v. IsSole (bit_xor v (cond f.value ones 0)) used number found) e h)

  pub sole_found : (number g : ℕ) (found : Option (ℕ × ℕ)) → IsReadAt n f.line number → g ≡ at values 0 (signal_in n sound number) → IsSole (bit_xor g (cond f.value ones 0)) used number found
      → IsFoundMarked n values used f found
  sole_found number g found r e h = record {
    detected = λ patterns good is_used.
        last_marked n sound f (at values 0) (at values 0) good.inputs good.state (good.settles 0) ((observed_settles word_table f n values r.only).each good.inputs good.state 0 (good.settles 0))
        patterns good.few good.inputs_are good.state_are used is_used found (sole_is number g found r e h);
    small = small_found n sound (differs n sound f (at values 0) (at values 0)) used found (sole_is number g found r e h);
  }

  module _ (seen first numbers : List ℕ) (are : ArePoints n seen first numbers) (size : length values ≡ length (signals n)) (new shown_values first' : List ℕ) (count : ℕ) (trail changes : List (Change ℕ))
      (enters : ¬ IsObservedOnly n f.line) (changed : AreChanges values new changes) (over : SettlesOver (words None) (words (Some f)) n values new)
      (values_are : shown_values ≡ new) (trail_is : trail ≡ changes) (first_is : first' ≡ first) (count_is : count ≡ length seen) (found : Option (ℕ × ℕ)) (shown : AreShown first' count shown_values used trail found) where
    stuck_is : AreDifferences (length (points n)) (differs n sound f (at values 0) (at new 0)) used found
    stuck_is =
        stuck_differences n sound f values new changes (held values new changes changed) size seen first are.seen_is are.first_is enters used found
        (subst (λ vs. AreShown first (length seen) vs used changes found) values_are
        (subst (λ cs. AreShown first (length seen) shown_values used cs found) trail_is
        (subst (λ k. AreShown first k shown_values used trail found) count_is
        (subst (λ fs. AreShown fs count shown_values used trail found) first_is shown))))

    pub stuck_found : IsFoundMarked n values used f found
    stuck_found = record {
      detected = λ patterns good is_used.
          last_marked n sound f (at values 0) (at new 0) good.inputs good.state (good.settles 0) (over.each good.inputs good.state 0 (good.settles 0))
          patterns good.few good.inputs_are good.state_are used is_used found stuck_is;
      small = small_found n sound (differs n sound f (at values 0) (at new 0)) used found stuck_is;
    }

-- the signal that a line's one point reads
pub sole_signal : (n : Netlist) (sound : IsSound n) → (seen : List ℕ) (number s : ℕ) (line : Line) → seen ≡ watched n → IsReadAt n line number → s ≡ get_or seen number s → (s ≡ signal_in n sound number) × (s < length (signals n))
sole_signal n sound seen number s line e r is =
    let count : length seen ≡ length (points n) = ap length e ∙ watched_count n sound in
    let w = r.within in
    let same : s ≡ signal_in n sound number = is ∙ (get_or_default seen number s 0 (omega arith) ∙ (ap (λ (xs : List ℕ). get_or xs number 0) e ∙ watched_in n sound number r.within)) in
    (same, subst (λ x. x < length (signals n)) (sym same) (signal_below n sound.formed.numbered (signal_in n sound number) (signal_within n sound number r.within)))

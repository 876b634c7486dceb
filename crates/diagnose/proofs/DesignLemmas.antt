-- What holds of a design that can be diagnosed, and of what comes of it.
use Rattle.std.proofs.Common.{◌≡◌, ◌<◌, ◌^◌, ℕ, List, [], length, Option, sym, ◌∙◌, ap, subst}
use Rattle.std.specs.List.{All}
use Rattle.std.specs.List.Sorted.{IsNonDecreasingBy, IsPermutation}
use Rattle.netlist.specs.Conditions.{IsSound}
use Rattle.statement.specs.Netlists.{Netlist}
use Rattle.statement.specs.Faults.{universe_of}
use Rattle.statement.specs.Runs.{Cycle}
use Rattle.fault_universe.specs.Laws.{FaultsHaveLines}
use Rattle.scan_insert.specs.Named.{HasTesterNames, TesterNamesDiffer}
use Rattle.scan_insert.specs.Scanned.{Insertion, insertion_of, scanned_of}
use Rattle.scan_play.specs.Cycles.{IsCycleOf}
use Rattle.diagnose.specs.Failures.{Failing}
use Rattle.diagnose.specs.Candidates.{AreCandidates, IsDiagnosable}
use Rattle.diagnose.specs.Explaining.{told_cycles}
use Rattle.diagnose.specs.Laws.{EquivalentExplain, EquivalentRuns}
use Rattle.diagnose.specs.Ranking.{AreAllRanked}
use Rattle.diagnose.specs.declared.designs.ScannedDesign.{ScannedDesign}
use Rattle.diagnose.specs.declared.marks.Marks.{Marks}
use Rattle.diagnose.specs.declared.ranks.Ranked.{Ranked}
use Rattle.diagnose.specs.inner.Answers.{AreAnswers, AreFound, explaining_from}
use Rattle.diagnose.specs.inner.Marked.{marked_in}
use Rattle.diagnose.specs.inner.Marks.{AreMarks, IsUnstrobed}
use Rattle.diagnose.specs.inner.Ranks.{AreClassTallies, AreDivided, rank_key, ranked_from}
use Rattle.diagnose.proofs.CutLemmas.{told_few, told_fit}
use Rattle.diagnose.proofs.Found.{are_candidates, candidates_of, no_candidates}
use Rattle.diagnose.proofs.Nearness.{all_ranked, ranked_at}

module _ (d : ScannedDesign) (cycles : List Cycle) (h : IsDiagnosable d cycles) where
  -- the cycles of which a log tells
  pub told_diagnosable : (end : Option ℕ) (told : List Cycle) → told ≡ told_cycles end cycles → IsDiagnosable d told
  told_diagnosable end told is = record {
    design = h.design;
    core = h.core;
    fits = subst (λ (cs : List Cycle). All (IsCycleOf d.core.now) cs) (sym is) (told_fit d.core.now end cycles h.fits);
    few = subst (λ (cs : List Cycle). length cs < 2 ^ 64) (sym is) (told_few end cycles h.few);
  }

  -- the netlist, however it is lent, is what insertion makes
  module _ (n : Netlist) (is : n ≡ d.core.now) where
    is_scanned : n ≡ scanned_of h.design.design h.design.chains
    is_scanned = is ∙ (h.core ∙ ap (λ (s : Insertion). s.netlist) h.design.is_scanned)

    pub has_names : TesterNamesDiffer → HasTesterNames n
    has_names law = subst HasTesterNames (sym is_scanned) (law h.design.design h.design.chains h.design.sound h.design.is_design h.design.are_chains)

    -- a failure that isn't strobed is explained by no fault
    pub none_found : (log : List Failing) (found : List ℕ) → IsUnstrobed n cycles log → found ≡ [] → AreCandidates d.scanned.now d.faults.now cycles log found
    none_found log found u none =
        let design = h.design.design in
        let chains = h.design.chains in
        candidates_of d.scanned.now (insertion_of design chains) d.faults.now (universe_of design) cycles log [] found h.design.is_scanned h.design.are_faults none
        (no_candidates design chains cycles log (subst (λ s. IsUnstrobed s cycles log) is_scanned u))

    pub found_are : EquivalentExplain → FaultsHaveLines → TesterNamesDiffer → IsSound n → (log : List Failing) (m : Marks) (found : List ℕ) → AreMarks n cycles log m.rows m.width m.table.items
        → AreFound (marked_in m) d.core.now d.scanned.now.sites cycles d.classes.now found → AreCandidates d.scanned.now d.faults.now cycles log found
    found_are same lines names sound log m found marks f =
        let design = h.design.design in
        let chains = h.design.chains in
        let classes = d.classes.now in
        let on_scanned = subst (λ s. AreAnswers (marked_in m) s d.scanned.now.sites cycles classes.representatives f.answers) (h.core ∙ ap (λ (s : Insertion). s.netlist) h.design.is_scanned) f.are_answers in
        let answered = subst (λ (s : Insertion). AreAnswers (marked_in m) (scanned_of design chains) s.sites cycles classes.representatives f.answers) h.design.is_scanned on_scanned in
        candidates_of d.scanned.now (insertion_of design chains) d.faults.now (universe_of design) cycles log (explaining_from f.answers 0 classes.numbers) found h.design.is_scanned h.design.are_faults f.found_is
        (are_candidates same lines design chains h.design.sound (subst IsSound is_scanned sound) h.design.are_chains (names design chains h.design.sound h.design.is_design h.design.are_chains) classes
        h.design.are_classes cycles log m.rows m.width m.table.items (subst (λ s. AreMarks s cycles log m.rows m.width m.table.items) is_scanned marks) f.answers answered f.told)

    pub all_in_order : EquivalentRuns → FaultsHaveLines → TesterNamesDiffer → IsSound n → (log strobed strangers : List Failing) (one other : List ℕ) (count : ℕ) (sorted : List Ranked)
        → AreDivided n cycles log strobed strangers → AreClassTallies d.core.now d.scanned.now.sites cycles strobed d.classes.now.representatives one other → count ≡ length strangers → length d.classes.now.numbers < 2 ^ 32
        → IsPermutation (ranked_from one other count 0 d.classes.now.numbers) sorted → IsNonDecreasingBy rank_key sorted → AreAllRanked d.scanned.now d.faults.now cycles log sorted
    all_in_order same lines names sound log strobed strangers one other count sorted divided tallied many few moved up =
        let design = h.design.design in
        let chains = h.design.chains in
        let classes = d.classes.now in
        let of_core = h.core ∙ ap (λ (s : Insertion). s.netlist) h.design.is_scanned in
        let on_scanned = subst (λ s. AreClassTallies s d.scanned.now.sites cycles strobed classes.representatives one other) of_core tallied in
        ranked_at d.scanned.now (insertion_of design chains) d.faults.now (universe_of design) cycles log sorted h.design.is_scanned h.design.are_faults
        (all_ranked same lines design chains h.design.sound (subst IsSound is_scanned sound) h.design.are_chains (names design chains h.design.sound h.design.is_design h.design.are_chains) classes h.design.are_classes
        cycles (subst (λ s. All (IsCycleOf s) cycles) of_core h.fits) log strobed strangers (subst (λ s. AreDivided s cycles log strobed strangers) is_scanned divided) one other
        (subst (λ (s : Insertion). AreClassTallies (scanned_of design chains) s.sites cycles strobed classes.representatives one other) h.design.is_scanned on_scanned) sorted few
        (subst (λ k. IsPermutation (ranked_from one other k 0 classes.numbers) sorted) many moved) up)

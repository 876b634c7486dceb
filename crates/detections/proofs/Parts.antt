-- Faults counted over a part of the patterns after another.
use Rattle.std.proofs.Common.{◌≡◌, ℕ, ◌+◌, ◌<◌, ◌≤◌, inl, inr, Bool, false, List, [], length, take, drop, get_or, set, replicate, Some, sym, ◌∙◌, ap, subst, arith}
use Rattle.std.specs.List.{AllZip, Contains, slice_get}
use Rattle.std.proofs.lemmas.Bool.{both_ways, cases_eq, cases_lt}
use Rattle.std.proofs.lemmas.List.{length-drop, length-replicate, length-set, length-take, get_or_default, get_or_past, get_or-drop, get_or-replicate, get_or-set_same, get_or-set_other, get_or-take}
use Rattle.std.proofs.lemmas.Option.{get_or_from_slice_get, slice_get-get_or, slice_get_within}
use Rattle.statement.specs.declared.lines.Fault.{Fault}
use Rattle.statement.specs.Netlists.{Netlist}
use Rattle.statement.specs.Patterns.{Pattern}
use Rattle.netlist.proofs.Settling.{zip_from}
use Rattle.detections.specs.Times.{AreNeededMarks, IsTimes}
use Rattle.detections.specs.inner.Counting.{AreCounted, AreCountedUpTo, CountsOn, IsCounted, TellsPlaces}
use Rattle.detections.specs.inner.Telling.{TellsPatterns}
use Rattle.detections.proofs.Counts.{counted_all, counted_none, counted_stays}

-- any pattern, where a default is asked for
pub no_pattern : Pattern
no_pattern = record { inputs = []; cells = [] }

module _ (n : Netlist) (patterns part : List Pattern) (start : ℕ) (is : part ≡ take (length part) (drop start patterns)) (f : Fault) where
  there : (j : ℕ) → j < length part → slice_get part j ≡ slice_get patterns (start + j)
  there j l =
      let k = ap (λ (ps : List Pattern). length ps) is in
      let t = length-take (length part) (drop start patterns) in
      let r = length-drop start patterns in
      let inside : start + j < length patterns = omega arith in
      slice_get-get_or part j no_pattern l
      ∙ (ap Some (ap (λ (ps : List Pattern). get_or ps j no_pattern) is ∙ (get_or-take (length part) (drop start patterns) j no_pattern l ∙ get_or-drop start patterns j no_pattern))
      ∙ sym (slice_get-get_or patterns (start + j) no_pattern inside))

  -- what a word tells of a part it tells of all patterns
  pub tells_places : (word : ℕ) → TellsPatterns n part f word → TellsPlaces n patterns start (start + length part) f word
  tells_places word tells j l =
      let low : j < length part = omega arith in
      let same = there j low in (
        λ b.
            let d = (tells j low).0 b in
            (d.0, record { pattern = d.1.pattern; at = sym same ∙ d.1.at; detects = d.1.detects }),
        λ d. (tells j low).1 (d.0, record { pattern = d.1.pattern; at = same ∙ d.1.at; detects = d.1.detects }),
      )

contained : (faults : List Fault) (k : ℕ) (f : Fault) → slice_get faults k ≡ Some f → Contains faults f
contained faults k f at = (k, slice_get_within faults k f at, get_or_from_slice_get faults k f f at)

some_same : (a b : Fault) → Some a ≡ Some b → a ≡ b
some_same a b e = cc

module _ (n : Netlist) (patterns : List Pattern) (most : ℕ) (faults : List Fault) where
  pub none_up : (start end : ℕ) (times : List ℕ) (marks : List Bool) → AreCounted n patterns most end faults times marks → AreCountedUpTo n patterns most start end faults times marks 0
  none_up start end times marks h = record {
    times_size = h.times_size;
    marks_size = h.marks_size;
    before = λ i f l. absurd (omega arith);
    after = λ i f l at. h.each i f at;
    right = h.right;
  }

  pub all_up : (start end : ℕ) (times : List ℕ) (marks : List Bool) (k : ℕ) → length faults ≤ k → AreCountedUpTo n patterns most start end faults times marks k → AreCounted n patterns most start faults times marks
  all_up start end times marks k all h = record {
    times_size = h.times_size;
    marks_size = h.marks_size;
    each = λ i f at. let l = slice_get_within faults i f at in h.before i f (omega arith) at;
    right = h.right;
  }

  pub one_up : (start end : ℕ) (times : List ℕ) (marks marks' : List Bool) (k t : ℕ) (f : Fault) → AreCountedUpTo n patterns most start end faults times marks k → slice_get faults k ≡ Some f
      → CountsOn n patterns most start end f (get_or times k 0) t marks marks' → AreCountedUpTo n patterns most start end faults (set times k t) marks' (k + 1)
  one_up start end times marks marks' k t f h at counts =
      let inside = slice_get_within faults k f at in
      let size = h.times_size in
      let now = counts (h.after k f (omega arith) at) in
      let adds = now.1 in
      record {
        times_size = length-set times k t ∙ h.times_size;
        marks_size = adds.size ∙ h.marks_size;
        before = λ i g l at_i. elim (cases_eq i k) [
          | inl e ↦
              let same : f ≡ g = some_same f g (sym at ∙ (ap (slice_get faults) (sym e) ∙ at_i)) in
              let is : get_or (set times k t) i 0 ≡ t = ap (λ j. get_or (set times k t) j 0) e ∙ get_or-set_same times k t 0 (omega arith) in
              subst (λ u. IsCounted n patterns most start g u marks') (sym is) (subst (λ (b : Fault). IsCounted n patterns most start b t marks') same now.0)
          | inr ne ↦
              subst (λ u. IsCounted n patterns most start g u marks') (sym (get_or-set_other times k i t 0 ne))
              (counted_stays n patterns most g start (get_or times i 0) f marks marks' adds (h.before i g (omega arith) at_i))
        ];
        after = λ i g l at_i.
            subst (λ u. IsCounted n patterns most end g u marks') (sym (get_or-set_other times k i t 0 (λ e. omega arith)))
            (counted_stays n patterns most g end (get_or times i 0) f marks marks' adds (h.after i g (omega arith) at_i));
        right = λ place m. elim (adds.right place m) [
          | inl was ↦ h.right place was
          | inr last ↦ (f, contained faults k f at, last)
        ];
      }

  -- no pattern is looked at yet
  pub none_yet : (m : ℕ) → m ≡ length patterns → AreCounted n patterns most m faults (replicate (length faults) 0) (replicate (length patterns) false)
  none_yet m e = record {
    times_size = length-replicate (length faults) 0;
    marks_size = length-replicate (length patterns) false;
    each = λ k f at.
        subst (λ t. IsCounted n patterns most m f t (replicate (length patterns) false)) (sym (get_or-replicate (length faults) k 0 0 (slice_get_within faults k f at)))
        (counted_none n patterns most f m (replicate (length patterns) false) (λ place low found.
        let l = slice_get_within patterns place found.1.pattern found.1.at in absurd (omega arith)));
    right = λ place m. absurd (both_ways (get_or (replicate (length patterns) false) place false) (unmarked place) m);
  } where
    unmarked : (place : ℕ) → get_or (replicate (length patterns) false) place false ≡ false
    unmarked place = elim (cases_lt place (length patterns)) [
      | inl low ↦ get_or-replicate (length patterns) place false false low
      | inr high ↦ let size = length-replicate (length patterns) false in get_or_past (replicate (length patterns) false) place false (omega arith)
    ]

  -- every pattern is
  pub all_times : (m : ℕ) (times : List ℕ) (marks : List Bool) → m ≡ 0 → AreCounted n patterns most m faults times marks → AllZip (IsTimes n patterns most) faults times
  all_times m times marks e h =
      zip_from (IsTimes n patterns most) faults times (sym h.times_size) (λ k f t l.
      let size = h.times_size in
      subst (IsTimes n patterns most (get_or faults k f)) (sym (get_or_default times k t 0 (omega arith)))
      (counted_all n patterns most (get_or faults k f) m (get_or times k 0) marks e (h.each k (get_or faults k f) (slice_get-get_or faults k f l))))

  pub all_marks : (m : ℕ) (times : List ℕ) (marks : List Bool) → m ≡ 0 → AreCounted n patterns most m faults times marks → AreNeededMarks n patterns most faults marks
  all_marks m times marks e h = record {
    size = h.marks_size;
    exactly = λ place. (
      (λ is. h.right place is),
      (λ need.
          let k = need.1.0 in
          let at : slice_get faults k ≡ Some need.0 = slice_get-get_or faults k need.0 need.1.1 ∙ ap Some need.1.2 in
          (h.each k need.0 at).marked place (omega arith) need.2),
    );
  }

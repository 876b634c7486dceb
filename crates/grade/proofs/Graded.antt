-- The grades of all lines by patterns, batch by batch, and at their sites.
use Rattle.std.proofs.Common.{◌≡◌, ◌≢◌, ℕ, suc, zero, ◌+◌, ◌-◌, ◌<◌, ◌≤◌, ◌⊎◌, List, [], ◌∷◌, map, length, get_or, set, replicate, reverse, take, drop, Option, Some, None, slice_get, refl, sym, ◌∙◌, ap, subst, inl, inr, arith}
use Rattle.std.specs.List.{All, AllZip}
use Rattle.std.specs.Prelude.{MatchOption}
use Rattle.std.proofs.lemmas.Bool.{cases_eq}
use Rattle.std.proofs.lemmas.List.{get_or-replicate, get_or-set_other, get_or-set_same, get_or_default, length-map, length-replicate, length-set}
use Rattle.std.proofs.lemmas.Option.{get_or_from_slice_get, same_Some, slice_get-get_or, slice_get_within}
use Rattle.statement.specs.declared.lines.Fault.{Fault}
use Rattle.statement.specs.declared.lines.Point.{Point}
use Rattle.statement.specs.Netlists.{Netlist}
use Rattle.statement.specs.Patterns.{Pattern}
use Rattle.statement.specs.Runs.{Cycle}
use Rattle.statement.specs.Tests.{longest_of}
use Rattle.netlist.specs.Conditions.{IsSound}
use Rattle.netlist.specs.Designs.{IsDesign}
use Rattle.netlist.specs.Lines.{IsLineOf}
use Rattle.netlist.proofs.Settling.{zip_from}
use Rattle.scan_insert.specs.Scanned.{AreChainsOf, insertion_of, scanned_of, sites_of}
use Rattle.chain_test.specs.Hardware.{at_site}
use Rattle.scan_play.proofs.Shifting.{zip_at, zip_length}
use Rattle.word_sim.specs.Hits.{LastDetected}
use Rattle.word_sim.specs.inner.Packed.{AreGoodFor}
use Rattle.grade.specs.Grades.{IsGraded}
use Rattle.grade.specs.Laws.{PatternsGrade}
use Rattle.grade.specs.Patterns.{IsPatternGrade}
use Rattle.grade.specs.declared.grade.Grade.{Grade}
use Rattle.grade.specs.declared.grade.Grade.TheVariants.{Undetected}
use Rattle.grade.specs.declared.by_patterns.Asked.{Asked}
use Rattle.grade.specs.inner.ByPatterns.{AreAsked, AreGradedPart, AreGradedUpTo, AreTestCycles, IsAtPlace, IsElsewhere, IsGradedAt, IsGradedUpTo, IsOffset, IsOutside, IsThere}
use Rattle.grade.specs.inner.Spotting.{IsSpotted}
use Rattle.grade.specs.inner.Spread.{AreSiteGrades}
use Rattle.grade.proofs.FirstGraded.{first_graded, never_graded}
use Rattle.grade.proofs.Lists.{drop_get, take_get}

-- ---- a place

pub none_within : (told : Option (ℕ × Point)) (start : ℕ) → told ≡ None → IsElsewhere told start
none_within told start e w is = let h : ◌≡◌ {A = Option (ℕ × Point)} None (Some w) = sym e ∙ is in cc

pub some_within : (told : Option (ℕ × Point)) (place : ℕ) (point : Point) (start : ℕ) (r : Option ℕ) → told ≡ Some (place, point) → MatchOption r (IsOutside place start) (IsOffset place start)
    → MatchOption r (IsElsewhere told start) (IsThere told start)
some_within told place point start None e h = λ w is.
    let same : ◌≡◌ {A = ℕ × Point} (place, point) w = same_Some (place, point) w (sym e ∙ is) in
    subst (λ (u : ℕ × Point). (u.0 < start) ⊎ (start + 64 ≤ u.0)) same h
some_within told place point start (Some j) e h = record { point = point; is_told = e ∙ ap (λ k. Some (k, point)) h.0; low = h.1 }

-- ---- one line

module _ (n : Netlist) (chains : List (List ℕ)) (latest : List Pattern) (f : Fault) where
  pub elsewhere_graded : (start : ℕ) (told : Option (ℕ × Point)) (grade : Grade) → IsElsewhere told start → IsGradedUpTo n chains latest start f told grade
      → IsGradedUpTo n chains latest (start + 64) f told grade
  elsewhere_graded start None grade away h = h
  elsewhere_graded start (Some w) grade away h = λ l. elim (away w refl) [ inl less ↦ h less | inr high ↦ absurd (omega (arith, l, high)) ]

  -- of fewer patterns
  fewer : (m more : ℕ) (told : Option (ℕ × Point)) (grade : Grade) → m ≤ more → IsGradedUpTo n chains latest more f told grade → IsGradedUpTo n chains latest m f told grade
  fewer m more None grade l h = h
  fewer m more (Some w) grade l h = λ low. h (omega (arith, low, l))

  -- of no pattern
  none_yet : (told : Option (ℕ × Point)) (grade : Grade) → grade ≡ Undetected → IsGradedUpTo n chains latest 0 f told grade
  none_yet None grade e = e
  none_yet (Some w) grade e = λ l. absurd (omega (arith, l))

  -- of all patterns
  one_graded : (sound : IsSound n) (are : AreChainsOf n chains) (told : Option (ℕ × Point)) (grade : Grade) → LastDetected n latest f told
      → IsGradedUpTo n chains latest (length latest) f told grade → IsPatternGrade n chains (reverse latest) f grade
  one_graded sound are None grade never e = subst (IsPatternGrade n chains (reverse latest) f) (sym e) (never_graded n chains sound are latest f never)
  one_graded sound are (Some w) grade last h = h (slice_get_within latest w.0 last.here.pattern last.here.at)

  -- the pattern that is told is one of the batch
  module _ (start j : ℕ) (told : Option (ℕ × Point)) (there : IsThere told start j) (last : LastDetected n latest f told) where
    detected : LastDetected n latest f (Some (start + j, there.point))
    detected = subst (LastDetected n latest f) there.is_told last

    pub there_below : start + j < length latest
    there_below = slice_get_within latest (start + j) detected.here.pattern detected.here.at

    pub there_graded : (sound : IsSound n) (are : AreChainsOf n chains) (values : List ℕ) (key longest place : ℕ) (grade : Grade) → AreGoodFor n (take 64 (drop start latest)) values
        → IsSpotted n chains values f j key → longest ≡ longest_of chains → place ≡ length latest - 1 - (start + j) → IsAtPlace longest place key grade
        → IsGradedUpTo n chains latest (start + 64) f told grade
    there_graded sound are values key longest place grade good spotted long at_place at =
        let p = detected.here.pattern in
        let has : slice_get (take 64 (drop start latest)) j ≡ Some p = take_get 64 (drop start latest) j there.low ∙ (drop_get start latest j ∙ detected.here.at) in
        let right : IsPatternGrade n chains (reverse latest) f grade =
        first_graded n chains sound are latest f (start + j) there.point detected p detected.here.at key (spotted (take 64 (drop start latest)) p good has) longest place grade long at_place at in
        subst (λ t. IsGradedUpTo n chains latest (start + 64) f t grade) (sym there.is_told) (λ _. right)

-- ---- all lines

module _ (a : Asked) where
  -- what is told of the line at a place
  pub told_at : AreAsked a → (k : ℕ) (f : Fault) → slice_get a.faults.now k ≡ Some f → LastDetected a.core.now a.latest.now f (get_or a.told.now k None)
  told_at are k f at =
      subst (λ u. LastDetected a.core.now a.latest.now u (get_or a.told.now k None)) (get_or_from_slice_get a.faults.now k f f at)
      (zip_at (LastDetected a.core.now a.latest.now) a.faults.now a.told.now k f None are.told (slice_get_within a.faults.now k f at))

  pub none_graded : (grades : List Grade) → grades ≡ replicate (length a.faults.now) Undetected → AreGradedUpTo a 0 grades
  none_graded grades e = record {
    size = ap length e ∙ length-replicate (length a.faults.now) Undetected;
    each = λ k f at.
        none_yet a.core.now a.timing.now.chains.now a.latest.now f (get_or a.told.now k None) (get_or grades k Undetected)
        (ap (λ (gs : List Grade). get_or gs k Undetected) e ∙ get_or-replicate (length a.faults.now) k Undetected Undetected (slice_get_within a.faults.now k f at));
  }

  pub fewer_graded : (m more : ℕ) (grades : List Grade) → m ≤ more → AreGradedUpTo a more grades → AreGradedUpTo a m grades
  fewer_graded m more grades l h = record {
    size = h.size;
    each = λ k f at. fewer a.core.now a.timing.now.chains.now a.latest.now f m more (get_or a.told.now k None) (get_or grades k Undetected) l (h.each k f at);
  }

  pub part_begun : (start : ℕ) (grades : List Grade) → AreGradedUpTo a start grades → AreGradedPart a start 0 grades
  part_begun start grades h = record { size = h.size; done = λ k l. absurd (omega (arith, l)); left = λ k l. h.each k }

  pub part_more : (start i : ℕ) (grades made : List Grade) (grade : Grade) → i < length a.faults.now → made ≡ set grades i grade → IsGradedAt a (start + 64) i grade
      → AreGradedPart a start i grades → AreGradedPart a start (i + 1) made
  part_more start i grades made grade l is new h =
      let size = h.size in
      let here : get_or made i Undetected ≡ grade = ap (λ (gs : List Grade). get_or gs i Undetected) is ∙ get_or-set_same grades i grade Undetected (omega (arith, l, size)) in
      let other : (k : ℕ) → k ≢ i → get_or made k Undetected ≡ get_or grades k Undetected =
      λ k ne. ap (λ (gs : List Grade). get_or gs k Undetected) is ∙ get_or-set_other grades i k grade Undetected ne in
      record {
        size = ap length is ∙ (length-set grades i grade ∙ h.size);
        done = λ k low. elim (cases_eq k i) [
          | inl same ↦ subst (λ m. IsGradedAt a (start + 64) m (get_or made m Undetected)) (sym same) (subst (IsGradedAt a (start + 64) i) (sym here) new)
          | inr ne ↦ subst (IsGradedAt a (start + 64) k) (sym (other k ne)) (h.done k (omega (arith, low, ne)))
        ];
        left = λ k high.
            let ne : k ≢ i = λ same. omega (arith, high, same) in
            subst (IsGradedAt a start k) (sym (other k ne)) (h.left k (omega (arith, high)));
      }

  pub part_ended : (start i : ℕ) (grades : List Grade) → length a.faults.now ≤ i → AreGradedPart a start i grades → AreGradedUpTo a (start + 64) grades
  part_ended start i grades l h = record { size = h.size; each = λ k f at. h.done k (let w = slice_get_within a.faults.now k f at in omega (arith, w, l)) f at }

  pub all_graded : IsSound a.core.now → AreAsked a → (grades : List Grade) → AreGradedUpTo a (length a.latest.now) grades
      → AllZip (IsPatternGrade a.core.now a.timing.now.chains.now (reverse a.latest.now)) a.faults.now grades
  all_graded sound are grades h =
      zip_from (IsPatternGrade a.core.now a.timing.now.chains.now (reverse a.latest.now)) a.faults.now grades (sym h.size) (λ i d e l.
      let count = h.size in
      let f = get_or a.faults.now i d in
      let here : slice_get a.faults.now i ≡ Some f = slice_get-get_or a.faults.now i d l in
      let same : get_or grades i Undetected ≡ get_or grades i e = get_or_default grades i Undetected e (omega (arith, l, count)) in
      let right : IsPatternGrade a.core.now a.timing.now.chains.now (reverse a.latest.now) f (get_or grades i Undetected) =
      one_graded a.core.now a.timing.now.chains.now a.latest.now f sound are.timing.are_chains (get_or a.told.now i None) (get_or grades i Undetected) (told_at are i f here) (h.each i f here) in
      subst (IsPatternGrade a.core.now a.timing.now.chains.now (reverse a.latest.now) f) same right)

-- ---- at the sites

pub site_grades : PatternsGrade → (n : Netlist) (chains : List (List ℕ)) (cycles : List Cycle) (patterns : List Pattern) → IsSound n → IsDesign n → AreChainsOf n chains
    → AreTestCycles n chains cycles patterns → (faults : List Fault) (grades : List Grade) → All (λ (f : Fault). IsLineOf n f.line) faults → AllZip (IsPatternGrade n chains patterns) faults grades
    → AreSiteGrades (insertion_of n chains) cycles faults grades
site_grades law n chains cycles patterns sound design are test faults grades lines graded =
    let sites = map (at_site (sites_of n chains)) faults in
    let mapped_size = length-map faults (at_site (sites_of n chains)) in
    let size = zip_length (IsPatternGrade n chains patterns) faults grades graded in
    zip_from (λ f grade. IsGraded (scanned_of n chains) f cycles grade) sites grades (mapped_size ∙ size)
    (λ i d e l.
    let grade = get_or grades i e in
    let w = mapped faults i (get_or sites i d) (slice_get-get_or sites i d l) in
    let here : IsPatternGrade n chains patterns w.0 grade =
    subst (λ f. IsPatternGrade n chains patterns f grade) (get_or_from_slice_get faults i w.0 w.0 w.1)
    (zip_at (IsPatternGrade n chains patterns) faults grades i w.0 e graded (omega (arith, l, mapped_size))) in
    subst (λ h. IsGraded (scanned_of n chains) h cycles grade) w.2
    (law n test.holds chains patterns cycles w.0 grade sound design are test.are_vectors (line_at faults lines i w.0 w.1) here))
  where
    mapped : (fs : List Fault) (i : ℕ) (g : Fault) → slice_get (map (at_site (sites_of n chains)) fs) i ≡ Some g → (f : Fault) × (slice_get fs i ≡ Some f) × (at_site (sites_of n chains) f ≡ g)
    mapped [] i g e = cc
    mapped (f ∷ fs) zero g e = (f, refl, same_Some (at_site (sites_of n chains) f) g e)
    mapped (f ∷ fs) (suc i) g e = mapped fs i g e

    line_at : (fs : List Fault) → All (λ (f : Fault). IsLineOf n f.line) fs → (i : ℕ) (f : Fault) → slice_get fs i ≡ Some f → IsLineOf n f.line
    line_at fs all i f e = subst (λ (u : Fault). IsLineOf n u.line) (same_Some (get_or fs i f) f (sym (slice_get-get_or fs i f (slice_get_within fs i f e)) ∙ e)) (all i f (slice_get_within fs i f e))

-- How often each fault is detected, by its class.
use Rattle.std.proofs.Common.{◌≡◌, ℕ, ◌<◌, ◌≤◌, inl, inr, Bool, true, false, MatchBool, List, length, get_or, min, Some, sym, ◌∙◌, subst, arith}
use Rattle.std.specs.List.{All, AllZip, slice_get}
use Rattle.std.proofs.lemmas.Bool.{cases_lt}
use Rattle.std.proofs.lemmas.Bool.Decides.{Decides-eqb}
use Rattle.std.proofs.lemmas.List.{get_or_default}
use Rattle.std.proofs.lemmas.List.Elements.{All-contains, All-get_or, All-weaker}
use Rattle.std.proofs.lemmas.Map.Made.{is_member-Decides, IsDistinct-from_AllPairs}
use Rattle.std.proofs.lemmas.Map.Steps.{length-le_from_distinct_below}
use Rattle.std.proofs.lemmas.Option.{slice_get-get_or, slice_get_within}
use Rattle.std.proofs.lemmas.Slice.Zip.{AllZip-long}
use Rattle.statement.specs.declared.lines.Fault.{Fault}
use Rattle.statement.specs.declared.lines.Line.TheVariants.{Stem}
use Rattle.statement.specs.Netlists.{Netlist}
use Rattle.statement.specs.Patterns.{Pattern}
use Rattle.statement.specs.Faults.{universe_of}
use Rattle.netlist.specs.Conditions.{IsSound}
use Rattle.netlist.proofs.Settling.{zip_from}
use Rattle.fault_collapse.specs.Classes.{AreClasses, Represents}
use Rattle.fault_collapse.specs.Laws.{DetectedAlike}
use Rattle.fault_collapse.specs.Numbers.{Classes}
use Rattle.detections.specs.Laws.{TimesAlike, TimesOnce}
use Rattle.detections.specs.Times.{IsDetectedBy, IsTimes}
use Rattle.report.specs.Reports.{Times}
use Rattle.run_report.specs.Times.{HasTimes}
use Rattle.run_report.proofs.ClassLemmas.{equivalent, to_member, to_representative}
use Rattle.file_check.specs.inner.Times.{AreOfClasses}
use Rattle.check_parts.proofs.Lists.{zip_at}

blank : Fault
blank = record { line = Stem 0; value = false }

-- ---- to how many is counted

module _ (n : Netlist) (patterns : List Pattern) (f : Fault) where
  within : (place : ℕ) → IsDetectedBy n patterns f place → place < length patterns
  within place found = slice_get_within patterns place found.1.pattern found.1.at

  -- no more patterns detect a fault than there are
  no_more : (most times : ℕ) → IsTimes n patterns most f times → times ≤ length patterns
  no_more most times is =
      let fit : length is.places ≤ length patterns = length-le_from_distinct_below is.places (length patterns)
      (IsDistinct-from_AllPairs Decides-eqb is.places (λ i j d l m e. let r = is.rise i j d l m in absurd (omega arith)))
      (λ q m. within q (All-contains (IsDetectedBy n patterns f) is.places q is.detect ((is_member-Decides Decides-eqb is.places q).0 m))) in
      let count = is.count in
      omega arith

  -- a number is the same, however far beyond the patterns is counted
  uncut : (word most cut times : ℕ) → cut ≡ min most word → length patterns < word → IsTimes n patterns cut f times → IsTimes n patterns most f times
  uncut word most cut times cut_is few is = elim (cases_lt most word) [
    | inl low ↦ subst (λ m. IsTimes n patterns m f times) (let e : cut ≡ most = omega arith in e) is
    | inr high ↦ record {
      places = is.places;
      rise = is.rise;
      detect = is.detect;
      count = is.count;
      bounded = let bound = is.bounded in omega arith;
      all = elim is.all [ inl full ↦ (let fit = no_more cut times is in absurd (omega arith)) | inr all ↦ inr all ];
    }
  ]

-- ---- by class

module _ (n : Netlist) (sound : IsSound n) (patterns : List Pattern) (word most cut : ℕ) (cut_is : cut ≡ min most word) (few : length patterns < word)
    (detected : DetectedAlike) (alike : TimesAlike) (once : TimesOnce) (classes : Classes) (are : AreClasses n classes) (times : List ℕ)
    (counted : AllZip (IsTimes n patterns cut) classes.representatives times) where
  -- the number of a fault is that of its class
  of_class : (place : ℕ) (f : Fault) → slice_get (universe_of n) place ≡ Some f → IsTimes n patterns most f (get_or times (get_or classes.numbers place 0) 0)
  of_class place f at =
      let inside = slice_get_within (universe_of n) place f at in
      let size = are.size in
      let numbered : place < length classes.numbers = omega arith in
      let class = get_or classes.numbers place 0 in
      let g = get_or classes.representatives class f in
      let represents : Represents classes class g = slice_get-get_or classes.representatives class f (All-get_or (λ k. k < length classes.representatives) classes.numbers place 0 numbered are.within) in
      let same = equivalent n classes are place class f g at (slice_get-get_or classes.numbers place 0 numbered) represents in
      alike n patterns most g f (get_or times class 0)
      (λ p. (λ d. (d.0, to_member n sound detected f g same patterns p d.0 d.1), λ d. (d.0, to_representative n sound detected f g same patterns p d.0 d.1)))
      (uncut n patterns g word most cut (get_or times class 0) cut_is few (zip_at (IsTimes n patterns cut) classes.representatives times class g 0 counted represents))

  module _ (said : List ℕ) (count : ℕ) (faults : count ≡ length (universe_of n)) where
    right : length said ≡ count → AreOfClasses classes times said count → AllZip (IsTimes n patterns most) (universe_of n) said
    right size same =
        zip_from (IsTimes n patterns most) (universe_of n) said (omega arith) (λ k f t l.
        let number : get_or said k t ≡ get_or times (get_or classes.numbers k 0) 0 = get_or_default said k t 0 (omega arith) ∙ same k (omega arith) in
        subst (IsTimes n patterns most (get_or (universe_of n) k f)) (sym number) (of_class k (get_or (universe_of n) k f) (slice_get-get_or (universe_of n) k f l)))

    only_right : AllZip (IsTimes n patterns most) (universe_of n) said → AreOfClasses classes times said count
    only_right all place low =
        let f = get_or (universe_of n) place blank in
        let at : slice_get (universe_of n) place ≡ Some f = slice_get-get_or (universe_of n) place blank (omega arith) in
        once n patterns most f (get_or said place 0) (get_or times (get_or classes.numbers place 0) 0) (zip_at (IsTimes n patterns most) (universe_of n) said place f 0 all at) (of_class place f at)

    -- the numbers are right exactly where they are those of the classes
    pub by_classes : 0 < most → length said ≡ count → (b : Bool) → MatchBool b (AreOfClasses classes times said count) (¬ AreOfClasses classes times said count)
        → MatchBool b (HasTimes n patterns (record { most = most; of = said })) (¬ HasTimes n patterns (record { most = most; of = said }))
    by_classes some size true same = inr (right size same)
    by_classes some size false other = λ has. elim has [ inl none ↦ absurd (omega arith) | inr all ↦ other (only_right all) ]

-- a number for each fault, or none is counted
pub other_count : (n : Netlist) (patterns : List Pattern) (t : Times) → 0 < t.most → ¬ (length t.of ≡ length (universe_of n)) → ¬ HasTimes n patterns t
other_count n patterns t some other (inl none) = absurd (omega arith)
other_count n patterns t some other (inr all) = other (AllZip-long (IsTimes n patterns t.most) (universe_of n) t.of all)

-- what is counted, as it is read
pub counted_of : (n : Netlist) (cut : ℕ) (patterns : List Pattern) (listed faults : List Fault) (times told : List ℕ) → listed ≡ faults → told ≡ times
    → AllZip (IsTimes n patterns cut) listed times → AllZip (IsTimes n patterns cut) faults told
counted_of n cut patterns listed faults times told q r all =
    subst (λ (ts : List ℕ). AllZip (IsTimes n patterns cut) faults ts) (sym r) (subst (λ (fs : List Fault). AllZip (IsTimes n patterns cut) fs times) q all)

-- each class has a number
pub numbers_within : (n : Netlist) (patterns : List Pattern) (cut : ℕ) (classes : Classes) (times : List ℕ) → AreClasses n classes → AllZip (IsTimes n patterns cut) classes.representatives times
    → All (λ class. class < length times) classes.numbers
numbers_within n patterns cut classes times are all =
    let size = AllZip-long (IsTimes n patterns cut) classes.representatives times all in
    All-weaker (λ class. class < length classes.representatives) (λ class. class < length times) (λ class low. omega arith) classes.numbers are.within

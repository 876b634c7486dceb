-- What good files say comes true, whatever the unknown inputs have.
use Rattle.std.proofs.Common.{◌≡◌, ◌<◌, ◌≤◌, ◌↔◌, ℕ, zero, suc, Bool, true, false, List, [], ◌∷◌, length, map, Some, None, refl, sym, ◌∙◌, ap, subst, arith, length-append}
use Rattle.std.specs.List.{All, AllZip, slice_get}
use Rattle.std.specs.Prelude.{IsTrue, slice_index_or}
use Rattle.std.proofs.lemmas.Option.{get_or_from_slice_get, slice_get_within}
use Rattle.std.proofs.lemmas.List.{length-map}
use Rattle.std.proofs.lemmas.List.Elements.{All-get_or}
use Rattle.statement.specs.declared.lines.Fault.{Fault}
use Rattle.statement.specs.Netlists.{Netlist}
use Rattle.statement.specs.Patterns.{Holds}
use Rattle.statement.specs.Runs.{Cycle}
use Rattle.statement.specs.Faults.{universe_of}
use Rattle.statement.specs.Statement.{FiveFiles}
use Rattle.statement.specs.Tests.{vectors_in}
use Rattle.netlist.specs.Conditions.{IsSound}
use Rattle.netlist.specs.Designs.{IsDesign}
use Rattle.netlist.specs.Detection.{IsRedundant}
use Rattle.netlist.specs.Holds.{AreHoldsOf}
use Rattle.netlist.specs.Lines.{IsFaultOf, IsLineOf}
use Rattle.fault_universe.specs.Laws.{FaultsHaveLines}
use Rattle.fault_universe.proofs.Elements.{contains_at}
use Rattle.fault_collapse.specs.Joined.{IsEquivalent}
use Rattle.fault_collapse.specs.Laws.{DetectedAlike}
use Rattle.fault_collapse.specs.Classes.{Represents}
use Rattle.fault_collapse.specs.Numbers.{Classes}
use Rattle.evidence.specs.declared.kinds.Evidence.{Evidence}
use Rattle.evidence.specs.Laws.{ShownIsRedundant}
use Rattle.run_report.proofs.ClassLemmas.{equivalent}
use Rattle.scan_insert.specs.Laws.{ScanBehaves, ScannedIsSound}
use Rattle.scan_insert.specs.Named.{SitesHaveNames}
use Rattle.scan_insert.specs.Scanned.{AreChainsOf, naming_of, scanned_of, sites_of}
use Rattle.scan_play.specs.Cycles.{IsCycleOf}
use Rattle.scan_play.specs.Laws.{NoSequenceDetectsRedundant}
use Rattle.good_files.proofs.Chains.{behaves, dealt}
use Rattle.chain_test.specs.Hardware.{at_site}
use Rattle.grade.specs.declared.grade.Grade.{Grade}
use Rattle.grade.specs.declared.grade.Grade.TheVariants as told
use Rattle.known_tests.specs.Laws.{KnownCycles, SitesAreLines}
use Rattle.unknown_inputs.specs.Laws.{HeldUnknownIsUntold, OpenedAllows, OpenedTellsTheTruth}
use Rattle.unknown_inputs.specs.Opened.{opened}
use Rattle.unknown_inputs.specs.Unknowns.{IsUntold, Unknowns, holds_at_zero}
use Rattle.unknown_report.specs.declared.claims.Claim.{Claim}
use Rattle.good_unknown_files.specs.GoodUnknownFiles.{AreFindings, AreGoodUnknownFiles, HasClosed, IsOpenGrade, UnknownContents, chip_in, claim_of, claims_in, claims_of, unknown_chains_in}
use Rattle.good_unknown_files.specs.Theorem.{ClaimComesTrue, IsToldByNoTest, UnknownTheorem}
use Rattle.good_unknown_files.proofs.Grades.{fails_whatever, passes_whatever}
use Rattle.good_unknown_files.proofs.Sites.{named, stands_there}

-- the laws that are cited
pub record Laws : Type 0 where
  pub scan : ScanBehaves
  pub sound : ScannedIsSound
  pub sites : SitesHaveNames
  pub lines : FaultsHaveLines
  pub alike : DetectedAlike
  pub shown : ShownIsRedundant
  pub redundant : NoSequenceDetectsRedundant
  pub fitting : KnownCycles
  pub there : SitesAreLines
  pub allows : OpenedAllows
  pub tells : OpenedTellsTheTruth
  pub untold : HeldUnknownIsUntold

-- ---- held inputs

pub zero_size : (unknown : Unknowns) (holds : Holds) → length (holds_at_zero unknown holds) ≡ length holds
zero_size [] holds = refl
zero_size (u ∷ us) [] = refl
zero_size (true ∷ us) (h ∷ hs) = ap suc (zero_size us hs)
zero_size (false ∷ us) (h ∷ hs) = ap suc (zero_size us hs)

-- all inputs of the netlist are inputs of the scanned one
all_inputs : (n : Netlist) (chains : List (List ℕ)) → length n.inputs ≤ length (scanned_of n chains).inputs
all_inputs n [] = omega arith
all_inputs n (chain ∷ rest) =
    let s = naming_of n (chain ∷ rest) in
    omega (arith, length-append (map s.stem n.inputs) (s.enable ∷ s.scan_in), length-map n.inputs s.stem)

-- ---- lists

at_zip : {A B : Type 0} (R : A → B → Type 0) (xs : List A) (ys : List B) (k : ℕ) (x : A) (y : B) → AllZip R xs ys → slice_get xs k ≡ Some x → slice_get ys k ≡ Some y → R x y
at_zip R [] ys k x y all p q = cc
at_zip R (a ∷ xs) [] k x y all p q = cc
at_zip R (a ∷ xs) (b ∷ ys) zero x y all p q =
    let left : a ≡ x = cc in
    let right : b ≡ y = cc in
    subst (λ z. R x z) right (subst (λ z. R z b) left all.0)
at_zip R (a ∷ xs) (b ∷ ys) (suc k) x y all p q = at_zip R xs ys k x y all.1 p q

present : {A : Type 0} (xs : List A) (k : ℕ) → k < length xs → (x : A) × (slice_get xs k ≡ Some x)
present [] k l = absurd (omega (arith, l))
present (x ∷ xs) zero l = (x, refl)
present (x ∷ xs) (suc k) l = present xs k (omega (arith, l))

all_at : {A : Type 0} (P : A → Type 0) (xs : List A) (k : ℕ) (x : A) → All P xs → slice_get xs k ≡ Some x → P x
all_at P xs k x all at = subst P (get_or_from_slice_get xs k x x at) (All-get_or P xs k x (slice_get_within xs k x at) all)

pub zipped_size : {A B : Type 0} (R : A → B → Type 0) (xs : List A) (ys : List B) → AllZip R xs ys → length xs ≡ length ys
zipped_size R [] [] all = refl
zipped_size R [] (b ∷ ys) all = absurd all
zipped_size R (a ∷ xs) [] all = absurd all
zipped_size R (a ∷ xs) (b ∷ ys) all = ap suc (zipped_size R xs ys all.1)

-- ---- claims

pub claims_size : (evident : List Bool) (classes : List ℕ) (grades : List Grade) → length classes ≡ length grades → length (claims_of evident classes grades) ≡ length classes
claims_size evident [] grades e = refl
claims_size evident (k ∷ ks) [] e = absurd (omega (arith, e))
claims_size evident (k ∷ ks) (g ∷ gs) e = ap suc (claims_size evident ks gs (omega (arith, e)))

-- a claim is that of a grade and a class at its place
pub record ClaimParts (evident : List Bool) (classes : List ℕ) (grades : List Grade) (k : ℕ) (claim : Claim) : Type 0 where
  pub class : ℕ
  pub one : Grade
  pub of_class : slice_get classes k ≡ Some class
  pub of_grade : slice_get grades k ≡ Some one
  pub is : claim ≡ claim_of one (slice_index_or evident class false)

pub claim_parts : (evident : List Bool) (classes : List ℕ) (grades : List Grade) (k : ℕ) (claim : Claim) → slice_get (claims_of evident classes grades) k ≡ Some claim
    → ClaimParts evident classes grades k claim
claim_parts evident [] grades k claim e = cc
claim_parts evident (c ∷ cs) [] k claim e = cc
claim_parts evident (c ∷ cs) (g ∷ gs) zero claim e = record { class = c; one = g; of_class = refl; of_grade = refl; is = let same : claim_of g (slice_index_or evident c false) ≡ claim = cc in sym same }
claim_parts evident (c ∷ cs) (g ∷ gs) (suc k) claim e =
    let p = claim_parts evident cs gs k claim e in
    record { class = p.class; one = p.one; of_class = p.of_class; of_grade = p.of_grade; is = p.is }

marked_there : (evident : List Bool) (class : ℕ) → slice_index_or evident class false ≡ true → slice_get evident class ≡ Some true
marked_there [] class e = cc
marked_there (b ∷ bs) zero e = ap (λ (x : Bool). Some x) e
marked_there (b ∷ bs) (suc class) e = marked_there bs class e

-- ---- what is claimed of a fault comes true of the one at its site

module _ (laws : Laws) (n : Netlist) (sound : IsSound n) (chains : List (List ℕ)) (of_cells : AreChainsOf n chains) (chip_sound : IsSound (scanned_of n chains))
    (unknown : Unknowns) (size : length unknown ≡ length n.inputs) (holds : Holds) (held : AreHoldsOf n holds) (cycles : List Cycle) (fit : All (IsCycleOf (opened (scanned_of n chains) unknown)) cycles) where
  abbrev zeroed : Holds
  zeroed = holds_at_zero unknown holds

  abbrev chip : Netlist
  chip = scanned_of n chains

  module _ (f : Fault) (line : IsLineOf n f.line) where
    abbrev moved : Fault
    moved = at_site (sites_of n chains) f

    moved_line : IsLineOf chip moved.line
    moved_line = laws.there n chains f.line sound of_cells line

    -- evidence of an equivalent fault shows it redundant
    untold : (evidence : List (Fault × Evidence)) (g : Fault) → IsEquivalent n f g → HasClosed n zeroed evidence g → IsUntold chip zeroed moved × IsToldByNoTest chip unknown holds moved
    untold evidence g same shut =
        let shown : IsRedundant n zeroed g = laws.shown g n zeroed shut.0 sound shut.2 shut.3 in
        let none : IsRedundant n zeroed f = (λ inputs state point obeys detects. shown inputs state point obeys ((laws.alike n f g inputs state point sound same).0 detects)) in
        let never : IsUntold chip zeroed moved = (λ state driven good faulty obeys p q.
        laws.redundant n zeroed chains f state driven good faulty sound (zero_size unknown holds ∙ held) of_cells line none obeys p q) in (
          never,
          λ others c o cycles_fit obey passes fails. laws.untold chip unknown holds moved others c o chip_sound (omega (arith, size, all_inputs n chains)) never cycles_fit obey passes fails,
        )

    pub comes_true : (evidence : List (Fault × Evidence)) (g : Fault) → IsEquivalent n f g → (one : Grade) → IsOpenGrade n chains unknown cycles f one
        → (evident : Bool) → (evident ≡ true → HasClosed n zeroed evidence g) → ClaimComesTrue chip unknown holds cycles moved (claim_of one evident)
    comes_true evidence g same (told.Detected c o) graded evident closed = fails_whatever chip chip_sound unknown moved moved_line cycles laws.allows c o graded
    comes_true evidence g same told.Undetected graded false closed = passes_whatever chip chip_sound unknown moved moved_line cycles laws.tells fit graded
    comes_true evidence g same told.Undetected graded true closed = untold evidence g same (closed refl)
    comes_true evidence g same told.Unknown graded false closed = tt
    comes_true evidence g same told.Unknown graded true closed = untold evidence g same (closed refl)

  -- the class of a place, and its evidence where it is marked
  module _ (evidence : List (Fault × Evidence)) (classes : Classes) (grades : List Grade) (evident : List Bool)
      (found : AreFindings n chains unknown holds cycles evidence classes grades evident) where
    representative : (class : ℕ) → class < length classes.representatives → (g : Fault) × Represents classes class g
    representative class within = present classes.representatives class within

    closed_there : (class : ℕ) (g : Fault) → Represents classes class g → slice_index_or evident class false ≡ true → HasClosed n zeroed evidence g
    closed_there class g here yes_there =
        (at_zip (λ f one. IsTrue one ↔ HasClosed n zeroed evidence f) classes.representatives evident class g true found.are_evident here (marked_there evident class yes_there)).0 refl

    pub claim_true : (place : ℕ) (f : Fault) (claim : Claim) → slice_get (universe_of n) place ≡ Some f
        → slice_get (claims_of evident classes.numbers grades) place ≡ Some claim
        → ClaimComesTrue chip unknown holds cycles (at_site (sites_of n chains) f) claim
    claim_true place f claim member said =
        let parts = claim_parts evident classes.numbers grades place claim said in
        let line = laws.lines n f sound (contains_at (universe_of n) place f member) in
        let graded = at_zip (IsOpenGrade n chains unknown cycles) (universe_of n) grades place f parts.one found.are_grades member parts.of_grade in
        let within : parts.class < length classes.representatives = all_at (λ (k : ℕ). k < length classes.representatives) classes.numbers place parts.class found.are_classes.within parts.of_class in
        let g = representative parts.class within in
        let same = equivalent n classes found.are_classes place parts.class f g.0 member parts.of_class g.1 in
        subst (λ (k : Claim). ClaimComesTrue chip unknown holds cycles (at_site (sites_of n chains) f) k) (sym parts.is)
        (comes_true f line evidence g.0 same parts.one graded (slice_index_or evident parts.class false) (closed_there parts.class g.0 g.1))

-- ---- good files

pub truth : Laws → (files : FiveFiles) (c : UnknownContents) → IsSound c.netlist → IsDesign c.netlist → (good : AreGoodUnknownFiles files c)
    → UnknownTheorem c.netlist good.tested.unknown good.tested.holds (unknown_chains_in c) c.file files
truth laws files c sound design good =
    let n = c.netlist in
    let t = good.tested in
    let chains = unknown_chains_in c in
    let chip = chip_in c in
    let cycles = vectors_in c.file in
    let of_cells = dealt n c.said.chains t.scan.allowed in
    let chip_sound = laws.sound n chains sound design of_cells in
    let sites = laws.sites n chains sound of_cells in
    let fit = laws.fitting c.file chip t.unknown good.stand.stil.is_file t.test.fits in
    let none : IsFaultOf chip None = λ g e. cc in
    record {
      said = c.said;
      claims = claims_in c t;
      net_named = named n sound;
      scan_named = named chip chip_sound;
      net_is = good.stand.net;
      scan_is = good.stand.scan ∙ t.scan.text;
      stil_is = good.stand.stil;
      report_is = good.stand.report;
      unknown_are = t.inputs.names;
      holds_are = t.inputs.held;
      behaves = behaves laws.scan n c.said.chains sound of_cells chains refl;
      fits = t.test.fits;
      driven = t.test.obeys;
      passes = (laws.tells chip t.unknown None cycles chip_sound none fit).passes t.test.passes;
      lines_are = good.claims.lines;
      counted = claims_size t.evident t.classes.numbers t.grades
          (t.findings.are_classes.size ∙ zipped_size (λ f one. IsOpenGrade n chains t.unknown cycles f one) (universe_of n) t.grades t.findings.are_grades)
          ∙ t.findings.are_classes.size;
      comes_true = λ place f claim member said. (
        at_site (sites_of n chains) f,
        stands_there n chains sites sound f.line (laws.lines n f sound (contains_at (universe_of n) place f member)),
        refl,
        claim_true laws n sound chains of_cells chip_sound t.unknown t.inputs.size t.holds t.inputs.held.held cycles fit c.evidence t.classes t.grades t.evident t.findings place f claim member said,
      );
      counts_are = good.totals;
    }

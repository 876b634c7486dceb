-- What `grade` reads, grades and says.
use Rattle.std.proofs.Common.{◌≡◌, ◌∙◌, inl, inr, ℕ, List, [], ◌∷◌, Result, Ok, Err, Vec, refl, sym, subst, ap, ap₂, length, get_or}
use Rattle.std.specs.List.{All, AllZip}
use Rattle.std.specs.declared.alloc.Global.{Global}
use Rattle.std.proofs.lemmas.List.Elements.{All-nil, All-cons}
use Rattle.statement.specs.Benches.{Text}
use Rattle.statement.specs.declared.lines.Fault.{Fault}
use Rattle.statement.specs.Faults.{universe_of}
use Rattle.statement.specs.Netlists.{Netlist}
use Rattle.statement.specs.Runs.{Cycle}
use Rattle.statement.specs.Stils.{StilFile}
use Rattle.statement.specs.Tests.{vectors_in}
use Rattle.netlist.specs.Conditions.{IsSound}
use Rattle.bench_text.specs.declared.refusal.Names.TheVariants.{Design}
use Rattle.good_files.specs.ScanOff.{design_chains}
use Rattle.scan_insert.specs.Laws.{ScannedIsSound}
use Rattle.scan_insert.specs.Scanned.{Insertion, scanned_of, sites_of}
use Rattle.scan_insert.specs.declared.sites.Site.{Site}
use Rattle.scan_play.specs.Cycles.{IsCycleOf}
use Rattle.stil_read.specs.Reading.{StandsFor}
use Rattle.stil_write.specs.StilFiles.{IsStilFile}
use Rattle.stil_vectors.specs.Fitting.{FitsNetlist}
use Rattle.stil_vectors.specs.Laws.{FittingCycles}
use Rattle.chain_test.specs.Hardware.{at_site}
use Rattle.grade.specs.Grades.{AreGrades, IsGraded}
use Rattle.grade.specs.Laws.{DetectedFails, UndetectedPasses}
use Rattle.grade.specs.declared.grade.Grade.{Grade}
use Rattle.grade.specs.declared.grade.Grade.TheVariants.{Detected, Undetected, Unknown}
use Rattle.commands.specs.Names.{texts_of}
use Rattle.commands.specs.Due.{Deliver, Refuse}
use Rattle.commands.specs.Worked.{IsWorked}
use Rattle.commands.specs.declared.ending.Finding.{Finding}
use Rattle.commands.specs.declared.ending.Finding.TheVariants.{Fine}
use Rattle.commands.specs.declared.product.Product.{Product}
use Rattle.commands.specs.declared.product.Stop.{Stop}
use Rattle.commands.specs.declared.product.Stop.TheVariants as stop
use Rattle.test_commands.specs.ChainTests.{chaintest_due}
use Rattle.test_commands.specs.Grades.{AreGradesTold, grade_due, IsGradeProduct, IsGradeTold}
use Rattle.command_steps.specs.Steps.{netlist, value}
use Rattle.test_commands.specs.declared.chain_testing.ChainTrial.{ChainTrial}
use Rattle.command_steps.specs.declared.refusal.Refusal.{Refusal}
use Rattle.command_steps.specs.declared.refusal.Refusal.TheVariants.{NotStil}
use Rattle.test_commands.specs.inner.ChainTrials.{IsChainTrial, ReadsChainTrial, bytes_due, fit_due, told_due}
use Rattle.test_commands.specs.inner.GradeTrials.{IsGradeOutput, IsScannedIn, grade_bytes_due, grade_fit_due, graded_due}
use Rattle.test_commands.proofs.PlayLemmas.{strobed_within}
use Rattle.command_steps.proofs.StepLemmas.{then_worked, two_texts}

-- ---- what is said

module _ (s : Netlist) (sound : IsSound s) (cycles : List Cycle) (fit : All (IsCycleOf s) cycles) where
  one_grade : DetectedFails → UndetectedPasses → (g : Fault) (grade : Grade) → IsGraded s g cycles grade → IsGradeTold s cycles g grade
  one_grade fails passes g (Detected c o) h = record { graded = h; holds = fails s g cycles c o sound.closed sound.acyclic h }
  one_grade fails passes g Undetected h = record { graded = h; holds = passes s g cycles sound.closed sound.acyclic fit h }
  one_grade fails passes g Unknown h = record { graded = h; holds = tt }

  pub all_grades_told : DetectedFails → UndetectedPasses → (sites : List Site) (fs : List Fault) (grades : List Grade)
      → AllZip (λ f grade. IsGraded s (at_site sites f) cycles grade) fs grades → AllZip (λ f grade. IsGradeTold s cycles (at_site sites f) grade) fs grades
  all_grades_told fails passes sites [] [] all = tt
  all_grades_told fails passes sites [] (grade ∷ grades) all = absurd all
  all_grades_told fails passes sites (f ∷ fs) [] all = absurd all
  all_grades_told fails passes sites (f ∷ fs) (grade ∷ grades) all =
      (one_grade fails passes (at_site sites f) grade all.0, all_grades_told fails passes sites fs grades all.1)

  one_grade_output : (g : Fault) (grade : Grade) → IsGraded s g cycles grade → IsGradeOutput s grade
  one_grade_output g (Detected c o) h = strobed_within s cycles fit c o h.told.0.0 h.told.0.1
  one_grade_output g Undetected h = tt
  one_grade_output g Unknown h = tt

  pub all_grade_outputs : (sites : List Site) (fs : List Fault) (grades : List Grade) → AllZip (λ f grade. IsGraded s (at_site sites f) cycles grade) fs grades → All (IsGradeOutput s) grades
  all_grade_outputs sites [] [] all = All-nil (IsGradeOutput s)
  all_grade_outputs sites [] (grade ∷ grades) all = absurd all
  all_grade_outputs sites (f ∷ fs) [] all = absurd all
  all_grade_outputs sites (f ∷ fs) (grade ∷ grades) all =
      All-cons (IsGradeOutput s) grade grades (one_grade_output (at_site sites f) grade all.0) (all_grade_outputs sites fs grades all.1)

-- of a design's faults, on what insertion made of it
pub told_grades : ScannedIsSound → FittingCycles → DetectedFails → UndetectedPasses → (n : Netlist) (asked : ℕ) (scanned : Insertion) (file : StilFile) → IsSound n → IsStilFile file
    → IsScannedIn n asked scanned → FitsNetlist file scanned.netlist → (faults : List Fault) (grades : List Grade) → faults ≡ universe_of n → AreGrades scanned faults (vectors_in file) grades
    → AreGradesTold n (design_chains n asked) (vectors_in file) grades × All (IsGradeOutput scanned.netlist) grades
told_grades sounds fitting fails passes n asked scanned file sound stil is fits faults grades all graded =
    let s = scanned_of n (design_chains n asked) in
    let sites = sites_of n (design_chains n asked) in
    let cycles = vectors_in file in
    let same = ap (λ (i : Insertion). i.netlist) is.is_scanned in
    let scan_sound : IsSound s = sounds n (design_chains n asked) sound is.design (record { asked = asked; some = is.some; are = refl }) in
    let fit = fitting file s stil (subst (λ (m : Netlist). FitsNetlist file m) same fits) in
    let each = subst (λ (i : Insertion). AreGrades i (universe_of n) cycles grades) is.is_scanned (subst (λ (fs : List Fault). AreGrades scanned fs cycles grades) all graded) in (
      all_grades_told s scan_sound cycles fit fails passes sites (universe_of n) grades each,
      subst (λ (m : Netlist). All (IsGradeOutput m) grades) (sym same) (all_grade_outputs s scan_sound cycles fit sites (universe_of n) grades each),
    )

-- the text and the line are due
pub grades_deliver : (asked : ℕ) (n : Netlist) (file : StilFile) (text line : Text) (files : List Text) (shown : Text) (finding : Finding)
    → IsGradeProduct n (design_chains n asked) (vectors_in file) text line → files ≡ text ∷ [] → shown ≡ line → finding ≡ Fine → graded_due asked n file (Deliver files shown finding)
grades_deliver asked n file text line files shown finding product files_are shown_is fine = (text, line, product, rw (files_are, shown_is, fine) refl)

-- ---- what is read

-- a design and a file are refused alike, whatever is made of them
module _ (asked : ℕ) (net stil : Text) (r : Refusal) where
  not_told : (n : Netlist) (file : StilFile) → told_due n (design_chains n asked) file (Refuse r) → ⊥
  not_told n file due = let e = due.2 in cc

  unfit_alike : (n : Netlist) (file : StilFile) → fit_due n (design_chains n asked) file (Refuse r) → grade_fit_due asked n file (Refuse r)
  unfit_alike n file due = elim due [ inl x ↦ absurd (not_told n file x.2) | inr s ↦ inr s ]

  unread_alike : (n : Netlist) → bytes_due asked stil n (Refuse r) → grade_bytes_due asked stil n (Refuse r)
  unread_alike n due = elim due [ inl x ↦ inl (x.0, x.1, unfit_alike n x.0 x.2) | inr s ↦ inr s ]

  refused_alike : chaintest_due asked (net ∷ stil ∷ []) (Refuse r) → grade_due asked (net ∷ stil ∷ []) (Refuse r)
  refused_alike due = elim due [ inl x ↦ inl (x.0, x.1, unread_alike x.0 x.2) | inr s ↦ inr s ]

module _ (net stil : Text) where
  tried : (asked : ℕ) (n : Netlist) (file : StilFile) (r : Result Product (Stop Refusal)) → IsChainTrial net stil n file
      → IsWorked (grade_fit_due asked n file) 1 r → IsWorked (grade_due asked (net ∷ stil ∷ [])) 1 r
  tried asked n file r t w =
      then_worked (netlist Design net) (grade_bytes_due asked stil) 1 n r t.net_is (then_worked (value StandsFor NotStil stil) (grade_fit_due asked n) 1 file r t.file_is w)

  untried : (asked : ℕ) (s : Stop Refusal) → ReadsChainTrial net stil (Err s) → IsWorked (grade_due asked (net ∷ stil ∷ [])) 1 (Err s)
  untried asked (stop.Refused r) is = refused_alike asked net stil r (is asked)
  untried asked stop.NoMemory is = tt

module _ (asked : ℕ) (vs : List (Vec ℕ Global)) (v w d e : Vec ℕ Global) (count : length vs ≡ 2) (is : v ≡ get_or vs 0 d) (also : w ≡ get_or vs 1 e) where
  here : (net stil : Text) (r : Result Product (Stop Refusal)) → net ≡ v.items → stil ≡ w.items
      → IsWorked (grade_due asked (net ∷ stil ∷ [])) 1 r → IsWorked (grade_due asked (texts_of vs)) 1 r
  here net stil r net_is stil_is worked =
      let same : net ∷ stil ∷ [] ≡ texts_of vs = ap₂ (λ (a b : Text). a ∷ b ∷ []) net_is stil_is ∙ sym (two_texts vs v w d e count is also) in
      subst (λ (ts : List Text). IsWorked (grade_due asked ts) 1 r) same worked

  pub grade_worked : (net stil : Text) (t : ChainTrial) (r : Result Product (Stop Refusal)) → net ≡ v.items → stil ≡ w.items → ReadsChainTrial net stil (Ok t)
      → IsWorked (grade_fit_due asked t.netlist t.file) 1 r → IsWorked (grade_due asked (texts_of vs)) 1 r
  grade_worked net stil t r net_is stil_is read worked = here net stil r net_is stil_is (tried net stil asked t.netlist t.file r read worked)

  pub grade_stopped : (net stil : Text) (s : Stop Refusal) → net ≡ v.items → stil ≡ w.items → ReadsChainTrial net stil (Err s)
      → IsWorked (grade_due asked (texts_of vs)) 1 (Err s)
  grade_stopped net stil s net_is stil_is read = here net stil (Err s) net_is stil_is (untried net stil asked s read)

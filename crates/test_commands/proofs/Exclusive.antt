-- What `play`, `chaintest` and `grade` owe for the same texts is alike.
use Rattle.std.proofs.Common.{◌≡◌, ◌∙◌, inl, inr, ℕ, Bool, true, false, List, [], ◌∷◌, Option, Some, refl, sym, subst}
use Rattle.std.specs.Prelude.{not}
use Rattle.statement.specs.Benches.{Text}
use Rattle.netlist.specs.Conditions.{IsSound}
use Rattle.statement.specs.Netlists.{Netlist}
use Rattle.statement.specs.Values.{known}
use Rattle.statement.specs.declared.kinds.Tri.{Tri}
use Rattle.statement.specs.declared.kinds.Tri.TheVariants.{X}
use Rattle.statement.specs.declared.lines.Fault.{Fault}
use Rattle.statement.specs.Runs.{Cycle, shown_at, strobe_at}
use Rattle.statement.specs.Stils.{StilFile}
use Rattle.statement.specs.Tests.{vectors_in}
use Rattle.bench_text.specs.declared.refusal.Names.TheVariants.{Design, Scanned}
use Rattle.scan_play.specs.Playing.{IsStrobeMet, IsPlayed, PlaysAs}
use Rattle.scan_play.specs.declared.played.Played.{Played}
use Rattle.scan_play.specs.declared.played.Played.TheVariants.{Passes, Fails, Unknown}
use Rattle.scan_play.proofs.Instances.{same_tri, decides_tri}
use Rattle.scan_play.proofs.RunLaws.{runs_once}
use Rattle.stil_read.specs.Laws.{AtMostOne}
use Rattle.stil_read.specs.Reading.{StandsFor}
use Rattle.stil_vectors.specs.Fitting.{FitsNetlist}
use Rattle.good_files.specs.ScanOff.{design_chains}
use Rattle.scan_insert.specs.Scanned.{scanned_of}
use Rattle.commands.specs.Due.{Deliver}
use Rattle.commands.specs.Laws.{IsExclusive}
use Rattle.commands.specs.declared.ending.Finding.TheVariants.{Fine}
use Rattle.command_steps.specs.Steps.{named_fault, netlist, test, value}
use Rattle.command_steps.specs.declared.refusal.Refusal.TheVariants.{NotStil, StilDoesNotFit}
use Rattle.command_steps.proofs.Single.{IsOneKind, fault_single, given, netlist_single, test_single, then_one, then_one_where, value_single}
use Rattle.test_commands.specs.ChainTests.{chain_test_text, chaintest_due, hardware_of}
use Rattle.test_commands.specs.Grades.{grade_due}
use Rattle.test_commands.specs.Plays.{play_due, played_finding, played_line}
use Rattle.test_commands.specs.inner.ChainTrials.{bytes_due, fit_due, test_due, told_due}
use Rattle.test_commands.specs.inner.GradeTrials.{grade_bytes_due, grade_fit_due, graded_due}
use Rattle.test_commands.specs.inner.Trials.{answer_due, fault_due, file_due, trial_due}
use Rattle.test_commands.proofs.PlayLemmas.{known_is_not_x}

-- ---- `play`: the answer is determined

bits_differ : (b : Bool) (v : Tri) (o : Option Tri) → o ≡ Some v → v ≡ known b → o ≡ Some (known (not b)) → ⊥
bits_differ true v o s k n = let e : Some (known true) ≡ Some (known false) = subst (λ (w : Tri). Some w ≡ Some (known false)) k (sym s ∙ n) in cc
bits_differ false v o s k n = let e : Some (known false) ≡ Some (known true) = subst (λ (w : Tri). Some w ≡ Some (known true)) k (sym s ∙ n) in cc

not_shown : (b : Bool) (v : Tri) (o : Option Tri) → o ≡ Some v → v ≡ known b → o ≡ Some X → ⊥
not_shown true v o s k x = let e : Some (known true) ≡ Some X = subst (λ (w : Tri). Some w ≡ Some X) k (sym s ∙ x) in cc
not_shown false v o s k x = let e : Some (known false) ≡ Some X = subst (λ (w : Tri). Some w ≡ Some X) k (sym s ∙ x) in cc

module _ (cycles : List Cycle) (shown : List (List Tri)) where
  fails_unmet : (c o : ℕ) → IsStrobeMet cycles shown c o → IsPlayed cycles shown (Fails c o) → ⊥
  fails_unmet c o (inl x) fails = known_is_not_x fails.1.0 (strobe_at cycles c o) x fails.1.1
  fails_unmet c o (inr s) fails = bits_differ fails.1.0 (strobe_at cycles c o) (shown_at shown c o) s fails.1.1 fails.1.2

  unknown_unmet : (c o : ℕ) → IsStrobeMet cycles shown c o → IsPlayed cycles shown (Unknown c o) → ⊥
  unknown_unmet c o (inl x) fails = known_is_not_x fails.1.0 (strobe_at cycles c o) x fails.1.1
  unknown_unmet c o (inr s) fails = not_shown fails.1.0 (strobe_at cycles c o) (shown_at shown c o) s fails.1.1 fails.1.2

  one_finding : (a b : Played) → IsPlayed cycles shown a → IsPlayed cycles shown b → played_finding a ≡ played_finding b
  one_finding Passes Passes p q = refl
  one_finding Passes (Fails c o) p q = absurd (fails_unmet c o (p c o) q)
  one_finding Passes (Unknown c o) p q = absurd (unknown_unmet c o (p c o) q)
  one_finding (Fails c o) Passes p q = absurd (fails_unmet c o (q c o) p)
  one_finding (Fails c o) (Fails d u) p q = refl
  one_finding (Fails c o) (Unknown d u) p q = refl
  one_finding (Unknown c o) Passes p q = absurd (unknown_unmet c o (q c o) p)
  one_finding (Unknown c o) (Fails d u) p q = refl
  one_finding (Unknown c o) (Unknown d u) p q = refl

module _ (n : Netlist) (sound : IsSound n) where
  play_once : (f : Option Fault) (cycles : List Cycle) (a b : Played) → PlaysAs n f cycles a → PlaysAs n f cycles b → played_finding a ≡ played_finding b
  play_once f cycles a b p q =
      let same = runs_once same_tri decides_tri _ f n sound.closed sound.acyclic _ cycles p.0 q.0 p.1 q.1 in
      one_finding cycles q.0 a b (subst (λ s. IsPlayed cycles s a) same p.2) q.2

  answer_once : (f : Option Fault) (file : StilFile) → IsOneKind (answer_due n f file)
  answer_once f file c d p q =
      given c d (Deliver [] (played_line n p.0) (played_finding p.0)) (Deliver [] (played_line n q.0) (played_finding q.0)) p.2 q.2
      (play_once f (vectors_in file) p.0 q.0 p.1.plays q.1.plays)

  trial_once : (f : Option Fault) (file : StilFile) → IsOneKind (trial_due n f file)
  trial_once f file = then_one (test (FitsNetlist file n) StilDoesNotFit) (λ _. answer_due n f file) (test_single (FitsNetlist file n) StilDoesNotFit) (λ _. answer_once f file)

  file_once : AtMostOne → (f : Option Fault) (stil : Text) → IsOneKind (file_due stil n f)
  file_once one f stil = then_one (value StandsFor NotStil stil) (trial_due n f) (value_single StandsFor NotStil stil (one stil)) (λ file. trial_once f file)

  fault_once : AtMostOne → (text : Option Text) (stil : Text) → IsOneKind (fault_due text stil n)
  fault_once one text stil = then_one (named_fault n text) (file_due stil n) (fault_single n sound text) (λ f. file_once one f stil)

pub play_exclusive : AtMostOne → (fault : Option Text) → IsExclusive (play_due fault)
play_exclusive one fault [] c d p q = absurd p
play_exclusive one fault (net ∷ []) c d p q = absurd p
play_exclusive one fault (net ∷ stil ∷ []) c d p q =
    then_one_where (netlist Scanned net) (fault_due fault stil) (netlist_single Scanned net)
    (λ n is. fault_once n is.1 one fault stil) c d p q
play_exclusive one fault (net ∷ stil ∷ more ∷ others) c d p q = absurd p

-- ---- `chaintest`

told_once : (n : Netlist) (chains : List (List ℕ)) (file : StilFile) → IsOneKind (told_due n chains file)
told_once n chains file c d p q =
    let text = chain_test_text (scanned_of n chains) (hardware_of n chains) in
    given c d (Deliver [] (text p.0) Fine) (Deliver [] (text q.0) Fine) p.2 q.2 refl

fit_once : (n : Netlist) (chains : List (List ℕ)) (file : StilFile) → IsOneKind (fit_due n chains file)
fit_once n chains file =
    then_one (test (FitsNetlist file (scanned_of n chains)) StilDoesNotFit) (λ _. told_due n chains file) (test_single (FitsNetlist file (scanned_of n chains)) StilDoesNotFit) (λ _. told_once n chains file)

pub chaintest_exclusive : AtMostOne → (asked : ℕ) → IsExclusive (chaintest_due asked)
chaintest_exclusive one asked [] c d p q = absurd p
chaintest_exclusive one asked (net ∷ []) c d p q = absurd p
chaintest_exclusive one asked (net ∷ stil ∷ []) c d p q =
    then_one (netlist Design net) (bytes_due asked stil) (netlist_single Design net)
    (λ n. then_one (value StandsFor NotStil stil) (test_due asked n) (value_single StandsFor NotStil stil (one stil)) (λ file. fit_once n (design_chains n asked) file)) c d p q
chaintest_exclusive one asked (net ∷ stil ∷ more ∷ others) c d p q = absurd p

-- ---- `grade`

graded_once : (asked : ℕ) (n : Netlist) (file : StilFile) → IsOneKind (graded_due asked n file)
graded_once asked n file c d p q = given c d (Deliver (p.0 ∷ []) p.1 Fine) (Deliver (q.0 ∷ []) q.1 Fine) p.3 q.3 refl

grade_fit_once : (asked : ℕ) (n : Netlist) (file : StilFile) → IsOneKind (grade_fit_due asked n file)
grade_fit_once asked n file =
    let fits = FitsNetlist file (scanned_of n (design_chains n asked)) in
    then_one (test fits StilDoesNotFit) (λ _. graded_due asked n file) (test_single fits StilDoesNotFit) (λ _. graded_once asked n file)

pub grade_exclusive : AtMostOne → (asked : ℕ) → IsExclusive (grade_due asked)
grade_exclusive one asked [] c d p q = absurd p
grade_exclusive one asked (net ∷ []) c d p q = absurd p
grade_exclusive one asked (net ∷ stil ∷ []) c d p q =
    then_one (netlist Design net) (grade_bytes_due asked stil) (netlist_single Design net)
    (λ n. then_one (value StandsFor NotStil stil) (grade_fit_due asked n) (value_single StandsFor NotStil stil (one stil)) (λ file. grade_fit_once asked n file)) c d p q
grade_exclusive one asked (net ∷ stil ∷ more ∷ others) c d p q = absurd p

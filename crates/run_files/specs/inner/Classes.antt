-- What is asked for of classes, where the faults that are asked for are marked.
use Rattle.std.specs.Prelude.{ℕ, ◌+◌, ◌≡◌, ◌&&◌, ◌==◌, Bool, true, cond, List, [], ◌∷◌, length, map, slice_index, ◌<◌, Some}
use Rattle.std.specs.List.{slice_get}
use Rattle.fault_collapse.specs.Numbers.{Classes}
use Rattle.word_sim.specs.Never.{unmarked}
use Rattle.list_core.specs.declared.verdicts.Verdict.{Verdict}
use Rattle.list_core.specs.Verdicts.{one_if_class_detected, verdict_at}
use Rattle.run_files.specs.Runs.{count_true}
use Rattle.run_files.specs.declared.asked.AskedClasses.{AskedClasses}
use Rattle.run_files.specs.inner.Spread.{unmarked_weights}

-- how many of the faults that are asked for are of this class
abbrev pub asked_in : List ℕ → List Bool → ℕ → ℕ
asked_in [] marks class = 0
asked_in (c ∷ cs) [] class = 0
asked_in (c ∷ cs) (m ∷ ms) class = cond (m && (c == class)) 1 0 + asked_in cs ms class

-- one of them at least is
pub record IsAskedClass (numbers : List ℕ) (marks : List Bool) (class : ℕ) : Type 0 where
  pub place : ℕ
  pub of_class : slice_get numbers place ≡ Some class
  pub marked : slice_get marks place ≡ Some true

-- how many of them are of a class that is detected
abbrev pub detected_in : List ℕ → List Bool → List Verdict → ℕ
detected_in [] marks verdicts = 0
detected_in (c ∷ cs) [] verdicts = 0
detected_in (c ∷ cs) (m ∷ ms) verdicts = cond m (one_if_class_detected (verdict_at verdicts c)) 0 + detected_in cs ms verdicts

abbrev pub is_zero : ℕ → Bool
is_zero k = k == 0

-- for each class how many of them are of it
pub record AreWeights (classes : Classes) (marks : List Bool) (weights : List ℕ) : Type 0 where
  pub size : length weights ≡ length classes.representatives
  pub each : (class : ℕ) → class < length classes.representatives → slice_index weights class ≡ asked_in classes.numbers marks class

-- marks of the classes of which none is asked for, and of the others the representatives and weights
pub record AreAskedClasses (classes : Classes) (marks : List Bool) (a : AskedClasses) : Type 0 where
  pub weights : List ℕ
  pub are_weights : AreWeights classes marks weights
  pub others : a.others.items ≡ map is_zero weights
  pub faults_are : a.faults.items ≡ unmarked a.others.items classes.representatives
  pub weights_are : a.weights.items ≡ unmarked_weights a.others.items weights
  pub count : a.count ≡ count_true marks

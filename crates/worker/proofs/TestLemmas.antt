-- Tests that aren't published yet, one after the other.
use Rattle.std.proofs.Common.{◌≡◌, List, [], ◌∷◌, ◌++◌, subst, sym}
use Rattle.std.specs.Prelude.{Result, Ok, Err}
use Rattle.std.specs.Result.{OnErr, OnOk}
use Rattle.std.specs.List.{All}
use Rattle.std.proofs.lemmas.List.Elements.{All-head, All-push, All-tail}
use Rattle.cubes.specs.Cubes.{IsCubeOf}
use Rattle.list_core.specs.Subjects.{Subject}
use Rattle.worker.specs.declared.hands.Test.{Test}
use Rattle.worker.specs.inner.Tests.{AreTestsOf}

-- one test more, or the same where memory was refused
pub more_or_same : {A E : Type 0} (Q : Type 0) (j : Subject) (tests after : List Test) (t : Test) (r : Result A E) → OnOk r (after ≡ tests ++ t ∷ [])
    → OnErr r ((after ≡ tests) × Q) → AreTestsOf j tests → IsCubeOf j.netlist j.holds t.cube → AreTestsOf j after
more_or_same Q j tests after t (Ok x) more same all cube =
    subst (AreTestsOf j) (sym more) (All-push (λ (t : Test). IsCubeOf j.netlist j.holds t.cube) tests t all cube)
more_or_same Q j tests after t (Err e) more same all cube = subst (AreTestsOf j) (sym same.0) all

-- the first of those that are left, and the others
pub next_test : (j : Subject) (left : List Test) (t : Test) (rest : List Test) → left ≡ t ∷ rest → AreTestsOf j left → IsCubeOf j.netlist j.holds t.cube × AreTestsOf j rest
next_test j left t rest is all =
    let P : Test → Type 0 = λ (x : Test). IsCubeOf j.netlist j.holds x.cube in
    let these : All P (t ∷ rest) = subst (All P) is all in
    (All-head P t rest these, All-tail P t rest these)

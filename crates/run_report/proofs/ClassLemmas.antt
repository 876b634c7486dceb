-- The faults of a netlist, their classes, and what detects those of a class.
use Rattle.std.proofs.Common.{◌≡◌, ℕ, ◌<◌, List, [], ◌∷◌, length, map, get_or, Some, refl, sym, ◌∙◌, ap, arith, length-append}
use Rattle.std.specs.List.{flat_map, slice_get}
use Rattle.std.proofs.lemmas.Option.{get_or_from_slice_get, slice_get_within}
use Rattle.statement.specs.declared.lines.Fault.{Fault}
use Rattle.statement.specs.declared.lines.Point.{Point}
use Rattle.statement.specs.Netlists.{Definition, Netlist, signals}
use Rattle.netlist.specs.Conditions.{IsSound}
use Rattle.statement.specs.Patterns.{Pattern, IsDetectedAt, IsLastDetected}
use Rattle.fault_universe.specs.Laws.{TextsDiffer}
use Rattle.fault_universe.specs.Universe.{all_lines}
use Rattle.statement.specs.Faults.{lines_of, universe_of}
use Rattle.fault_universe.proofs.FaultLists.{length-faults}
use Rattle.fault_collapse.specs.Classes.{AreClasses, Represents}
use Rattle.fault_collapse.specs.Joined.{IsEquivalent}
use Rattle.fault_collapse.specs.Laws.{DetectedAlike}
use Rattle.fault_collapse.specs.Numbers.{Classes}
use Rattle.word_sim.specs.Hits.{IsNeverDetected}

-- ---- faults

lines_some : (n : Netlist) (xs : List ℕ) → 0 < length xs → 0 < length (flat_map (lines_of n) xs)
lines_some n [] lt = absurd (omega arith)
lines_some n (x ∷ xs) lt =
    let size = length-append (lines_of n x) (flat_map (lines_of n) xs) in
    omega arith

-- every netlist has a fault
pub some_fault : (n : Netlist) → IsSound n → 0 < length (universe_of n)
some_fault n sound =
    let all = length-append n.inputs (map (λ (d : Definition). d.id) n.definitions) in
    let some = lines_some n (signals n) (omega (arith, all, sound.sized.input)) in
    omega (arith, length-faults (all_lines n), some)

-- ---- classes

-- a fault of a class is equivalent to its representative
pub equivalent : (n : Netlist) (classes : Classes) → AreClasses n classes → (place class : ℕ) (f g : Fault)
    → slice_get (universe_of n) place ≡ Some f → slice_get classes.numbers place ≡ Some class → Represents classes class g → IsEquivalent n f g
equivalent n classes are place class f g at number represents =
    let first = are.first class (slice_get_within classes.representatives class g represents) in
    let same : get_or classes.numbers place 0 ≡ get_or classes.numbers first.place 0 =
    get_or_from_slice_get classes.numbers place class 0 number ∙ sym first.member in
    (are.equivalent place first.place f g at (first.representative g represents)).0 same

-- two classes have two representatives
pub representatives_differ : TextsDiffer → (n : Netlist) → IsSound n → (classes : Classes) → AreClasses n classes
    → (i j : ℕ) (f : Fault) → slice_get classes.representatives i ≡ Some f → slice_get classes.representatives j ≡ Some f → i ≡ j
representatives_differ law n sound classes are i j f p q =
    let a = are.first i (slice_get_within classes.representatives i f p) in
    let b = are.first j (slice_get_within classes.representatives j f q) in
    let place = law n a.place b.place f f sound (a.representative f p) (b.representative f q) refl in
    sym a.member ∙ (ap (λ k. get_or classes.numbers k 0) place ∙ b.member)

-- ---- what detects the faults of a class

module _ (n : Netlist) (sound : IsSound n) (alike : DetectedAlike) (f g : Fault) (same : IsEquivalent n f g) (patterns : List Pattern) where
  pub to_member : (place : ℕ) (point : Point) → IsDetectedAt n patterns g place point → IsDetectedAt n patterns f place point
  to_member place point d = record { pattern = d.pattern; at = d.at; detects = (alike n f g d.pattern.inputs d.pattern.cells point sound same).1 d.detects }

  pub to_representative : (place : ℕ) (point : Point) → IsDetectedAt n patterns f place point → IsDetectedAt n patterns g place point
  to_representative place point d = record { pattern = d.pattern; at = d.at; detects = (alike n f g d.pattern.inputs d.pattern.cells point sound same).0 d.detects }

  -- a fault of a class is last detected as the class's representative is
  pub last_alike : (place : ℕ) (point : Point) → IsLastDetected n patterns g place point → IsLastDetected n patterns f place point
  last_alike place point d = record {
    here = to_member place point d.here;
    last = λ later p lt e. d.last later p lt (to_representative later p e);
    first = λ p before e. d.first p before (to_representative place p e);
  }

  pub never_alike : IsNeverDetected n patterns g → IsNeverDetected n patterns f
  never_alike never place p e = never place p (to_representative place p e)

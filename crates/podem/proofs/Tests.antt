-- Where two known values at a point differ, every pattern with the decided bits tells the fault there.
use Rattle.std.proofs.Common.{◌≡◌, ℕ, ◌<◌, Bool, true, false, map, length, get_or, Option, Some, None, refl, sym, ◌∙◌, ap, subst, inl, inr, arith}
use Rattle.std.specs.List.{All, Contains}
use Rattle.std.proofs.lemmas.Option.{slice_get_within, get_or_from_slice_get, slice_get-get_or}
use Rattle.std.proofs.lemmas.List.{length-map, length-append, get_or-map, get_or_append_left}
use Rattle.std.proofs.lemmas.List.Elements.{All-contains, All-map, All-append}
use Rattle.statement.specs.declared.kinds.Tri.TheVariants.{X}
use Rattle.statement.specs.declared.lines.Fault.{Fault}
use Rattle.statement.specs.Patterns.{Holds, observed, Detects, Pattern}
use Rattle.netlist.specs.Holds.{AreHoldsOf}
use Rattle.statement.specs.declared.lines.Point.{Point}
use Rattle.statement.specs.declared.lines.Point.TheVariants.{Output, Cell}
use Rattle.statement.specs.Netlists.{Definition, Netlist, cells}
use Rattle.netlist.specs.Conditions.{IsSound}
use Rattle.statement.specs.Values.{Settles, bits, outs, next, known, allows}
use Rattle.netlist.proofs.SomeSettled.{some_settled}
use Rattle.tri.specs.Labels.{good_of, held_value, labels, Follows, AreAbove}
use Rattle.tri.specs.Paths.{Path, decisions, IsTestPath}
use Rattle.tri.proofs.LabelLemmas.{outs_above, next_above}
use Rattle.cubes.specs.Cubes.{AgreesWith, IsPatternOf, IsCubeOf}
use Rattle.cubes.proofs.FillLemmas.{fill_fits}
use Rattle.redundancy_cert.specs.TestCubes.{IsTestCube}
use Rattle.pair_sim.proofs.Differing.{differ_there, driven_allowed, known_is}
use Rattle.podem.specs.Sources.{all_sources, sources, held, value_of, cube_of}
use Rattle.podem.proofs.Owns.{source_cases, cell_behind, any_source}

-- ---- the cube of a path

module _ (n : Netlist) (holds : Holds) (fit : AreHoldsOf n holds) (sound : IsSound n) (path : Path) (only : (x : ℕ) (b : Bool) → decisions path x ≡ Some b → Contains (sources n holds) x) where
  input_at : (k : ℕ) → k < length n.inputs → get_or n.inputs k 0 ≡ k
  input_at k l =
      let m = length-append n.inputs (map (λ (d : Definition). d.id) n.definitions) in
      sym (get_or_append_left n.inputs (map (λ (d : Definition). d.id) n.definitions) 0 k l) ∙ sound.formed.numbered k (omega arith)

  -- a held input isn't decided
  held_undecided : (k : ℕ) (b : Bool) → held holds k ≡ Some b → k < length n.inputs → decisions path k ≡ None
  held_undecided k b h l = none (decisions path k) refl
    where
      none : (o : Option Bool) → decisions path k ≡ o → o ≡ None
      none None e = refl
      none (Some c) e = elim (source_cases n holds k (only k c e)) [
        | inl input ↦ absurd (let z : Some b ≡ None = sym h ∙ input.1 in cc)
        | inr cell ↦ absurd (let z = cell_behind n k sound.formed.numbered cell in omega arith)
      ]

  pub cube_is : IsCubeOf n holds (cube_of n holds path)
  cube_is = record {
    inputs = length-map n.inputs (value_of holds path);
    cells = length-map (cells n) (λ (d : Definition). value_of holds path d.id);
    held = λ k b at.
        let is_held = get_or_from_slice_get holds k (Some b) None at in
        let l : k < length n.inputs = (let z = slice_get_within holds k (Some b) at in let e = fit in omega arith) in
        let m : k < length (map (value_of holds path) n.inputs) = (let e = length-map n.inputs (value_of holds path) in omega arith) in
        let value : value_of holds path k ≡ known b =
        ap (λ o. good_of o (held_value (held holds k))) (held_undecided k b is_held l) ∙ ap held_value is_held in
        slice_get-get_or (map (value_of holds path) n.inputs) k X m
        ∙ ap Some (get_or-map (value_of holds path) n.inputs k 0 X l ∙ (ap (value_of holds path) (input_at k l) ∙ value));
  }

module _ (f : Fault) (n : Netlist) (holds : Holds) (fit : AreHoldsOf n holds) (sound : IsSound n) (path : Path) (only : (x : ℕ) (b : Bool) → decisions path x ≡ Some b → Contains (sources n holds) x)
    (p : Pattern) (agrees : AgreesWith p (cube_of n holds path)) where
  pattern_is : IsPatternOf n holds p
  pattern_is = fill_fits n holds (cube_of n holds path) p agrees (cube_is n holds fit sound path only)

  follows : (a : ℕ → Bool) → Settles (bits None) n p.inputs p.cells a → Follows (decisions path) n a
  follows a s x b signal e =
      let P : ℕ → Type 0 = λ y. allows (value_of holds path y) (a y) ≡ true in
      let inputs : All P n.inputs = driven_allowed (λ y. y) (value_of holds path) a n.inputs p.inputs agrees.inputs s.0 in
      let states : All P (map (λ (d : Definition). d.id) (cells n)) =
      All-map P (λ (d : Definition). d.id) (cells n) (driven_allowed (λ (d : Definition). d.id) (value_of holds path) a (cells n) p.cells agrees.cells s.1) in
      let here : P x = All-contains P (all_sources n) x (All-append P n.inputs (map (λ (d : Definition). d.id) (cells n)) inputs states) (any_source n holds x (only x b e)) in
      known_is b (a x) (subst (λ o. allows (good_of o (held_value (held holds x))) (a x) ≡ true) e here)

  module _ (point : Point) (t : IsTestPath f n holds path point) where
    good : (a : ℕ → Bool) × Settles (bits None) n p.inputs p.cells a
    good = some_settled false (bits None) n p.inputs p.cells sound.formed.numbered sound.closed sound.acyclic pattern_is.inputs pattern_is.cells

    faulty : (a : ℕ → Bool) × Settles (bits (Some f)) n p.inputs p.cells a
    faulty = some_settled false (bits (Some f)) n p.inputs p.cells sound.formed.numbered sound.closed sound.acyclic pattern_is.inputs pattern_is.cells

    outs_are : AreAbove (outs (labels (Some f) (decisions path)) n t.label) (outs (bits None) n good.0) (outs (bits (Some f)) n faulty.0)
    outs_are = outs_above f (decisions path) n t.label good.0 faulty.0 holds p.inputs p.cells sound t.are good.1 faulty.1 pattern_is.obeys (follows good.0 good.1)

    next_are : AreAbove (next (labels (Some f) (decisions path)) n t.label) (next (bits None) n good.0) (next (bits (Some f)) n faulty.0)
    next_are = next_above f (decisions path) n t.label good.0 faulty.0 holds p.inputs p.cells sound t.are good.1 faulty.1 pattern_is.obeys (follows good.0 good.1)

    detected_if : (observed (bits None) n good.0 point ≡ observed (bits (Some f)) n faulty.0 point → ⊥) → Detects n f p.inputs p.cells point
    detected_if differs = record { good = good.0; faulty = faulty.0; good_settles = good.1; faulty_settles = faulty.1; differs = differs }

detected : (f : Fault) (n : Netlist) (holds : Holds) (fit : AreHoldsOf n holds) (sound : IsSound n) (path : Path) (only : (x : ℕ) (b : Bool) → decisions path x ≡ Some b → Contains (sources n holds) x)
    (p : Pattern) (agrees : AgreesWith p (cube_of n holds path)) (point : Point) → IsTestPath f n holds path point → Detects n f p.inputs p.cells point
detected f n holds fit sound path only p agrees (Output k) t =
    detected_if f n holds fit sound path only p agrees (Output k) t (differ_there _ _ _ k (outs_are f n holds fit sound path only p agrees (Output k) t) t.first)
detected f n holds fit sound path only p agrees (Cell k) t =
    detected_if f n holds fit sound path only p agrees (Cell k) t (differ_there _ _ _ k (next_are f n holds fit sound path only p agrees (Cell k) t) t.first.1)

pub test_cube : (f : Fault) (n : Netlist) (holds : Holds) → AreHoldsOf n holds → IsSound n → (path : Path) → ((x : ℕ) (b : Bool) → decisions path x ≡ Some b → Contains (sources n holds) x)
    → (point : Point) → IsTestPath f n holds path point → IsTestCube f n holds (cube_of n holds path) point
test_cube f n holds fit sound path only point t = record {
  is_cube = cube_is n holds fit sound path only;
  detects = λ p agrees. detected f n holds fit sound path only p agrees point t;
}

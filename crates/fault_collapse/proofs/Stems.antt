-- Where stems and their faults stand among the lines.
use Rattle.std.proofs.Common.{◌≡◌, ℕ, ◌+◌, ◌*◌, ◌<◌, ◌≤◌, Bool, true, false, take, List, map, length, length-append, get_or, sym, ◌∙◌, ap, Some, arith}
use Rattle.std.specs.List.{Contains, flat_map, slice_get}
use mir.Val.{bool_byte}
use Rattle.std.proofs.lemmas.List.{get_or_append_left, get_or_default}
use Rattle.std.proofs.lemmas.List.Concat.{get_or-flat_map}
use Rattle.std.proofs.lemmas.List.Folds.{length-flat_map-take}
use Rattle.std.proofs.lemmas.Option.{slice_get-get_or}
use Rattle.statement.specs.declared.lines.Line.{Line}
use Rattle.statement.specs.declared.lines.Line.TheVariants.{Stem}
use Rattle.statement.specs.declared.lines.Fault.{Fault}
use Rattle.statement.specs.Netlists.{Definition, Netlist, signals, readers_of}
use Rattle.netlist.specs.Conditions.{IsNumbered}
use Rattle.netlist.proofs.Placed.{signals_length}
use Rattle.fault_universe.specs.Universe.{all_lines, branching}
use Rattle.statement.specs.Faults.{faults_of, lines_of}
use Rattle.fault_universe.proofs.LineLists.{one_more, room}
use Rattle.fault_universe.proofs.FaultLists.{pair_at}
use Rattle.fault_collapse.specs.inner.Merging.{stem_fault}

-- the fault of a stem
pub stem_fault_at : (lines : List Line) (place z b : ℕ) (w : Bool) → slice_get lines place ≡ Some (Stem z) → b ≡ bool_byte w
    → slice_get (flat_map faults_of lines) (2 * place + b) ≡ Some (stem_fault z w)
stem_fault_at lines place z b false e is =
    let at : 2 * place + b ≡ 2 * place = omega arith in
    ap (slice_get (flat_map faults_of lines)) at ∙ (pair_at lines place (Stem z) e).0
stem_fault_at lines place z b true e is =
    let at : 2 * place + b ≡ 2 * place + 1 = omega arith in
    ap (slice_get (flat_map faults_of lines)) at ∙ (pair_at lines place (Stem z) e).1

-- the two faults of a line
pub one_line : (lines : List Line) (faults : List Fault) → faults ≡ flat_map faults_of lines → (k : ℕ) (f g : Fault) → k < length lines
    → slice_get faults (2 * k) ≡ Some f → slice_get faults (2 * k + 1) ≡ Some g → Contains lines f.line × (f.line ≡ g.line)
one_line lines faults are k f g l e d =
    let line = slice_get-get_or lines k f.line l in
    let pair = pair_at lines k (get_or lines k f.line) line in
    let zero : Some f ≡ Some (record { line = get_or lines k f.line; value = false }) = sym e ∙ (ap (λ fs. slice_get fs (2 * k)) are ∙ pair.0) in
    let one : Some g ≡ Some (record { line = get_or lines k f.line; value = true }) = sym d ∙ (ap (λ fs. slice_get fs (2 * k + 1)) are ∙ pair.1) in
    let is : f ≡ record { line = get_or lines k f.line; value = false } = cc in
    let other : g ≡ record { line = get_or lines k f.line; value = true } = cc in
    let here = ap (λ (h : Fault). h.line) is in
    ((k, l, sym here), here ∙ sym (ap (λ (h : Fault). h.line) other))

-- the stem of one more signal
pub next_stem : (n : Netlist) → IsNumbered n → (x : ℕ) → x < length (signals n)
    → slice_get (all_lines n) (length (flat_map (lines_of n) (take x (signals n)))) ≡ Some (Stem x)
next_stem n numbered x l =
    let is : get_or (signals n) x 0 ≡ x = numbered x l in
    let room = length-flat_map-take (lines_of n) (signals n) x 0 l in
    let inside : length (flat_map (lines_of n) (take x (signals n))) < length (all_lines n) = omega arith in
    let at : length (flat_map (lines_of n) (take x (signals n))) + 0 ≡ length (flat_map (lines_of n) (take x (signals n))) = omega arith in
    slice_get-get_or (all_lines n) (length (flat_map (lines_of n) (take x (signals n)))) (Stem 0) inside
    ∙ ap (λ m. Some m) (ap (λ k. get_or (all_lines n) k (Stem 0)) (sym at)
    ∙ (get_or-flat_map (lines_of n) (signals n) x 0 0 (Stem 0) l (omega arith) ∙ ap (λ y. get_or (lines_of n y) 0 (Stem 0)) is))

-- how many lines the first signals have
abbrev pub lines_before : Netlist → ℕ → ℕ
lines_before n x = length (flat_map (lines_of n) (take x (signals n)))

-- the lines of one more signal
module _ (n : Netlist) (numbered : IsNumbered n) (x y : ℕ) (same : y ≡ x) (l : x < length (signals n)) (branches : List Line) (are : branches ≡ branching (readers_of n y)) where
  as_many : length (lines_of n x) ≡ 1 + length branches
  as_many =
      let e = ap (λ z. length (branching (readers_of n z))) same in
      let size = ap length are in
      omega arith

  pub more_lines : lines_before n (x + 1) ≡ lines_before n x + (1 + length branches)
  more_lines =
      ap length (one_more n numbered (lines_of n) x l) ∙ (length-append (flat_map (lines_of n) (take x (signals n))) (lines_of n x) ∙ ap (λ m. lines_before n x + m) as_many)

  pub lines_within : lines_before n x + (1 + length branches) ≤ length (all_lines n)
  lines_within = let e = as_many in let h = room n numbered (lines_of n) x l in omega arith

pub input_number : (n : Netlist) → IsNumbered n → (inputs : List ℕ) → inputs ≡ n.inputs → (k x : ℕ) → k < length inputs → x ≡ get_or inputs k x
    → (x ≡ k) × (k < length (signals n))
input_number n numbered inputs are k x l is =
    let size = signals_length n in
    let e = ap length are in
    let within : k < length (signals n) = omega arith in
    let same : get_or (signals n) k x ≡ get_or n.inputs k x = get_or_append_left n.inputs (map (λ (d : Definition). d.id) n.definitions) x k (omega arith) in
    (is ∙ (ap (λ xs. get_or xs k x) are ∙ (sym same ∙ (get_or_default (signals n) k x 0 within ∙ numbered k within))), within)

-- Where the signals and the definitions of the two frames of one slow line stand in a batch.
use Rattle.std.proofs.Common.{◌≡◌, ℕ, zero, suc, ◌+◌, ◌*◌, ◌<◌, ◌≤◌, Bool, true, false, cond, List, [], ◌∷◌, ◌++◌, map, length, nat_lt, Some, refl, sym, ◌∙◌, ap, subst, inl, inr, arith, length-append}
use Rattle.std.specs.List.{Contains, filter, slice_get}
use Rattle.std.proofs.lemmas.Bool.{cases_Bool, lt-ltb, le-ltb}
use Rattle.std.proofs.lemmas.List.{append-nil, length-map}
use Rattle.std.proofs.lemmas.List.Elements.{filter-append, Contains-append_left, Contains-append_right}
use Rattle.std.proofs.lemmas.Option.{none-some, same_Some}
use Rattle.statement.specs.declared.kinds.Kind.TheVariants.{And, Or, Buff, Const0, Const1}
use Rattle.statement.specs.declared.lines.Fault.{Fault}
use Rattle.statement.specs.Netlists.{Definition, Netlist, is_cell, cells, signals}
use Rattle.netlist.specs.Netlist.{define}
use Rattle.netlist.specs.Conditions.{IsNumbered}
use Rattle.netlist.proofs.Lists.{contains_nil, filter_contains}
use Rattle.netlist.proofs.Placed.{signal_from, signals_length}
use Rattle.transition_frames.specs.Frames.{source_of, second, tie}
use Rattle.transition_frames.proofs.Framed.{map_contains}
use Rattle.transition_batches.specs.Batches.{tie_at, hold_at, late_at, late_pins, in_first_of, in_second_of, gates_at, all_gates, batch_of}

-- ---- signals

abbrev pub to_batch : Netlist → ℕ → ℕ → ℕ
to_batch n j x = cond (nat_lt x (tie n)) x (x + 3 * j)

pub to_batch_below : (n : Netlist) (j x : ℕ) → x < tie n → to_batch n j x ≡ x
to_batch_below n j x l = ap (λ b. cond b x (x + 3 * j)) (lt-ltb x (tie n) l)

pub to_batch_from : (n : Netlist) (j x : ℕ) → tie n ≤ x → to_batch n j x ≡ x + 3 * j
to_batch_from n j x l = ap (λ b. cond b x (x + 3 * j)) (le-ltb x (tie n) l)

-- ---- kinds

pub first_of_is_cell : (n : Netlist) (fs : List Fault) (d : Definition) → is_cell (in_first_of n fs d) ≡ is_cell d
first_of_is_cell n fs d =
    let step : (b : Bool) → is_cell (cond b (define d.id d.kind (late_pins n fs d.id 0 d.pins)) d) ≡ is_cell d = elim [ true ↦ refl | false ↦ refl ] in
    step (is_cell d)

pub second_of_is_no_cell : (n : Netlist) (fs : List Fault) (d : Definition) → is_cell (in_second_of n fs d) ≡ false
second_of_is_no_cell n fs d =
    let step : (b : Bool) → is_cell d ≡ b
    → is_cell (cond b (define (d.id + length n.definitions) Buff d.pins) (define (d.id + length n.definitions) d.kind (late_pins n fs d.id 0 d.pins))) ≡ false =
    elim [ true ↦ λ e. refl | false ↦ λ e. e ] in
    step (is_cell d) refl

first_of_cells : (n : Netlist) (fs : List Fault) (ds : List Definition) → filter is_cell (map (in_first_of n fs) ds) ≡ map (in_first_of n fs) (filter is_cell ds)
first_of_cells n fs [] = refl
first_of_cells n fs (d ∷ ds) =
    let rest = first_of_cells n fs ds in
    let step : (b : Bool) → cond b (in_first_of n fs d ∷ filter is_cell (map (in_first_of n fs) ds)) (filter is_cell (map (in_first_of n fs) ds)) ≡ map (in_first_of n fs) (cond b (d ∷ filter is_cell ds) (filter is_cell ds)) =
    elim [ true ↦ ap (λ r. in_first_of n fs d ∷ r) rest | false ↦ rest ] in
    ap (λ b. cond b (in_first_of n fs d ∷ filter is_cell (map (in_first_of n fs) ds)) (filter is_cell (map (in_first_of n fs) ds))) (first_of_is_cell n fs d) ∙ step (is_cell d)

second_of_cells : (n : Netlist) (fs : List Fault) (ds : List Definition) → filter is_cell (map (in_second_of n fs) ds) ≡ []
second_of_cells n fs [] = refl
second_of_cells n fs (d ∷ ds) =
    ap (λ b. cond b (in_second_of n fs d ∷ filter is_cell (map (in_second_of n fs) ds)) (filter is_cell (map (in_second_of n fs) ds))) (second_of_is_no_cell n fs d) ∙ second_of_cells n fs ds

gates_at_cells : (n : Netlist) (i : ℕ) (g : Fault) → filter is_cell (gates_at n i g) ≡ []
gates_at_cells n i g =
    let x = source_of n g.line in
    let step : (v : Bool) → filter is_cell (
    define (tie_at n i) (cond v Const0 Const1) [] ∷ define (hold_at n i) (cond v And Or) (x ∷ tie_at n i ∷ []) ∷ define (late_at n i) (cond v Or And) (second n x ∷ hold_at n i ∷ []) ∷ []
    ) ≡ [] = elim [ true ↦ refl | false ↦ refl ] in
    step g.value

pub gate_at_is_no_cell : (n : Netlist) (i : ℕ) (g : Fault) (d : Definition) → Contains (gates_at n i g) d → is_cell d ≡ false
gate_at_is_no_cell n i g d c = elim (cases_Bool (is_cell d)) [
  | inl y ↦ absurd (contains_nil d (subst (λ (ds : List Definition). Contains ds d) (gates_at_cells n i g) (filter_contains is_cell (gates_at n i g) d c y)))
  | inr e ↦ e
]

all_gates_cells : (n : Netlist) (k : ℕ) (fs : List Fault) → filter is_cell (all_gates n k fs) ≡ []
all_gates_cells n k [] = refl
all_gates_cells n k (g ∷ fs) =
    filter-append is_cell (gates_at n k g) (all_gates n (k + 1) fs)
    ∙ (ap (λ r. r ++ filter is_cell (all_gates n (k + 1) fs)) (gates_at_cells n k g) ∙ all_gates_cells n (k + 1) fs)

-- the cells of a batch are those of the netlist, each with its pin read anew
pub cells_batched : (n : Netlist) (fs : List Fault) → cells (batch_of n fs) ≡ map (in_first_of n fs) (cells n)
cells_batched n fs =
    let ones = map (in_first_of n fs) n.definitions in
    let twos = map (in_second_of n fs) n.definitions in
    filter-append is_cell (ones ++ twos) (all_gates n 0 fs)
    ∙ (ap (λ r. filter is_cell (ones ++ twos) ++ r) (all_gates_cells n 0 fs)
    ∙ (append-nil (filter is_cell (ones ++ twos))
    ∙ (filter-append is_cell ones twos
    ∙ (ap (λ r. r ++ filter is_cell twos) (first_of_cells n fs n.definitions)
    ∙ (ap (λ r. map (in_first_of n fs) (cells n) ++ r) (second_of_cells n fs n.definitions)
    ∙ append-nil (map (in_first_of n fs) (cells n)))))))

-- ---- what a definition becomes

pub first_of_cell : (n : Netlist) (fs : List Fault) (d : Definition) → is_cell d ≡ true → in_first_of n fs d ≡ define d.id d.kind (late_pins n fs d.id 0 d.pins)
first_of_cell n fs d e = ap (λ b. cond b (define d.id d.kind (late_pins n fs d.id 0 d.pins)) d) e

pub first_of_gate : (n : Netlist) (fs : List Fault) (d : Definition) → is_cell d ≡ false → in_first_of n fs d ≡ d
first_of_gate n fs d e = ap (λ b. cond b (define d.id d.kind (late_pins n fs d.id 0 d.pins)) d) e

pub second_of_cell : (n : Netlist) (fs : List Fault) (d : Definition) → is_cell d ≡ true → in_second_of n fs d ≡ define (d.id + length n.definitions) Buff d.pins
second_of_cell n fs d e =
    ap (λ b. cond b (define (d.id + length n.definitions) Buff d.pins) (define (d.id + length n.definitions) d.kind (late_pins n fs d.id 0 d.pins))) e

pub second_of_gate : (n : Netlist) (fs : List Fault) (d : Definition) → is_cell d ≡ false
    → in_second_of n fs d ≡ define (d.id + length n.definitions) d.kind (late_pins n fs d.id 0 d.pins)
second_of_gate n fs d e =
    ap (λ b. cond b (define (d.id + length n.definitions) Buff d.pins) (define (d.id + length n.definitions) d.kind (late_pins n fs d.id 0 d.pins))) e

pub first_of_id : (n : Netlist) (fs : List Fault) (d : Definition) → (in_first_of n fs d).id ≡ d.id
first_of_id n fs d =
    let step : (b : Bool) → (cond b (define d.id d.kind (late_pins n fs d.id 0 d.pins)) d).id ≡ d.id = elim [ true ↦ refl | false ↦ refl ] in
    step (is_cell d)

-- ---- members

pub first_of_member : (n : Netlist) (fs : List Fault) (d : Definition) → Contains n.definitions d → Contains (batch_of n fs).definitions (in_first_of n fs d)
first_of_member n fs d c =
    let ones = map (in_first_of n fs) n.definitions in
    let twos = map (in_second_of n fs) n.definitions in
    Contains-append_left (ones ++ twos) (all_gates n 0 fs) (in_first_of n fs d)
    (Contains-append_left ones twos (in_first_of n fs d) (map_contains (in_first_of n fs) n.definitions d c))

pub second_of_member : (n : Netlist) (fs : List Fault) (d : Definition) → Contains n.definitions d → Contains (batch_of n fs).definitions (in_second_of n fs d)
second_of_member n fs d c =
    let ones = map (in_first_of n fs) n.definitions in
    let twos = map (in_second_of n fs) n.definitions in
    Contains-append_left (ones ++ twos) (all_gates n 0 fs) (in_second_of n fs d)
    (Contains-append_right ones twos (in_second_of n fs d) (map_contains (in_second_of n fs) n.definitions d c))

-- the gates of the line at place k + i, where the first of these lines stands at place k
placed_member : (n : Netlist) (k : ℕ) (fs : List Fault) (i : ℕ) (g : Fault) (d : Definition) → slice_get fs i ≡ Some g → Contains (gates_at n (k + i) g) d
    → Contains (all_gates n k fs) d
placed_member n k [] i g d here c = absurd (none-some g here)
placed_member n k (h ∷ fs) zero g d here c =
    let same : h ≡ g = same_Some h g here in
    let place : k + 0 ≡ k = omega arith in
    Contains-append_left (gates_at n k h) (all_gates n (k + 1) fs) d
    (subst (λ (e : Fault). Contains (gates_at n k e) d) (sym same) (subst (λ p. Contains (gates_at n p g) d) place c))
placed_member n k (h ∷ fs) (suc i) g d here c =
    let place : k + suc i ≡ k + 1 + i = omega arith in
    Contains-append_right (gates_at n k h) (all_gates n (k + 1) fs) d
    (placed_member n (k + 1) fs i g d here (subst (λ p. Contains (gates_at n p g) d) place c))

pub gate_member : (n : Netlist) (fs : List Fault) (i : ℕ) (g : Fault) (d : Definition) → slice_get fs i ≡ Some g → Contains (gates_at n i g) d
    → Contains (batch_of n fs).definitions d
gate_member n fs i g d here c =
    let place : i ≡ 0 + i = omega arith in
    Contains-append_right (map (in_first_of n fs) n.definitions ++ map (in_second_of n fs) n.definitions) (all_gates n 0 fs) d
    (placed_member n 0 fs i g d here (subst (λ p. Contains (gates_at n p g) d) place c))

-- what is below the gates of the slow lines is a signal
pub batch_signal : (n : Netlist) (fs : List Fault) → IsNumbered (batch_of n fs) → (x : ℕ) → x < tie n → Contains (signals (batch_of n fs)) x
batch_signal n fs numbered x l =
    let ones = map (in_first_of n fs) n.definitions in
    let twos = map (in_second_of n fs) n.definitions in
    let first : length ones ≡ length n.definitions = length-map n.definitions (in_first_of n fs) in
    let second : length twos ≡ length n.definitions = length-map n.definitions (in_second_of n fs) in
    let both : length (ones ++ twos) ≡ length ones + length twos = length-append ones twos in
    let all : length (ones ++ twos ++ all_gates n 0 fs) ≡ length (ones ++ twos) + length (all_gates n 0 fs) = length-append (ones ++ twos) (all_gates n 0 fs) in
    let count : length (signals (batch_of n fs)) ≡ length n.inputs + length (ones ++ twos ++ all_gates n 0 fs) = signals_length (batch_of n fs) in
    signal_from (batch_of n fs) numbered x (omega arith)

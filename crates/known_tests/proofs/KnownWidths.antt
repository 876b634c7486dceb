-- How wide the cycles of a file are that sets the known inputs: as they are for a netlist of its pins alone.
use Rattle.std.proofs.Common.{◌≡◌, ◌≤◌, ℕ, zero, suc, ◌+◌, false, cond, List, [], ◌∷◌, ◌++◌, length, map, get_or, refl, sym, ◌∙◌, ap, ap₂, subst, codes, arith, append_assoc, append-nil, length-append}
use Rattle.std.specs.List.{All, list_any}
use Rattle.std.specs.Prelude.{◌==◌, ◌||◌}
use Rattle.std.proofs.lemmas.Bool.{ne_eqb}
use Rattle.std.proofs.lemmas.List.{get_or-append-add, length-map}
use Rattle.std.proofs.lemmas.List.Elements.{All-weaker}
use Rattle.statement.specs.Netlists.{Definition, Netlist, name_of}
use Rattle.statement.specs.Runs.{Cycle, numbers_from, output_name}
use Rattle.statement.specs.Stils.{scan_inputs, scan_outputs}
use Rattle.statement.specs.Tests.{vectors_in}
use Rattle.scan_insert.proofs.Numbers.{length-numbers_from}
use Rattle.scan_play.specs.Cycles.{IsCycleOf}
use Rattle.stil_vectors.specs.Fitting.{FitsNetlist}
use Rattle.stil_vectors.specs.Laws.{FittingCycles}
use Rattle.unknown_inputs.specs.Opened.{opened, opened_number}
use Rattle.unknown_inputs.specs.Unknowns.{known_part}
use Rattle.known_tests.specs.Laws.{KnownCycles}

-- ---- names by their places

abbrev name_in : List (List ℕ) → ℕ → List ℕ
name_in names x = get_or names x []

names_at : (pre xs post : List (List ℕ)) → map (name_in (pre ++ (xs ++ post))) (numbers_from (length pre) (length xs)) ≡ xs
names_at pre [] post = refl
names_at pre (x ∷ xs) post =
    let longer = pre ++ x ∷ [] in
    let here : length pre + 0 ≡ length pre = omega arith in
    let first : name_in (pre ++ (x ∷ (xs ++ post))) (length pre) ≡ x = ap (name_in (pre ++ (x ∷ (xs ++ post)))) (sym here) ∙ get_or-append-add pre (x ∷ (xs ++ post)) 0 [] in
    let size : length longer ≡ length pre + 1 = length-append pre (x ∷ []) in
    let whole : longer ++ (xs ++ post) ≡ pre ++ (x ∷ (xs ++ post)) = append_assoc pre (x ∷ []) (xs ++ post) in
    let rest : map (name_in (pre ++ (x ∷ (xs ++ post)))) (numbers_from (length pre + 1) (length xs)) ≡ xs =
    subst (λ (names : List (List ℕ)). map (name_in names) (numbers_from (length pre + 1) (length xs)) ≡ xs) whole
    (subst (λ (k : ℕ). map (name_in (longer ++ (xs ++ post))) (numbers_from k (length xs)) ≡ xs) size (names_at longer xs post)) in
    ap₂ (λ (y : List ℕ) (ys : List (List ℕ)). y ∷ ys) first rest

-- ---- numbers behind those of inputs

none_equal : (x first k : ℕ) → first + k ≤ x → list_any (λ y. y == x) (numbers_from first k) ≡ false
none_equal x first zero le = refl
none_equal x first (suc k) le =
    let here : (first == x) ≡ false = ne_eqb first x (λ e. absurd (omega (arith, e, le))) in
    ap (λ b. b || list_any (λ y. y == x) (numbers_from (first + 1) k)) here ∙ none_equal x (first + 1) k (omega (arith, le))

mapped_behind : (f g : ℕ → List ℕ) (low first k : ℕ) → ((x : ℕ) → low ≤ x → f x ≡ g x) → low ≤ first → map f (numbers_from first k) ≡ map g (numbers_from first k)
mapped_behind f g low first zero same le = refl
mapped_behind f g low first (suc k) same le =
    ap₂ (λ (y : List ℕ) (ys : List (List ℕ)). y ∷ ys) (same first le) (mapped_behind f g low (first + 1) k same (omega (arith, le)))

-- ---- a netlist of a file's pins alone

module _ (ins outs : List (List ℕ)) (definitions : List Definition) where
  abbrev pins_alone : Netlist
  pins_alone = record {
    names = ins ++ outs;
    inputs = numbers_from 0 (length ins);
    outputs = numbers_from (length ins) (length outs);
    definitions = definitions;
  }

  inputs_named : map (name_of pins_alone) pins_alone.inputs ≡ ins
  inputs_named = names_at [] ins outs

  outputs_named : map (output_name pins_alone) pins_alone.outputs ≡ outs
  outputs_named =
      mapped_behind (output_name pins_alone) (name_of pins_alone) (length ins) (length ins) (length outs)
      (λ x le. ap (λ b. cond b (codes "SC__o_" ++ name_of pins_alone x) (name_of pins_alone x)) (none_equal x 0 (length ins) (omega (arith, le)))) (omega arith)
      ∙ (ap (λ (names : List (List ℕ)). map (name_in names) (numbers_from (length ins) (length outs))) (ap (λ (post : List (List ℕ)). ins ++ post) (sym (append-nil outs)))
      ∙ names_at ins outs [])

-- ---- files

pub known_widths : FittingCycles → KnownCycles
known_widths law f n unknown is fits =
    let ins = f.pi ++ scan_inputs f in
    let outs = f.po ++ scan_outputs f in
    let m = pins_alone ins outs n.definitions in
    let fit : FitsNetlist f m = record { inputs = sym (inputs_named ins outs n.definitions); outputs = sym (outputs_named ins outs n.definitions); chains = fits.chains } in
    let wide : All (IsCycleOf m) (vectors_in f) = law f m is fit in
    let in_size : length m.inputs ≡ length (opened n unknown).inputs =
    length-numbers_from 0 (length ins) ∙ (ap length fits.inputs ∙ (length-map (known_part unknown n.inputs) (name_of n)
    ∙ sym (length-map (known_part unknown n.inputs) (opened_number n unknown)))) in
    let out_size : length m.outputs ≡ length (opened n unknown).outputs =
    length-numbers_from (length ins) (length outs) ∙ (ap length fits.outputs ∙ (length-map n.outputs (output_name n) ∙ sym (length-map n.outputs (opened_number n unknown)))) in
    All-weaker (IsCycleOf m) (IsCycleOf (opened n unknown)) (λ (c : Cycle) w. record { drive = w.drive ∙ in_size; strobe = w.strobe ∙ out_size }) (vectors_in f) wide

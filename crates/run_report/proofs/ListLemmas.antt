-- Lists one element more.
use Rattle.std.proofs.Common.{◌≡◌, ℕ, zero, suc, ◌+◌, ◌≤◌, List, ◌∷◌, [], ◌++◌, length, take, Some, refl, sym, ◌∙◌, ap, ap₂, arith, add-one, take_all}
use Rattle.std.specs.List.{flat_map, slice_get, zip}
use Rattle.std.proofs.lemmas.List.{flat_map_more}
use Rattle.std.proofs.lemmas.List.Filters.{length-filter_both}
use Rattle.std.proofs.lemmas.Slice.Zip.{length-zip}
use Rattle.statement.specs.Netlists.{Netlist, cells, gates, is_cell}
use Rattle.netlist.specs.Netlist.{is_gate}
use Rattle.std.proofs.lemmas.Option.{get_or_from_slice_get, slice_get_within}
use Rattle.std.proofs.lemmas.List.Sums.{sum_by_more}
use Rattle.statement.specs.declared.outcomes.Outcome.{Outcome}
use Rattle.statement.specs.declared.outcomes.Outcome.TheVariants.{Detected, Redundant, Aborted, Unasked}
use Rattle.statement.specs.Reports.{Line}
use Rattle.run_report.specs.Heads.{one_if_aborted, count_of, one_if_detected, one_if_redundant, one_if_unasked}

-- one line more is counted
pub counted_more : (one : Outcome → ℕ) (lines : List Line) (k : ℕ) (line : Line) (old new : ℕ) → slice_get lines k ≡ Some line
    → old ≡ count_of one (take k lines) → new ≡ old + one line.outcome → new ≡ count_of one (take (k + 1) lines)
counted_more one lines k line old new at before after =
    let more = sum_by_more (λ (l : Line). one l.outcome) lines k line (slice_get_within lines k line at) in
    let same = ap (λ (l : Line). one l.outcome) (get_or_from_slice_get lines k line line at) in
    omega (arith, more, same, before, after)

pub one_kind : (o : Outcome) → one_if_detected o + one_if_redundant o + one_if_aborted o + one_if_unasked o ≡ 1
one_kind (Detected place cycle) = refl
one_kind Redundant = refl
one_kind Aborted = refl
one_kind Unasked = refl

-- each definition is a gate or a cell
pub gates_and_cells : (n : Netlist) → length (gates n) + length (cells n) ≡ length n.definitions
gates_and_cells n =
    let both = length-filter_both is_cell is_gate (λ d. refl) n.definitions in
    omega (arith, both)

zip_at : {X Y : Type 0} (xs : List X) (ys : List Y) (k : ℕ) (x : X) (y : Y) → slice_get xs k ≡ Some x → slice_get ys k ≡ Some y → slice_get (zip xs ys) k ≡ Some (x, y)
zip_at [] ys k x y p q = cc
zip_at (a ∷ xs) [] k x y p q = cc
zip_at (a ∷ xs) (b ∷ ys) zero x y p q =
    let e : a ≡ x = cc in
    let f : b ≡ y = cc in
    ap₂ (λ u v. Some (u, v)) e f
zip_at (a ∷ xs) (b ∷ ys) (suc k) x y p q = zip_at xs ys k x y p q

next_take : {X : Type 0} (xs : List X) (k : ℕ) (x : X) → slice_get xs k ≡ Some x → take (suc k) xs ≡ take k xs ++ x ∷ []
next_take [] k x e = cc
next_take (y ∷ ys) zero x e = let same : y ≡ x = cc in ap (λ z. z ∷ []) same
next_take (y ∷ ys) (suc k) x e = ap (λ zs. y ∷ zs) (next_take ys k x e)

-- one input more, with its hold
pub held_more : {X Y Z : Type 0} (f : X × Y → List Z) (xs : List X) (ys : List Y) (k : ℕ) (x : X) (y : Y) (old new : List Z) → slice_get xs k ≡ Some x → slice_get ys k ≡ Some y
    → old ≡ flat_map f (take k (zip xs ys)) → new ≡ old ++ f (x, y) → new ≡ flat_map f (take (k + 1) (zip xs ys))
held_more f xs ys k x y old new p q before after =
    let pairs = zip xs ys in
    let one : k + 1 ≡ suc k = add-one k in
    after ∙ (ap (λ t. t ++ f (x, y)) before ∙ (flat_map_more f [] (take k pairs) (x, y)
    ∙ ap (flat_map f) (sym (next_take pairs k (x, y) (zip_at xs ys k x y p q)) ∙ ap (λ i. take i pairs) (sym one))))

pub all_held : {X Y : Type 0} (xs : List X) (ys : List Y) (k : ℕ) → length xs ≤ k → take k (zip xs ys) ≡ zip xs ys
all_held xs ys k le = take_all k (zip xs ys) (omega (arith, length-zip xs ys, le))

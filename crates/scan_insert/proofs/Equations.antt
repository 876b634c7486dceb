-- The cells and the definitions of the scanned netlist.
use Rattle.std.proofs.Common.{◌≡◌, ℕ, Bool, true, false, cond, List, [], ◌∷◌, ◌++◌, map, length, refl, ◌∙◌, ap, subst, arith}
use Rattle.std.specs.List.{All, Contains, filter, flat_map}
use Rattle.std.proofs.lemmas.List.{append-nil}
use Rattle.std.proofs.lemmas.List.Elements.{All-contains, All-tail, filter-append}
use Rattle.statement.specs.declared.kinds.Kind.TheVariants.{Dff, Not}
use Rattle.statement.specs.Netlists.{Definition, Netlist, is_cell, cells}
use Rattle.netlist.specs.Netlist.{define}
use Rattle.netlist.proofs.Lists.{all_flat_map, all_left, contains_filter}
use Rattle.scan_insert.specs.Scan.{Naming, scan_cell, scan_definition, show_last, scanned}

unfoldable pub held_cell : Naming → Definition → Definition
held_cell s d = define (s.held d.id) Dff (s.chosen d.id ∷ [])

no_cells_out : (ps : List (ℕ × ℕ)) → filter is_cell (map show_last ps) ≡ []
no_cells_out [] = refl
no_cells_out (p ∷ ps) = no_cells_out ps

-- the cells of the scanned netlist are those that hold
cells_of_definition : (s : Naming) (d : Definition) (b : Bool) → is_cell d ≡ b
    → filter is_cell (cond b (scan_cell s d) (define (s.stem d.id) d.kind (map s.stem d.pins) ∷ [])) ≡ cond b (held_cell s d ∷ []) []
unfolding held_cell
cells_of_definition s d true e = refl
cells_of_definition s d false e = rw e

cells_of_definitions : (s : Naming) (ds : List Definition) → filter is_cell (flat_map (scan_definition s) ds) ≡ map (held_cell s) (filter is_cell ds)
cells_of_definitions s [] = refl
cells_of_definitions s (d ∷ ds) =
    let step : (b : Bool) → cond b (held_cell s d ∷ []) [] ++ map (held_cell s) (filter is_cell ds) ≡ map (held_cell s) (cond b (d ∷ filter is_cell ds) (filter is_cell ds)) =
    elim [ true ↦ refl | false ↦ refl ] in
    filter-append is_cell (scan_definition s d) (flat_map (scan_definition s) ds)
    ∙ (ap (λ r. r ++ filter is_cell (flat_map (scan_definition s) ds)) (cells_of_definition s d (is_cell d) refl)
    ∙ (ap (λ r. cond (is_cell d) (held_cell s d ∷ []) [] ++ r) (cells_of_definitions s ds)
    ∙ step (is_cell d)))

pub cells_scanned : (s : Naming) (n : Netlist) → cells (scanned s n) ≡ map (held_cell s) (cells n)
cells_scanned s n =
    let shows : List Definition = map show_last s.scan_out in
    filter-append is_cell (flat_map (scan_definition s) n.definitions) shows
    ∙ (ap (λ r. r ++ filter is_cell shows) (cells_of_definitions s n.definitions)
    ∙ (ap (λ r. map (held_cell s) (cells n) ++ r) (no_cells_out s.scan_out)
    ∙ append-nil (map (held_cell s) (cells n))))

-- ---- what holds of each definition of the scanned netlist

module _ (s : Naming) (n : Netlist) (P : Definition → Type 0) (all : All P (scanned s n).definitions) where
  pub all_behind_first : All P (flat_map (scan_definition s) n.definitions ++ map show_last s.scan_out)
  all_behind_first = All-tail P (define s.enable_not Not (s.enable ∷ [])) (flat_map (scan_definition s) n.definitions ++ map show_last s.scan_out) all

  pub all_of_definition : (d : Definition) → Contains n.definitions d → All P (scan_definition s d)
  all_of_definition d c =
      All-contains (λ (m : Definition). All P (scan_definition s m)) n.definitions d
      (all_flat_map P (scan_definition s) n.definitions (all_left P (flat_map (scan_definition s) n.definitions) (map show_last s.scan_out) all_behind_first)) c

  pub all_of_cell : (d : Definition) → Contains (cells n) d → All P (scan_cell s d)
  all_of_cell d c =
      let m = contains_filter is_cell n.definitions d c in
      subst (λ (v : Bool). All P (cond v (scan_cell s d) (define (s.stem d.id) d.kind (map s.stem d.pins) ∷ []))) m.1 (all_of_definition d m.0)

-- ---- pins

pub only_pin : (pins : List ℕ) → length pins ≡ 1 → (p : ℕ) × (pins ≡ p ∷ [])
only_pin [] e = absurd (omega (arith, e))
only_pin (p ∷ []) e = (p, refl)
only_pin (p ∷ q ∷ ps) e = absurd (omega (arith, e))

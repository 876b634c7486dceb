-- A line of the netlist stands on a line of the scanned netlist.
use Rattle.std.proofs.Common.{◌≡◌, ◌<◌, ◌+◌, ℕ, inl, inr, Bool, true, false, not, cond, List, [], ◌∷◌, ◌++◌, map, length, refl, sym, ◌∙◌, ap, subst, arith, length-append}
use Rattle.std.specs.List.{Contains, flat_map}
use Rattle.std.proofs.lemmas.List.{length-map}
use Rattle.std.proofs.lemmas.List.Elements.{Contains-append_cases, Contains-append_left, Contains-append_right}
use Rattle.statement.specs.declared.kinds.Kind.TheVariants.{And, Buff, Not}
use Rattle.statement.specs.declared.lines.Line.{Line}
use Rattle.statement.specs.declared.lines.Line.TheVariants.{Stem, Pin, Out}
use Rattle.statement.specs.Netlists.{Definition, Netlist, is_cell, signals}
use Rattle.netlist.specs.Netlist.{define, is_gate}
use Rattle.netlist.specs.Conditions.{IsSound}
use Rattle.netlist.specs.Lines.{IsLineOf}
use Rattle.netlist.proofs.Lists.{contains_cases, contains_head, contains_map, contains_nil, contains_tail, filter_contains}
use Rattle.scan_insert.specs.Scan.{Naming, scan_cell, scan_definition, show_last, scanned}
use Rattle.scan_insert.specs.Scanned.{AreChainsOf, line_at, naming_of, scanned_of, sites_of}
use Rattle.scan_insert.proofs.Concrete.{AreDealt, are_dealt, gates_pins}
use Rattle.scan_insert.proofs.Origins.{flat_map_contains}
use Rattle.scan_insert.proofs.Unchanged.{own_line}

map_contains : {X Y : Type 0} (f : X → Y) (xs : List X) (x : X) → Contains xs x → Contains (map f xs) (f x)
map_contains f [] x c = absurd (contains_nil x c)
map_contains {X} {Y} f (y ∷ ys) x c = elim (contains_cases y x ys c) [
  | inl same ↦ subst (λ (z : X). Contains (map f (y ∷ ys)) (f z)) same (contains_head (f y) (map f ys))
  | inr later ↦ contains_tail (f y) (f x) (map f ys) (map_contains f ys x later)
]

abbrev id_of : Definition → ℕ
id_of d = d.id

module _ (s : Naming) (n : Netlist) where
  -- what a definition becomes stands in the scanned netlist
  made : (d e : Definition) → Contains n.definitions d → Contains (scan_definition s d) e → Contains (scanned s n).definitions e
  made d e here there =
      contains_tail (define s.enable_not Not (s.enable ∷ [])) e (flat_map (scan_definition s) n.definitions ++ map show_last s.scan_out)
      (Contains-append_left (flat_map (scan_definition s) n.definitions) (map show_last s.scan_out) e (flat_map_contains (scan_definition s) n.definitions d e here there))

  -- among it something with its stem
  stem_made : (d : Definition) → (b : Bool) → is_cell d ≡ b
      → (e : Definition) × Contains (cond b (scan_cell s d) (define (s.stem d.id) d.kind (map s.stem d.pins) ∷ [])) e × (e.id ≡ s.stem d.id)
  stem_made d true is =
      let last = define (s.stem d.id) Buff (s.held d.id ∷ []) in
      (last, (4, omega arith, refl), refl)
  stem_made d false is = let own = define (s.stem d.id) d.kind (map s.stem d.pins) in (own, (0, omega arith, refl), refl)

  stem_there : (x : ℕ) → Contains (signals n) x → Contains (signals (scanned s n)) (s.stem x)
  stem_there x here =
      let inputs = (scanned s n).inputs in
      let ids = map id_of (scanned s n).definitions in
      elim (Contains-append_cases n.inputs (map id_of n.definitions) x here) [
        | inl input ↦ Contains-append_left inputs ids (s.stem x) (Contains-append_left (map s.stem n.inputs) (s.enable ∷ s.scan_in) (s.stem x) (map_contains s.stem n.inputs x input))
        | inr defined ↦
            let d = contains_map id_of n.definitions x defined in
            let e = stem_made d.0 (is_cell d.0) refl in
            Contains-append_right inputs ids (s.stem x)
            (subst (λ y. Contains ids y) (e.2 ∙ ap s.stem d.2) (map_contains id_of (scanned s n).definitions e.0 (made d.0 e.0 d.1 e.1)))
      ]

  out_there : (x : ℕ) → Contains n.outputs x → Contains (scanned s n).outputs (s.stem x)
  out_there x here =
      Contains-append_left (map s.stem n.outputs) (map (λ (p : ℕ × ℕ). p.0) s.scan_out) (s.stem x) (map_contains s.stem n.outputs x here)

  -- and something with its pins, where a gate's pins are at its stem
  pins_made : (d : Definition) (k : ℕ) → k < length d.pins → (is_cell d ≡ false → s.pins d.id ≡ s.stem d.id) → (b : Bool) → is_cell d ≡ b
      → (e : Definition) × Contains (cond b (scan_cell s d) (define (s.stem d.id) d.kind (map s.stem d.pins) ∷ [])) e × (e.id ≡ s.pins d.id) × (k < length e.pins)
  pins_made d k within gate true is =
      let first = define (s.pins d.id) And (map s.stem d.pins ++ s.enable_not ∷ []) in
      (first, (0, omega arith, refl), refl, omega (arith, within, length-append (map s.stem d.pins) (s.enable_not ∷ []), length-map d.pins s.stem))
  pins_made d k within gate false is =
      let own = define (s.stem d.id) d.kind (map s.stem d.pins) in
      (own, (0, omega arith, refl), sym (gate is), omega (arith, within, length-map d.pins s.stem))

module _ (n : Netlist) (sound : IsSound n) where
  chained_line : (chain : List ℕ) (rest : List (List ℕ)) → AreDealt n (chain ∷ rest) → (l : Line) → IsLineOf n l
      → IsLineOf (scanned_of n (chain ∷ rest)) (line_at (sites_of n (chain ∷ rest)) l)
  chained_line chain rest dealt (Stem x) here = stem_there (naming_of n (chain ∷ rest)) n x here
  chained_line chain rest dealt (Pin z k) here =
      let s = naming_of n (chain ∷ rest) in
      let d = here.0 in
      let gate : is_cell d ≡ false → s.pins d.id ≡ s.stem d.id = λ is.
      gates_pins n sound chain rest dealt d (filter_contains is_gate n.definitions d here.1 (ap not is)) in
      let e = pins_made s n d k here.3 gate (is_cell d) refl in
      (e.0, made s n d e.0 here.1 e.1, e.2 ∙ ap s.pins here.2, e.3)
  chained_line chain rest dealt (Out x) here = out_there (naming_of n (chain ∷ rest)) n x here

  -- the line at its site is one of the scanned netlist
  pub site_line : (chains : List (List ℕ)) → AreChainsOf n chains → (l : Line) → IsLineOf n l → IsLineOf (scanned_of n chains) (line_at (sites_of n chains) l)
  site_line [] are l here = subst (IsLineOf n) (sym (own_line n sound l here)) here
  site_line (chain ∷ rest) are l here = chained_line chain rest (are_dealt n (chain ∷ rest) are) l here

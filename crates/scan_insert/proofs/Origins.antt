-- The signals of the scanned netlist by what they stand for, in order.
use Rattle.std.proofs.Common.{◌≡◌, ℕ, ◌+◌, ◌<◌, Bool, true, false, cond, List, [], ◌∷◌, ◌++◌, map, length, get_or, refl, sym, ◌∙◌, ap, subst, inl, inr, arith}
use Rattle.std.specs.List.{Contains, flat_map}
use Rattle.std.proofs.lemmas.List.{length-map, get_or-map, get_or_default, map-append, append_assoc}
use Rattle.std.proofs.lemmas.List.Elements.{Contains-append_left, Contains-append_right, Contains-append_cases}
use Rattle.statement.specs.Netlists.{Definition, Netlist, is_cell, cells, gates, signals}
use Rattle.netlist.specs.Netlist.{define}
use Rattle.netlist.specs.Conditions.{IsNumbered}
use Rattle.netlist.proofs.Lists.{contains_head, contains_tail, contains_cases, contains_nil, contains_filter, contains_map, map_map}
use Rattle.statement.specs.Runs.{numbers_from}
use Rattle.scan_insert.specs.Scan.{Naming, scan_cell, scan_definition, show_last, scanned}
use Rattle.scan_insert.proofs.Namings.{Origin, Original, Enable, EnableNot, ScanIn, ScanOut, Captured, Shifted, Chosen, Held, IsNaming}
use Rattle.scan_insert.proofs.Numbers.{map-numbers_from, numbers_contain}
use Rattle.scan_insert.proofs.Loopless.{map_contains}

abbrev pub cell_origins : ℕ → List Origin
cell_origins q = Captured q ∷ Shifted q ∷ Chosen q ∷ Held q ∷ Original q ∷ []

abbrev pub definition_origins : Definition → List Origin
definition_origins d = cond (is_cell d) (cell_origins d.id) (Original d.id ∷ [])

-- what the signals stand for, with so many chains
abbrev pub origins : Netlist → ℕ → List Origin
origins n chains =
    map Original n.inputs
    ++ (Enable ∷ map ScanIn (numbers_from 0 chains)
    ++ (EnableNot ∷ flat_map definition_origins n.definitions
    ++ map ScanOut (numbers_from 0 chains)))

-- the number of what stands for this
abbrev pub number : Naming → Origin → ℕ
number s (Original x) = s.stem x
number s Enable = s.enable
number s EnableNot = s.enable_not
number s (ScanIn c) = get_or s.scan_in c 0
number s (ScanOut c) = (get_or s.scan_out c (0, 0)).0
number s (Captured q) = s.pins q
number s (Shifted q) = s.shifted q
number s (Chosen q) = s.chosen q
number s (Held q) = s.held q

place_among : (count c : ℕ) → c < count → Contains (numbers_from 0 count) c
place_among count c l = subst (Contains (numbers_from 0 count)) (let e : 0 + c ≡ c = omega arith in e) (numbers_contain 0 count c l)

pub flat_map_contains : {X Y : Type 0} (f : X → List Y) (xs : List X) (x : X) (y : Y) → Contains xs x → Contains (f x) y → Contains (flat_map f xs) y
flat_map_contains f [] x y c h = absurd (contains_nil x c)
flat_map_contains {X} {Y} f (z ∷ zs) x y c h = elim (contains_cases z x zs c) [
  | inl e ↦ Contains-append_left (f z) (flat_map f zs) y (subst (λ (w : X). Contains (f w) y) (sym e) h)
  | inr r ↦ Contains-append_right (f z) (flat_map f zs) y (flat_map_contains f zs x y r h)
]

numbers_of_definitions : (s : Naming) (ds : List Definition)
    → map (number s) (flat_map definition_origins ds) ≡ map (λ (d : Definition). d.id) (flat_map (scan_definition s) ds)
numbers_of_definitions s [] = refl
numbers_of_definitions s (d ∷ ds) =
    let step : (b : Bool) → map (number s) (cond b (cell_origins d.id) (Original d.id ∷ []))
    ≡ map (λ (e : Definition). e.id) (cond b (scan_cell s d) (define (s.stem d.id) d.kind (map s.stem d.pins) ∷ [])) =
    elim [ true ↦ refl | false ↦ refl ] in
    map-append (number s) (definition_origins d) (flat_map definition_origins ds)
    ∙ (ap (λ r. r ++ map (number s) (flat_map definition_origins ds)) (step (is_cell d))
    ∙ (ap (λ r. map (λ (e : Definition). e.id) (scan_definition s d) ++ r) (numbers_of_definitions s ds)
    ∙ sym (map-append (λ (e : Definition). e.id) (scan_definition s d) (flat_map (scan_definition s) ds))))

-- the numbers are those of the scanned netlist's signals, in order
pub numbers_of_origins : (s : Naming) (n : Netlist) (chains : ℕ) → length s.scan_in ≡ chains → length s.scan_out ≡ chains
    → map (number s) (origins n chains) ≡ signals (scanned s n)
numbers_of_origins s n chains i o =
    let id : Definition → ℕ = λ d. d.id in
    let made = flat_map definition_origins n.definitions in
    let outs = map ScanOut (numbers_from 0 chains) in
    let ins = map ScanIn (numbers_from 0 chains) in
    let at_ins : map (number s) ins ≡ s.scan_in =
    map_map ScanIn (number s) (numbers_from 0 chains) ∙ (ap (λ k. map (λ c. get_or s.scan_in c 0) (numbers_from 0 k)) (sym i) ∙ map-numbers_from s.scan_in 0) in
    let at_outs : map (number s) outs ≡ map id (map show_last s.scan_out) =
    map_map ScanOut (number s) (numbers_from 0 chains)
    ∙ (sym (map_map (λ c. get_or s.scan_out c (0, 0)) (λ (p : ℕ × ℕ). p.0) (numbers_from 0 chains))
    ∙ (ap (map (λ (p : ℕ × ℕ). p.0)) (ap (λ k. map (λ c. get_or s.scan_out c (0, 0)) (numbers_from 0 k)) (sym o) ∙ map-numbers_from s.scan_out (0, 0))
    ∙ sym (map_map show_last id s.scan_out))) in
    let behind : map (number s) (made ++ outs) ≡ map id (flat_map (scan_definition s) n.definitions ++ map show_last s.scan_out) =
    map-append (number s) made outs
    ∙ (ap (λ r. r ++ map (number s) outs) (numbers_of_definitions s n.definitions)
    ∙ (ap (λ r. map id (flat_map (scan_definition s) n.definitions) ++ r) at_outs
    ∙ sym (map-append id (flat_map (scan_definition s) n.definitions) (map show_last s.scan_out)))) in
    map-append (number s) (map Original n.inputs) (Enable ∷ ins ++ (EnableNot ∷ made ++ outs))
    ∙ (ap (λ r. r ++ map (number s) (Enable ∷ ins ++ (EnableNot ∷ made ++ outs))) (map_map Original (number s) n.inputs)
    ∙ (ap (λ r. map s.stem n.inputs ++ r) (map-append (number s) (Enable ∷ ins) (EnableNot ∷ made ++ outs))
    ∙ (ap (λ r. map s.stem n.inputs ++ (s.enable ∷ r ++ (s.enable_not ∷ map (number s) (made ++ outs)))) at_ins
    ∙ (ap (λ r. map s.stem n.inputs ++ (s.enable ∷ s.scan_in ++ (s.enable_not ∷ r))) behind
    ∙ sym (append_assoc (map s.stem n.inputs) (s.enable ∷ s.scan_in) (map id (scanned s n).definitions))))))

-- what stands for a part of the netlist is among the signals
pub record Stands (n : Netlist) (chains : ℕ) : Type 0 where
  pub original : (x : ℕ) → Contains (signals n) x → Contains (origins n chains) (Original x)
  pub of_cell : (d : Definition) → Contains (cells n) d → (o : Origin) → Contains (cell_origins d.id) o → Contains (origins n chains) o
  pub enable : Contains (origins n chains) Enable
  pub enable_not : Contains (origins n chains) EnableNot
  pub scan_in : (c : ℕ) → c < chains → Contains (origins n chains) (ScanIn c)
  pub scan_out : (c : ℕ) → c < chains → Contains (origins n chains) (ScanOut c)

pub stands : (n : Netlist) (chains : ℕ) → Stands n chains
stands n chains =
    let made = flat_map definition_origins n.definitions in
    let ins = map ScanIn (numbers_from 0 chains) in
    let outs = map ScanOut (numbers_from 0 chains) in
    let tail = EnableNot ∷ made ++ outs in
    let behind_inputs : (o : Origin) → Contains (Enable ∷ ins ++ tail) o → Contains (origins n chains) o = λ o c. Contains-append_right (map Original n.inputs) (Enable ∷ ins ++ tail) o c in
    let in_tail : (o : Origin) → Contains tail o → Contains (origins n chains) o = λ o c. behind_inputs o (Contains-append_right (Enable ∷ ins) tail o c) in
    let in_made : (o : Origin) → Contains made o → Contains (origins n chains) o = λ o c. in_tail o (contains_tail EnableNot o (made ++ outs) (Contains-append_left made outs o c)) in
    let of_definition : (d : Definition) (o : Origin) → Contains n.definitions d → Contains (definition_origins d) o → Contains (origins n chains) o =
    λ d o c h. in_made o (flat_map_contains definition_origins n.definitions d o c h) in
    let own : (d : Definition) (b : Bool) → Contains (cond b (cell_origins d.id) (Original d.id ∷ [])) (Original d.id) =
    λ d. elim [ true ↦ (4, omega arith, refl) | false ↦ (0, omega arith, refl) ] in
    record {
      original = λ x c. elim (Contains-append_cases n.inputs (map (λ (d : Definition). d.id) n.definitions) x c) [
        | inl i ↦ Contains-append_left (map Original n.inputs) (Enable ∷ ins ++ tail) (Original x) (map_contains Original n.inputs x i)
        | inr r ↦
            let m = contains_map (λ (d : Definition). d.id) n.definitions x r in
            subst (λ y. Contains (origins n chains) (Original y)) m.2 (of_definition m.0 (Original m.0.id) m.1 (own m.0 (is_cell m.0)))
      ];
      of_cell = λ d c o h.
          let m = contains_filter is_cell n.definitions d c in
          of_definition d o m.0 (subst (λ (b : Bool). Contains (cond b (cell_origins d.id) (Original d.id ∷ [])) o) (sym m.1) h);
      enable = behind_inputs Enable (Contains-append_left (Enable ∷ ins) tail Enable (contains_head Enable ins));
      enable_not = in_tail EnableNot (contains_head EnableNot (made ++ outs));
      scan_in = λ c l. behind_inputs (ScanIn c) (Contains-append_left (Enable ∷ ins) tail (ScanIn c) (contains_tail Enable (ScanIn c) ins (map_contains ScanIn (numbers_from 0 chains) c (place_among chains c l))));
      scan_out = λ c l. in_tail (ScanOut c) (contains_tail EnableNot (ScanOut c) (made ++ outs) (Contains-append_right made outs (ScanOut c) (map_contains ScanOut (numbers_from 0 chains) c (place_among chains c l))));
    }

module _ (s : Naming) (n : Netlist) (chains : ℕ) (ins : length s.scan_in ≡ chains) (outs : length s.scan_out ≡ chains)
    (numbered : IsNumbered (scanned s n)) (gate_pins : (d : Definition) → Contains (gates n) d → s.pins d.id ≡ s.stem d.id) where
  at : List Origin
  at = origins n chains

  count : length (origins n chains) ≡ length (signals (scanned s n))
  count = sym (length-map (origins n chains) (number s)) ∙ ap length (numbers_of_origins s n chains ins outs)

  -- each stands at its number
  pub number_at : (k : ℕ) (d : Origin) → k < length (origins n chains) → number s (get_or (origins n chains) k d) ≡ k
  number_at k d l =
      sym (get_or-map (number s) (origins n chains) k d 0 l)
      ∙ (ap (λ xs. get_or xs k 0) (numbers_of_origins s n chains ins outs) ∙ numbered k (omega (arith, count)))

  pub origin_of_number : (o : Origin) → Contains (origins n chains) o → get_or (origins n chains) (number s o) Enable ≡ o
  origin_of_number o c =
      let k = number_at c.0 o c.1 in
      let same : number s o ≡ c.0 = ap (number s) (sym c.2) ∙ k in
      ap (λ i. get_or (origins n chains) i Enable) same ∙ (get_or_default (origins n chains) c.0 Enable o c.1 ∙ c.2)

  pub among_signals : (o : Origin) → Contains (origins n chains) o → Contains (signals (scanned s n)) (number s o)
  among_signals o c = subst (λ (xs : List ℕ). Contains xs (number s o)) (numbers_of_origins s n chains ins outs) (map_contains (number s) (origins n chains) o c)

  pub naming : IsNaming s n
  naming =
      let here = stands n chains in
      let cell : (d : Definition) → Contains (cells n) d → (k : ℕ) (o : Origin) → k < 5 → get_or (cell_origins d.id) k o ≡ o → get_or (origins n chains) (number s o) Enable ≡ o =
      λ d c k o l e. origin_of_number o (here.of_cell d c o (k, l, e)) in
      record {
        origin = λ w. get_or (origins n chains) w Enable;
        stem = λ x c. origin_of_number (Original x) (here.original x c);
        gate_pins = gate_pins;
        cell_pins = λ d c. cell d c 0 (Captured d.id) (omega arith) refl;
        shifted = λ d c. cell d c 1 (Shifted d.id) (omega arith) refl;
        chosen = λ d c. cell d c 2 (Chosen d.id) (omega arith) refl;
        held = λ d c. cell d c 3 (Held d.id) (omega arith) refl;
        enable = origin_of_number Enable here.enable;
        enable_not = origin_of_number EnableNot here.enable_not;
        scan_in = λ x c.
            let is : get_or s.scan_in c.0 0 ≡ x = get_or_default s.scan_in c.0 0 x c.1 ∙ c.2 in
            (c.0, ap (λ w. get_or (origins n chains) w Enable) (sym is) ∙ origin_of_number (ScanIn c.0) (here.scan_in c.0 (omega (arith, c.1))));
        scan_out = λ p c.
            let is : get_or s.scan_out c.0 (0, 0) ≡ p = get_or_default s.scan_out c.0 (0, 0) p c.1 ∙ c.2 in
            (c.0, ap (λ (w : ℕ × ℕ). get_or (origins n chains) w.0 Enable) (sym is) ∙ origin_of_number (ScanOut c.0) (here.scan_out c.0 (omega (arith, c.1))));
      }

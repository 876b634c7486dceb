-- The naming that insertion makes, for the chains of a netlist.
use Rattle.std.proofs.Common.{◌≡◌, ◌≢◌, ℕ, ◌+◌, ◌<◌, ◌≤◌, Bool, true, false, ◌&&◌, ◌||◌, cond, List, [], ◌∷◌, ◌++◌, map, length, Option, Some, None, refl, sym, ◌∙◌, ap, subst, inl, inr, arith}
use Rattle.std.specs.Bool.{Decides, beq}
use Rattle.std.specs.List.{All, AllPairs, AllZip, Contains}
use Rattle.std.proofs.lemmas.Bool.{not-true}
use Rattle.std.proofs.lemmas.List.{length-map}
use Rattle.std.proofs.lemmas.List.Elements.{All-contains}
use Rattle.statement.specs.declared.lines.Line.{Line}
use Rattle.statement.specs.declared.lines.Line.TheVariants.{Stem, Pin, Out}
use Rattle.statement.specs.declared.lines.Fault.{Fault}
use Rattle.statement.specs.Netlists.{Definition, Netlist, is_cell, cells, gates}
use Rattle.netlist.specs.Netlist.{is_gate, IsAcyclic}
use Rattle.netlist.specs.Conditions.{IsNumbered, IsSound}
use Rattle.statement.specs.Values.{Table, Settles, bit_table, with_fault, outs, next}
use Rattle.netlist.proofs.Lists.{contains_filter, contains_map, map_map, decides_beq}
use Rattle.netlist.proofs.Settling.{cells_distinct}
use Rattle.statement.specs.Tests.{cells_of}
use Rattle.scan_insert.proofs.Dealing.{stitched_cells, stitched_count, stitched_filled}
use Rattle.netlist.specs.Lines.{IsFaultOf}
use Rattle.statement.specs.Runs.{numbers_from}
use Rattle.scan_insert.specs.Scan.{scanned}
use Rattle.scan_insert.proofs.Namings.{IsNaming, IsChained, named_line, named_fault}
use Rattle.scan_insert.specs.Scanned.{cell_ids, AreChainsOf, sites_of, befores, last_of, first_scan_out, naming_of, scanned_of, line_at, fault_at, first_definition}
use Rattle.scan_insert.specs.Laws.{shifted, last_values, Multiplexes, BitsMultiplex, ScanBehavesBy, ScanBehaves}
use Rattle.scan_insert.proofs.Behaves.{AsOriginal, behaves}
use Rattle.scan_insert.proofs.Loopless.{map_contains, scanned_acyclic}
use Rattle.scan_insert.proofs.Numbers.{length-numbers_from}
use Rattle.scan_insert.proofs.Origins.{naming}
use Rattle.scan_insert.proofs.Placing.{scanned_numbered, sites_of_definitions, seconds, length-zip}
use Rattle.scan_insert.proofs.Chained.{gate_site, length-befores, before_cases, contains_beside, map-beside, shift_is, lasts_are, contains_last, contains_cells_of, contains_second}

-- each cell stands in one chain, in order, and no chain is without cells
pub record AreDealt (n : Netlist) (chains : List (List ℕ)) : Type 0 where
  pub all : cells_of chains ≡ cell_ids n
  pub filled : All (λ (chain : List ℕ). 0 < length chain) chains
  pub few : length chains ≤ length (cells n)

pub are_dealt : (n : Netlist) (chains : List (List ℕ)) → AreChainsOf n chains → AreDealt n chains
are_dealt n chains c =
    let size = stitched_count (cell_ids n) c.asked c.some in
    record {
      all = ap cells_of c.are ∙ stitched_cells (cell_ids n) c.asked c.some;
      filled = subst (λ (cs : List (List ℕ)). All (λ (chain : List ℕ). 0 < length chain) cs) (sym c.are) (stitched_filled (cell_ids n) c.asked c.some);
      few = omega (arith, ap length c.are, length-map (cells n) (λ (d : Definition). d.id));
    }

-- a netlist with cells has chains
pub some_chain : (n : Netlist) (chains : List (List ℕ)) → AreDealt n chains → 0 < length (cells n) → (chain : List ℕ) × (rest : List (List ℕ)) × (chains ≡ chain ∷ rest)
some_chain n [] dealt l = let e = ap length dealt.all in absurd (omega (arith, length-map (cells n) (λ (d : Definition). d.id)))
some_chain n (chain ∷ rest) dealt l = (chain, rest, refl)

pub no_chain : (n : Netlist) (chains : List (List ℕ)) → AreDealt n chains → length (cells n) ≡ 0 → chains ≡ []
no_chain n [] dealt e = refl
no_chain n (chain ∷ rest) dealt e = let few = dealt.few in absurd (omega arith)

pub same_line : (n : Netlist) (chains : List (List ℕ)) (l : Line) → line_at (sites_of n chains) l ≡ named_line (naming_of n chains) l
same_line n chains (Stem x) = refl
same_line n chains (Pin z k) = refl
same_line n chains (Out x) = refl

pub same_fault : (n : Netlist) (chains : List (List ℕ)) (f : Option Fault) → fault_at (sites_of n chains) f ≡ named_fault (naming_of n chains) f
same_fault n chains None = refl
same_fault n chains (Some f) = ap (λ l. Some (record { line = l; value = f.value })) (same_line n chains f.line)

pub zip_ids : {V : Type 0} (R : ℕ → V → Type 0) (ds : List Definition) (vs : List V) → AllZip (λ (d : Definition) v. R d.id v) ds vs → AllZip R (map (λ (d : Definition). d.id) ds) vs
zip_ids R [] [] h = tt
zip_ids R [] (v ∷ vs) h = absurd h
zip_ids R (d ∷ ds) [] h = absurd h
zip_ids R (d ∷ ds) (v ∷ vs) h = (h.0, zip_ids R ds vs h.1)

module _ (n : Netlist) (sound : IsSound n) (chain : List ℕ) (rest : List (List ℕ)) (dealt : AreDealt n (chain ∷ rest)) where
  lasts_length : length (map (λ (q : List ℕ). (naming_of n (chain ∷ rest)).held (last_of q)) (chain ∷ rest)) ≡ length (chain ∷ rest)
  lasts_length = length-map (chain ∷ rest) (λ (q : List ℕ). (naming_of n (chain ∷ rest)).held (last_of q))

  pub gates_pins : (d : Definition) → Contains (gates n) d → (naming_of n (chain ∷ rest)).pins d.id ≡ (naming_of n (chain ∷ rest)).stem d.id
  gates_pins d c =
      let m = contains_filter is_gate n.definitions d c in
      gate_site (sites_of n (chain ∷ rest)) (first_definition n (length (chain ∷ rest))) n.definitions d
      (sites_of_definitions n sound.formed.numbered chain rest) m.0 (not-true (is_cell d) m.1)

  pub is_numbered : IsNumbered (scanned (naming_of n (chain ∷ rest)) n)
  is_numbered = scanned_numbered n sound.formed.numbered chain rest

  pub ins_length : length (naming_of n (chain ∷ rest)).scan_in ≡ length (chain ∷ rest)
  ins_length = length-numbers_from (length n.inputs + 1) (length (chain ∷ rest))

  pub outs_length : length (naming_of n (chain ∷ rest)).scan_out ≡ length (chain ∷ rest)
  outs_length =
      let ids = length-numbers_from (first_scan_out n (length (chain ∷ rest))) (length (chain ∷ rest)) in
      length-zip (numbers_from (first_scan_out n (length (chain ∷ rest))) (length (chain ∷ rest))) (map (λ (q : List ℕ). (naming_of n (chain ∷ rest)).held (last_of q)) (chain ∷ rest))
      (ids ∙ sym lasts_length) ∙ ids

  pub is_naming : IsNaming (naming_of n (chain ∷ rest)) n
  is_naming = naming (naming_of n (chain ∷ rest)) n (length (chain ∷ rest)) ins_length outs_length is_numbered gates_pins

  befores_length : length (cells_of (chain ∷ rest)) ≡ length (befores (naming_of n (chain ∷ rest)).held (length n.inputs + 1) (chain ∷ rest))
  befores_length = sym (length-befores (naming_of n (chain ∷ rest)).held (length n.inputs + 1) (chain ∷ rest))

  of_cell : (q : ℕ) → Contains (cells_of (chain ∷ rest)) q → (d : Definition) × Contains (cells n) d × (d.id ≡ q)
  of_cell q c = contains_map (λ (d : Definition). d.id) (cells n) q (subst (λ (xs : List ℕ). Contains xs q) dealt.all c)

  pub is_chained : IsChained (naming_of n (chain ∷ rest)) n
  is_chained = record {
    before = λ d c.
        let here : Contains (cells_of (chain ∷ rest)) d.id = subst (λ (xs : List ℕ). Contains xs d.id) (sym dealt.all) (map_contains (λ (e : Definition). e.id) (cells n) d c) in
        elim (before_cases (naming_of n (chain ∷ rest)).held (length n.inputs + 1) (chain ∷ rest) ((naming_of n (chain ∷ rest)).before d.id)
        (contains_beside (cells_of (chain ∷ rest)) (befores (naming_of n (chain ∷ rest)).held (length n.inputs + 1) (chain ∷ rest)) d.id befores_length here)) [
          | inl m ↦ let w = of_cell m.0 m.1 in inl (w.0, w.1, m.2 ∙ sym (ap (naming_of n (chain ∷ rest)).held w.2))
          | inr r ↦ inr r
        ];
    shows = λ p c.
        let m = contains_map (λ (q : List ℕ). (naming_of n (chain ∷ rest)).held (last_of q)) (chain ∷ rest) p.1
        (contains_second (numbers_from (first_scan_out n (length (chain ∷ rest))) (length (chain ∷ rest))) (map (λ (q : List ℕ). (naming_of n (chain ∷ rest)).held (last_of q)) (chain ∷ rest)) p c) in
        let some : 0 < length m.0 = All-contains (λ (q : List ℕ). 0 < length q) (chain ∷ rest) m.0 dealt.filled m.1 in
        let w = of_cell (last_of m.0) (contains_cells_of (chain ∷ rest) m.0 (last_of m.0) m.1 (contains_last m.0 some)) in
        (w.0, w.1, sym m.2 ∙ sym (ap (naming_of n (chain ∷ rest)).held w.2));
  }

  pub is_acyclic : IsAcyclic (scanned (naming_of n (chain ∷ rest)) n)
  is_acyclic = scanned_acyclic (naming_of n (chain ∷ rest)) n is_naming is_chained sound.closed sound.acyclic

  distinct : AllPairs (λ x y. x ≢ y) (cells_of (chain ∷ rest))
  distinct = cells_distinct n sound.formed.numbered (cells_of (chain ∷ rest)) dealt.all

  module _ {V : Type 0} (same : V → V → Bool) (decides : (x y : V) → Decides (same x y) (x ≡ y)) (table : Table V) (multiplexes : Multiplexes table) (blank : V)
      (f : Option Fault) (inputs state scan_inputs : List V) (e : Bool) (a b : ℕ → V) (valid : IsFaultOf n f)
      (p : Settles (with_fault table f) n inputs state a)
      (q : Settles (with_fault table (fault_at (sites_of n (chain ∷ rest)) f)) (scanned_of n (chain ∷ rest)) (inputs ++ table.known e ∷ scan_inputs) state b) where
    shown : AsOriginal table (naming_of n (chain ∷ rest)) n f state scan_inputs e a b
    shown = behaves same decides table multiplexes (naming_of n (chain ∷ rest)) n is_naming sound.formed.numbered sound.closed sound.acyclic f inputs state scan_inputs e a b valid p
        (subst (λ (g : Option Fault). Settles (with_fault table g) (scanned (naming_of n (chain ∷ rest)) n) (inputs ++ table.known e ∷ scan_inputs) state b) (same_fault n (chain ∷ rest) f) q)

    cells_hold : AllZip (λ x v. b ((naming_of n (chain ∷ rest)).held x) ≡ v) (cells_of (chain ∷ rest)) state
    cells_hold = subst (λ (xs : List ℕ). AllZip (λ x v. b ((naming_of n (chain ∷ rest)).held x) ≡ v) xs state) (sym dealt.all)
        (zip_ids (λ x v. b ((naming_of n (chain ∷ rest)).held x) ≡ v) (cells n) state shown.cells_hold)

    shows_last : map (λ (r : ℕ × ℕ). b r.1) (naming_of n (chain ∷ rest)).scan_out ≡ last_values blank (chain ∷ rest) state
    shows_last =
        let ids = numbers_from (first_scan_out n (length (chain ∷ rest))) (length (chain ∷ rest)) in
        let lasts = map (λ (x : List ℕ). (naming_of n (chain ∷ rest)).held (last_of x)) (chain ∷ rest) in
        sym (map_map (λ (r : ℕ × ℕ). r.1) b (naming_of n (chain ∷ rest)).scan_out)
        ∙ (ap (map b) (seconds ids lasts (length-numbers_from (first_scan_out n (length (chain ∷ rest))) (length (chain ∷ rest)) ∙ sym lasts_length))
        ∙ (map_map (λ (x : List ℕ). (naming_of n (chain ∷ rest)).held (last_of x)) b (chain ∷ rest)
        ∙ lasts_are blank b (naming_of n (chain ∷ rest)).held (chain ∷ rest) state dealt.filled cells_hold))

    shifts : map (λ (d : Definition). b ((naming_of n (chain ∷ rest)).before d.id)) (cells n) ≡ shifted (chain ∷ rest) scan_inputs state
    shifts =
        let feeds = befores (naming_of n (chain ∷ rest)).held (length n.inputs + 1) (chain ∷ rest) in
        sym (map_map (λ (d : Definition). d.id) (λ x. b ((naming_of n (chain ∷ rest)).before x)) (cells n))
        ∙ (ap (map (λ x. b ((naming_of n (chain ∷ rest)).before x))) (sym dealt.all)
        ∙ (sym (map_map (naming_of n (chain ∷ rest)).before b (cells_of (chain ∷ rest)))
        ∙ (ap (map b) (map-beside (cells_of (chain ∷ rest)) feeds distinct befores_length)
        ∙ shift_is b (naming_of n (chain ∷ rest)).held (length n.inputs + 1) (chain ∷ rest) scan_inputs state dealt.filled shown.scan_inputs_have cells_hold)))

    pub law : (outs (with_fault table (fault_at (sites_of n (chain ∷ rest)) f)) (scanned_of n (chain ∷ rest)) b
        ≡ outs (with_fault table f) n a ++ last_values blank (chain ∷ rest) state)
        × (next (with_fault table (fault_at (sites_of n (chain ∷ rest)) f)) (scanned_of n (chain ∷ rest)) b
        ≡ cond e (shifted (chain ∷ rest) scan_inputs state) (next (with_fault table f) n a))
    law = (
      ap (λ (g : Option Fault). outs (with_fault table g) (scanned (naming_of n (chain ∷ rest)) n) b) (same_fault n (chain ∷ rest) f)
          ∙ (shown.outputs ∙ ap (λ r. outs (with_fault table f) n a ++ r) shows_last),
      ap (λ (g : Option Fault). next (with_fault table g) (scanned (naming_of n (chain ∷ rest)) n) b) (same_fault n (chain ∷ rest) f)
          ∙ (shown.cells_next ∙ ap (λ r. cond e r (next (with_fault table f) n a)) shifts),
    )

pub behaves_by : {V : Type 0} → ScanBehavesBy V
behaves_by {V} same decides table multiplexes blank n chains f inputs state scan_inputs e a b sound are some valid p q =
    let dealt = are_dealt n chains are in
    let w = some_chain n chains dealt some in
    let P : List (List ℕ) → Type 0 = λ cs.
    AreDealt n cs → Settles (with_fault table (fault_at (sites_of n cs) f)) (scanned_of n cs) (inputs ++ table.known e ∷ scan_inputs) state b
    → (outs (with_fault table (fault_at (sites_of n cs) f)) (scanned_of n cs) b ≡ outs (with_fault table f) n a ++ last_values blank cs state)
    × (next (with_fault table (fault_at (sites_of n cs) f)) (scanned_of n cs) b ≡ cond e (shifted cs scan_inputs state) (next (with_fault table f) n a)) in
    let at : P (w.0 ∷ w.1) = λ d r. law n sound w.0 w.1 d same decides table multiplexes blank f inputs state scan_inputs e a b valid p r in
    subst P (sym w.2) at dealt q

-- ---- bits

only_and : (b : Bool) → (b && (true && true)) ≡ b
only_and true = refl
only_and false = refl

and_none : (b : Bool) → (b && (false && true)) ≡ false
and_none true = refl
and_none false = refl

or_none : (b : Bool) → (b || (false || false)) ≡ b
or_none true = refl
or_none false = refl

none_or : (b : Bool) → (false || (b || false)) ≡ b
none_or true = refl
none_or false = refl

pub bits_multiplex : BitsMultiplex
bits_multiplex = record { buff = λ v. refl; inverts = λ b. refl; and_one = only_and; and_zero = and_none; or_zero = or_none; zero_or = none_or }

pub behaves_dealt : ScanBehaves
behaves_dealt = behaves_by beq decides_beq bit_table bits_multiplex false

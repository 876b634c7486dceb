-- What is made from the chains of a design is the scanned netlist.
use Rattle.std.proofs.Common.{◌≡◌, ℕ, suc, ◌+◌, ◌*◌, ◌<◌, ◌≤◌, Bool, true, false, cond, List, [], ◌∷◌, ◌++◌, map, length, get_or, drop, eqb, ltb, refl, sym, ◌∙◌, ap, subst, inl, inr, arith, length-append}
use Rattle.std.specs.List.{All, Contains, filter, flat_map, list_any, zip}
use Rattle.std.proofs.lemmas.Bool.{cases_Bool, cases_lt, lt-ltb, le-ltb, eq-eqb, eqb-true}
use Rattle.std.proofs.lemmas.List.{length-map, get_or_append_left, get_or_default}
use Rattle.std.proofs.lemmas.List.Elements.{All-append, All-cons, All-nil, All-head, All-tail, All-contains, Contains-get_or}
use Rattle.statement.specs.declared.kinds.Kind.TheVariants.{Not}
use Rattle.statement.specs.Netlists.{Definition, Netlist, is_cell, cells, signals}
use Rattle.netlist.specs.Netlist.{define}
use Rattle.netlist.specs.Conditions.{IsSound}
use Rattle.netlist.specs.Designs.{IsDesign}
use Rattle.netlist.proofs.Lists.{All-from_contains, contains_map, map_map, any_from, any_true}
use Rattle.netlist.proofs.Placed.{signals_length, input_below, signal_below}
use Rattle.netlist.proofs.Settling.{cells_distinct, cells_below}
use Rattle.statement.specs.Tests.{cells_of}
use Rattle.scan_insert.specs.declared.sites.Site.{Site}
use Rattle.statement.specs.Runs.{numbers_from}
use Rattle.scan_insert.specs.Names.{names_of}
use Rattle.scan_insert.specs.Scan.{Naming, scan_cell, scan_definition, show_last, scanned}
use Rattle.scan_insert.specs.Scanned.{AreChainsOf, cell_ids, own_site, sites_from, first_definition, first_scan_out, sites_of, befores, last_of, naming_of, scanned_of}
use Rattle.scan_insert.specs.inner.Made.{IsReady, held_at, naming_at, scan_definitions, stem_at}
use Rattle.scan_insert.proofs.Concrete.{AreDealt, are_dealt}
use Rattle.scan_insert.proofs.Placing.{length-sites_from, out_numbers}
use Rattle.scan_insert.proofs.Chained.{length-befores, map-beside}
use Rattle.scan_insert.proofs.Soundness.{filter_le}

sites_low : (next : ℕ) (ds : List Definition) (m : ℕ) → next + 5 * length ds ≤ m → All (λ (t : Site). t.pins ≤ m) (sites_from next ds)
sites_low next [] m l = All-nil _
sites_low next (d ∷ ds) m l =
    let step : (b : Bool) → All (λ (t : Site). t.pins ≤ m) (cond b (record { stem = next + 4; pins = next } ∷ sites_from (next + 5) ds) (own_site next ∷ sites_from (next + 1) ds)) =
    elim [
      | true ↦ All-cons (λ (t : Site). t.pins ≤ m) (record { stem = next + 4; pins = next }) (sites_from (next + 5) ds) (omega arith) (sites_low (next + 5) ds m (omega arith))
      | false ↦ All-cons (λ (t : Site). t.pins ≤ m) (own_site next) (sites_from (next + 1) ds) (omega arith) (sites_low (next + 1) ds m (omega arith))
    ] in
    step (is_cell d)

module _ (n : Netlist) (sound : IsSound n) (chain : List ℕ) (rest : List (List ℕ)) (dealt : AreDealt n (chain ∷ rest)) where
  pub sites_length : length (sites_of n (chain ∷ rest)) ≡ length (signals n)
  sites_length =
      let first = first_definition n (length (chain ∷ rest)) in
      omega (arith, length-append (map own_site n.inputs) (sites_from first n.definitions), length-map n.inputs own_site, length-sites_from first n.definitions, signals_length n)

  pub ready : IsDesign n → IsReady n (chain ∷ rest) (sites_of n (chain ∷ rest))
  ready design =
      let first = first_definition n (length (chain ∷ rest)) in
      let few : length (cells n) ≤ length n.definitions = filter_le is_cell n.definitions in
      record {
        size = sites_length;
        small = design.small;
        low = All-append (λ (t : Site). t.pins ≤ 7000000) (map own_site n.inputs) (sites_from first n.definitions)
            (All-from_contains (λ (t : Site). t.pins ≤ 7000000) (map own_site n.inputs) (λ t c.
            let m = contains_map own_site n.inputs t c in
            let l : m.0 < length (signals n) = input_below n sound.formed.numbered m.0 m.1 in
            subst (λ (u : Site). u.pins ≤ 7000000) m.2 (let low : m.0 ≤ 7000000 = omega (arith, design.small) in low)))
            (sites_low first n.definitions 7000000 (omega (arith, design.small, dealt.few, signals_length n)));
        room = omega (arith, design.small, dealt.few, signals_length n);
        all = dealt.all;
        filled = dealt.filled;
        within = cells_below n sound.formed.numbered (cells_of (chain ∷ rest)) (length (sites_of n (chain ∷ rest))) dealt.all sites_length;
      }

  -- where each cell takes what stands before it, the definitions are those of the naming
  by_naming : (bs : List ℕ) (ds : List Definition) → map (λ (d : Definition). (naming_of n (chain ∷ rest)).before d.id) (filter is_cell ds) ≡ bs
      → scan_definitions (sites_of n (chain ∷ rest)) (length n.inputs) (length n.inputs + 1 + length (chain ∷ rest)) bs ds ≡ flat_map (scan_definition (naming_of n (chain ∷ rest))) ds
  by_naming bs [] e = refl
  by_naming bs (d ∷ ds) e =
      let s : Naming = naming_of n (chain ∷ rest) in
      let sites = sites_of n (chain ∷ rest) in
      let on = length n.inputs in
      let off = length n.inputs + 1 + length (chain ∷ rest) in
      let befores_of : List Definition → List ℕ = map (λ (q : Definition). s.before q.id) in
      let step : (b : Bool) → befores_of (cond b (d ∷ filter is_cell ds) (filter is_cell ds)) ≡ bs
      → cond b (scan_cell (naming_at sites on off (get_or bs 0 0)) d ++ scan_definitions sites on off (drop 1 bs) ds)
      (define (stem_at sites d.id) d.kind (map (stem_at sites) d.pins) ∷ scan_definitions sites on off bs ds)
      ≡ cond b (scan_cell s d) (define (s.stem d.id) d.kind (map s.stem d.pins) ∷ []) ++ flat_map (scan_definition s) ds =
      elim [
        | true ↦ λ h.
            let first : get_or bs 0 0 ≡ s.before d.id = sym (ap (λ xs. get_or xs 0 0) h) in
            let others : befores_of (filter is_cell ds) ≡ drop 1 bs = ap (drop 1) h in
            ap (λ x. scan_cell (naming_at sites on off x) d ++ scan_definitions sites on off (drop 1 bs) ds) first
            ∙ ap (λ r. scan_cell s d ++ r) (by_naming (drop 1 bs) ds others)
        | false ↦ λ h. ap (λ r. define (s.stem d.id) d.kind (map s.stem d.pins) ∷ r) (by_naming bs ds h)
      ] in
      step (is_cell d) e

  pub befores_are : map (λ (d : Definition). (naming_of n (chain ∷ rest)).before d.id) (cells n) ≡ befores (held_at (sites_of n (chain ∷ rest))) (length n.inputs + 1) (chain ∷ rest)
  befores_are =
      let s : Naming = naming_of n (chain ∷ rest) in
      let feeds = befores s.held (length n.inputs + 1) (chain ∷ rest) in
      sym (map_map (λ (d : Definition). d.id) s.before (cells n))
      ∙ (ap (map s.before) (sym dealt.all)
      ∙ map-beside (cells_of (chain ∷ rest)) feeds (cells_distinct n sound.formed.numbered (cells_of (chain ∷ rest)) dealt.all)
      (sym (length-befores s.held (length n.inputs + 1) (chain ∷ rest))))

  definitions_are : define (length n.inputs + 1 + length (chain ∷ rest)) Not (length n.inputs ∷ [])
      ∷ scan_definitions (sites_of n (chain ∷ rest)) (length n.inputs) (length n.inputs + 1 + length (chain ∷ rest)) (befores (held_at (sites_of n (chain ∷ rest))) (length n.inputs + 1) (chain ∷ rest)) n.definitions
      ++ map show_last (zip (numbers_from (first_scan_out n (length (chain ∷ rest))) (length (chain ∷ rest))) (map (λ (q : List ℕ). held_at (sites_of n (chain ∷ rest)) (last_of q)) (chain ∷ rest)))
      ≡ (scanned (naming_of n (chain ∷ rest)) n).definitions
  definitions_are =
      let s : Naming = naming_of n (chain ∷ rest) in
      ap (λ r. define s.enable_not Not (s.enable ∷ []) ∷ r ++ map show_last s.scan_out)
      (by_naming (befores (held_at (sites_of n (chain ∷ rest))) (length n.inputs + 1) (chain ∷ rest)) n.definitions befores_are)

  outputs_are : map (stem_at (sites_of n (chain ∷ rest))) n.outputs ++ numbers_from (first_scan_out n (length (chain ∷ rest))) (length (chain ∷ rest))
      ≡ (scanned (naming_of n (chain ∷ rest)) n).outputs
  outputs_are = ap (λ r. map (naming_of n (chain ∷ rest)).stem n.outputs ++ r) (sym (out_numbers n sound.formed.numbered chain rest))

  inputs_are : map (stem_at (sites_of n (chain ∷ rest))) n.inputs ++ numbers_from (length n.inputs) (length (chain ∷ rest) + 1)
      ≡ (scanned (naming_of n (chain ∷ rest)) n).inputs
  inputs_are =
      let more : length (chain ∷ rest) + 1 ≡ suc (length (chain ∷ rest)) = omega arith in
      ap (λ k. map (naming_of n (chain ∷ rest)).stem n.inputs ++ numbers_from (length n.inputs) k) more

  pub parts_are : (sites : List Site) (names : List (List ℕ)) (inputs outputs : List ℕ) (definitions : List Definition)
      → sites ≡ sites_of n (chain ∷ rest) → names ≡ names_of n (length (chain ∷ rest))
      → inputs ≡ map (stem_at sites) n.inputs ++ numbers_from (length n.inputs) (length (chain ∷ rest) + 1)
      → outputs ≡ map (stem_at sites) n.outputs ++ numbers_from (first_scan_out n (length (chain ∷ rest))) (length (chain ∷ rest))
      → definitions ≡ define (length n.inputs + 1 + length (chain ∷ rest)) Not (length n.inputs ∷ [])
      ∷ scan_definitions sites (length n.inputs) (length n.inputs + 1 + length (chain ∷ rest)) (befores (held_at sites) (length n.inputs + 1) (chain ∷ rest)) n.definitions
      ++ map show_last (zip (numbers_from (first_scan_out n (length (chain ∷ rest))) (length (chain ∷ rest))) (map (λ (q : List ℕ). held_at sites (last_of q)) (chain ∷ rest)))
      → record { names = names; inputs = inputs; outputs = outputs; definitions = definitions } ≡ scanned_of n (chain ∷ rest)
  parts_are sites names inputs outputs definitions is e i o d =
      let i' : inputs ≡ (scanned (naming_of n (chain ∷ rest)) n).inputs =
      i ∙ (ap (λ (t : List Site). map (stem_at t) n.inputs ++ numbers_from (length n.inputs) (length (chain ∷ rest) + 1)) is ∙ inputs_are) in
      let o' : outputs ≡ (scanned (naming_of n (chain ∷ rest)) n).outputs =
      o ∙ (ap (λ (t : List Site). map (stem_at t) n.outputs ++ numbers_from (first_scan_out n (length (chain ∷ rest))) (length (chain ∷ rest))) is ∙ outputs_are) in
      let d' : definitions ≡ (scanned (naming_of n (chain ∷ rest)) n).definitions =
      d ∙ (ap (λ (t : List Site). define (length n.inputs + 1 + length (chain ∷ rest)) Not (length n.inputs ∷ [])
      ∷ scan_definitions t (length n.inputs) (length n.inputs + 1 + length (chain ∷ rest)) (befores (held_at t) (length n.inputs + 1) (chain ∷ rest)) n.definitions
      ++ map show_last (zip (numbers_from (first_scan_out n (length (chain ∷ rest))) (length (chain ∷ rest))) (map (λ (q : List ℕ). held_at t (last_of q)) (chain ∷ rest)))) is
      ∙ definitions_are) in
      cc

pub few_chains : (n : Netlist) (chains : List (List ℕ)) → IsDesign n → AreChainsOf n chains → length chains ≤ 1000000
few_chains n chains design are = omega (arith, (are_dealt n chains are).few, filter_le is_cell n.definitions, signals_length n, design.small)

pub made_sites : (n : Netlist) (chains : List (List ℕ)) (sites : List Site) (count : ℕ) → 0 < length chains → count ≡ length chains
    → sites ≡ map own_site n.inputs ++ sites_from (first_definition n count) n.definitions → sites ≡ sites_of n chains
made_sites n [] sites count some c e = absurd (omega arith)
made_sites n (chain ∷ rest) sites count some c e = e ∙ ap (λ k. map own_site n.inputs ++ sites_from (first_definition n k) n.definitions) c

pub are_ready : (n : Netlist) (chains : List (List ℕ)) (sites : List Site) → IsSound n → IsDesign n → AreChainsOf n chains → 0 < length chains
    → sites ≡ sites_of n chains → IsReady n chains sites
are_ready n chains sites sound design are some e = subst (IsReady n chains) (sym e) (at chains (are_dealt n chains are) some)
  where
    at : (cs : List (List ℕ)) → AreDealt n cs → 0 < length cs → IsReady n cs (sites_of n cs)
    at [] dealt l = absurd (omega arith)
    at (chain ∷ rest) dealt l = ready n sound chain rest dealt design

pub befores_count : (n : Netlist) (chains : List (List ℕ)) (held : ℕ → ℕ) (first : ℕ) (bs : List ℕ) → cells_of chains ≡ cell_ids n → bs ≡ befores held first chains → length bs ≡ length (cells n)
befores_count n chains held first bs all e =
    ap length e ∙ (length-befores held first chains ∙ (ap length all ∙ length-map (cells n) (λ (d : Definition). d.id)))

pub outputs_within : (n : Netlist) → IsSound n → (m : ℕ) → m ≡ length (signals n) → All (λ x. x < m) n.outputs
outputs_within n sound m e = All-from_contains (λ x. x < m) n.outputs
    (λ x c. let l = signal_below n sound.formed.numbered x (All-contains (Contains (signals n)) n.outputs x sound.closed.outputs c) in omega arith)

pub parts_of : (n : Netlist) (chains : List (List ℕ)) (sites : List Site) (names : List (List ℕ)) (inputs outputs : List ℕ) (definitions : List Definition)
    → IsSound n → IsReady n chains sites → 0 < length chains → length chains ≤ length (cells n)
    → sites ≡ sites_of n chains → names ≡ names_of n (length chains)
    → inputs ≡ map (stem_at sites) n.inputs ++ numbers_from (length n.inputs) (length chains + 1)
    → outputs ≡ map (stem_at sites) n.outputs ++ numbers_from (first_scan_out n (length chains)) (length chains)
    → definitions ≡ define (length n.inputs + 1 + length chains) Not (length n.inputs ∷ [])
    ∷ scan_definitions sites (length n.inputs) (length n.inputs + 1 + length chains) (befores (held_at sites) (length n.inputs + 1) chains) n.definitions
    ++ map show_last (zip (numbers_from (first_scan_out n (length chains)) (length chains)) (map (λ (q : List ℕ). held_at sites (last_of q)) chains))
    → record { names = names; inputs = inputs; outputs = outputs; definitions = definitions } ≡ scanned_of n chains
parts_of n [] sites names inputs outputs definitions sound known some few is e i o d = absurd (omega arith)
parts_of n (chain ∷ rest) sites names inputs outputs definitions sound known some few is e i o d =
    parts_are n sound chain rest (record { all = known.all; filled = known.filled; few = few }) sites names inputs outputs definitions is e i o d

-- a signal is an input where its number is below their count
pub is_input : (n : Netlist) → IsSound n → (x : ℕ) → ltb x (length n.inputs) ≡ list_any (λ y. eqb y x) n.inputs
is_input n sound x =
    let at : (k : ℕ) → k < length n.inputs → get_or n.inputs k 0 ≡ k = λ k l.
    sym (get_or_append_left n.inputs (map (λ (d : Definition). d.id) n.definitions) 0 k l)
    ∙ sound.formed.numbered k (omega (arith, length-append n.inputs (map (λ (d : Definition). d.id) n.definitions))) in
    elim (cases_lt x (length n.inputs)) [
      | inl l ↦
          let e = at x l in
          lt-ltb x (length n.inputs) l ∙ sym (any_from (λ y. eqb y x) n.inputs (get_or n.inputs x 0) (Contains-get_or n.inputs x 0 l) (eq-eqb (get_or n.inputs x 0) x e))
      | inr h ↦ elim (cases_Bool (list_any (λ y. eqb y x) n.inputs)) [
        | inl y ↦
            let w = any_true (λ z. eqb z x) n.inputs y in
            let same : w.0 ≡ x = eqb-true w.0 x w.2 in
            let is : get_or n.inputs w.1.0 0 ≡ w.0 = get_or_default n.inputs w.1.0 0 w.0 w.1.1 ∙ w.1.2 in
            let low = at w.1.0 w.1.1 in
            let within : w.1.0 < length n.inputs = w.1.1 in
            absurd (omega arith)
        | inr f ↦ le-ltb x (length n.inputs) h ∙ sym f
      ]
    ]

total_cells : (chains : List (List ℕ)) → All (λ (q : List ℕ). 0 < length q) chains → length chains ≤ length (cells_of chains)
total_cells [] h = omega arith
total_cells (chain ∷ rest) h =
    let some : 0 < length chain = All-head (λ (q : List ℕ). 0 < length q) chain rest h in
    omega (arith, length-append chain (cells_of rest), total_cells rest (All-tail (λ (q : List ℕ). 0 < length q) chain rest h))

pub ready_few : (n : Netlist) (chains : List (List ℕ)) (sites : List Site) → IsReady n chains sites → length chains ≤ length (cells n)
ready_few n chains sites known = omega (arith, total_cells chains known.filled, ap length known.all, length-map (cells n) (λ (d : Definition). d.id))

pub output_below : (n : Netlist) → IsSound n → (output x : ℕ) (outputs : List ℕ) → outputs ≡ n.outputs → output < length n.outputs → x ≡ get_or outputs output x → x < length (signals n)
output_below n sound output x outputs e l is =
    signal_below n sound.formed.numbered x
    (All-contains (Contains (signals n)) n.outputs x sound.closed.outputs (output, l, sym (is ∙ ap (λ (xs : List ℕ). get_or xs output x) e)))

-- each signal of the original has a site
pub sites_cover : (n : Netlist) (chains : List (List ℕ)) → IsSound n → AreChainsOf n chains → length (sites_of n chains) ≡ length (signals n)
sites_cover n chains sound are = at chains (are_dealt n chains are)
  where
    at : (cs : List (List ℕ)) → AreDealt n cs → length (sites_of n cs) ≡ length (signals n)
    at [] dealt = length-map (signals n) own_site
    at (chain ∷ rest) dealt = sites_length n sound chain rest dealt

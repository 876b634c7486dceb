-- The scanned netlist by the names of its signals.
use Rattle.std.proofs.Common.{◌≡◌, ℕ, suc, zero, ◌+◌, ◌<◌, Bool, true, false, cond, List, [], ◌∷◌, ◌++◌, map, length, get_or, take, drop, codes, decimal, refl, sym, ◌∙◌, ap, subst, arith}
use Rattle.std.specs.List.{All, Contains, filter, flat_map, zip}
use Rattle.std.proofs.lemmas.List.{length-map, get_or-map, map-append, take-map}
use Rattle.std.proofs.lemmas.List.Elements.{All-head, All-tail, All-contains, Contains-append_left, Contains-append_right}
use Rattle.statement.specs.declared.kinds.Kind.TheVariants.{And, Or, Not, Buff, Dff}
use Rattle.statement.specs.Netlists.{Definition, Netlist, is_cell, cells, name_of, signals}
use Rattle.netlist.specs.Netlist.{is_gate, define}
use Rattle.netlist.specs.Conditions.{IsSound}
use Rattle.netlist.proofs.Lists.{All-from_contains, contains_head, contains_tail, contains_filter, filter_contains, contains_map, map_agree, map_map}
use Rattle.statement.specs.Tests.{cells_of}
use Rattle.scan_insert.specs.declared.sites.Site.{Site}
use Rattle.scan_insert.specs.Names.{names_of}
use Rattle.statement.specs.Runs.{numbers_from}
use Rattle.scan_insert.specs.Scan.{Naming, scan_cell, scan_definition, show_last, scanned}
use Rattle.scan_insert.specs.Scanned.{befores, last_of, first_scan_out, naming_of, scanned_of}
use Rattle.scan_insert.proofs.Namings.{Origin, Original, Enable, EnableNot, ScanIn, ScanOut, Captured, Shifted, Chosen, Held}
use Rattle.scan_insert.specs.Named.{named_equation, named, names_before, cell_equations, scan_equations, show_equations, HasScanNames, ScannedByNames, HasSiteNames, SitesHaveNames}
use Rattle.scan_insert.proofs.Chained.{contains_last}
use Rattle.scan_insert.proofs.Concrete.{AreDealt, are_dealt, some_chain, gates_pins, is_numbered, ins_length, outs_length}
use Rattle.scan_insert.proofs.Loopless.{defined_signal}
use Rattle.scan_insert.proofs.Numbers.{get_or-numbers_from}
use Rattle.scan_insert.proofs.Origins.{cell_origins, origins, number, stands, number_at}
use Rattle.scan_insert.proofs.Placing.{out_numbers}
use Rattle.scan_insert.proofs.Ready.{befores_are}
use Rattle.scan_insert.proofs.SignalNames.{origin_name, names_of_origins}
use Rattle.scan_insert.proofs.Unchanged.{own}

-- ---- lists of names

numbered_names : {X : Type 0} (name of : ℕ → X) (base c first m : ℕ) → first ≡ base + c → ((k : ℕ) → k < c + m → name (base + k) ≡ of k)
    → map name (numbers_from first m) ≡ map of (numbers_from c m)
numbered_names name of base c first zero e h = refl
numbered_names name of base c first (suc m) e h =
    let here : name first ≡ of c = ap name e ∙ h c (omega arith) in
    let rest : map name (numbers_from (first + 1) m) ≡ map of (numbers_from (c + 1) m) =
    numbered_names name of base (c + 1) (first + 1) m (omega arith) (λ k l. h k (omega arith)) in
    cc

names_of_befores : (name : ℕ → List ℕ) (n : Netlist) (held : ℕ → ℕ) (base c input : ℕ) (chains : List (List ℕ)) → input ≡ base + c
    → ((k : ℕ) → k < c + length chains → name (base + k) ≡ codes "SC__si" ++ decimal k)
    → ((q : ℕ) → Contains (cells_of chains) q → name (held q) ≡ codes "SC__s_" ++ name_of n q)
    → map name (befores held input chains) ≡ names_before n c chains
names_of_befores name n held base c input [] e h k = refl
names_of_befores name n held base c input (chain ∷ chains) e h k =
    let of : ℕ → List ℕ = λ q. codes "SC__s_" ++ name_of n q in
    let cells_named : map name (map held chain) ≡ map of chain =
    map_map held name chain
    ∙ map_agree (λ q. name (held q)) of chain (All-from_contains (λ q. name (held q) ≡ of q) chain (λ q m. k q (Contains-append_left chain (cells_of chains) q m))) in
    let input_named : name input ≡ codes "SC__si" ++ decimal c = ap name e ∙ h c (omega arith) in
    let whole : map name (input ∷ map held chain) ≡ (codes "SC__si" ++ decimal c) ∷ map of chain =
    ap (λ x. x ∷ map name (map held chain)) input_named ∙ ap (λ r. (codes "SC__si" ++ decimal c) ∷ r) cells_named in
    let here : map name (take (length chain) (input ∷ map held chain)) ≡ take (length chain) ((codes "SC__si" ++ decimal c) ∷ map of chain) =
    sym (take-map name (length chain) (input ∷ map held chain)) ∙ ap (take (length chain)) whole in
    let rest : map name (befores held (input + 1) chains) ≡ names_before n (c + 1) chains =
    names_of_befores name n held base (c + 1) (input + 1) chains (omega arith) (λ i l. h i (omega arith)) (λ q m. k q (Contains-append_right chain (cells_of chains) q m)) in
    map-append name (take (length chain) (input ∷ map held chain)) (befores held (input + 1) chains)
    ∙ (ap (λ r. r ++ map name (befores held (input + 1) chains)) here
    ∙ ap (λ r. take (length chain) ((codes "SC__si" ++ decimal c) ∷ map of chain) ++ r) rest)

five_equations : (name a b d h q on off before : List ℕ) (read read' : List (List ℕ))
    → a ≡ codes "SC__a_" ++ name → b ≡ codes "SC__b_" ++ name → d ≡ codes "SC__d_" ++ name → h ≡ codes "SC__s_" ++ name → q ≡ name
    → on ≡ codes "SC__se" → off ≡ codes "SC__nse" → read ≡ read'
    → named_equation a And (read ++ off ∷ []) ∷ named_equation b And (before ∷ on ∷ []) ∷ named_equation d Or (a ∷ b ∷ []) ∷ named_equation h Dff (d ∷ []) ∷ named_equation q Buff (h ∷ []) ∷ []
    ≡ cell_equations name read' before
five_equations name a b d h q on off before read read' ea eb ed eh eq eon eoff eread =
    let one : (x : List ℕ) (y : List (List ℕ)) (z : List ℕ) → a ≡ x → read ≡ y → off ≡ z → named_equation a And (read ++ off ∷ []) ≡ named_equation x And (y ++ z ∷ []) =
    λ x y z e f g. ap (λ w. named_equation w And (read ++ off ∷ [])) e ∙ (ap (λ w. named_equation x And (w ++ off ∷ [])) f ∙ ap (λ w. named_equation x And (y ++ w ∷ [])) g) in
    let r1 = one (codes "SC__a_" ++ name) read' (codes "SC__nse") ea eread eoff in
    let r2 : named_equation b And (before ∷ on ∷ []) ≡ named_equation (codes "SC__b_" ++ name) And (before ∷ codes "SC__se" ∷ []) =
    ap (λ w. named_equation w And (before ∷ on ∷ [])) eb ∙ ap (λ w. named_equation (codes "SC__b_" ++ name) And (before ∷ w ∷ [])) eon in
    let r3 : named_equation d Or (a ∷ b ∷ []) ≡ named_equation (codes "SC__d_" ++ name) Or ((codes "SC__a_" ++ name) ∷ (codes "SC__b_" ++ name) ∷ []) =
    ap (λ w. named_equation w Or (a ∷ b ∷ [])) ed
    ∙ (ap (λ w. named_equation (codes "SC__d_" ++ name) Or (w ∷ b ∷ [])) ea ∙ ap (λ w. named_equation (codes "SC__d_" ++ name) Or ((codes "SC__a_" ++ name) ∷ w ∷ [])) eb) in
    let r4 : named_equation h Dff (d ∷ []) ≡ named_equation (codes "SC__s_" ++ name) Dff ((codes "SC__d_" ++ name) ∷ []) =
    ap (λ w. named_equation w Dff (d ∷ [])) eh ∙ ap (λ w. named_equation (codes "SC__s_" ++ name) Dff (w ∷ [])) ed in
    let r5 : named_equation q Buff (h ∷ []) ≡ named_equation name Buff ((codes "SC__s_" ++ name) ∷ []) =
    ap (λ w. named_equation w Buff (h ∷ [])) eq ∙ ap (λ w. named_equation name Buff (w ∷ [])) eh in
    cc

-- ---- a netlist with cells

module _ (n : Netlist) (sound : IsSound n) (chain : List ℕ) (rest : List (List ℕ)) (dealt : AreDealt n (chain ∷ rest)) where
  -- what the scanned netlist calls a signal
  abbrev name : ℕ → List ℕ
  name x = get_or (names_of n (length (chain ∷ rest))) x []

  pub name_at : (o : Origin) → Contains (origins n (length (chain ∷ rest))) o → name (number (naming_of n (chain ∷ rest)) o) ≡ origin_name n o
  name_at o c =
      let s : Naming = naming_of n (chain ∷ rest) in
      let count = length (chain ∷ rest) in
      let same : number s o ≡ c.0 =
      ap (number s) (sym c.2)
      ∙ number_at s n count (ins_length n sound chain rest dealt) (outs_length n sound chain rest dealt) (is_numbered n sound chain rest dealt) (gates_pins n sound chain rest dealt) c.0 o c.1 in
      ap (λ k. get_or (names_of n count) k []) same
      ∙ (ap (λ (xs : List (List ℕ)). get_or xs c.0 []) (sym (names_of_origins n count))
      ∙ (get_or-map (origin_name n) (origins n count) c.0 o [] c.1 ∙ ap (origin_name n) c.2))

  stem_name : (x : ℕ) → Contains (signals n) x → name ((naming_of n (chain ∷ rest)).stem x) ≡ name_of n x
  stem_name x c = name_at (Original x) ((stands n (length (chain ∷ rest))).original x c)

  of_cell : (d : Definition) → Contains (cells n) d → (k : ℕ) (o : Origin) → k < 5 → get_or (cell_origins d.id) k o ≡ o → name (number (naming_of n (chain ∷ rest)) o) ≡ origin_name n o
  of_cell d c k o l e = name_at o ((stands n (length (chain ∷ rest))).of_cell d c o (k, l, e))

  held_name : (q : ℕ) → Contains (cells_of (chain ∷ rest)) q → name ((naming_of n (chain ∷ rest)).held q) ≡ codes "SC__s_" ++ name_of n q
  held_name q c =
      let w = cell_with_id q (subst (λ (xs : List ℕ). Contains xs q) dealt.all c) in
      subst (λ x. name ((naming_of n (chain ∷ rest)).held x) ≡ codes "SC__s_" ++ name_of n x) w.2 (of_cell w.0 w.1 3 (Held w.0.id) (omega arith) refl)
    where
      cell_with_id : (q : ℕ) → Contains (map (λ (d : Definition). d.id) (cells n)) q → (d : Definition) × Contains (cells n) d × (d.id ≡ q)
      cell_with_id q c = contains_map (λ (d : Definition). d.id) (cells n) q c

  in_name : (k : ℕ) → k < length (chain ∷ rest) → name (length n.inputs + 1 + k) ≡ codes "SC__si" ++ decimal k
  in_name k l =
      let s : Naming = naming_of n (chain ∷ rest) in
      ap name (sym (get_or-numbers_from (length n.inputs + 1) (length (chain ∷ rest)) k 0 l))
      ∙ name_at (ScanIn k) ((stands n (length (chain ∷ rest))).scan_in k l)

  out_name : (k : ℕ) → k < length (chain ∷ rest) → name (first_scan_out n (length (chain ∷ rest)) + k) ≡ codes "SC__so" ++ decimal k
  out_name k l =
      let s : Naming = naming_of n (chain ∷ rest) in
      let count = length (chain ∷ rest) in
      let within : k < length s.scan_out = omega (arith, outs_length n sound chain rest dealt) in
      let is : (get_or s.scan_out k (0, 0)).0 ≡ first_scan_out n count + k =
      sym (get_or-map (λ (p : ℕ × ℕ). p.0) s.scan_out k (0, 0) 0 within)
      ∙ (ap (λ (xs : List ℕ). get_or xs k 0) (out_numbers n sound.formed.numbered chain rest) ∙ get_or-numbers_from (first_scan_out n count) count k 0 l) in
      ap name (sym is) ∙ name_at (ScanOut k) ((stands n count).scan_out k l)

  stems_named : (xs : List ℕ) → All (Contains (signals n)) xs → map name (map (naming_of n (chain ∷ rest)).stem xs) ≡ map (name_of n) xs
  stems_named xs h =
      let s : Naming = naming_of n (chain ∷ rest) in
      map_map s.stem name xs
      ∙ map_agree (λ x. name (s.stem x)) (name_of n) xs
      (All-from_contains (λ x. name (s.stem x) ≡ name_of n x) xs (λ x c. stem_name x (All-contains (Contains (signals n)) xs x h c)))

  pins_named : (d : Definition) → Contains n.definitions d → map name (map (naming_of n (chain ∷ rest)).stem d.pins) ≡ map (name_of n) d.pins
  pins_named d c = stems_named d.pins (All-contains (λ (r : Definition). All (Contains (signals n)) r.pins) n.definitions d sound.closed.pins c)

  cell_named : (d : Definition) → Contains (cells n) d
      → map (named (scanned (naming_of n (chain ∷ rest)) n)) (scan_cell (naming_of n (chain ∷ rest)) d)
      ≡ cell_equations (name_of n d.id) (map (name_of n) d.pins) (name ((naming_of n (chain ∷ rest)).before d.id))
  cell_named d c =
      let s : Naming = naming_of n (chain ∷ rest) in
      let here = stands n (length (chain ∷ rest)) in
      let read : map name (map s.stem d.pins ++ s.enable_not ∷ []) ≡ map name (map s.stem d.pins) ++ name s.enable_not ∷ [] = map-append name (map s.stem d.pins) (s.enable_not ∷ []) in
      ap (λ ps. named_equation (name (s.pins d.id)) And ps
      ∷ named_equation (name (s.shifted d.id)) And (name (s.before d.id) ∷ name s.enable ∷ [])
      ∷ named_equation (name (s.chosen d.id)) Or (name (s.pins d.id) ∷ name (s.shifted d.id) ∷ [])
      ∷ named_equation (name (s.held d.id)) Dff (name (s.chosen d.id) ∷ [])
      ∷ named_equation (name (s.stem d.id)) Buff (name (s.held d.id) ∷ []) ∷ []) read
      ∙ five_equations (name_of n d.id) (name (s.pins d.id)) (name (s.shifted d.id)) (name (s.chosen d.id)) (name (s.held d.id)) (name (s.stem d.id))
      (name s.enable) (name s.enable_not) (name (s.before d.id)) (map name (map s.stem d.pins)) (map (name_of n) d.pins)
      (of_cell d c 0 (Captured d.id) (omega arith) refl) (of_cell d c 1 (Shifted d.id) (omega arith) refl) (of_cell d c 2 (Chosen d.id) (omega arith) refl)
      (of_cell d c 3 (Held d.id) (omega arith) refl) (of_cell d c 4 (Original d.id) (omega arith) refl)
      (name_at Enable here.enable) (name_at EnableNot here.enable_not) (pins_named d (contains_filter is_cell n.definitions d c).0)

  definitions_named : (bs : List (List ℕ)) (ds : List Definition) → ((d : Definition) → Contains ds d → Contains n.definitions d)
      → map (λ (d : Definition). name ((naming_of n (chain ∷ rest)).before d.id)) (filter is_cell ds) ≡ bs
      → map (named (scanned (naming_of n (chain ∷ rest)) n)) (flat_map (scan_definition (naming_of n (chain ∷ rest))) ds) ≡ scan_equations n bs ds
  definitions_named bs [] among e = refl
  definitions_named bs (d ∷ ds) among e =
      let s : Naming = naming_of n (chain ∷ rest) in
      let S : Netlist = scanned s n in
      let own : Contains n.definitions d = among d (contains_head d ds) in
      let others : (x : Definition) → Contains ds x → Contains n.definitions x = λ x c. among x (contains_tail d x ds c) in
      let befores_of : List Definition → List (List ℕ) = map (λ (q : Definition). name (s.before q.id)) in
      let step : (b : Bool) → is_cell d ≡ b → befores_of (cond b (d ∷ filter is_cell ds) (filter is_cell ds)) ≡ bs
      → map (named S) (cond b (scan_cell s d) (define (s.stem d.id) d.kind (map s.stem d.pins) ∷ [])) ++ map (named S) (flat_map (scan_definition s) ds)
      ≡ cond b (cell_equations (name_of n d.id) (map (name_of n) d.pins) (get_or bs 0 []) ++ scan_equations n (drop 1 bs) ds) (named n d ∷ scan_equations n bs ds) =
      elim [
        | true ↦ λ is h.
            let first : name (s.before d.id) ≡ get_or bs 0 [] = ap (λ (xs : List (List ℕ)). get_or xs 0 []) h in
            let later : befores_of (filter is_cell ds) ≡ drop 1 bs = ap (drop 1) h in
            ap (λ r. r ++ map (named S) (flat_map (scan_definition s) ds))
            (cell_named d (filter_contains is_cell n.definitions d own is) ∙ ap (cell_equations (name_of n d.id) (map (name_of n) d.pins)) first)
            ∙ ap (λ r. cell_equations (name_of n d.id) (map (name_of n) d.pins) (get_or bs 0 []) ++ r) (definitions_named (drop 1 bs) ds others later)
        | false ↦ λ is h.
            let same : named_equation (name (s.stem d.id)) d.kind (map name (map s.stem d.pins)) ≡ named n d =
            ap (λ x. named_equation x d.kind (map name (map s.stem d.pins))) (stem_name d.id (defined_signal n d own)) ∙ ap (named_equation (name_of n d.id) d.kind) (pins_named d own) in
            ap (λ x. x ∷ map (named S) (flat_map (scan_definition s) ds)) same ∙ ap (λ r. named n d ∷ r) (definitions_named bs ds others h)
      ] in
      map-append (named S) (scan_definition s d) (flat_map (scan_definition s) ds) ∙ step (is_cell d) refl e

  shows_named : (c first : ℕ) (chains : List (List ℕ)) → first ≡ first_scan_out n (length (chain ∷ rest)) + c → c + length chains ≡ length (chain ∷ rest)
      → ((q : ℕ) → Contains (cells_of chains) q → Contains (cells_of (chain ∷ rest)) q) → All (λ (q : List ℕ). 0 < length q) chains
      → map (named (scanned (naming_of n (chain ∷ rest)) n))
      (map show_last (zip (numbers_from first (length chains)) (map (λ (q : List ℕ). (naming_of n (chain ∷ rest)).held (last_of q)) chains))) ≡ show_equations n c chains
  shows_named c first [] e l among filled = refl
  shows_named c first (q ∷ qs) e l among filled =
      let s : Naming = naming_of n (chain ∷ rest) in
      let shown : name first ≡ codes "SC__so" ++ decimal c = ap name e ∙ out_name c (omega arith) in
      let last : name (s.held (last_of q)) ≡ codes "SC__s_" ++ name_of n (last_of q) =
      held_name (last_of q) (among (last_of q) (Contains-append_left q (cells_of qs) (last_of q) (contains_last q (All-head (λ (x : List ℕ). 0 < length x) q qs filled)))) in
      let here : named_equation (name first) Buff (name (s.held (last_of q)) ∷ []) ≡ named_equation (codes "SC__so" ++ decimal c) Buff ((codes "SC__s_" ++ name_of n (last_of q)) ∷ []) =
      ap (λ x. named_equation x Buff (name (s.held (last_of q)) ∷ [])) shown ∙ ap (λ x. named_equation (codes "SC__so" ++ decimal c) Buff (x ∷ [])) last in
      ap (λ x. x ∷ map (named (scanned s n)) (map show_last (zip (numbers_from (first + 1) (length qs)) (map (λ (x : List ℕ). s.held (last_of x)) qs)))) here
      ∙ ap (λ r. named_equation (codes "SC__so" ++ decimal c) Buff ((codes "SC__s_" ++ name_of n (last_of q)) ∷ []) ∷ r)
      (shows_named (c + 1) (first + 1) qs (omega arith) (omega arith) (λ x m. among x (Contains-append_right q (cells_of qs) x m)) (All-tail (λ (x : List ℕ). 0 < length x) q qs filled))

  befores_named : map (λ (d : Definition). name ((naming_of n (chain ∷ rest)).before d.id)) (cells n) ≡ names_before n 0 (chain ∷ rest)
  befores_named =
      let s : Naming = naming_of n (chain ∷ rest) in
      sym (map_map (λ (d : Definition). s.before d.id) name (cells n))
      ∙ (ap (map name) (befores_are n sound chain rest dealt)
      ∙ names_of_befores name n s.held (length n.inputs + 1) 0 (length n.inputs + 1) (chain ∷ rest) (omega arith) (λ k l. in_name k (omega arith)) held_name)

  pub scan_names : HasScanNames n (chain ∷ rest) (scanned (naming_of n (chain ∷ rest)) n)
  scan_names =
      let s : Naming = naming_of n (chain ∷ rest) in
      let S : Netlist = scanned s n in
      let count = length (chain ∷ rest) in
      let here = stands n count in
      let own_inputs : All (Contains (signals n)) n.inputs =
      All-from_contains (Contains (signals n)) n.inputs (λ x c. Contains-append_left n.inputs (map (λ (d : Definition). d.id) n.definitions) x c) in
      let made = flat_map (scan_definition s) n.definitions in
      record {
        inputs =
            map-append name (map s.stem n.inputs) (s.enable ∷ s.scan_in)
            ∙ (ap (λ r. r ++ name s.enable ∷ map name s.scan_in) (stems_named n.inputs own_inputs)
            ∙ (ap (λ x. map (name_of n) n.inputs ++ x ∷ map name s.scan_in) (name_at Enable here.enable)
            ∙ ap (λ r. map (name_of n) n.inputs ++ codes "SC__se" ∷ r)
            (numbered_names name (λ c. codes "SC__si" ++ decimal c) (length n.inputs + 1) 0 (length n.inputs + 1) count (omega arith) (λ k l. in_name k (omega arith)))));
        outputs =
            map-append name (map s.stem n.outputs) (map (λ (p : ℕ × ℕ). p.0) s.scan_out)
            ∙ (ap (λ r. r ++ map name (map (λ (p : ℕ × ℕ). p.0) s.scan_out)) (stems_named n.outputs sound.closed.outputs)
            ∙ ap (λ r. map (name_of n) n.outputs ++ r)
            (ap (map name) (out_numbers n sound.formed.numbered chain rest)
            ∙ numbered_names name (λ c. codes "SC__so" ++ decimal c) (first_scan_out n count) 0 (first_scan_out n count) count (omega arith) (λ k l. out_name k (omega arith))));
        definitions =
            let off : named_equation (name s.enable_not) Not (name s.enable ∷ []) ≡ named_equation (codes "SC__nse") Not (codes "SC__se" ∷ []) =
            ap (λ x. named_equation x Not (name s.enable ∷ [])) (name_at EnableNot here.enable_not) ∙ ap (λ x. named_equation (codes "SC__nse") Not (x ∷ [])) (name_at Enable here.enable) in
            ap (λ x. x ∷ map (named S) (made ++ map show_last s.scan_out)) off
            ∙ ap (λ r. named_equation (codes "SC__nse") Not (codes "SC__se" ∷ []) ∷ r)
            (map-append (named S) made (map show_last s.scan_out)
            ∙ (ap (λ r. r ++ map (named S) (map show_last s.scan_out)) (definitions_named (names_before n 0 (chain ∷ rest)) n.definitions (λ d c. c) befores_named)
            ∙ ap (λ r. scan_equations n (names_before n 0 (chain ∷ rest)) n.definitions ++ r)
            (shows_named 0 (first_scan_out n count) (chain ∷ rest) (omega arith) (omega arith) (λ q c. c) dealt.filled)));
      }

  pub site_names : HasSiteNames n (chain ∷ rest)
  site_names = record {
    stems = stem_name;
    gate_pins = λ d c. ap name (gates_pins n sound chain rest dealt d c) ∙ stem_name d.id (defined_signal n d (contains_filter is_gate n.definitions d c).0);
    cell_pins = λ d c. of_cell d c 0 (Captured d.id) (omega arith) refl;
  }

-- ---- any netlist

pub scanned_by_names : ScannedByNames
scanned_by_names n chains sound are some =
    let dealt = are_dealt n chains are in
    let w = some_chain n chains dealt some in
    let at : AreDealt n (w.0 ∷ w.1) → HasScanNames n (w.0 ∷ w.1) (scanned_of n (w.0 ∷ w.1)) = λ d. scan_names n sound w.0 w.1 d in
    subst (λ (cs : List (List ℕ)). AreDealt n cs → HasScanNames n cs (scanned_of n cs)) (sym w.2) at dealt

names_at_sites : (n : Netlist) (chains : List (List ℕ)) → IsSound n → AreDealt n chains → HasSiteNames n chains
names_at_sites n [] sound dealt = record {
  stems = λ x c. ap (λ (t : Site). name_of n t.stem) (own n sound x c);
  gate_pins = λ d c. ap (λ (t : Site). name_of n t.pins) (own n sound d.id (defined_signal n d (contains_filter is_gate n.definitions d c).0));
  cell_pins = λ d c. absurd (no_cell d dealt.all c);
}
  where
    no_cell : (d : Definition) → [] ≡ map (λ (x : Definition). x.id) (cells n) → Contains (cells n) d → ⊥
    no_cell d e c = let l = c.1 in let size = ap length e in omega (arith, l, size, length-map (cells n) (λ (x : Definition). x.id))
names_at_sites n (chain ∷ rest) sound dealt = site_names n sound chain rest dealt

pub sites_have_names : SitesHaveNames
sites_have_names n chains sound are = names_at_sites n chains sound (are_dealt n chains are)

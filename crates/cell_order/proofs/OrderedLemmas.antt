-- A netlist with its cells in an order, line by line.
use Rattle.std.proofs.Common.{◌≡◌, ◌<◌, ◌≤◌, ◌++◌, ℕ, Bool, true, false, cond, List, [], ◌∷◌, Option, length, map, get_or, refl, sym, ◌∙◌, ap, subst, suc, ◌+◌, drop, drop-cons, drop_of_length-le, append-nil, append_assoc, arith}
use Rattle.std.specs.List.{All, Contains, filter, flat_map}
use Rattle.std.specs.Option.{option_to_list}
use Rattle.std.proofs.lemmas.List.Elements.{All-contains, All-head, All-tail}
use Rattle.statement.specs.Benches.{Text}
use Rattle.statement.specs.Netlists.{Definition, Netlist, cells, is_cell, signals}
use Rattle.netlist.specs.Conditions.{IsSound}
use Rattle.netlist.specs.Netlist.{definition_of}
use Rattle.netlist.proofs.Found.{defined}
use Rattle.netlist.proofs.Lists.{All-from_contains, contains_filter, contains_map}
use Rattle.netlist.proofs.Settling.{above_inputs, cells_below}
use Rattle.bench_text.specs.Canonical.{ended, equation_line}
use Rattle.bench_text.specs.Written.{IsWritable}
use Rattle.bench_text.proofs.WriteLemmas.{definition-writable}
use Rattle.scan_insert.specs.Scanned.{cell_ids}
use Rattle.cell_order.specs.Ordered.{OwnOrder, definitions_at, in_order, in_places}
use Rattle.cell_order.specs.inner.Placing.{IsNextOf}

-- what is no cell stays
stays : (d : Definition) (behind next : List Definition) → is_cell d ≡ false → in_places (d ∷ behind) next ≡ d ∷ in_places behind next
stays d behind [] e = refl
stays d behind (c ∷ next) e = ap (λ b. cond b (c ∷ in_places behind next) (d ∷ in_places behind (c ∷ next))) e

-- a cell's place is the next one's
goes : (d c : Definition) (behind next : List Definition) → is_cell d ≡ true → in_places (d ∷ behind) (c ∷ next) ≡ c ∷ in_places behind next
goes d c behind next e = ap (λ b. cond b (c ∷ in_places behind next) (d ∷ in_places behind (c ∷ next))) e

module _ (n : Netlist) (sound : IsSound n) where
  found : (x : ℕ) (d : Definition) (rest : List ℕ) → Contains n.definitions d → d.id ≡ x → definitions_at n (x ∷ rest) ≡ d ∷ definitions_at n rest
  found x d rest c is = ap (λ (o : Option Definition). option_to_list o ++ definitions_at n rest) (defined n sound.formed.numbered d x c is)

  none_placed : (d : Definition) (behind : List Definition) (next : List ℕ) → length next ≡ 0 → in_places (d ∷ behind) (definitions_at n next) ≡ d ∷ in_places behind (definitions_at n next)
  none_placed d behind [] e = refl
  none_placed d behind (x ∷ next) e = absurd (omega (arith, e))

  pub writable : (d : Definition) → Contains n.definitions d → IsWritable n d
  writable d c = subst (IsWritable n) c.2 (definition-writable n sound c.0 d c.1)

  -- ---- what stands in a definition's place

  module _ (d : Definition) (next : List ℕ) (member : Contains n.definitions d) (are : All (Contains (cell_ids n)) next) where
    pub none_next : length next ≡ 0 → IsNextOf n d next d next
    none_next e = record {
      placed = λ behind. none_placed d behind next e;
      writable = writable d member;
      left = are;
    }

    pub no_cell_here : is_cell d ≡ false → IsNextOf n d next d next
    no_cell_here e = record {
      placed = λ behind. stays d behind (definitions_at n next) e;
      writable = writable d member;
      left = are;
    }

    pub next_cell : (cell : ℕ) (others : List ℕ) (here : Definition) → next ≡ cell ∷ others → is_cell d ≡ true → Contains n.definitions here → here.id ≡ cell → IsNextOf n d next here others
    next_cell cell others here e is c same = record {
      placed = λ behind.
          ap (λ (xs : List ℕ). in_places (d ∷ behind) (definitions_at n xs)) e
          ∙ (ap (in_places (d ∷ behind)) (found cell here others c same) ∙ goes d here behind (definitions_at n others) is);
      writable = writable here c;
      left = All-tail (Contains (cell_ids n)) cell others (subst (All (Contains (cell_ids n))) e are);
    }

  -- ---- cells are defined

  pub below : (x : ℕ) → Contains (cell_ids n) x → x < length (signals n)
  below x c = All-contains (λ y. y < length (signals n)) (cell_ids n) x (cells_below n sound.formed.numbered (cell_ids n) (length (signals n)) refl refl) c

  pub above : (x : ℕ) → Contains (cell_ids n) x → length n.inputs ≤ x
  above x c =
      let at = contains_map (λ (d : Definition). d.id) (cells n) x c in
      subst (λ y. length n.inputs ≤ y) at.2 (above_inputs n sound.formed.numbered at.0 (contains_filter is_cell n.definitions at.0 at.1).0)

  pub first_is : (cell : ℕ) (others next : List ℕ) → next ≡ cell ∷ others → All (Contains (cell_ids n)) next → Contains (cell_ids n) cell
  first_is cell others next e are = All-head (Contains (cell_ids n)) cell others (subst (All (Contains (cell_ids n))) e are)

  -- ---- its own order

  own_cells : (ds : List Definition) → All (Contains n.definitions) ds → definitions_at n (map (λ (d : Definition). d.id) ds) ≡ ds
  own_cells [] h = refl
  own_cells (d ∷ ds) h =
      found d.id d (map (λ (e : Definition). e.id) ds) (All-head (Contains n.definitions) d ds h) refl
      ∙ ap (λ (l : List Definition). d ∷ l) (own_cells ds (All-tail (Contains n.definitions) d ds h))

in_own_places : (ds : List Definition) → in_places ds (filter is_cell ds) ≡ ds
in_own_places [] = refl
in_own_places (d ∷ ds) =
    let rest = ap (λ (l : List Definition). d ∷ l) (in_own_places ds) in
    let step : (b : Bool) → is_cell d ≡ b → in_places (d ∷ ds) (cond b (d ∷ filter is_cell ds) (filter is_cell ds)) ≡ d ∷ ds =
    elim [
      | true ↦ λ e. goes d d ds (filter is_cell ds) e ∙ rest
      | false ↦ λ e. stays d ds (filter is_cell ds) e ∙ rest
    ] in
    step (is_cell d) refl

pub own_order : OwnOrder
own_order n sound =
    let own : definitions_at n (cell_ids n) ≡ cells n =
    own_cells n sound (cells n) (All-from_contains (Contains n.definitions) (cells n) (λ d c. (contains_filter is_cell n.definitions d c).0)) in
    ap (λ (ds : List Definition). record n { definitions = ds }) (ap (in_places n.definitions) own ∙ in_own_places n.definitions)

-- ---- one line more

module _ (line : Definition → Text) where
  pub line_more : (out new all : Text) (here : Definition) (these rest : List Definition) → these ≡ here ∷ rest → new ≡ out ++ line here ++ 10 ∷ [] → out ++ ended (map line these) ≡ all
      → new ++ ended (map line rest) ≡ all
  line_more out new all here these rest e is h =
      let lf : Text = 10 ∷ [] in
      let more = ended (map line rest) in
      ap (λ (t : Text). t ++ more) is
      ∙ (append_assoc (out ++ line here) lf more
      ∙ (append_assoc out (line here) (lf ++ more)
      ∙ (ap (λ (t : Text). out ++ t) (sym (append_assoc (line here) lf more)) ∙ (ap (λ (ds : List Definition). out ++ ended (map line ds)) (sym e) ∙ h))))

-- what is to come, behind what is written, is all
abbrev pub Unwritten : Netlist → ℕ → List ℕ → Text → Text → List ℕ → Type 0
Unwritten n i next out old order =
    out ++ ended (map (equation_line n.names) (in_places (drop i n.definitions) (definitions_at n next))) ≡ old ++ ended (map (equation_line n.names) (in_places n.definitions (definitions_at n order)))

module _ (n : Netlist) (ds : List Definition) (are : ds ≡ n.definitions) (i : ℕ) (next order : List ℕ) (out old : Text) where
  pub next_line : (d here : Definition) (others : List ℕ) (new : Text) → i < length ds → d ≡ get_or ds i d → IsNextOf n d next here others → new ≡ out ++ equation_line n.names here ++ 10 ∷ []
      → Unwritten n i next out old order → Unwritten n (i + 1) others new old order
  next_line d here others new l is at more h =
      let one : suc i ≡ i + 1 = omega arith in
      let cut : drop i ds ≡ d ∷ drop (i + 1) ds = drop-cons ds i d l ∙ (ap (λ x. x ∷ drop (suc i) ds) (sym is) ∙ ap (λ j. d ∷ drop j ds) one) in
      let here_cut : drop i n.definitions ≡ d ∷ drop (i + 1) n.definitions = subst (λ (xs : List Definition). drop i xs ≡ d ∷ drop (i + 1) xs) are cut in
      line_more (equation_line n.names) out new (old ++ ended (map (equation_line n.names) (in_places n.definitions (definitions_at n order)))) here
      (in_places (drop i n.definitions) (definitions_at n next)) (in_places (drop (i + 1) n.definitions) (definitions_at n others))
      (ap (λ (xs : List Definition). in_places xs (definitions_at n next)) here_cut ∙ at.placed (drop (i + 1) n.definitions)) more h

  pub all_written : length ds ≤ i → Unwritten n i next out old order → out ≡ old ++ ended (map (equation_line n.names) (in_places n.definitions (definitions_at n order)))
  all_written past h =
      let none : drop i n.definitions ≡ [] = subst (λ (xs : List Definition). drop i xs ≡ []) are (drop_of_length-le ds past) in
      sym (append-nil out) ∙ (ap (λ (xs : List Definition). out ++ ended (map (equation_line n.names) (in_places xs (definitions_at n next)))) (sym none) ∙ h)

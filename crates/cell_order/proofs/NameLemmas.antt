-- Names one by one, and the cells that have them.
use denote.Ref.{Bor}
use Rattle.std.proofs.Common.{◌≡◌, ◌≢◌, ℕ, ◌+◌, ◌<◌, Bool, true, false, List, [], ◌∷◌, ◌++◌, map, length, get_or, take, drop, suc, refl, sym, ◌∙◌, ap, ap₂, subst, inl, inr, append_assoc, append-nil, take-append-drop, drop-cons, arith}
use Rattle.std.specs.List.{All, Contains, flat_map}
use Rattle.std.proofs.lemmas.Bool.{both_ways, cases_order}
use Rattle.std.proofs.lemmas.List.{length-map, length-take-le, map_push, take_more}
use Rattle.std.proofs.lemmas.List.Elements.{All-contains, All-head, All-push, All-tail}
use Rattle.statement.specs.Benches.{Text}
use Rattle.statement.specs.Netlists.{Netlist, name_of, signals}
use Rattle.netlist.specs.Conditions.{IsSound}
use Rattle.netlist.proofs.Lists.{All-from_contains}
use Rattle.netlist.proofs.Placed.{signal_from}
use Rattle.netlist.proofs.Settling.{cells_below}
use Rattle.bench_text.specs.Bytes.{lines}
use Rattle.bench_text.proofs.TextLemmas.{lines-none}
use Rattle.scan_insert.specs.Scanned.{cell_ids}
use Rattle.cell_order.specs.Orders.{AreCells, IsStranger, words_of}
use Rattle.cell_order.specs.inner.Reads.{AreMarked, is_marked, texts_in}

-- ---- words

pub one_more : (words new : List (Bor Text)) (word : Bor Text) (rest more all : List Text) → new ≡ words ++ word ∷ [] → rest ≡ word.now ∷ more
    → texts_in words ++ rest ≡ all → texts_in new ++ more ≡ all
one_more words new word rest more all e first h =
    ap (λ (ws : List (Bor Text)). texts_in ws ++ more) e
    ∙ (ap (λ (ts : List Text). ts ++ more) (map_push (λ (w : Bor Text). w.now) words word)
    ∙ (append_assoc (texts_in words) (word.now ∷ []) more ∙ (ap (λ (ts : List Text). texts_in words ++ ts) (sym first) ∙ h)))

pub last_one : (words new : List (Bor Text)) (word : Bor Text) (rest all : List Text) → new ≡ words ++ word ∷ [] → rest ≡ word.now ∷ []
    → texts_in words ++ rest ≡ all → texts_in new ≡ all
last_one words new word rest all e first h =
    ap texts_in e ∙ (map_push (λ (w : Bor Text). w.now) words word ∙ (ap (λ (ts : List Text). texts_in words ++ ts) (sym first) ∙ h))

-- ---- lines

module _ (rest line after : Text) (first : lines rest ≡ line ∷ lines after) where
  pub names_more : (said new all : List Text) → new ≡ said ++ words_of line → said ++ flat_map words_of (lines rest) ≡ all → new ++ flat_map words_of (lines after) ≡ all
  names_more said new all e h =
      ap (λ (ts : List Text). ts ++ flat_map words_of (lines after)) e
      ∙ (append_assoc said (words_of line) (flat_map words_of (lines after)) ∙ (ap (λ (ls : List Text). said ++ flat_map words_of ls) (sym first) ∙ h))

  pub lengths_more : (said new : List ℕ) (k : ℕ) (all : List ℕ) → new ≡ said ++ k ∷ [] → k ≡ length (words_of line)
      → said ++ map length (map words_of (lines rest)) ≡ all → new ++ map length (map words_of (lines after)) ≡ all
  lengths_more said new k all e is h =
      ap (λ (ks : List ℕ). ks ++ map length (map words_of (lines after))) e
      ∙ (append_assoc said (k ∷ []) (map length (map words_of (lines after)))
      ∙ (ap (λ i. said ++ i ∷ map length (map words_of (lines after))) is ∙ (ap (λ (ls : List Text). said ++ map length (map words_of ls)) (sym first) ∙ h)))

pub names_done : (rest : Text) → length rest ≡ 0 → (said all : List Text) → said ++ flat_map words_of (lines rest) ≡ all → said ≡ all
names_done [] e said all h = sym (append-nil said) ∙ (ap (λ (ls : List Text). said ++ flat_map words_of ls) (sym lines-none) ∙ h)
names_done (b ∷ bs) e said all h = absurd (omega arith)

pub lengths_done : (rest : Text) → length rest ≡ 0 → (said all : List ℕ) → said ++ map length (map words_of (lines rest)) ≡ all → said ≡ all
lengths_done [] e said all h = sym (append-nil said) ∙ (ap (λ (ls : List Text). said ++ map length (map words_of ls)) (sym lines-none) ∙ h)
lengths_done (b ∷ bs) e said all h = absurd (omega arith)

-- ---- names of cells

module _ (n : Netlist) (sound : IsSound n) where
  cell_below : All (λ x. x < length (signals n)) (cell_ids n)
  cell_below = cells_below n sound.formed.numbered (cell_ids n) (length (signals n)) refl refl

  pub no_signal : (name : Text) → ((x : ℕ) → x < length (signals n) → name_of n x ≢ name) → All (λ x. name_of n x ≢ name) (cell_ids n)
  no_signal name h = All-from_contains (λ x. name_of n x ≢ name) (cell_ids n) (λ x c. h x (All-contains (λ y. y < length (signals n)) (cell_ids n) x cell_below c))

  pub order_below : (order : List ℕ) (m : ℕ) → m ≡ length (signals n) → All (Contains (cell_ids n)) order → All (λ x. x < m) order
  order_below order m e h k d l =
      subst (λ j. get_or order k d < j) (sym e) (All-contains (λ y. y < length (signals n)) (cell_ids n) (get_or order k d) cell_below (h k d l))

  named : (x : ℕ) → x < length (signals n) → x < length n.names
  named x l = sound.formed.named x (signal_from n sound.formed.numbered x l)

  same_name : (x y : ℕ) → x < length (signals n) → y < length (signals n) → name_of n x ≡ name_of n y → x ≡ y
  same_name x y l m e = elim (cases_order x y) [
    | inl same ↦ same
    | inr o ↦ elim o [
      | inl less ↦ absurd (sound.formed.distinct x y [] less (named y m) e)
      | inr more ↦ absurd (sound.formed.distinct y x [] more (named x l) (sym e))
    ]
  ]

  -- cells of the same names are the same
  pub same_cells : (a b : List ℕ) → All (Contains (cell_ids n)) a → All (Contains (cell_ids n)) b → map (name_of n) a ≡ map (name_of n) b → a ≡ b
  same_cells [] [] h g e = refl
  same_cells [] (y ∷ b) h g e = cc
  same_cells (x ∷ a) [] h g e = cc
  same_cells (x ∷ a) (y ∷ b) h g e =
      let here : (z : ℕ) → Contains (cell_ids n) z → z < length (signals n) = λ z c. All-contains (λ w. w < length (signals n)) (cell_ids n) z cell_below c in
      let first : name_of n x ≡ name_of n y = cc in
      let rest : map (name_of n) a ≡ map (name_of n) b = cc in
      ap₂ (λ z (zs : List ℕ). z ∷ zs) (same_name x y (here x (All-head (Contains (cell_ids n)) x a h)) (here y (All-head (Contains (cell_ids n)) y b g)) first)
      (same_cells a b (All-tail (Contains (cell_ids n)) x a h) (All-tail (Contains (cell_ids n)) y b g) rest)

  pub no_cell : (name : Text) (marks : List Bool) (y : ℕ) → AreMarked (cell_ids n) marks → y < length (signals n) → name_of n y ≡ name → is_marked marks y ≡ false
      → All (λ x. name_of n x ≢ name) (cell_ids n)
  no_cell name marks y m l is off = All-from_contains (λ x. name_of n x ≢ name) (cell_ids n) (λ x c e.
      let below = All-contains (λ z. z < length (signals n)) (cell_ids n) x cell_below c in
      let same : x ≡ y = same_name x y below l (e ∙ sym is) in
      both_ways (is_marked marks y) off (subst (λ z. is_marked marks z ≡ true) same (All-contains (λ z. is_marked marks z ≡ true) (cell_ids n) x m.each c)))

module _ (n : Netlist) (words : List (Bor Text)) (k : ℕ) (word : Bor Text) (l : k < length words) (is : word ≡ get_or words k word) (order : List ℕ) (are : AreCells n (texts_in (take k words)) order) where
  pub stranger : All (λ x. name_of n x ≢ word.now) (cell_ids n) → IsStranger n (texts_in words) (k + 1)
  stranger none = record {
    before = texts_in (take k words);
    name = word.now;
    behind = texts_in (drop (suc k) words);
    order = order;
    names_are =
        let cut : words ≡ take k words ++ word ∷ drop (suc k) words =
        sym (take-append-drop k words) ∙ ap (λ (r : List (Bor Text)). take k words ++ r) (drop-cons words k word l ∙ ap (λ (w : Bor Text). w ∷ drop (suc k) words) (sym is)) in
        ap texts_in cut ∙ map_append (take k words) (word ∷ drop (suc k) words);
    are = are;
    stranger = none;
    number_is = ap (λ j. j + 1) (sym (length-map (take k words) (λ (w : Bor Text). w.now) ∙ length-take-le k words (omega (arith, l))));
  } where
    map_append : (xs ys : List (Bor Text)) → texts_in (xs ++ ys) ≡ texts_in xs ++ texts_in ys
    map_append [] ys = refl
    map_append (x ∷ xs) ys = ap (λ (r : List Text). x.now ∷ r) (map_append xs ys)

  pub cells_more : (x : ℕ) (new : List ℕ) → Contains (cell_ids n) x → name_of n x ≡ word.now → new ≡ order ++ x ∷ [] → AreCells n (texts_in (take (k + 1) words)) new
  cells_more x new c e more = subst (AreCells n (texts_in (take (k + 1) words))) (sym more) (record {
    named =
        let taken : take (k + 1) words ≡ take k words ++ word ∷ [] = take_more words k word l ∙ ap (λ (w : Bor Text). take k words ++ w ∷ []) (sym is) in
        map_push (name_of n) order x ∙ (ap (λ (ts : List Text). ts ++ name_of n x ∷ []) are.named ∙ (ap (λ (t : Text). texts_in (take k words) ++ t ∷ []) e
        ∙ (sym (map_push (λ (w : Bor Text). w.now) (take k words) word) ∙ ap texts_in (sym taken))));
    cells = All-push (Contains (cell_ids n)) order x are.cells c;
  })

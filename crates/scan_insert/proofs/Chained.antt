-- What stands before each cell, and what a shift does.
use Rattle.std.proofs.Common.{◌≡◌, ◌≢◌, ℕ, suc, zero, ◌+◌, ◌-◌, ◌<◌, Bool, true, false, cond, ◌⊎◌, List, [], ◌∷◌, ◌++◌, map, length, get_or, take, drop, refl, sym, ◌∙◌, ap, subst, inl, inr, arith, length-append, length-take}
use Rattle.std.specs.List.{All, AllPairs, AllZip, Contains, zip}
use Rattle.std.proofs.lemmas.Bool.{eq-eqb, ne_eqb, cases_eq, both_ways}
use Rattle.std.proofs.lemmas.List.{length-map, get_or-map, get_or_append_left, map-append, take-take, take-map, same_lists}
use Rattle.std.proofs.lemmas.List.Elements.{All-head, All-tail, Contains-append_cases, Contains-append_left, Contains-append_right, Contains-get_or}
use Rattle.statement.specs.Netlists.{Definition, is_cell}
use Rattle.netlist.proofs.Lists.{contains_head, contains_tail, contains_cases, contains_nil, contains_map, map_map}
use Rattle.statement.specs.Tests.{cells_of}
use Rattle.scan_insert.specs.declared.sites.Site.{Site}
use Rattle.statement.specs.Runs.{numbers_from}
use Rattle.scan_insert.specs.Scanned.{own_site, sites_from, site, befores, beside, last_of}
use Rattle.scan_insert.specs.Laws.{shifted, last_values}

-- a gate's pins are where its stem is
pub gate_site : (sites : List Site) (next : ℕ) (ds : List Definition) (d : Definition)
    → AllZip (λ (e : Definition) (t : Site). site sites e.id ≡ t) ds (sites_from next ds) → Contains ds d → is_cell d ≡ false
    → (site sites d.id).pins ≡ (site sites d.id).stem
gate_site sites next [] d h c g = absurd (contains_nil d c)
gate_site sites next (e ∷ es) d h c g =
    let R : Definition → Site → Type 0 = λ x t. site sites x.id ≡ t in
    let step : (b : Bool) → is_cell e ≡ b → AllZip R (e ∷ es) (cond b (record { stem = next + 4; pins = next } ∷ sites_from (next + 5) es) (own_site next ∷ sites_from (next + 1) es))
    → (site sites d.id).pins ≡ (site sites d.id).stem =
    elim [
      | true ↦ λ is k. elim (contains_cases e d es c) [
        | inl same ↦ absurd (both_ways (is_cell d) g (sym (ap is_cell same) ∙ is))
        | inr r ↦ gate_site sites (next + 5) es d k.1 r g
      ]
      | false ↦ λ is k. elim (contains_cases e d es c) [
        | inl same ↦
            let here : site sites d.id ≡ own_site next = ap (λ (x : Definition). site sites x.id) (sym same) ∙ k.0 in
            ap (λ (t : Site). t.pins) here ∙ sym (ap (λ (t : Site). t.stem) here)
        | inr r ↦ gate_site sites (next + 1) es d k.1 r g
      ]
    ] in
    step (is_cell e) refl h

contains_take : {X : Type 0} (m : ℕ) (xs : List X) (x : X) → Contains (take m xs) x → Contains xs x
contains_take zero xs x c = absurd (contains_nil x c)
contains_take (suc m) [] x c = absurd (contains_nil x c)
contains_take (suc m) (y ∷ ys) x c = elim (contains_cases y x (take m ys) c) [
  | inl e ↦ subst (λ z. Contains (z ∷ ys) x) (sym e) (contains_head x ys)
  | inr r ↦ contains_tail y x ys (contains_take m ys x r)
]

piece_length : (held : ℕ → ℕ) (input : ℕ) (chain : List ℕ) → length (take (length chain) (input ∷ map held chain)) ≡ length chain
piece_length held input chain = omega (arith, length-take (length chain) (input ∷ map held chain), length-map chain held)

pub length-befores : (held : ℕ → ℕ) (input : ℕ) (chains : List (List ℕ)) → length (befores held input chains) ≡ length (cells_of chains)
length-befores held input [] = refl
length-befores held input (chain ∷ chains) =
    omega (
      arith,
      length-append (take (length chain) (input ∷ map held chain)) (befores held (input + 1) chains),
      piece_length held input chain,
      length-befores held (input + 1) chains,
      length-append chain (cells_of chains),
    )

-- what stands before a cell is what a cell holds, or a scan input
pub before_cases : (held : ℕ → ℕ) (input : ℕ) (chains : List (List ℕ)) (x : ℕ) → Contains (befores held input chains) x
    → ((q : ℕ) × Contains (cells_of chains) q × (x ≡ held q)) ⊎ Contains (numbers_from input (length chains)) x
before_cases held input [] x c = absurd (contains_nil x c)
before_cases held input (chain ∷ chains) x c = elim (Contains-append_cases (take (length chain) (input ∷ map held chain)) (befores held (input + 1) chains) x c) [
  | inl h ↦ elim (contains_cases input x (map held chain) (contains_take (length chain) (input ∷ map held chain) x h)) [
    | inl e ↦ inr (subst (λ y. Contains (input ∷ numbers_from (input + 1) (length chains)) y) e (contains_head input (numbers_from (input + 1) (length chains))))
    | inr r ↦ let m = contains_map held chain x r in inl (m.0, Contains-append_left chain (cells_of chains) m.0 m.1, sym m.2)
  ]
  | inr h ↦ elim (before_cases held (input + 1) chains x h) [
    | inl m ↦ inl (m.0, Contains-append_right chain (cells_of chains) m.0 m.1, m.2)
    | inr r ↦ inr (contains_tail input x (numbers_from (input + 1) (length chains)) r)
  ]
]

pub contains_beside : (ys vs : List ℕ) (x : ℕ) → length ys ≡ length vs → Contains ys x → Contains vs (beside ys vs x)
contains_beside [] vs x e c = absurd (contains_nil x c)
contains_beside (y ∷ ys) [] x e c = absurd (omega (arith, e))
contains_beside (y ∷ ys) (v ∷ vs) x e c = elim (cases_eq y x) [
  | inl same ↦ subst (λ t. Contains (v ∷ vs) (cond t v (beside ys vs x))) (sym (eq-eqb y x same)) (contains_head v vs)
  | inr n ↦ elim (contains_cases y x ys c) [
    | inl same ↦ absurd (n same)
    | inr r ↦ subst (λ t. Contains (v ∷ vs) (cond t v (beside ys vs x))) (sym (ne_eqb y x n)) (contains_tail v (beside ys vs x) vs (contains_beside ys vs x (omega (arith, e)) r))
  ]
]

-- where the keys differ, each has what stands beside it
beside_at : (ys vs : List ℕ) (k d : ℕ) → AllPairs (λ x y. x ≢ y) ys → length ys ≡ length vs → k < length ys → beside ys vs (get_or ys k d) ≡ get_or vs k d
beside_at [] vs k d p e l = absurd (omega (arith, l))
beside_at (y ∷ ys) [] k d p e l = absurd (omega (arith, e))
beside_at (y ∷ ys) (v ∷ vs) zero d p e l = ap (λ t. cond t v (beside ys vs y)) (eq-eqb y y refl)
beside_at (y ∷ ys) (v ∷ vs) (suc k) d p e l =
    ap (λ t. cond t v (beside ys vs (get_or ys k d))) (ne_eqb y (get_or ys k d) (p 0 (suc k) d (omega arith) l))
    ∙ beside_at ys vs k d (λ i j f a b. p (suc i) (suc j) f (omega arith) (omega arith)) (omega (arith, e)) (omega arith)

pub map-beside : (ys vs : List ℕ) → AllPairs (λ x y. x ≢ y) ys → length ys ≡ length vs → map (beside ys vs) ys ≡ vs
map-beside ys vs p e =
    same_lists (map (beside ys vs) ys) vs (length-map ys (beside ys vs) ∙ e)
    (λ k d l.
    let w : k < length ys = omega (arith, length-map ys (beside ys vs)) in
    get_or-map (beside ys vs) ys k d d w ∙ beside_at ys vs k d p e w)

zip_parts : {X Y : Type 0} (R : X → Y → Type 0) (xs ys : List X) (zs : List Y) → AllZip R (xs ++ ys) zs → AllZip R xs (take (length xs) zs) × AllZip R ys (drop (length xs) zs)
zip_parts R [] ys zs h = (tt, h)
zip_parts R (x ∷ xs) ys [] h = absurd h
zip_parts R (x ∷ xs) ys (z ∷ zs) h = let r = zip_parts R xs ys zs h.1 in ((h.0, r.0), r.1)

zip_at : {X Y : Type 0} (R : X → Y → Type 0) (xs : List X) (ys : List Y) (k : ℕ) (d : X) (e : Y) → AllZip R xs ys → k < length xs → R (get_or xs k d) (get_or ys k e)
zip_at R [] ys k d e h l = absurd (omega (arith, l))
zip_at R (x ∷ xs) [] k d e h l = absurd h
zip_at R (x ∷ xs) (y ∷ ys) zero d e h l = h.0
zip_at R (x ∷ xs) (y ∷ ys) (suc k) d e h l = zip_at R xs ys k d e h.1 (omega arith)

zip_map : {X V : Type 0} (f : X → V) (xs : List X) (vs : List V) → AllZip (λ x v. f x ≡ v) xs vs → map f xs ≡ vs
zip_map f [] [] h = refl
zip_map f [] (v ∷ vs) h = absurd h
zip_map f (x ∷ xs) [] h = absurd h
zip_map f (x ∷ xs) (v ∷ vs) h =
    let e : f x ≡ v = h.0 in
    let r = zip_map f xs vs h.1 in
    cc

-- one chain's shift
shift_chain : {V : Type 0} (b : ℕ → V) (held : ℕ → ℕ) (input : ℕ) (chain : List ℕ) (v : V) (state : List V)
    → 0 < length chain → b input ≡ v → map (λ q. b (held q)) chain ≡ take (length chain) state
    → map b (take (length chain) (input ∷ map held chain)) ≡ take (length chain) (v ∷ state)
shift_chain b held input [] v state l e h = absurd (omega arith)
shift_chain b held input (q ∷ qs) v state l e h =
    let m = length qs in
    let all : map b (map held (q ∷ qs)) ≡ take (suc m) state = map_map held b (q ∷ qs) ∙ h in
    let cut : map b (take m (map held (q ∷ qs))) ≡ take m state =
    sym (take-map b m (map held (q ∷ qs))) ∙ (ap (take m) all ∙ take-take m (suc m) state (omega arith)) in
    cc

pub shift_is : {V : Type 0} (b : ℕ → V) (held : ℕ → ℕ) (input : ℕ) (chains : List (List ℕ)) (vs state : List V)
    → All (λ (chain : List ℕ). 0 < length chain) chains
    → AllZip (λ x v. b x ≡ v) (numbers_from input (length chains)) vs → AllZip (λ q v. b (held q) ≡ v) (cells_of chains) state
    → map b (befores held input chains) ≡ shifted chains vs state
shift_is b held input [] vs state filled h k = refl
shift_is b held input (chain ∷ chains) [] state filled h k = absurd h
shift_is b held input (chain ∷ chains) (v ∷ vs) state filled h k =
    let parts = zip_parts (λ q w. b (held q) ≡ w) chain (cells_of chains) state k in
    let here = shift_chain b held input chain v state (All-head (λ (c : List ℕ). 0 < length c) chain chains filled) h.0 (zip_map (λ q. b (held q)) chain (take (length chain) state) parts.0) in
    let rest = shift_is b held (input + 1) chains vs (drop (length chain) state) (All-tail (λ (c : List ℕ). 0 < length c) chain chains filled) h.1 parts.1 in
    map-append b (take (length chain) (input ∷ map held chain)) (befores held (input + 1) chains)
    ∙ (ap (λ r. r ++ map b (befores held (input + 1) chains)) here ∙ ap (λ r. take (length chain) (v ∷ state) ++ r) rest)

pub lasts_are : {V : Type 0} (blank : V) (b : ℕ → V) (held : ℕ → ℕ) (chains : List (List ℕ)) (state : List V)
    → All (λ (chain : List ℕ). 0 < length chain) chains → AllZip (λ q v. b (held q) ≡ v) (cells_of chains) state
    → map (λ (chain : List ℕ). b (held (last_of chain))) chains ≡ last_values blank chains state
lasts_are blank b held [] state filled k = refl
lasts_are blank b held (chain ∷ chains) state filled k =
    let parts = zip_parts (λ q w. b (held q) ≡ w) chain (cells_of chains) state k in
    let some : 0 < length chain = All-head (λ (c : List ℕ). 0 < length c) chain chains filled in
    let within : length chain - 1 < length (chain ++ cells_of chains) = omega (arith, length-append chain (cells_of chains)) in
    let whole : b (held (get_or (chain ++ cells_of chains) (length chain - 1) 0)) ≡ get_or state (length chain - 1) blank =
    zip_at (λ q w. b (held q) ≡ w) (chain ++ cells_of chains) state (length chain - 1) 0 blank k within in
    let here : b (held (last_of chain)) ≡ get_or state (length chain - 1) blank =
    ap (λ q. b (held q)) (sym (get_or_append_left chain (cells_of chains) 0 (length chain - 1) (omega arith))) ∙ whole in
    let rest = lasts_are blank b held chains (drop (length chain) state) (All-tail (λ (c : List ℕ). 0 < length c) chain chains filled) parts.1 in
    cc

-- the last of some is one of them
pub contains_last : (xs : List ℕ) → 0 < length xs → Contains xs (last_of xs)
contains_last xs l = Contains-get_or xs (length xs - 1) 0 (omega arith)

pub contains_cells_of : (chains : List (List ℕ)) (chain : List ℕ) (x : ℕ) → Contains chains chain → Contains chain x → Contains (cells_of chains) x
contains_cells_of [] chain x c h = absurd (contains_nil chain c)
contains_cells_of (y ∷ ys) chain x c h = elim (contains_cases y chain ys c) [
  | inl e ↦ Contains-append_left y (cells_of ys) x (subst (λ (z : List ℕ). Contains z x) (sym e) h)
  | inr r ↦ Contains-append_right y (cells_of ys) x (contains_cells_of ys chain x r h)
]

pub contains_second : {X Y : Type 0} (xs : List X) (ys : List Y) (p : X × Y) → Contains (zip xs ys) p → Contains ys p.1
contains_second [] ys p c = absurd (contains_nil p c)
contains_second (x ∷ xs) [] p c = absurd (contains_nil p c)
contains_second {X} {Y} (x ∷ xs) (y ∷ ys) p c = elim (contains_cases (x, y) p (zip xs ys) c) [
  | inl e ↦ subst (λ z. Contains (y ∷ ys) z) (ap (λ (q : X × Y). q.1) e) (contains_head y ys)
  | inr r ↦ contains_tail y p.1 ys (contains_second xs ys p r)
]

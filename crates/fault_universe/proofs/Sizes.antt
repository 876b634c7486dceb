-- How many faults there can be.
use Rattle.std.proofs.Common.{◌≡◌, ℕ, ◌+◌, ◌*◌, ◌≤◌, Bool, true, false, cond, eqb, leb, List, [], ◌∷◌, ◌++◌, map, length, refl, sym, ◌∙◌, ap, subst, arith, length-append}
use Rattle.std.specs.List.{Contains, filter, flat_map}
use Rattle.std.proofs.lemmas.Bool.{eqb-true, ne_eqb}
use Rattle.std.proofs.lemmas.List.{length-map}
use Rattle.statement.specs.declared.lines.Line.{Line}
use Rattle.statement.specs.declared.lines.Line.TheVariants.{Pin, Out}
use Rattle.statement.specs.Netlists.{Definition, Netlist, signals, pins_reading, readers_of}
use Rattle.netlist.specs.Conditions.{IsSound}
use Rattle.netlist.proofs.Lists.{contains_head, contains_tail}
use Rattle.netlist.proofs.WellFormed.{few_pins_of}
use Rattle.fault_universe.specs.Universe.{all_lines}
use Rattle.statement.specs.Faults.{lines_of, universe_of}
use Rattle.fault_universe.proofs.Distinct.{distinct_signals, from_places, IsDistinct}
use Rattle.fault_universe.proofs.FaultLists.{length-faults}

-- a sum over a list
total : {X : Type 0} → (X → ℕ) → List X → ℕ
total f [] = 0
total f (x ∷ xs) = f x + total f xs

total-add : {X : Type 0} (f g : X → ℕ) (xs : List X) → total (λ x. f x + g x) xs ≡ total f xs + total g xs
unfolding total
total-add f g [] = refl
total-add f g (x ∷ xs) = let h = total-add f g xs in omega arith

total-le : {X : Type 0} (f g : X → ℕ) (xs : List X) → ((x : X) → f x ≤ g x) → total f xs ≤ total g xs
unfolding total
total-le f g [] h = omega arith
total-le f g (x ∷ xs) h = let here = h x in let rest = total-le f g xs h in omega arith

total-same : {X : Type 0} (c : ℕ) (xs : List X) → total (λ _. c) xs ≡ c * length xs
unfolding total
total-same c [] = omega arith
total-same c (x ∷ xs) = let h = total-same c xs in omega arith

length-flat_map : {X Y : Type 0} (f : X → List Y) (xs : List X) → length (flat_map f xs) ≡ total (λ x. length (f x)) xs
unfolding total
length-flat_map f [] = refl
length-flat_map f (x ∷ xs) = let h = length-flat_map f xs in omega (arith, length-append (f x) (flat_map f xs))

-- how many elements of a list without repetition are y
none_is : (y : ℕ) (xs : List ℕ) → (Contains xs y → ⊥) → total (λ x. cond (eqb y x) 1 0) xs ≡ 0
unfolding total
none_is y [] none = refl
none_is y (x ∷ xs) none =
    let away = ne_eqb y x (λ e. none (subst (λ w. Contains (w ∷ xs) y) e (contains_head y xs))) in
    let here : ◌≡◌ {A = ℕ} (cond {A = ℕ} (eqb y x) 1 0) 0 = ap (λ b. cond {A = ℕ} b 1 0) away in
    let rest = none_is y xs (λ c. none (contains_tail x y xs c)) in
    omega arith

one_is : (y : ℕ) (xs : List ℕ) → IsDistinct xs → total (λ x. cond (eqb y x) 1 0) xs ≤ 1
unfolding total
one_is y [] d = omega arith
one_is y (x ∷ xs) d =
    let here : (b : Bool) → eqb y x ≡ b → cond b 1 0 + total (λ x. cond (eqb y x) 1 0) xs ≤ 1 =
    elim [
      | true ↦ λ e. let none = none_is y xs (λ c. d.0 (subst (Contains xs) (eqb-true y x e) c)) in omega arith
      | false ↦ λ e. let h = one_is y xs d.1 in omega arith
    ] in
    here (eqb y x) refl

-- each pin reads one signal
pins_step : (x z k y : ℕ) (ys : List ℕ) → length (pins_reading x z k (y ∷ ys)) ≡ cond (eqb y x) 1 0 + length (pins_reading x z (k + 1) ys)
pins_step x z k y ys =
    let here : (b : Bool) → length (cond b (Pin z k ∷ pins_reading x z (k + 1) ys) (pins_reading x z (k + 1) ys)) ≡ cond b 1 0 + length (pins_reading x z (k + 1) ys) =
    elim [ true ↦ omega arith | false ↦ omega arith ] in
    here (eqb y x)

pins_once : (xs : List ℕ) → IsDistinct xs → (z k : ℕ) (ys : List ℕ) → total (λ x. length (pins_reading x z k ys)) xs ≤ length ys
pins_once xs d z k [] = let h = total-same 0 xs in omega arith
pins_once xs d z k (y ∷ ys) =
    let split = total-le (λ x. length (pins_reading x z k (y ∷ ys))) (λ x. cond (eqb y x) 1 0 + length (pins_reading x z (k + 1) ys)) xs (λ x. let e = pins_step x z k y ys in omega arith) in
    let sum = total-add (λ x. cond (eqb y x) 1 0) (λ x. length (pins_reading x z (k + 1) ys)) xs in
    let one = one_is y xs d in
    let rest = pins_once xs d z (k + 1) ys in
    omega arith

definitions_once : (xs : List ℕ) → IsDistinct xs → (ds : List Definition) → ((d : Definition) → Contains ds d → length d.pins ≤ 1024)
    → total (λ x. length (flat_map (λ (d : Definition). pins_reading x d.id 0 d.pins) ds)) xs ≤ 1024 * length ds
definitions_once xs d [] few = let h = total-same 0 xs in omega arith
definitions_once xs d (e ∷ ds) few =
    let split = total-le (λ x. length (pins_reading x e.id 0 e.pins ++ flat_map (λ (d : Definition). pins_reading x d.id 0 d.pins) ds))
    (λ x. length (pins_reading x e.id 0 e.pins) + length (flat_map (λ (d : Definition). pins_reading x d.id 0 d.pins) ds)) xs
    (λ x. omega (arith, length-append (pins_reading x e.id 0 e.pins) (flat_map (λ (d : Definition). pins_reading x d.id 0 d.pins) ds))) in
    let sum = total-add (λ x. length (pins_reading x e.id 0 e.pins)) (λ x. length (flat_map (λ (d : Definition). pins_reading x d.id 0 d.pins) ds)) xs in
    let here = pins_once xs d e.id 0 e.pins in
    let most = few e (contains_head e ds) in
    let rest = definitions_once xs d ds (λ f c. few f (contains_tail e f ds c)) in
    omega arith

-- an output is read by one output pin
no_outs : (x : ℕ) (ys : List ℕ) → (Contains ys x → ⊥) → length (map (λ y. Out y) (filter (λ y. eqb y x) ys)) ≡ 0
no_outs x [] none = refl
no_outs x (y ∷ ys) none =
    let away = ne_eqb y x (λ e. none (subst (λ w. Contains (w ∷ ys) x) (sym e) (contains_head x ys))) in
    ap (λ b. length (map (λ y. Out y) (cond b (y ∷ filter (λ y. eqb y x) ys) (filter (λ y. eqb y x) ys)))) away ∙ no_outs x ys (λ c. none (contains_tail y x ys c))

one_out : (x : ℕ) (ys : List ℕ) → IsDistinct ys → length (map (λ y. Out y) (filter (λ y. eqb y x) ys)) ≤ 1
one_out x [] d = omega arith
one_out x (y ∷ ys) d =
    let here : (b : Bool) → eqb y x ≡ b → length (map (λ y. Out y) (cond b (y ∷ filter (λ y. eqb y x) ys) (filter (λ y. eqb y x) ys))) ≤ 1 =
    elim [
      | true ↦ λ e. let none = no_outs x ys (λ c. d.0 (subst (Contains ys) (sym (eqb-true y x e)) c)) in omega arith
      | false ↦ λ e. one_out x ys d.1
    ] in
    here (eqb y x) refl

few_branches : (rs : List Line) (b : Bool) → length (cond b rs []) ≤ length rs
few_branches rs true = omega arith
few_branches rs false = omega arith

module _ (n : Netlist) (sound : IsSound n) where
  few_lines : (x : ℕ) → length (lines_of n x) ≤ 2 + length (flat_map (λ (d : Definition). pins_reading x d.id 0 d.pins) n.definitions)
  few_lines x =
      let outs = one_out x n.outputs (from_places n.outputs sound.formed.once) in
      let all = length-append (flat_map (λ (d : Definition). pins_reading x d.id 0 d.pins) n.definitions) (map (λ y. Out y) (filter (λ y. eqb y x) n.outputs)) in
      let few = few_branches (readers_of n x) (leb 2 (length (readers_of n x))) in
      omega arith

  line_bound : length (all_lines n) ≤ 1026 * length (signals n)
  line_bound =
      let lines = length-flat_map (lines_of n) (signals n) in
      let each = total-le (λ x. length (lines_of n x)) (λ x. 2 + length (flat_map (λ (d : Definition). pins_reading x d.id 0 d.pins) n.definitions)) (signals n) few_lines in
      let sum = total-add (λ _. 2) (λ x. length (flat_map (λ (d : Definition). pins_reading x d.id 0 d.pins) n.definitions)) (signals n) in
      let twos = total-same 2 (signals n) in
      let pins = definitions_once (signals n) (distinct_signals n sound) n.definitions (λ d c. few_pins_of n sound.closed d c) in
      let inside : length n.definitions ≤ length (signals n) = omega (arith, length-append n.inputs (map (λ (d : Definition). d.id) n.definitions), length-map n.definitions (λ (d : Definition). d.id)) in
      omega arith

  pub fault_bound : length (universe_of n) ≤ 2052 * length (signals n)
  fault_bound =
      let faults = length-faults (all_lines n) in
      let lines = line_bound in
      omega arith

-- How many pins wait: those whose signal isn't visited, and those among the lines that are left of a visit.
use Rattle.std.proofs.Common.{◌≡◌, ℕ, suc, ◌+◌, ◌<◌, ◌≤◌, Bool, true, false, cond, ◌||◌, List, [], ◌∷◌, ◌++◌, map, length, get_or, refl, sym, ◌∙◌, ap, subst, inl, inr, arith, eqb}
use Rattle.std.specs.List.{Contains, flat_map, filter}
use Rattle.std.proofs.lemmas.Bool.{both_ways, cases_Bool, eq-eqb, ne_eqb, eqb-true}
use Rattle.statement.specs.declared.lines.Line.{Line}
use Rattle.statement.specs.declared.lines.Line.TheVariants.{Stem, Pin, Out}
use Rattle.statement.specs.Netlists.{Definition, Netlist, pins_reading, readers_of}
use Rattle.netlist.specs.Netlist.{also}
use Rattle.netlist.specs.Conditions.{IsNumbered}
use Rattle.netlist.specs.inner.Sorting.{unvisited, pins_among, nothing}
use Rattle.netlist.proofs.Lists.{contains_cases, contains_head, contains_tail, contains_nil}
use Rattle.netlist.proofs.Placed.{id_at}

-- how many of these pins read x
abbrev pub reading : ℕ → List ℕ → ℕ
reading x [] = 0
reading x (y ∷ ys) = cond (eqb y x) 1 0 + reading x ys

one_visited : (v e : Bool) → (e ≡ true → v ≡ false) → cond {A = ℕ} v 0 1 ≡ cond {A = ℕ} (v || e) 0 1 + cond {A = ℕ} e 1 0
one_visited true true h = absurd (both_ways true (h refl) refl)
one_visited true false h = refl
one_visited false true h = refl
one_visited false false h = refl

-- the pins that wait once x is visited, and those that read x
pub unvisited_also : (visited : ℕ → Bool) (x : ℕ) → visited x ≡ false → (ys : List ℕ) → unvisited visited ys ≡ unvisited (also visited x) ys + reading x ys
unvisited_also visited x h [] = refl
unvisited_also visited x h (y ∷ ys) =
    let one = one_visited (visited y) (eqb y x) (λ e. ap visited (eqb-true y x e) ∙ h) in
    let more = unvisited_also visited x h ys in
    omega arith

pub none_unvisited : (visited : ℕ → Bool) (ys : List ℕ) → unvisited visited ys ≡ 0 → (x : ℕ) → Contains ys x → visited x ≡ true
none_unvisited visited [] e x c = absurd (contains_nil x c)
none_unvisited visited (y ∷ ys) e x c =
    let at : (b : Bool) → cond {A = ℕ} b 0 1 ≡ 0 → b ≡ true = elim [ true ↦ λ _. refl | false ↦ λ z. absurd (omega arith) ] in
    let first : cond {A = ℕ} (visited y) 0 1 ≡ 0 = omega arith in
    elim (contains_cases y x ys c) [
      | inl same ↦ sym (ap visited same) ∙ at (visited y) first
      | inr r ↦ none_unvisited visited ys (omega arith) x r
    ]

pub some_unvisited : (visited : ℕ → Bool) (ys : List ℕ) → 0 < unvisited visited ys → (x : ℕ) × Contains ys x × (visited x ≡ false)
some_unvisited visited [] l = absurd (omega arith)
some_unvisited visited (y ∷ ys) l = elim (cases_Bool (visited y)) [
  | inr fresh ↦ (y, contains_head y ys, fresh)
  | inl was ↦
      let none : cond {A = ℕ} (visited y) 0 1 ≡ 0 = ap (λ b. cond {A = ℕ} b 0 1) was in
      let m = some_unvisited visited ys (omega arith) in
      (m.0, contains_tail y m.0 ys m.1, m.2)
]

pub unvisited_agree : (v w : ℕ → Bool) → ((y : ℕ) → v y ≡ w y) → (ys : List ℕ) → unvisited v ys ≡ unvisited w ys
unvisited_agree v w h [] = refl
unvisited_agree v w h (y ∷ ys) =
    let one : cond {A = ℕ} (v y) 0 1 ≡ cond {A = ℕ} (w y) 0 1 = ap (λ b. cond {A = ℕ} b 0 1) (h y) in
    let more = unvisited_agree v w h ys in
    omega arith

pub unvisited_nothing : (ys : List ℕ) → unvisited nothing ys ≡ length ys
unvisited_nothing [] = refl
unvisited_nothing (y ∷ ys) = let more = unvisited_nothing ys in let l : length (y ∷ ys) ≡ suc (length ys) = refl in omega arith

pins_append : (z : ℕ) (ls ms : List Line) → pins_among z (ls ++ ms) ≡ pins_among z ls + pins_among z ms
pins_append z [] ms = omega arith
pins_append z (Pin y k ∷ ls) ms = let more = pins_append z ls ms in omega arith
pins_append z (Stem y ∷ ls) ms = pins_append z ls ms
pins_append z (Out y ∷ ls) ms = pins_append z ls ms

pins_first : (z w k : ℕ) (b : Bool) (ls : List Line) → pins_among z (cond b (Pin w k ∷ ls) ls) ≡ cond {A = ℕ} b (cond {A = ℕ} (eqb w z) 1 0) 0 + pins_among z ls
pins_first z w k true ls = refl
pins_first z w k false ls = omega arith

-- the pins of z among those that read x
pins_here : (z x k : ℕ) (ys : List ℕ) → pins_among z (pins_reading x z k ys) ≡ reading x ys
pins_here z x k [] = refl
pins_here z x k (y ∷ ys) =
    let one = pins_first z z k (eqb y x) (pins_reading x z (k + 1) ys) in
    let same : cond {A = ℕ} (eqb z z) 1 0 ≡ 1 = ap (λ b. cond {A = ℕ} b 1 0) (eq-eqb z z refl) in
    let is : cond {A = ℕ} (eqb y x) (cond {A = ℕ} (eqb z z) 1 0) 0 ≡ cond {A = ℕ} (eqb y x) 1 0 = ap (λ m. cond {A = ℕ} (eqb y x) m 0) same in
    let more = pins_here z x (k + 1) ys in
    omega arith

pins_elsewhere : (z w x k : ℕ) (ys : List ℕ) → (w ≡ z → ⊥) → pins_among z (pins_reading x w k ys) ≡ 0
pins_elsewhere z w x k [] h = refl
pins_elsewhere z w x k (y ∷ ys) h =
    let one = pins_first z w k (eqb y x) (pins_reading x w (k + 1) ys) in
    let other : cond {A = ℕ} (eqb w z) 1 0 ≡ 0 = ap (λ b. cond {A = ℕ} b 1 0) (ne_eqb w z h) in
    let none : (b : Bool) → cond {A = ℕ} b 0 0 ≡ 0 = elim [ true ↦ refl | false ↦ refl ] in
    let is : cond {A = ℕ} (eqb y x) (cond {A = ℕ} (eqb w z) 1 0) 0 ≡ 0 = ap (λ m. cond {A = ℕ} (eqb y x) m 0) other ∙ none (eqb y x) in
    let more = pins_elsewhere z w x (k + 1) ys h in
    omega arith

pins_outs : (z : ℕ) (ys : List ℕ) → pins_among z (map (λ (y : ℕ). Out y) ys) ≡ 0
pins_outs z [] = refl
pins_outs z (y ∷ ys) = pins_outs z ys

-- the ids are base, base + 1 and so on
abbrev AreFrom : ℕ → List Definition → Type 0
AreFrom base [] = Unit {0}
AreFrom base (d ∷ ds) = (d.id ≡ base) × AreFrom (base + 1) ds

are_from : (ds : List Definition) (base : ℕ) → ((k : ℕ) (d : Definition) → k < length ds → (get_or ds k d).id ≡ base + k) → AreFrom base ds
are_from [] base h = tt
are_from (d ∷ ds) base h =
    let first : d.id ≡ base + 0 = h 0 d (omega arith) in
    (omega arith, are_from ds (base + 1) (λ k e l. let more : (get_or ds k e).id ≡ base + suc k = h (suc k) e (omega arith) in omega arith))

pins_before : (z x base : ℕ) (ds : List Definition) → AreFrom base ds → z < base → pins_among z (flat_map (λ (d : Definition). pins_reading x d.id 0 d.pins) ds) ≡ 0
pins_before z x base [] h l = refl
pins_before z x base (d ∷ ds) h l =
    let both = pins_append z (pins_reading x d.id 0 d.pins) (flat_map (λ (e : Definition). pins_reading x e.id 0 e.pins) ds) in
    let id = h.0 in
    let one = pins_elsewhere z d.id x 0 d.pins (λ e. omega arith) in
    let more = pins_before z x (base + 1) ds h.1 (omega arith) in
    omega arith

pins_of : (d : Definition) (x base : ℕ) (ds : List Definition) → AreFrom base ds → Contains ds d → (base ≤ d.id) × (pins_among d.id (flat_map (λ (e : Definition). pins_reading x e.id 0 e.pins) ds) ≡ reading x d.pins)
pins_of d x base [] h c = absurd (contains_nil d c)
pins_of d x base (e ∷ es) h c =
    let both = pins_append d.id (pins_reading x e.id 0 e.pins) (flat_map (λ (f : Definition). pins_reading x f.id 0 f.pins) es) in
    let id = h.0 in
    elim (contains_cases e d es c) [
      | inl same ↦
          let at : e.id ≡ d.id = ap (λ (f : Definition). f.id) same in
          let more = pins_before d.id x (base + 1) es h.1 (omega arith) in
          let here : pins_among d.id (pins_reading x e.id 0 e.pins) ≡ reading x d.pins =
          subst (λ (f : Definition). pins_among d.id (pins_reading x f.id 0 f.pins) ≡ reading x d.pins) (sym same) (pins_here d.id x 0 d.pins) in
          (omega arith, omega arith)
      | inr r ↦
          let more = pins_of d x (base + 1) es h.1 r in
          let low = more.0 in
          let rest = more.1 in
          let one = pins_elsewhere d.id e.id x 0 e.pins (λ s. omega arith) in
          (omega arith, omega arith)
    ]

pub pins_of_readers : (n : Netlist) → IsNumbered n → (d : Definition) → Contains n.definitions d → (x : ℕ) → pins_among d.id (readers_of n x) ≡ reading x d.pins
pins_of_readers n numbered d c x =
    let both = pins_append d.id (flat_map (λ (e : Definition). pins_reading x e.id 0 e.pins) n.definitions) (map (λ (y : ℕ). Out y) (filter (λ y. eqb y x) n.outputs)) in
    let pins = pins_of d x (length n.inputs) n.definitions (are_from n.definitions (length n.inputs) (λ k e l. id_at n numbered k e l)) c in
    let here = pins.1 in
    let outs = pins_outs d.id (filter (λ y. eqb y x) n.outputs) in
    omega arith

-- Settled assignments of two rules that keep a relation, and of one rule.
use Rattle.std.proofs.Common.{◌≡◌, ℕ, suc, ◌+◌, Bool, true, List, [], ◌∷◌, ◌++◌, map, length, refl, ◌∙◌, ap}
use Rattle.std.specs.Bool.{Decides}
use Rattle.std.specs.List.{All, AllZip, Contains, flat_map}
use Rattle.std.proofs.lemmas.List.{length-map}
use Rattle.std.proofs.lemmas.List.Elements.{All-nil, All-cons, All-head, All-tail, All-contains}
use Rattle.statement.specs.declared.lines.Line.TheVariants.{Stem, Pin, Out}
use Rattle.statement.specs.Netlists.{Definition, Netlist, is_cell, cells, gates, signals}
use Rattle.netlist.specs.Netlist.{IsAcyclic}
use Rattle.netlist.specs.Conditions.{IsClosed}
use Rattle.statement.specs.Values.{Rule, Settles, on_pins, pins_of, outs, next}
use Rattle.netlist.specs.Laws.{Keeps}
use Rattle.netlist.proofs.Acyclic.{everywhere}
use Rattle.netlist.proofs.Lists.{All-from_contains, contains_filter}

pub length-on_pins : {V : Type 0} (rule : Rule V) (z k : ℕ) (vs : List V) → length (on_pins rule z k vs) ≡ length vs
length-on_pins rule z k [] = refl
length-on_pins rule z k (v ∷ vs) = ap suc (length-on_pins rule z (k + 1) vs)

pub zip_append : {X Y : Type 0} (R : X → Y → Type 0) (xs xs' : List X) (ys ys' : List Y) → AllZip R xs ys → AllZip R xs' ys' → AllZip R (xs ++ xs') (ys ++ ys')
zip_append R [] xs' [] ys' h k = k
zip_append R [] xs' (y ∷ ys) ys' h k = absurd h
zip_append R (x ∷ xs) xs' [] ys' h k = absurd h
zip_append R (x ∷ xs) xs' (y ∷ ys) ys' h k = (h.0, zip_append R xs xs' ys ys' h.1 k)

module _ {V W : Type 0} (related : V → W → Bool) (rule : Rule V) (rule' : Rule W) (n : Netlist) (keeps : Keeps related rule rule' n) where
  on_pins_related : (z k : ℕ) (vs : List V) (ws : List W) → AllZip (λ v w. related v w ≡ true) vs ws
      → AllZip (λ v w. related v w ≡ true) (on_pins rule z k vs) (on_pins rule' z k ws)
  on_pins_related z k [] [] h = tt
  on_pins_related z k [] (w ∷ ws) h = absurd h
  on_pins_related z k (v ∷ vs) [] h = absurd h
  on_pins_related z k (v ∷ vs) (w ∷ ws) h = (keeps.lines (Pin z k) v w h.0, on_pins_related z (k + 1) vs ws h.1)

  sources_related : {X : Type 0} (key : X → ℕ) (a : ℕ → V) (b : ℕ → W) (xs : List X) (vs : List V) (ws : List W)
      → AllZip (λ v w. related v w ≡ true) vs ws
      → AllZip (λ x v. a (key x) ≡ rule.line (Stem (key x)) v) xs vs → AllZip (λ x w. b (key x) ≡ rule'.line (Stem (key x)) w) xs ws
      → All (λ x. related (a (key x)) (b (key x)) ≡ true) xs
  sources_related key a b [] vs ws r h k = All-nil _
  sources_related key a b (x ∷ xs) [] ws r h k = absurd h
  sources_related key a b (x ∷ xs) (v ∷ vs) [] r h k = absurd k
  sources_related key a b (x ∷ xs) (v ∷ vs) (w ∷ ws) r h k =
      All-cons (λ y. related (a (key y)) (b (key y)) ≡ true) x xs
      (ap (λ u. related u (b (key x))) h.0 ∙ (ap (related (rule.line (Stem (key x)) v)) k.0 ∙ keeps.lines (Stem (key x)) v w r.0))
      (sources_related key a b xs vs ws r.1 h.1 k.1)

  values_related : (a : ℕ → V) (b : ℕ → W) (xs : List ℕ) → All (λ x. related (a x) (b x) ≡ true) xs → AllZip (λ v w. related v w ≡ true) (map a xs) (map b xs)
  values_related a b [] h = tt
  values_related a b (x ∷ xs) h = (All-head (λ y. related (a y) (b y) ≡ true) x xs h, values_related a b xs (All-tail (λ y. related (a y) (b y) ≡ true) x xs h))

  outs_related : (a : ℕ → V) (b : ℕ → W) (xs : List ℕ) → All (λ x. related (a x) (b x) ≡ true) xs
      → AllZip (λ v w. related v w ≡ true) (map (λ x. rule.line (Out x) (a x)) xs) (map (λ x. rule'.line (Out x) (b x)) xs)
  outs_related a b [] h = tt
  outs_related a b (x ∷ xs) h =
      (keeps.lines (Out x) (a x) (b x) (All-head (λ y. related (a y) (b y) ≡ true) x xs h), outs_related a b xs (All-tail (λ y. related (a y) (b y) ≡ true) x xs h))

  pins_related : (a : ℕ → V) (b : ℕ → W) (ds : List Definition) → All (λ (d : Definition). All (λ x. related (a x) (b x) ≡ true) d.pins) ds
      → AllZip (λ v w. related v w ≡ true) (flat_map (pins_of rule a) ds) (flat_map (pins_of rule' b) ds)
  pins_related a b [] h = tt
  pins_related a b (d ∷ ds) h =
      zip_append (λ v w. related v w ≡ true) (pins_of rule a d) (flat_map (pins_of rule a) ds) (pins_of rule' b d) (flat_map (pins_of rule' b) ds)
      (on_pins_related d.id 0 (map a d.pins) (map b d.pins)
      (values_related a b d.pins (All-head (λ (e : Definition). All (λ x. related (a x) (b x) ≡ true) e.pins) d ds h)))
      (pins_related a b ds (All-tail (λ (e : Definition). All (λ x. related (a x) (b x) ≡ true) e.pins) d ds h))

  module _ (closed : IsClosed n) (acyclic : IsAcyclic n) (inputs state : List V) (inputs' state' : List W) (a : ℕ → V) (b : ℕ → W)
      (at_inputs : AllZip (λ v w. related v w ≡ true) inputs inputs') (at_cells : AllZip (λ v w. related v w ≡ true) state state')
      (p : Settles rule n inputs state a) (q : Settles rule' n inputs' state' b) where
    pub signals_alike : (x : ℕ) → Contains (signals n) x → related (a x) (b x) ≡ true
    signals_alike = everywhere n (λ y. related (a y) (b y)) closed
        (sources_related (λ y. y) a b n.inputs inputs inputs' at_inputs p.0 q.0)
        (sources_related (λ (d : Definition). d.id) a b (cells n) state state' at_cells p.1 q.1)
        (λ d g pins.
        let r : a d.id ≡ rule.line (Stem d.id) (rule.gate d (pins_of rule a d)) =
        All-contains (λ (e : Definition). a e.id ≡ rule.line (Stem e.id) (rule.gate e (pins_of rule a e))) (gates n) d p.2 g in
        let s : b d.id ≡ rule'.line (Stem d.id) (rule'.gate d (pins_of rule' b d)) =
        All-contains (λ (e : Definition). b e.id ≡ rule'.line (Stem e.id) (rule'.gate e (pins_of rule' b e))) (gates n) d q.2 g in
        ap (λ u. related u (b d.id)) r ∙ (ap (related (rule.line (Stem d.id) (rule.gate d (pins_of rule a d)))) s
        ∙ keeps.lines (Stem d.id) (rule.gate d (pins_of rule a d)) (rule'.gate d (pins_of rule' b d))
        (keeps.gates d (pins_of rule a d) (pins_of rule' b d) g (length-on_pins rule d.id 0 (map a d.pins) ∙ length-map d.pins a)
        (on_pins_related d.id 0 (map a d.pins) (map b d.pins) (values_related a b d.pins pins)))))
        acyclic

    on_pins_alike : (d : Definition) → Contains n.definitions d → All (λ x. related (a x) (b x) ≡ true) d.pins
    on_pins_alike d c =
        let all : All (Contains (signals n)) d.pins = All-contains (λ (e : Definition). All (Contains (signals n)) e.pins) n.definitions d closed.pins c in
        All-from_contains (λ x. related (a x) (b x) ≡ true) d.pins (λ x m. signals_alike x (All-contains (Contains (signals n)) d.pins x all m))

    pub outs_alike : AllZip (λ v w. related v w ≡ true) (outs rule n a) (outs rule' n b)
    outs_alike = outs_related a b n.outputs
        (All-from_contains (λ x. related (a x) (b x) ≡ true) n.outputs (λ x m. signals_alike x (All-contains (Contains (signals n)) n.outputs x closed.outputs m)))

    pub next_alike : AllZip (λ v w. related v w ≡ true) (next rule n a) (next rule' n b)
    next_alike = pins_related a b (cells n)
        (All-from_contains (λ (d : Definition). All (λ x. related (a x) (b x) ≡ true) d.pins) (cells n) (λ d m. on_pins_alike d (contains_filter is_cell n.definitions d m).0))

zip_refl : {V : Type 0} (same : V → V → Bool) → ((x : V) → same x x ≡ true) → (vs : List V) → AllZip (λ v w. same v w ≡ true) vs vs
zip_refl same r [] = tt
zip_refl same r (v ∷ vs) = (r v, zip_refl same r vs)

zip_equal : {V : Type 0} (same : V → V → Bool) → ((x y : V) → same x y ≡ true → x ≡ y) → (vs ws : List V) → AllZip (λ v w. same v w ≡ true) vs ws → vs ≡ ws
zip_equal same r [] [] h = refl
zip_equal same r [] (w ∷ ws) h = absurd h
zip_equal same r (v ∷ vs) [] h = absurd h
zip_equal same r (v ∷ vs) (w ∷ ws) h = ap (λ u. u ∷ vs) (r v w h.0) ∙ ap (λ us. w ∷ us) (zip_equal same r vs ws h.1)

pub keeps_same : {V : Type 0} (same : V → V → Bool) → ((x y : V) → Decides (same x y) (x ≡ y)) → (rule : Rule V) (n : Netlist) → Keeps same rule rule n
keeps_same same decides rule n = record {
  lines = λ line v w h. (decides _ _).1 (ap (rule.line line) ((decides v w).0 h));
  gates = λ d vs ws c l h. (decides _ _).1 (ap (rule.gate d) (zip_equal same (λ x y. (decides x y).0) vs ws h));
}

-- two assignments that settle by one rule, on the same inputs and state
pub settles_once : {V : Type 0} (same : V → V → Bool) → ((x y : V) → Decides (same x y) (x ≡ y))
    → (rule : Rule V) (n : Netlist) (inputs state : List V) (a b : ℕ → V)
    → IsClosed n → IsAcyclic n → Settles rule n inputs state a → Settles rule n inputs state b
    → (x : ℕ) → Contains (signals n) x → a x ≡ b x
settles_once {V} same decides rule n inputs state a b closed acyclic p q x c =
    let alone : (vs : List V) → AllZip (λ v w. same v w ≡ true) vs vs = zip_refl same (λ v. (decides v v).1 refl) in
    (decides (a x) (b x)).0
    (signals_alike same rule rule n (keeps_same same decides rule n) closed acyclic inputs state inputs state a b (alone inputs) (alone state) p q x c)

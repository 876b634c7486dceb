-- What one pin of a gate tells of the gate, while others turn.
use Rattle.std.proofs.Common.{◌≡◌, ◌≢◌, ℕ, zero, suc, ◌+◌, ◌<◌, ◌||◌, ◌⊎◌, Bool, true, false, cond, List, [], ◌∷◌, Option, None, length, map, get_or, set, refl, sym, ◌∙◌, ap, subst, inl, inr, arith}
use Rattle.std.specs.List.{Contains, list_any}
use Rattle.std.proofs.lemmas.Bool.{cases_eq, cases_Bool, both_ways}
use Rattle.std.proofs.lemmas.List.{get_or-set_same, get_or-set_other}
use Rattle.statement.specs.declared.kinds.Kind.{Kind}
use Rattle.statement.specs.declared.kinds.Kind.TheVariants.{And, Nand, Or, Nor, Xor, Xnor, Not, Buff, Dff, Const0, Const1}
use Rattle.statement.specs.declared.kinds.Tri.{Tri}
use Rattle.statement.specs.declared.kinds.Tri.TheVariants.{Zero, One, X}
use Rattle.statement.specs.declared.lines.Line.TheVariants.{Stem, Pin}
use Rattle.statement.specs.declared.lines.Fault.{Fault}
use Rattle.statement.specs.Values.{parity, Rule, on_pins, pins_of, known}
use Rattle.statement.specs.Netlists.{Definition}
use Rattle.netlist.specs.Settled.{at}
use Rattle.netlist.specs.ThreeValues.{complement, is_zero, is_one, is_x}
use Rattle.netlist.proofs.Lists.{contains_nil, contains_head, contains_tail, contains_cases, any_from}
use Rattle.events.specs.Waiting.{given}
use Rattle.tri.specs.declared.labels.Label.{Label}
use Rattle.tri.specs.Gates.{gate_tri, conjunction_tri, disjunction_tri, parity_tri}
use Rattle.tri.specs.Labels.{Decisions, labels, label_of}
use Rattle.label_events.specs.Watched.{controls, controlled, is_joint, AreTurned, Hides, HidesLabel, HaveSameGateLabel}

-- ---- lists of which some elements turn

module _ {A : Type 0} (a b : A) where
  any_turned : (t : A → Bool) → t a ≡ t b → (ps qs : List A) → AreTurned a b ps qs → list_any t qs ≡ list_any t ps
  any_turned t e [] [] h = refl
  any_turned t e [] (q ∷ qs) h = absurd h
  any_turned t e (p ∷ ps) [] h = absurd h
  any_turned t e (p ∷ ps) (q ∷ qs) h = ap (λ v. v || list_any t qs) (one h.0) ∙ ap (λ v. t p || v) (any_turned t e ps qs h.1)
    where
      one : (p ≡ q) ⊎ ((p ≡ a) × (q ≡ b)) → t q ≡ t p
      one w = elim w [
        | inl same ↦ ap t (sym same)
        | inr turned ↦ ap t turned.1 ∙ (sym e ∙ ap t (sym turned.0))
      ]

map_turned : {A B : Type 0} (f : A → B) (a b : A) (ps qs : List A) → AreTurned a b ps qs → AreTurned (f a) (f b) (map f ps) (map f qs)
map_turned f a b [] [] h = tt
map_turned f a b [] (q ∷ qs) h = absurd h
map_turned f a b (p ∷ ps) [] h = absurd h
map_turned {A} {B} f a b (p ∷ ps) (q ∷ qs) h = (one h.0, map_turned f a b ps qs h.1)
  where
    one : (p ≡ q) ⊎ ((p ≡ a) × (q ≡ b)) → (f p ≡ f q) ⊎ ((f p ≡ f a) × (f q ≡ f b))
    one w = elim w [
      | inl same ↦ inl (ap f same)
      | inr turned ↦ inr (ap f turned.0, ap f turned.1)
    ]

contains_mapped : {A B : Type 0} (f : A → B) (xs : List A) (x : A) → Contains xs x → Contains (map f xs) (f x)
contains_mapped f [] x c = absurd (contains_nil x c)
contains_mapped f (y ∷ ys) x c = elim (contains_cases y x ys c) [
  | inl e ↦ subst (λ v. Contains (f y ∷ map f ys) v) (ap f e) (contains_head (f y) (map f ys))
  | inr r ↦ contains_tail (f y) (f x) (map f ys) (contains_mapped f ys x r)
]

-- ---- gates

conjunction_zero : (ps : List Tri) → list_any is_zero ps ≡ true → conjunction_tri ps ≡ Zero
conjunction_zero ps e = ap (λ z. cond z Zero (cond (list_any is_x ps) X One)) e

disjunction_one : (ps : List Tri) → list_any is_one ps ≡ true → disjunction_tri ps ≡ One
disjunction_one ps e = ap (λ z. cond z One (cond (list_any is_x ps) X Zero)) e

-- a controlling pin tells
pub control_tells : (kind : Kind) (v : Tri) → controls kind v ≡ true → (ps : List Tri) → Contains ps v → gate_tri kind ps ≡ known (controlled kind)
control_tells And v h ps c = conjunction_zero ps (any_from is_zero ps v c h)
control_tells Nand v h ps c = ap complement (conjunction_zero ps (any_from is_zero ps v c h))
control_tells Or v h ps c = disjunction_one ps (any_from is_one ps v c h)
control_tells Nor v h ps c = ap complement (disjunction_one ps (any_from is_one ps v c h))
control_tells Xor v h ps c = absurd (both_ways false refl h)
control_tells Xnor v h ps c = absurd (both_ways false refl h)
control_tells Not v h ps c = absurd (both_ways false refl h)
control_tells Buff v h ps c = absurd (both_ways false refl h)
control_tells Dff v h ps c = absurd (both_ways false refl h)
control_tells Const0 v h ps c = absurd (both_ways false refl h)
control_tells Const1 v h ps c = absurd (both_ways false refl h)

module _ (a b : Tri) (ps qs : List Tri) (turned : AreTurned a b ps qs) (one : list_any is_x ps ≡ true) (other : list_any is_x qs ≡ true) where
  conjunction_turned : is_zero a ≡ false → is_zero b ≡ false → conjunction_tri qs ≡ conjunction_tri ps
  conjunction_turned e f =
      ap (λ z. cond z Zero (cond (list_any is_x qs) X One)) (any_turned a b is_zero (e ∙ sym f) ps qs turned)
      ∙ ap (λ u. cond (list_any is_zero ps) Zero (cond u X One)) (other ∙ sym one)

  disjunction_turned : is_one a ≡ false → is_one b ≡ false → disjunction_tri qs ≡ disjunction_tri ps
  disjunction_turned e f =
      ap (λ z. cond z One (cond (list_any is_x qs) X Zero)) (any_turned a b is_one (e ∙ sym f) ps qs turned)
      ∙ ap (λ u. cond (list_any is_one ps) One (cond u X Zero)) (other ∙ sym one)

  parity_turned : parity_tri qs ≡ parity_tri ps
  parity_turned = ap (λ u. cond u X (known (parity (map is_one qs)))) other ∙ sym (ap (λ u. cond u X (known (parity (map is_one ps)))) one)

  x_turned : (kind : Kind) → is_joint kind ≡ true → controls kind a ≡ false → controls kind b ≡ false → gate_tri kind qs ≡ gate_tri kind ps
  x_turned And j e f = conjunction_turned e f
  x_turned Nand j e f = ap complement (conjunction_turned e f)
  x_turned Or j e f = disjunction_turned e f
  x_turned Nor j e f = ap complement (disjunction_turned e f)
  x_turned Xor j e f = parity_turned
  x_turned Xnor j e f = ap complement parity_turned
  x_turned Not j e f = absurd (both_ways false refl j)
  x_turned Buff j e f = absurd (both_ways false refl j)
  x_turned Dff j e f = absurd (both_ways false refl j)
  x_turned Const0 j e f = absurd (both_ways false refl j)
  x_turned Const1 j e f = absurd (both_ways false refl j)

-- a pin at X hides turns of others that don't control before or after
pub hides_open : (kind : Kind) (cover a b : Tri) → is_joint kind ≡ true → cover ≡ X → controls kind a ≡ false → controls kind b ≡ false → Hides kind cover a b
hides_open kind cover a b j is e f = λ ps qs t c d.
    x_turned a b ps qs t (any_from is_x ps cover c (ap is_x is)) (any_from is_x qs cover d (ap is_x is)) kind j e f

-- ---- labels

pub hides_labels : (kind : Kind) (cover a b : Label) → Hides kind cover.good a.good b.good → Hides kind cover.faulty a.faulty b.faulty
    → (cover.may_differ ≡ false → a.may_differ ≡ b.may_differ) → HidesLabel kind cover a b
hides_labels kind cover a b good faulty differ = λ ps qs t c d.
    let good_of : Label → Tri = λ l. l.good in
    let faulty_of : Label → Tri = λ l. l.faulty in
    let differs : Label → Bool = λ l. l.may_differ in
    record {
      good = good (map good_of ps) (map good_of qs) (map_turned good_of a b ps qs t) (contains_mapped good_of ps cover c) (contains_mapped good_of qs cover d);
      faulty = faulty (map faulty_of ps) (map faulty_of qs) (map_turned faulty_of a b ps qs t) (contains_mapped faulty_of ps cover c) (contains_mapped faulty_of qs cover d);
      may_differ = elim (cases_Bool cover.may_differ) [
        | inl may ↦ any_from differs qs cover d may ∙ sym (any_from differs ps cover c may)
        | inr not ↦ any_turned a b differs (differ not) ps qs t
      ];
    }

-- ---- the pins of a gate

pub pin_in : {V : Type 0} (rule : Rule V) (z : ℕ) (a : ℕ → V) (pins : List ℕ) (j k : ℕ) → k < length pins → Contains (on_pins rule z j (map a pins)) (rule.line (Pin z (j + k)) (a (get_or pins k 0)))
pin_in rule z a [] j k l = absurd (omega (arith, l))
pin_in rule z a (y ∷ ys) j zero l =
    let same : j ≡ j + 0 = omega arith in
    subst (λ m. Contains (on_pins rule z j (map a (y ∷ ys))) (rule.line (Pin z m) (a y))) same (contains_head (rule.line (Pin z j) (a y)) (on_pins rule z (j + 1) (map a ys)))
pin_in rule z a (y ∷ ys) j (suc k) l =
    let same : (j + 1) + k ≡ j + suc k = omega arith in
    contains_tail (rule.line (Pin z j) (a y)) (rule.line (Pin z (j + suc k)) (a (get_or ys k 0))) (on_pins rule z (j + 1) (map a ys))
    (subst (λ m. Contains (on_pins rule z (j + 1) (map a ys)) (rule.line (Pin z m) (a (get_or ys k 0)))) same (pin_in rule z a ys (j + 1) k (omega (arith, l))))

module _ {V : Type 0} (rule : Rule V) (z x : ℕ) (a b : ℕ → V) (others : (y : ℕ) → y ≢ x → b y ≡ a y) where
  pub turned_pins : (pins : List ℕ) (j : ℕ) → ((k : ℕ) (v : V) → k < length pins → get_or pins k 0 ≡ x → rule.line (Pin z (j + k)) v ≡ v)
      → AreTurned (a x) (b x) (on_pins rule z j (map a pins)) (on_pins rule z j (map b pins))
  turned_pins [] j free = tt
  turned_pins (y ∷ ys) j free = (
    head,
    turned_pins ys (j + 1) (λ k v l e.
        let same : j + suc k ≡ (j + 1) + k = omega arith in
        subst (λ m. rule.line (Pin z m) v ≡ v) same (free (suc k) v (omega (arith, l)) e)),
  )
    where
      head : (rule.line (Pin z j) (a y) ≡ rule.line (Pin z j) (b y)) ⊎ ((rule.line (Pin z j) (a y) ≡ a x) × (rule.line (Pin z j) (b y) ≡ b x))
      head = elim (cases_eq y x) [
        | inl e ↦
            let same : j + 0 ≡ j = omega arith in
            let plain : (v : V) → rule.line (Pin z j) v ≡ v = λ v. subst (λ m. rule.line (Pin z m) v ≡ v) same (free 0 v (omega arith) e) in
            inr (plain (a y) ∙ ap a e, plain (b y) ∙ ap b e)
        | inr ne ↦ inl (ap (rule.line (Pin z j)) (sym (others y ne)))
      ]

pub pin_of : {V : Type 0} (rule : Rule V) (a : ℕ → V) (g : Definition) (k : ℕ) → k < length g.pins → Contains (pins_of rule a g) (rule.line (Pin g.id k) (a (get_or g.pins k 0)))
pin_of rule a g k l =
    let same : 0 + k ≡ k = omega arith in
    subst (λ m. Contains (pins_of rule a g) (rule.line (Pin g.id m) (a (get_or g.pins k 0)))) same (pin_in rule g.id a g.pins 0 k l)

module _ (f : Option Fault) (path : Decisions) (g : Definition) where
  R : Rule Label
  R = labels f path

  pub alike_given : (a b : ℕ → Label) → HaveSameGateLabel g.kind (pins_of (labels f path) a g) (pins_of (labels f path) b g) → given (labels f path) b g ≡ given (labels f path) a g
  alike_given a b h =
      let ps = pins_of (labels f path) a g in
      let qs = pins_of (labels f path) b g in
      ap (λ (t : Tri). (labels f path).line (Stem g.id) (label_of (path g.id) t (gate_tri g.kind (map (λ (l : Label). l.faulty) qs)) (list_any (λ (l : Label). l.may_differ) qs))) h.good
      ∙ (ap (λ (t : Tri). (labels f path).line (Stem g.id) (label_of (path g.id) (gate_tri g.kind (map (λ (l : Label). l.good) ps)) t (list_any (λ (l : Label). l.may_differ) qs))) h.faulty
      ∙ ap (λ (t : Bool). (labels f path).line (Stem g.id) (label_of (path g.id) (gate_tri g.kind (map (λ (l : Label). l.good) ps)) (gate_tri g.kind (map (λ (l : Label). l.faulty) ps)) t)) h.may_differ)

  -- a watched pin hides that a signal takes a value
  pub turn_hidden : (values : List Label) (x : ℕ) (v cover before : Label) (place : ℕ) → x < length values → place < length g.pins → get_or g.pins place 0 ≢ x
      → ((k : ℕ) (l : Label) → k < length g.pins → get_or g.pins k 0 ≡ x → (labels f path).line (Pin g.id k) l ≡ l)
      → ((d : Label) → cover ≡ (labels f path).line (Pin g.id place) (at values d (get_or g.pins place 0))) → ((d : Label) → before ≡ at values d x)
      → HidesLabel g.kind cover before v → (d : Label) → given (labels f path) (at (set values x v) d) g ≡ given (labels f path) (at values d) g
  turn_hidden values x v cover before place low within other free is was hides d =
      let a = at values d in
      let b = at (set values x v) d in
      let others : (y : ℕ) → y ≢ x → b y ≡ a y = λ y ne. get_or-set_other values x y v d ne in
      let turned = turned_pins (labels f path) g.id x a b others g.pins 0
      (λ k l m e. let same : k ≡ 0 + k = omega arith in subst (λ j. (labels f path).line (Pin g.id j) l ≡ l) same (free k l m e)) in
      let one : AreTurned before v (pins_of (labels f path) a g) (pins_of (labels f path) b g) =
      subst (λ q. AreTurned before q (pins_of (labels f path) a g) (pins_of (labels f path) b g)) (get_or-set_same values x v d low)
      (subst (λ q. AreTurned q (b x) (pins_of (labels f path) a g) (pins_of (labels f path) b g)) (sym (was d)) turned) in
      let in_a : Contains (pins_of (labels f path) a g) cover = subst (λ l. Contains (pins_of (labels f path) a g) l) (sym (is d)) (pin_of (labels f path) a g place within) in
      let in_b : Contains (pins_of (labels f path) b g) cover =
      subst (λ l. Contains (pins_of (labels f path) b g) l) (ap ((labels f path).line (Pin g.id place)) (others (get_or g.pins place 0) other) ∙ sym (is d)) (pin_of (labels f path) b g place within) in
      alike_given a b (hides (pins_of (labels f path) a g) (pins_of (labels f path) b g) one in_a in_b)

known_alike : (bit : Bool) (differs : Bool) → label_of None (known bit) (known bit) differs ≡ label_of None (known bit) (known bit) false
known_alike true true = refl
known_alike true false = refl
known_alike false true = refl
known_alike false false = refl

-- a controlling pin tells what the stem makes
pub pin_tells : (f : Option Fault) (path : Decisions) (g : Definition) (values : List Label) (cover : Label) (place : ℕ) → place < length g.pins → path g.id ≡ None
    → ((d : Label) → cover ≡ (labels f path).line (Pin g.id place) (at values d (get_or g.pins place 0)))
    → controls g.kind cover.good ≡ true → controls g.kind cover.faulty ≡ true
    → (d : Label) → (labels f path).line (Stem g.id) (label_of None (known (controlled g.kind)) (known (controlled g.kind)) false) ≡ given (labels f path) (at values d) g
pin_tells f path g values cover place within undecided is good faulty d =
    let a = at values d in
    let ps = pins_of (labels f path) a g in
    let bit = known (controlled g.kind) in
    let in_a : Contains ps cover = subst (λ l. Contains ps l) (sym (is d)) (pin_of (labels f path) a g place within) in
    let goods : gate_tri g.kind (map (λ (l : Label). l.good) ps) ≡ bit =
    control_tells g.kind cover.good good (map (λ (l : Label). l.good) ps) (contains_mapped (λ (l : Label). l.good) ps cover in_a) in
    let faults : gate_tri g.kind (map (λ (l : Label). l.faulty) ps) ≡ bit =
    control_tells g.kind cover.faulty faulty (map (λ (l : Label). l.faulty) ps) (contains_mapped (λ (l : Label). l.faulty) ps cover in_a) in
    let stem = (labels f path).line (Stem g.id) in
    sym (ap (λ (o : Option Bool). stem (label_of o (gate_tri g.kind (map (λ (l : Label). l.good) ps)) (gate_tri g.kind (map (λ (l : Label). l.faulty) ps)) (list_any (λ (l : Label). l.may_differ) ps))) undecided
    ∙ (ap (λ (t : Tri). stem (label_of None t (gate_tri g.kind (map (λ (l : Label). l.faulty) ps)) (list_any (λ (l : Label). l.may_differ) ps))) goods
    ∙ (ap (λ (t : Tri). stem (label_of None bit t (list_any (λ (l : Label). l.may_differ) ps))) faults
    ∙ ap stem (known_alike (controlled g.kind) (list_any (λ (l : Label). l.may_differ) ps)))))

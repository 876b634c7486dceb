-- The labels of a path are alike whoever works them out, and so is what they tell.
use Rattle.std.proofs.Common.{◌≡◌, ℕ, Bool, true, false, ◌&&◌, List, [], ◌∷◌, Option, Some, refl, sym, ◌∙◌, ap, subst, inl, inr}
use Rattle.std.specs.Bool.{Decides, beq}
use Rattle.std.specs.List.{All, Contains, flat_map}
use Rattle.std.proofs.lemmas.Bool.{and_parts, and_from}
use Rattle.std.proofs.lemmas.List.Elements.{All-head, All-tail, All-contains}
use Rattle.statement.specs.declared.kinds.Tri.{Tri}
use Rattle.statement.specs.declared.kinds.Tri.TheVariants.{Zero, One, X}
use Rattle.statement.specs.declared.lines.Fault.{Fault}
use Rattle.statement.specs.declared.lines.Line.TheVariants.{Out}
use Rattle.statement.specs.Netlists.{Definition, Netlist, is_cell, cells, signals}
use Rattle.netlist.specs.Conditions.{IsClosed, IsSound}
use Rattle.statement.specs.Values.{Rule, on_pins, pins_of, outs, next}
use Rattle.netlist.proofs.Alike.{settles_once}
use Rattle.netlist.proofs.Lists.{decides_beq, map_agree, All-from_contains, contains_filter}
use Rattle.tri.specs.declared.labels.Label.{Label}
use Rattle.tri.specs.Labels.{Decisions, labels, input_labels, cell_labels, AreLabels, IsContradicted, IsClosedAt}
use Rattle.statement.specs.Patterns.{Holds}
use Rattle.tri.specs.Paths.{Path, decisions, IsClosedPath, IsUnknown}

-- ---- equal labels, by a test

pub tri_same : Tri → Tri → Bool
tri_same Zero Zero = true
tri_same One One = true
tri_same X X = true
tri_same _ _ = false

pub tri_equal : (v w : Tri) → tri_same v w ≡ true → v ≡ w
unfolding tri_same
tri_equal Zero Zero e = refl
tri_equal Zero One e = cc
tri_equal Zero X e = cc
tri_equal One Zero e = cc
tri_equal One One e = refl
tri_equal One X e = cc
tri_equal X Zero e = cc
tri_equal X One e = cc
tri_equal X X e = refl

pub tri_alone : (v : Tri) → tri_same v v ≡ true
unfolding tri_same
tri_alone Zero = refl
tri_alone One = refl
tri_alone X = refl

label_same : Label → Label → Bool
label_same l m = tri_same l.own m.own && (tri_same l.good m.good && (tri_same l.faulty m.faulty && beq l.may_differ m.may_differ))

label_from : (l m : Label) → l.own ≡ m.own → l.good ≡ m.good → l.faulty ≡ m.faulty → l.may_differ ≡ m.may_differ → l ≡ m
label_from l m a b c d = λ i. record { own = a i; good = b i; faulty = c i; may_differ = d i }

label_decides : (l m : Label) → Decides (label_same l m) (l ≡ m)
unfolding label_same
label_decides l m = (
  λ e.
      let s1 = and_parts (tri_same l.own m.own) _ e in
      let s2 = and_parts (tri_same l.good m.good) _ s1.1 in
      let s3 = and_parts (tri_same l.faulty m.faulty) _ s2.1 in
      label_from l m (tri_equal l.own m.own s1.0) (tri_equal l.good m.good s2.0) (tri_equal l.faulty m.faulty s3.0) ((decides_beq l.may_differ m.may_differ).0 s3.1),
  λ e. subst (λ (k : Label). label_same l k ≡ true) e
      (and_from (tri_same l.own l.own) _ (tri_alone l.own) (and_from (tri_same l.good l.good) _ (tri_alone l.good)
      (and_from (tri_same l.faulty l.faulty) _ (tri_alone l.faulty) ((decides_beq l.may_differ l.may_differ).1 refl)))),
)

-- ---- values on lines, where two assignments agree

module _ {V : Type 0} (rule : Rule V) (n : Netlist) (closed : IsClosed n) (a b : ℕ → V) (same : (x : ℕ) → Contains (signals n) x → a x ≡ b x) where
  same_pins : (d : Definition) → Contains n.definitions d → pins_of rule a d ≡ pins_of rule b d
  same_pins d c =
      let all : All (Contains (signals n)) d.pins = All-contains (λ (e : Definition). All (Contains (signals n)) e.pins) n.definitions d closed.pins c in
      ap (on_pins rule d.id 0)
      (map_agree a b d.pins (All-from_contains (λ x. a x ≡ b x) d.pins (λ x m. same x (All-contains (Contains (signals n)) d.pins x all m))))

  same_flat : (ds : List Definition) → All (Contains n.definitions) ds → flat_map (pins_of rule a) ds ≡ flat_map (pins_of rule b) ds
  same_flat [] h = refl
  same_flat (d ∷ ds) h =
      let p : pins_of rule a d ≡ pins_of rule b d = same_pins d (All-head (Contains n.definitions) d ds h) in
      let q : flat_map (pins_of rule a) ds ≡ flat_map (pins_of rule b) ds = same_flat ds (All-tail (Contains n.definitions) d ds h) in
      cc

  pub same_outs : outs rule n a ≡ outs rule n b
  same_outs = map_agree (λ x. rule.line (Out x) (a x)) (λ x. rule.line (Out x) (b x)) n.outputs
      (All-from_contains (λ x. rule.line (Out x) (a x) ≡ rule.line (Out x) (b x)) n.outputs
      (λ x m. ap (rule.line (Out x)) (same x (All-contains (Contains (signals n)) n.outputs x closed.outputs m))))

  pub same_next : next rule n a ≡ next rule n b
  same_next = same_flat (cells n) (All-from_contains (Contains n.definitions) (cells n) (λ d m. (contains_filter is_cell n.definitions d m).0))

-- ---- labels of one path

module _ (f : Option Fault) (path : Decisions) (n : Netlist) (holds : Holds) (sound : IsSound n) (l m : ℕ → Label)
    (p : AreLabels f path n holds l) (q : AreLabels f path n holds m) where
  pub labels_once : (x : ℕ) → Contains (signals n) x → l x ≡ m x
  labels_once =
      settles_once label_same label_decides (labels f path) n (input_labels path n holds) (cell_labels path n) l m sound.closed sound.acyclic p q

  pub contradicted_alike : IsContradicted path n l → IsContradicted path n m
  contradicted_alike w = (w.0, w.1, (w.2.0, w.2.1, ap (λ (k : Label). k.own) (sym (labels_once w.0 w.1)) ∙ w.2.2))

  pub outs_once : outs (labels f path) n l ≡ outs (labels f path) n m
  outs_once = same_outs (labels f path) n sound.closed l m labels_once

  pub next_once : next (labels f path) n l ≡ next (labels f path) n m
  next_once = same_next (labels f path) n sound.closed l m labels_once

module _ (f : Fault) (path : Decisions) (n : Netlist) (holds : Holds) (sound : IsSound n) (l m : ℕ → Label)
    (p : AreLabels (Some f) path n holds l) (q : AreLabels (Some f) path n holds m) where
  pub closed_alike : IsClosedAt f path n l → IsClosedAt f path n m
  closed_alike w = elim w [
    | inl c ↦ inl (contradicted_alike (Some f) path n holds sound l m p q c)
    | inr u ↦ inr (record {
      outputs = subst (All (λ (k : Label). k.may_differ ≡ false)) (outs_once (Some f) path n holds sound l m p q) u.outputs;
      cells = subst (All (λ (k : Label). k.may_differ ≡ false)) (next_once (Some f) path n holds sound l m p q) u.cells;
    })
  ]

-- a label that isn't closed shows that its path isn't
pub not_closed : (f : Fault) (n : Netlist) (holds : Holds) (sound : IsSound n) (path : Path) (l : ℕ → Label)
    → AreLabels (Some f) (decisions path) n holds l → (IsClosedAt f (decisions path) n l → ⊥) → IsClosedPath f n holds path → ⊥
not_closed f n holds sound path l r h w = h (closed_alike f (decisions path) n holds sound w.label l w.are r w.closed)

-- a value that is known is no unknown one
pub not_unknown : (f : Fault) (n : Netlist) (holds : Holds) (sound : IsSound n) (path : Path) (x : ℕ) (l : ℕ → Label)
    → AreLabels (Some f) (decisions path) n holds l → ((l x).good ≡ X → ⊥) → IsUnknown f n holds path x → ⊥
not_unknown f n holds sound path x l r h w =
    h (ap (λ (k : Label). k.good) (sym (labels_once (Some f) (decisions path) n holds sound w.label l w.are r x w.signal)) ∙ w.unknown)

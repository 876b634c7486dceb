-- One decision more or less, and a line that is stuck or no longer: the labels settle but for one signal.
use Rattle.std.proofs.Common.{◌≡◌, ◌≢◌, ℕ, ◌+◌, ◌≤◌, Bool, true, false, cond, List, [], ◌∷◌, length, map, Option, Some, None, get_or, refl, sym, ◌∙◌, ap, subst, eqb, arith}
use Rattle.std.specs.List.{All, AllZip, Contains, list_any}
use Rattle.std.proofs.lemmas.Bool.{eqb-false}
use Rattle.std.proofs.lemmas.List.{get_or_past}
use Rattle.std.proofs.lemmas.List.Elements.{All-head, All-tail, All-contains}
use Rattle.statement.specs.declared.kinds.Tri.{Tri}
use Rattle.statement.specs.declared.kinds.Tri.TheVariants.{X}
use Rattle.statement.specs.declared.lines.Line.{Line}
use Rattle.statement.specs.declared.lines.Line.TheVariants.{Stem, Pin}
use Rattle.statement.specs.declared.lines.Fault.{Fault}
use Rattle.netlist.specs.Conditions.{IsSound}
use Rattle.statement.specs.Patterns.{Holds}
use Rattle.netlist.specs.Holds.{AreHoldsOf}
use Rattle.statement.specs.Netlists.{Definition, Netlist, is_cell, cells, gates}
use Rattle.statement.specs.Values.{is_line, on_pins, pins_of}
use Rattle.netlist.proofs.Lists.{All-from_contains, contains_filter}
use Rattle.netlist.proofs.Settling.{above_inputs}
use Rattle.events.specs.Waiting.{SettlesBut, IsDrivenTo, AgreeAt}
use Rattle.events.proofs.Steps.{rule_changes, none_waits}
use Rattle.tri.specs.declared.labels.Label.{Label}
use Rattle.tri.specs.Gates.{gate_tri}
use Rattle.tri.specs.Labels.{Decisions, labels, label_of, on_line, source_label, held_value, input_labels, cell_labels, AreLabels}
use Rattle.label_events.specs.Lines.{IsLineOfOthers, AgreeOnOtherLines}

abbrev held_at : Holds → ℕ → Tri
held_at holds x = held_value (get_or holds x None)

-- ---- a decision

zip_label : {A : Type 0} (id : A → ℕ) (own : A → Tri) (R Q : A → Label → Type 0) (path path' : Decisions) (xs : List A)
    → ((x : A) → R x (source_label path (id x) (own x)) → Q x (source_label path' (id x) (own x)))
    → AllZip R xs (map (λ x. source_label path (id x) (own x)) xs) → AllZip Q xs (map (λ x. source_label path' (id x) (own x)) xs)
zip_label id own R Q path path' [] h z = tt
zip_label id own R Q path path' (x ∷ xs) h z = (h x z.0, zip_label id own R Q path path' xs h z.1)

zip_own : {A : Type 0} (P : A → Type 0) (Q : A → Label → Type 0) (g : A → Label) (xs : List A) → ((x : A) → P x → Q x (g x)) → All P xs → AllZip Q xs (map g xs)
zip_own P Q g [] h all = tt
zip_own P Q g (x ∷ xs) h all = (h x (All-head P x xs all), zip_own P Q g xs h (All-tail P x xs all))

module _ (f : Option Fault) (path : Decisions) (n : Netlist) (holds : Holds) (sound : IsSound n) (are : AreHoldsOf n holds) (x : ℕ) where
  not_held : (d : Definition) → Contains (cells n) d → held_at holds d.id ≡ X
  not_held d c =
      let low : length n.inputs ≤ d.id = above_inputs n sound.formed.numbered d (contains_filter is_cell n.definitions d c).0 in
      ap held_value (get_or_past holds d.id None (let e : length holds ≡ length n.inputs = are in omega arith))

  pub is_driven : IsDrivenTo (labels f path) n (input_labels path n holds) (cell_labels path n) x (on_line f (Stem x) (source_label path x (held_at holds x)))
  is_driven = record {
    from_inputs = zip_own (Contains n.inputs) (λ y w. y ≡ x → on_line f (Stem x) (source_label path x (held_at holds x)) ≡ on_line f (Stem x) w)
        (λ y. source_label path y (held_at holds y)) n.inputs (λ y c e. ap (λ z. on_line f (Stem x) (source_label path z (held_at holds z))) (sym e))
        (All-from_contains (Contains n.inputs) n.inputs (λ y c. c));
    from_state = zip_own (Contains (cells n)) (λ (d : Definition) w. d.id ≡ x → on_line f (Stem x) (source_label path x (held_at holds x)) ≡ on_line f (Stem x) w)
        (λ (d : Definition). source_label path d.id X) (cells n)
        (λ d c e. ap (λ z. on_line f (Stem x) (source_label path z (held_at holds z))) (sym e) ∙ ap (λ own. on_line f (Stem x) (source_label path d.id own)) (not_held d c))
        (All-from_contains (Contains (cells n)) (cells n) (λ d c. c));
  }

module _ (f : Option Fault) (path path' : Decisions) (n : Netlist) (holds : Holds) (l : ℕ → Label) (x : ℕ) (same : (y : ℕ) → y ≢ x → path y ≡ path' y) where
  other : (y : ℕ) → eqb y x ≡ false → path y ≡ path' y
  other y h = same y (eqb-false y x h)

  source_same : (y : ℕ) (own : Tri) → eqb y x ≡ false → source_label path y own ≡ source_label path' y own
  source_same y own h = ap (λ o. label_of o own X false) (other y h)

  pub decision_changes : AreLabels f path n holds l → SettlesBut (λ y. eqb y x) (labels f path') n (input_labels path' n holds) (cell_labels path' n) l
  decision_changes s = record {
    inputs_driven = zip_label (λ y. y) (held_at holds) (λ y w. l y ≡ on_line f (Stem y) w) (λ y w. eqb y x ≡ false → l y ≡ on_line f (Stem y) w) path path' n.inputs
        (λ y e h. e ∙ ap (on_line f (Stem y)) (source_same y (held_at holds y) h)) s.0;
    cells_driven = zip_label (λ (d : Definition). d.id) (λ d. X) (λ (d : Definition) w. l d.id ≡ on_line f (Stem d.id) w)
        (λ (d : Definition) w. eqb d.id x ≡ false → l d.id ≡ on_line f (Stem d.id) w) path path' (cells n)
        (λ d e h. e ∙ ap (on_line f (Stem d.id)) (source_same d.id X h)) s.1;
    gates_done = λ d c h.
        let pins = pins_of (labels f path) l d in
        All-contains (λ (e : Definition). l e.id ≡ on_line f (Stem e.id) ((labels f path).gate e (pins_of (labels f path) l e))) (gates n) d s.2 c
        ∙ ap (λ o. on_line f (Stem d.id) (label_of o (gate_tri d.kind (map (λ (m : Label). m.good) pins)) (gate_tri d.kind (map (λ (m : Label). m.faulty) pins)) (list_any (λ (m : Label). m.may_differ) pins))) (other d.id h);
  }

-- ---- a stuck line

on_line_off : (f : Fault) (other : Line) (l : Label) (made : Label) → is_line f.line other ≡ false → cond (is_line f.line other) made l ≡ l
on_line_off f other l made h =
    let step : (b : Bool) → b ≡ false → cond b made l ≡ l = elim [ true ↦ λ e. absurd cc | false ↦ λ e. refl ] in
    step (is_line f.line other) h

pub stuck_off : (f : Fault) (other : Line) (l : Label) → is_line f.line other ≡ false → on_line (Some f) other l ≡ l
stuck_off f other l h = on_line_off f other l _ h

pub same_off : (f : Fault) → AgreeOnOtherLines f.line None (Some f)
same_off f other l h = sym (stuck_off f other l h)

pub same_off_back : (f : Fault) → AgreeOnOtherLines f.line (Some f) None
same_off_back f other l h = stuck_off f other l h

module _ (line : Line) (f g : Option Fault) (path : Decisions) (n : Netlist) (same : AgreeOnOtherLines line f g) where
  pins_same : (z k : ℕ) (vs : List Label) → ((j : ℕ) → is_line line (Pin z j) ≡ false) → on_pins (labels f path) z k vs ≡ on_pins (labels g path) z k vs
  pins_same z k [] h = refl
  pins_same z k (v ∷ vs) h =
      ap (λ u. u ∷ on_pins (labels f path) z (k + 1) vs) (same (Pin z k) v (h k)) ∙ ap (λ us. on_line g (Pin z k) v ∷ us) (pins_same z (k + 1) vs h)

  agree : (x : ℕ) → IsLineOfOthers n line x → AgreeAt (labels f path) (labels g path) n x
  agree x off = record {
    stems = λ v. same (Stem x) v off.0;
    gates_do = λ d c e a. ap ((labels g path).gate d) (pins_same d.id 0 (map a d.pins) (λ j. subst (λ y. is_line line (Pin y j) ≡ false) (sym e) (off.1 d c e j)));
  }

  pub fault_changes : (holds : Holds) (l : ℕ → Label) (x : ℕ) → ((y : ℕ) → y ≢ x → IsLineOfOthers n line y) → AreLabels f path n holds l
      → SettlesBut (λ y. eqb y x) (labels g path) n (input_labels path n holds) (cell_labels path n) l
  fault_changes holds l x site s =
      rule_changes (labels f path) (labels g path) n (input_labels path n holds) (cell_labels path n) l (λ y. eqb y x)
      (λ y h. agree y (site y (eqb-false y x h))) s

  pub fault_changes_nothing : (holds : Holds) (l : ℕ → Label) → ((x : ℕ) → IsLineOfOthers n line x) → AreLabels f path n holds l → AreLabels g path n holds l
  fault_changes_nothing holds l off s =
      none_waits (labels g path) n (input_labels path n holds) (cell_labels path n) l (λ y. false) (λ y. refl)
      (rule_changes (labels f path) (labels g path) n (input_labels path n holds) (cell_labels path n) l (λ y. false) (λ y h. agree y (off y)) s)

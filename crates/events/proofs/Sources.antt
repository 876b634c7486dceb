-- An input or a cell takes a value.
use Rattle.std.proofs.Common.{◌≡◌, ℕ, ◌+◌, Bool, false, cond, List, [], ◌∷◌, map, Some, None, refl, sym, ◌∙◌, ap, subst, inl, inr, eqb}
use Rattle.std.specs.List.{AllZip, Contains}
use Rattle.std.proofs.lemmas.Bool.{cases_eq, and_left, ne_eqb}
use Rattle.statement.specs.declared.lines.Line.{Line}
use Rattle.statement.specs.declared.lines.Line.TheVariants.{Stem, Pin, Out}
use Rattle.statement.specs.declared.lines.Fault.{Fault}
use Rattle.statement.specs.Netlists.{Definition, Netlist, is_cell, cells, gates}
use Rattle.netlist.specs.Conditions.{IsSound}
use Rattle.statement.specs.Values.{Rule, Table, with_fault, is_line, on_pins, pins_of}
use Rattle.netlist.proofs.Lists.{contains_filter, contains_head, contains_tail}
use Rattle.netlist.proofs.Placed.{input_below, definition_below, gate_defined}
use Rattle.events.specs.Waiting.{SettlesBut, IsSourceStep, IsDrivenTo, AgreeAt}
use Rattle.events.specs.Stuck.{is_at, IsObservedOnly}
use Rattle.events.specs.inner.Running.{IsSourceTurn}
use Rattle.events.proofs.Steps.{kept_pins, same_given, each_given}

zip_both : {X Y : Type 0} (R Q S : X → Y → Type 0) (xs : List X) (ys : List Y) → ((x : X) (y : Y) → Contains xs x → R x y → Q x y → S x y) → AllZip R xs ys → AllZip Q xs ys → AllZip S xs ys
zip_both R Q S [] [] h a b = tt
zip_both R Q S [] (y ∷ ys) h a b = absurd a
zip_both R Q S (x ∷ xs) [] h a b = absurd a
zip_both R Q S (x ∷ xs) (y ∷ ys) h a b = (h x y (contains_head x xs) a.0 b.0, zip_both R Q S xs ys (λ z w c. h z w (contains_tail x z xs c)) a.1 b.1)

module _ {V : Type 0} (rule : Rule V) (n : Netlist) (inputs state : List V) (a b : ℕ → V) (before after : ℕ → Bool) (x : ℕ) (v : V)
    (sound : IsSound n) where
  pub source_turn_settles : IsSourceTurn rule n x v a b before after → IsDrivenTo rule n inputs state x v → SettlesBut before rule n inputs state a → SettlesBut after rule n inputs state b
  source_turn_settles step driven h = record {
    inputs_driven = zip_both (λ y w. before y ≡ false → a y ≡ rule.line (Stem y) w) (λ y w. y ≡ x → v ≡ rule.line (Stem x) w) (λ y w. after y ≡ false → b y ≡ rule.line (Stem y) w)
        n.inputs inputs
        (λ y w c old new f. elim (cases_eq y x) [
          | inl e ↦ ap b e ∙ (step.value ∙ (new e ∙ ap (λ z. rule.line (Stem z) w) (sym e)))
          | inr ne ↦ step.others y ne ∙ old (step.waiting y (input_below n sound.formed.numbered y c) ne f)
        ]) h.inputs_driven driven.from_inputs;
    cells_driven = zip_both (λ (d : Definition) w. before d.id ≡ false → a d.id ≡ rule.line (Stem d.id) w) (λ (d : Definition) w. d.id ≡ x → v ≡ rule.line (Stem x) w)
        (λ (d : Definition) w. after d.id ≡ false → b d.id ≡ rule.line (Stem d.id) w) (cells n) state
        (λ d w c old new f. elim (cases_eq d.id x) [
          | inl e ↦ ap b e ∙ (step.value ∙ (new e ∙ ap (λ z. rule.line (Stem z) w) (sym e)))
          | inr ne ↦ step.others d.id ne ∙ old (step.waiting d.id (definition_below n sound.formed.numbered d (contains_filter is_cell n.definitions d c).0) ne f)
        ]) h.cells_driven driven.from_state;
    gates_done = λ d c f.
        let ne = step.source d c in
        step.others d.id ne ∙ (h.gates_done d c (step.waiting d.id (definition_below n sound.formed.numbered d (gate_defined n sound.formed.numbered d c)) ne f)
        ∙ sym (each_given rule a b x d step.others (λ r. step.readers d c r f)));
  }

  pub source_step_settles : IsSourceStep n x v a b before after → IsDrivenTo rule n inputs state x v → SettlesBut before rule n inputs state a → SettlesBut after rule n inputs state b
  source_step_settles step = source_turn_settles record {
    source = step.source;
    value = step.value;
    others = step.others;
    waiting = step.waiting;
    readers = λ d c r f. same_given rule a b d (kept_pins a b x d.pins step.others (λ m. step.readers d c m f));
  }

-- ---- a stuck line

stem_elsewhere : (line : Line) (x : ℕ) → is_at line x ≡ false → is_line line (Stem x) ≡ false
stem_elsewhere (Stem y) x h = h
stem_elsewhere (Pin z k) x h = refl
stem_elsewhere (Out y) x h = refl

pin_elsewhere : (line : Line) (x j : ℕ) → is_at line x ≡ false → is_line line (Pin x j) ≡ false
pin_elsewhere (Stem y) x j h = refl
pin_elsewhere (Pin z k) x j h = and_left (eqb z x) (eqb k j) h
pin_elsewhere (Out y) x j h = refl

module _ {V : Type 0} (table : Table V) (f : Fault) (x : ℕ) (elsewhere : is_at f.line x ≡ false) where
  pub same_stem : (v : V) → (with_fault table None).line (Stem x) v ≡ (with_fault table (Some f)).line (Stem x) v
  same_stem v = ap (λ b. cond b (table.known f.value) v) (sym (stem_elsewhere f.line x elsewhere))

  pub same_pins : (k : ℕ) (vs : List V) → on_pins (with_fault table None) x k vs ≡ on_pins (with_fault table (Some f)) x k vs
  same_pins k [] = refl
  same_pins k (v ∷ vs) = ap (λ w. w ∷ on_pins (with_fault table None) x (k + 1) vs) (ap (λ b. cond b (table.known f.value) v) (sym (pin_elsewhere f.line x k elsewhere)))
      ∙ ap (λ ws. (with_fault table (Some f)).line (Pin x k) v ∷ ws) (same_pins (k + 1) vs)

  same_gate : (d : Definition) → d.id ≡ x → (a : ℕ → V)
      → (with_fault table None).gate d (pins_of (with_fault table None) a d) ≡ (with_fault table (Some f)).gate d (pins_of (with_fault table (Some f)) a d)
  same_gate d e a = ap (table.gate d.kind) (subst (λ y. on_pins (with_fault table None) y 0 (map a d.pins) ≡ on_pins (with_fault table (Some f)) y 0 (map a d.pins)) (sym e) (same_pins 0 (map a d.pins)))

  pub stuck_changes : (n : Netlist) → AgreeAt (with_fault table None) (with_fault table (Some f)) n x × AgreeAt (with_fault table (Some f)) (with_fault table None) n x
  stuck_changes n = (
    record { stems = same_stem; gates_do = λ d c e a. same_gate d e a },
    record { stems = λ v. sym (same_stem v); gates_do = λ d c e a. sym (same_gate d e a) },
  )

-- ---- a line that only an observed point reads

never_stem : (n : Netlist) (line : Line) (x : ℕ) → IsObservedOnly n line → is_line line (Stem x) ≡ false
never_stem n (Stem y) x h = absurd h
never_stem n (Pin z k) x h = refl
never_stem n (Out y) x h = refl

no_pin_here : (n : Netlist) (line : Line) (d : Definition) → Contains (gates n) d → IsObservedOnly n line → is_at line d.id ≡ false
no_pin_here n (Stem y) d c h = absurd h
no_pin_here n (Pin z k) d c h = ne_eqb z d.id (λ e. h (d, c, sym e))
no_pin_here n (Out y) d c h = refl

pub observed_only : {V : Type 0} (table : Table V) (f : Fault) (n : Netlist) (x : ℕ) → IsObservedOnly n f.line → AgreeAt (with_fault table None) (with_fault table (Some f)) n x
observed_only table f n x h = record {
  stems = λ v. ap (λ b. cond b (table.known f.value) v) (sym (never_stem n f.line x h));
  gates_do = λ d c e a. same_gate table f d.id (no_pin_here n f.line d c h) d refl a;
}

-- Before any step: where a gate isn't beside the fault, what excites it, a held input or a gate without pins, it keeps each pair.
use Rattle.std.proofs.Common.{◌≡◌, ℕ, ◌<◌, Bool, true, false, not, ◌&&◌, List, map, length, get_or, if◌then◌else◌, refl, sym, ◌∙◌, ap, subst, inl, inr, eqb, arith}
use Rattle.std.specs.List.{Contains, list_any}
use Rattle.std.proofs.lemmas.Bool.{both_ways, and_from, and_parts, cases_Bool, eqb-true, eq-eqb, false_from_ne_true, not_from_false, not-true}
use Rattle.std.proofs.lemmas.List.{get_or-map}
use Rattle.std.proofs.lemmas.List.Elements.{All-contains}
use Rattle.statement.specs.declared.lines.Line.{Line}
use Rattle.statement.specs.declared.lines.Line.TheVariants.{Stem, Pin, Out}
use Rattle.statement.specs.declared.lines.Fault.{Fault}
use Rattle.statement.specs.Netlists.{Definition, Netlist, gates, signals}
use Rattle.netlist.specs.Conditions.{IsSound}
use Rattle.statement.specs.Patterns.{Holds}
use Rattle.netlist.specs.Lines.{signal_of}
use Rattle.statement.specs.Values.{is_line}
use Rattle.netlist.proofs.Lists.{any_true, any_from}
use Rattle.netlist.proofs.Placed.{gate_defined, same_definition, signal_below}
use Rattle.netlist.proofs.Settling.{pins_within}
use Rattle.tri.proofs.LabelLemmas.{defined_is_signal}
use Rattle.refutation.specs.declared.pairs.Pairs.{Pairs}
use Rattle.refutation.specs.Pairs.{has, meet, no_pair, any_pair, same, good_is, faulty_is}
use Rattle.refutation.specs.Cones.{Enters, IsClosedUnder, IsCone}
use Rattle.refutation.specs.Refutations.{Told, told_of, carried, at_stem, may_have, start, IsKeeping}
use Rattle.refutation.proofs.PairLemmas.{pair, has_any, has_same}
use Rattle.refutation_check.specs.inner.Starting.{AreFixed, IsPlain}
use Rattle.refutation_check.specs.inner.Sweeps.{AreTouched, IsTouched, IsGateTouched, IsCalm}
use Rattle.refutation_check.specs.inner.Trails.{Trailed}
use Rattle.refutation_check.proofs.Plain.{plain_keeps, wide_keeps}
use Rattle.refutation_check.proofs.SweepLemmas.{narrowed_there}
use Rattle.refutation_check.proofs.SetLemmas.{set_of}

stem_signal : (line : Line) (x : ℕ) → is_line line (Stem x) ≡ true → signal_of line ≡ x
stem_signal (Stem y) x e = eqb-true y x e
stem_signal (Pin z k) x e = absurd (both_ways false refl e)
stem_signal (Out y) x e = absurd (both_ways false refl e)

pin_signal : (line : Line) (x j : ℕ) → is_line line (Pin x j) ≡ true → signal_of line ≡ x
pin_signal (Stem y) x j e = absurd (both_ways false refl e)
pin_signal (Pin z k) x j e = eqb-true z x (and_parts (eqb z x) (eqb k j) e).0
pin_signal (Out y) x j e = absurd (both_ways false refl e)

entered_signal : (n : Netlist) (line : Line) (x : ℕ) → Enters n line x → signal_of line ≡ x
entered_signal n (Stem y) x e = sym e
entered_signal n (Pin z k) x e = sym e.0
entered_signal n (Out y) x e = absurd e

and_true : (b : Bool) → (b && true) ≡ b
and_true true = refl
and_true false = refl

meet_any : (s : Pairs) → meet s any_pair ≡ s
meet_any s =
    ap (λ b. set_of b (s.rises && true) (s.falls && true) (s.one && true)) (and_true s.zero)
    ∙ (ap (λ b. set_of s.zero b (s.falls && true) (s.one && true)) (and_true s.rises)
    ∙ (ap (λ b. set_of s.zero s.rises b (s.one && true)) (and_true s.falls) ∙ ap (λ b. set_of s.zero s.rises s.falls b) (and_true s.one)))

-- what the fault reaches may have any pair, the rest the same bit twice
abbrev free : Bool → Pairs
free reached = if reached then any_pair else same

free_twin : (reached b : Bool) → has (free reached) (pair b b) ≡ true
free_twin true b = has_any (pair b b)
free_twin false b = has_same (pair b b) refl

module _ (n : Netlist) (holds : Holds) (f : Fault) (cone : ℕ → Bool) (is_cone : IsCone n f.line cone) (sound : IsSound n) (fixed : List ℕ) (are : AreFixed n holds fixed) (t : Trailed) (from : ℕ)
    (told : t.told ≡ start n holds f cone) (size : length t.told ≡ length (signals n)) (excited : IsTouched t from (carried n f.line)) (line : IsTouched t from (signal_of f.line))
    (rest : AreTouched t from fixed) where
  plain : (x : ℕ) → x < length (signals n) → (IsTouched t from x → ⊥) → IsPlain n holds x
  plain x l none = are.rest x l (λ c. none (All-contains (IsTouched t from) fixed x rest c))

  away : (x : ℕ) → (IsTouched t from x → ⊥) → signal_of f.line ≡ x → ⊥
  away x none e = none (subst (IsTouched t from) e line)

  not_stem : (x : ℕ) → (IsTouched t from x → ⊥) → is_line f.line (Stem x) ≡ false
  not_stem x none = false_from_ne_true (is_line f.line (Stem x)) (λ e. away x none (stem_signal f.line x e))

  may_be : (x : ℕ) → x < length (signals n) → (IsTouched t from x → ⊥) → may_have holds f (cone x) x ≡ free (cone x)
  may_be x l none =
      let stem : at_stem f x ≡ any_pair = ap (λ b. if b then faulty_is f.value else any_pair) (not_stem x none) in
      ap (meet (if cone x then at_stem f x else same)) (plain x l none).held ∙ (meet_any (if cone x then at_stem f x else same) ∙ ap (λ (s : Pairs). if cone x then s else same) stem)

  told_here : (x : ℕ) → x < length (signals n) → (IsTouched t from x → ⊥) → told_of t.told x ≡ free (cone x)
  told_here x l none =
      let may : ℕ → Pairs = λ y. may_have holds f (cone y) y in
      let here : get_or (signals n) x 0 ≡ x = sound.formed.numbered x l in
      let apart : x ≡ carried n f.line → ⊥ = λ e. none (subst (IsTouched t from) (sym e) excited) in
      ap (λ (s : Told). told_of s x) told ∙ (narrowed_there (map may (signals n)) (carried n f.line) x (good_is (not f.value)) apart
      ∙ (get_or-map may (signals n) x 0 no_pair l ∙ (ap may here ∙ may_be x l none)))

  module _ (d : Definition) (g : Contains (gates n) d) (none : IsGateTouched n t from d.id → ⊥) where
    c : Contains n.definitions d
    c = gate_defined n sound.formed.numbered d g

    low : d.id < length (signals n)
    low = signal_below n sound.formed.numbered d.id (defined_is_signal n d c)

    own : IsTouched t from d.id → ⊥
    own w = none (d.id, inl refl, w)

    pin : (x : ℕ) → Contains d.pins x → IsTouched t from x → ⊥
    pin x m w = none (x, inr (d, g, refl, m), w)

    pin_low : (x : ℕ) → Contains d.pins x → x < length (signals n)
    pin_low x m = All-contains (λ y. y < length (signals n)) d.pins x (pins_within n sound.formed.numbered sound.closed d c d.pins (length (signals n)) refl refl) m

    not_pin : (j : ℕ) → is_line f.line (Pin d.id j) ≡ false
    not_pin j = false_from_ne_true (is_line f.line (Pin d.id j)) (λ e. away d.id own (pin_signal f.line d.id j e))

    units : (x : ℕ) → Contains d.pins x → (b : Bool) → has (told_of t.told x) (pair b b) ≡ true
    units x m b = subst (λ (s : Pairs). has s (pair b b) ≡ true) (sym (told_here x (pin_low x m) (pin x m))) (free_twin (cone x) b)

    -- it isn't reached, if no pin is: else the cone without it would do
    unreached : list_any cone d.pins ≡ false → cone d.id ≡ false
    unreached out = false_from_ne_true (cone d.id) (λ e.
        both_ways (eqb d.id d.id) (not-true (eqb d.id d.id) (and_parts (cone d.id) (not (eqb d.id d.id)) (is_cone.least without closed d.id e)).1) (eq-eqb d.id d.id refl)) where
          without : ℕ → Bool
          without y = cone y && not (eqb y d.id)

          other : (y : ℕ) → (y ≡ d.id → ⊥) → not (eqb y d.id) ≡ true
          other y ne = not_from_false (eqb y d.id) (false_from_ne_true (eqb y d.id) (λ s. ne (eqb-true y d.id s)))

          closed : IsClosedUnder n f.line without
          closed = record {
            entered = λ x en. and_from (cone x) (not (eqb x d.id)) (is_cone.closed.entered x en) (other x (λ e. away d.id own (entered_signal n f.line x en ∙ e)));
            passed = λ x z m r.
                let at : cone x ≡ true = (and_parts (cone x) (not (eqb x d.id)) m).0 in
                and_from (cone z) (not (eqb z d.id)) (is_cone.closed.passed x z at r) (other z (λ e.
                let same_one : r.0 ≡ d = same_definition n sound.formed.numbered r.0 d (gate_defined n sound.formed.numbered r.0 r.1) c (r.2 ∙ e) in
                both_ways (list_any cone d.pins) out (any_from cone d.pins x (subst (λ (h : Definition). Contains h.pins x) same_one r.3) at)));
          }

    keeps : IsKeeping n f t.told d
    keeps = elim (cases_Bool (list_any cone d.pins)) [
      | inl some ↦
          let w = any_true cone d.pins some in
          let reached : cone d.id ≡ true = is_cone.closed.passed w.0 d.id w.2 (d, g, refl, w.1) in
          wide_keeps n f sound t.told d g (not_stem d.id own) not_pin units (told_here d.id low own ∙ ap free reached) w.0 w.1 (told_here w.0 (pin_low w.0 w.1) (pin w.0 w.1) ∙ ap free w.2)
      | inr out ↦
          plain_keeps n f sound t.told d g (not_stem d.id own) not_pin units (told_here d.id low own ∙ ap free (unreached out))
          (λ x m. told_here x (pin_low x m) (pin x m) ∙ ap free (false_from_ne_true (cone x) (λ e. both_ways (list_any cone d.pins) out (any_from cone d.pins x m e))))
          ((plain d.id low own).pins d c refl)
    ]

  pub calm_start : IsCalm n f t from
  calm_start = record {
    gates = λ z none d g id. keeps d g (λ w. none (subst (λ v. IsGateTouched n t from v) id w));
    some = λ x l none. (pair false false, subst (λ (s : Pairs). has s (pair false false) ≡ true) (sym (told_here x (let e = size in omega arith) none)) (free_twin (cone x) false));
  }

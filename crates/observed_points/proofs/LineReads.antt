-- Each line is read at one point, and a line that enters an equation at none.
use Rattle.std.proofs.Common.{◌≡◌, ℕ, ◌-◌, ◌<◌, ◌≤◌, ◌≢◌, Bool, true, false, map, length, get_or, refl, sym, ◌∙◌, ap, subst, inl, inr, eqb, arith}
use Rattle.std.proofs.lemmas.Bool.{cases_eq, cases_lt, both_ways, and_parts, and_from, eqb-true, eq-eqb, false_from_ne_true}
use Rattle.std.proofs.lemmas.List.{get_or-map, length-map}
use Rattle.std.proofs.lemmas.List.Elements.{Contains-get_or}
use Rattle.statement.specs.declared.lines.Line.{Line}
use Rattle.statement.specs.declared.lines.Line.TheVariants.{Stem, Pin, Out}
use Rattle.netlist.specs.Conditions.{IsSound}
use Rattle.statement.specs.Netlists.{Definition, Netlist, cells}
use Rattle.statement.specs.Values.{is_line}
use Rattle.netlist.proofs.Orders.{cell_no_gate}
use Rattle.netlist.proofs.Settling.{cells_distinct}
use Rattle.events.specs.Stuck.{IsObservedOnly}
use Rattle.observed_points.specs.Points.{points}
use Rattle.observed_points.proofs.ObservedPoints.{line_in, points_count, output_in, cell_in}
use Rattle.observed_points.proofs.PointTables.{no_definition}

pub same_line : (l m : Line) → is_line l m ≡ true → l ≡ m
same_line (Stem x) (Stem y) h = ap Stem (eqb-true x y h)
same_line (Pin x j) (Pin y k) h = let p = and_parts (eqb x y) (eqb j k) h in ap (λ z. Pin z j) (eqb-true x y p.0) ∙ ap (Pin y) (eqb-true j k p.1)
same_line (Out x) (Out y) h = ap Out (eqb-true x y h)
same_line (Stem x) (Pin y k) h = absurd (both_ways false refl h)
same_line (Stem x) (Out y) h = absurd (both_ways false refl h)
same_line (Pin x j) (Stem y) h = absurd (both_ways false refl h)
same_line (Pin x j) (Out y) h = absurd (both_ways false refl h)
same_line (Out x) (Stem y) h = absurd (both_ways false refl h)
same_line (Out x) (Pin y k) h = absurd (both_ways false refl h)

pub line_same : (l : Line) → is_line l l ≡ true
line_same (Stem x) = eq-eqb x x refl
line_same (Pin x j) = and_from (eqb x x) (eqb j j) (eq-eqb x x refl) (eq-eqb j j refl)
line_same (Out x) = eq-eqb x x refl

outs_same : (x y : ℕ) → Out x ≡ Out y → x ≡ y
outs_same x y e = cc

pins_same : (x y : ℕ) → Pin x 0 ≡ Pin y 0 → x ≡ y
pins_same x y e = cc

out_no_pin : (x y : ℕ) → Out x ≡ Pin y 0 → ⊥
out_no_pin x y e = cc

module _ (n : Netlist) (sound : IsSound n) where
  -- each line is read at one point
  pub points_once : (c d : ℕ) → c < length (points n) → d < length (points n) → line_in n sound c ≡ line_in n sound d → c ≡ d
  points_once c d l m e =
      let all = points_count n sound in
      elim (cases_lt c (length n.outputs)) [
        | inl low ↦ elim (cases_lt d (length n.outputs)) [
          | inl low' ↦
              let same : get_or n.outputs c 0 ≡ get_or n.outputs d 0 = outs_same (get_or n.outputs c 0) (get_or n.outputs d 0)
              (sym (ap (λ (p : Line × ℕ). p.0) (output_in n sound c low)) ∙ (e ∙ ap (λ (p : Line × ℕ). p.0) (output_in n sound d low'))) in
              elim (cases_eq c d) [
                | inl is ↦ is
                | inr ne ↦ elim (cases_lt c d) [
                  | inl before ↦ absurd (sound.formed.once c d 0 before low' same)
                  | inr behind ↦ absurd (sound.formed.once d c 0 (omega arith) low (sym same))
                ]
              ]
          | inr high ↦ absurd (out_no_pin (get_or n.outputs c 0) (get_or (cells n) (d - length n.outputs) no_definition).id
              (sym (ap (λ (p : Line × ℕ). p.0) (output_in n sound c low)) ∙ (e ∙ ap (λ (p : Line × ℕ). p.0) (cell_in n sound d no_definition high m))))
        ]
        | inr high ↦ elim (cases_lt d (length n.outputs)) [
          | inl low' ↦ absurd (out_no_pin (get_or n.outputs d 0) (get_or (cells n) (c - length n.outputs) no_definition).id
              (sym (ap (λ (p : Line × ℕ). p.0) (output_in n sound d low')) ∙ (sym e ∙ ap (λ (p : Line × ℕ). p.0) (cell_in n sound c no_definition high l))))
          | inr high' ↦
              let ids = map (λ (f : Definition). f.id) (cells n) in
              let size = length-map (cells n) (λ (f : Definition). f.id) in
              let apart = cells_distinct n sound.formed.numbered (map (λ (f : Definition). f.id) (cells n)) refl in
              let i = c - length n.outputs in
              let j = d - length n.outputs in
              let same : (get_or (cells n) (c - length n.outputs) no_definition).id ≡ (get_or (cells n) (d - length n.outputs) no_definition).id =
              pins_same (get_or (cells n) (c - length n.outputs) no_definition).id (get_or (cells n) (d - length n.outputs) no_definition).id
              (sym (ap (λ (p : Line × ℕ). p.0) (cell_in n sound c no_definition high l)) ∙ (e ∙ ap (λ (p : Line × ℕ). p.0) (cell_in n sound d no_definition high' m))) in
              let alike : get_or ids (c - length n.outputs) 0 ≡ get_or ids (d - length n.outputs) 0 =
              get_or-map (λ (f : Definition). f.id) (cells n) (c - length n.outputs) no_definition 0 (omega arith) ∙ (same
              ∙ sym (get_or-map (λ (f : Definition). f.id) (cells n) (d - length n.outputs) no_definition 0 (omega arith))) in
              elim (cases_eq c d) [
                | inl is ↦ is
                | inr ne ↦ elim (cases_lt c d) [
                  | inl before ↦ absurd (apart (c - length n.outputs) (d - length n.outputs) 0 (omega arith) (omega arith) alike)
                  | inr behind ↦ absurd (apart (d - length n.outputs) (c - length n.outputs) 0 (omega arith) (omega arith) (sym alike))
                ]
              ]
        ]
      ]

  -- a line that enters an equation is read at no point
  pub unread : (line : Line) → ¬ IsObservedOnly n line → (c : ℕ) → c < length (points n) → is_line line (line_in n sound c) ≡ false
  unread line h c l = false_from_ne_true (is_line line (line_in n sound c)) (λ e. h (subst (IsObservedOnly n) (sym (same_line line (line_in n sound c) e)) (only c l))) where
    only : (c : ℕ) → c < length (points n) → IsObservedOnly n (line_in n sound c)
    only c l = elim (cases_lt c (length n.outputs)) [
      | inl low ↦ subst (IsObservedOnly n) (sym (ap (λ (p : Line × ℕ). p.0) (output_in n sound c low))) tt
      | inr high ↦
          let all = points_count n sound in
          subst (IsObservedOnly n) (sym (ap (λ (p : Line × ℕ). p.0) (cell_in n sound c no_definition high l)))
          (cell_no_gate n sound.formed.numbered (get_or (cells n) (c - length n.outputs) no_definition) (Contains-get_or (cells n) (c - length n.outputs) no_definition (omega arith)))
    ]

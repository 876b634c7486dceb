-- The machines outside of a span aren't stuck at the lines that a signal names.
use Rattle.std.proofs.Common.{◌≡◌, ℕ, suc, zero, ◌+◌, ◌-◌, ◌<◌, ◌≤◌, Bool, true, false, ◌&&◌, if◌then◌else◌, List, [], ◌∷◌, map, length, get_or, drop, refl, sym, ◌∙◌, ap, inl, inr, eqb, arith}
use Rattle.std.specs.List.{All}
use Rattle.std.proofs.lemmas.Bool.{eqb-true, cases_Bool, both_ways}
use Rattle.std.proofs.lemmas.List.{length-map, drop_more, get_or_default}
use Rattle.statement.specs.declared.kinds.Kind.{Kind}
use Rattle.statement.specs.declared.lines.Fault.{Fault}
use Rattle.statement.specs.declared.lines.Line.{Line}
use Rattle.statement.specs.declared.lines.Line.TheVariants.{Stem, Pin, Out}
use Rattle.netlist.specs.Lines.{signal_of}
use Rattle.statement.specs.Values.{Rule, is_line, on_pins}
use Rattle.netlist.specs.Settled.{at}
use Rattle.netlist.proofs.Lists.{map_agree}
use Rattle.events.proofs.Stuck.{length-on_pins}
use Rattle.lane_play.specs.declared.packed.Lanes.{Lanes}
use Rattle.lane_play.specs.declared.spans.Span.{Span}
use Rattle.lane_play.specs.inner.Lanes.{forced_from, gate_lanes, lanes_rule, with_lane, unknown}
use Rattle.lane_play.specs.inner.Spans.{IsSpanned}

-- any fault: a lemma asks for a default
pub any_fault : Fault
any_fault = record { line = Stem 0; value = false }

-- ---- lines

and_first : (a b : Bool) → (a && b) ≡ true → a ≡ true
and_first true b e = refl
and_first false b e = e

-- a line is named by one signal
same_signal : (a b : Line) → is_line a b ≡ true → signal_of a ≡ signal_of b
same_signal (Stem x) (Stem y) e = eqb-true x y e
same_signal (Pin x j) (Pin y k) e = eqb-true x y (and_first (eqb x y) (eqb j k) e)
same_signal (Out x) (Out y) e = eqb-true x y e
same_signal (Stem x) (Pin y k) e = absurd (both_ways false refl e)
same_signal (Stem x) (Out y) e = absurd (both_ways false refl e)
same_signal (Pin x j) (Stem y) e = absurd (both_ways false refl e)
same_signal (Pin x j) (Out y) e = absurd (both_ways false refl e)
same_signal (Out x) (Stem y) e = absurd (both_ways false refl e)
same_signal (Out x) (Pin y k) e = absurd (both_ways false refl e)

-- ---- pins

-- there is a value for each pin
pub length-read : (rule : Rule Lanes) (z : ℕ) (values : List Lanes) (pins : List ℕ) → length (on_pins rule z 0 (map (at values unknown) pins)) ≡ length pins
length-read rule z values pins =
    length-on_pins rule z 0 (map (at values unknown) pins) ∙ length-map pins (at values unknown)

pub place_read : (rule : Rule Lanes) (z : ℕ) (values : List Lanes) (pins : List ℕ) (place : ℕ) → place < length (on_pins rule z 0 (map (at values unknown) pins)) → place < length pins
place_read rule z values pins place l = let n = length-read rule z values pins in omega arith

-- ---- faults passed over

-- machine k may change the line's value; the others are passed over
pub forced_more : (faults : List Fault) (k : ℕ) (f : Fault) (line : Line) (v : Lanes) → k < length faults → f ≡ get_or faults k f
    → forced_from k (drop k faults) line v ≡ forced_from (k + 1) (drop (k + 1) faults) line (if is_line f.line line then with_lane k f.value v else v)
forced_more faults k f line v l is = ap (λ fs. forced_from k fs line v) (drop_more faults k f l ∙ ap (λ x. x ∷ drop (k + 1) faults) (sym is))

unforced : (k : ℕ) (b here : Bool) (v : Lanes) → here ≡ false → (if here then with_lane k b v else v) ≡ v
unforced k b true v e = absurd (both_ways true e refl)
unforced k b false v e = refl

pass_one : (faults : List Fault) (k : ℕ) (line : Line) (v : Lanes) (d : Fault) → k < length faults → (is_line (get_or faults k d).line line ≡ false)
    → forced_from k (drop k faults) line v ≡ forced_from (k + 1) (drop (k + 1) faults) line v
pass_one faults k line v d l none =
    let f = get_or faults k d in
    forced_more faults k f line v l (get_or_default faults k d f l)
    ∙ ap (forced_from (k + 1) (drop (k + 1) faults) line) (unforced k f.value (is_line f.line line) v none)

-- the faults from k on, of which the next so many aren't at the line
pass_some : (faults : List Fault) (k m : ℕ) (line : Line) (v : Lanes) (d : Fault) → k + m ≤ length faults
    → ((j : ℕ) → k ≤ j → j < k + m → is_line (get_or faults j d).line line ≡ false)
    → forced_from k (drop k faults) line v ≡ forced_from (k + m) (drop (k + m) faults) line v
pass_some faults k zero line v d l none = ap (λ i. forced_from i (drop i faults) line v) (let s : k ≡ k + zero = omega arith in s)
pass_some faults k (suc m) line v d l none =
    pass_one faults k line v d (omega (arith, l)) (none k (omega arith) (omega arith))
    ∙ (pass_some faults (k + 1) m line v d (omega (arith, l)) (λ j a b. none j (omega (arith, a)) (omega (arith, b)))
    ∙ ap (λ i. forced_from i (drop i faults) line v) (let s : k + 1 + m ≡ k + suc m = omega arith in s))

at_end : (faults : List Fault) (line : Line) (v : Lanes) → forced_from (length faults) (drop (length faults) faults) line v ≡ v
at_end faults line v = ap (λ fs. forced_from (length faults) fs line v) (nothing_left faults)
  where
    nothing_left : (fs : List Fault) → drop (length fs) fs ≡ []
    nothing_left [] = refl
    nothing_left (f ∷ fs) = nothing_left fs

module _ (faults : List Fault) (line : Line) (span : Span) (s : IsSpanned faults (length faults) (signal_of line) span) where
  -- outside of the span a fault isn't at the line
  outside : (j : ℕ) (d : Fault) → j < length faults → ((span.from ≤ j) × (j < span.to) → ⊥) → is_line (get_or faults j d).line line ≡ false
  outside j d l out = elim (cases_Bool (is_line (get_or faults j d).line line)) [
    | inl e ↦ absurd (out (s.inside j d l (same_signal (get_or faults j d).line line e)))
    | inr e ↦ e
  ]

  -- before the span
  pub pass_front : (v : Lanes) (d : Fault) → span.from ≤ length faults → forced_from 0 faults line v ≡ forced_from span.from (drop span.from faults) line v
  pass_front v d l =
      let none : 0 + span.from ≡ span.from = omega arith in
      pass_some faults 0 span.from line v d (omega (arith, l)) (λ j a b. outside j d (omega (arith, b, l)) (λ h. omega (arith, b, h.0)))
      ∙ ap (λ i. forced_from i (drop i faults) line v) none

  -- behind it
  pub pass_back : (k : ℕ) (v : Lanes) (d : Fault) → span.to ≤ k → k ≤ length faults → forced_from k (drop k faults) line v ≡ v
  pass_back k v d l m =
      pass_some faults k (length faults - k) line v d (omega (arith, m)) (λ j a b. outside j d (omega (arith, b, m)) (λ h. omega (arith, a, h.1, l)))
      ∙ (ap (λ i. forced_from i (drop i faults) line v) (let e : k + (length faults - k) ≡ length faults = omega (arith, m) in e) ∙ at_end faults line v)

  -- an empty span
  pub pass_all : (v : Lanes) (d : Fault) → span.to ≤ span.from → forced_from 0 faults line v ≡ v
  pass_all v d none =
      let whole : 0 + length faults ≡ length faults = omega arith in
      pass_some faults 0 (length faults) line v d (omega arith) (λ j a b. outside j d (omega (arith, b)) (λ h. omega (arith, none, h.0, h.1)))
      ∙ (ap (λ i. forced_from i (drop i faults) line v) whole ∙ at_end faults line v)

-- ---- where no machine is stuck at a gate

module _ (faults : List Fault) (id : ℕ) (span : Span) (s : IsSpanned faults (length faults) id span) (none : span.to ≤ span.from) (d : Fault) where
  pub free_stem : (v : Lanes) → (lanes_rule faults).line (Stem id) v ≡ v
  free_stem v = pass_all faults (Stem id) span s v d none

  pub free_pins : (k : ℕ) (vs : List Lanes) → on_pins (lanes_rule faults) id k vs ≡ vs
  free_pins k [] = refl
  free_pins k (v ∷ vs) = ap (λ w. w ∷ on_pins (lanes_rule faults) id (k + 1) vs) (pass_all faults (Pin id k) span s v d none) ∙ ap (λ ws. v ∷ ws) (free_pins (k + 1) vs)

  pub free_made : (kind : Kind) (vs : List Lanes) → gate_lanes kind vs ≡ (lanes_rule faults).line (Stem id) (gate_lanes kind (on_pins (lanes_rule faults) id 0 vs))
  free_made kind vs = ap (gate_lanes kind) (sym (free_pins 0 vs)) ∙ sym (free_stem (gate_lanes kind (on_pins (lanes_rule faults) id 0 vs)))

-- ---- reading

same_reads : (values : List Lanes) (ids : List ℕ) (e d : Lanes) → All (λ x. x < length values) ids → map (at values e) ids ≡ map (at values d) ids
same_reads values ids e d below = map_agree (at values e) (at values d) ids (λ k x l. get_or_default values (get_or ids k x) e d (below k x l))

-- a value that is there is read whatever stands for those that are not
pub made_any : (faults : List Fault) (id : ℕ) (kind : Kind) (ids : List ℕ) (values : List Lanes) (made e d : Lanes) → All (λ x. x < length values) ids
    → made ≡ (lanes_rule faults).line (Stem id) (gate_lanes kind (on_pins (lanes_rule faults) id 0 (map (at values e) ids)))
    → made ≡ (lanes_rule faults).line (Stem id) (gate_lanes kind (on_pins (lanes_rule faults) id 0 (map (at values d) ids)))
made_any faults id kind ids values made e d below is =
    is ∙ ap (λ vs. (lanes_rule faults).line (Stem id) (gate_lanes kind (on_pins (lanes_rule faults) id 0 vs))) (same_reads values ids e d below)

-- ---- the spans

-- the spans with one machine more, which is at a line of another signal, or at one of this
module _ (faults : List Fault) (m : ℕ) (few : m < length faults) (f : Fault) (is : f ≡ get_or faults m f) where
  named : (d : Fault) → get_or faults m d ≡ f
  named d = get_or_default faults m d f few ∙ sym is

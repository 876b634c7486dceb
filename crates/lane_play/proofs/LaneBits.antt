-- One machine of 128 side by side: lines and gates do to each what they do to three values.
use Rattle.std.proofs.Common.{◌≡◌, ◌≢◌, ℕ, suc, zero, ◌+◌, ◌<◌, ◌≤◌, Bool, true, false, not, ◌&&◌, ◌||◌, cond, if◌then◌else◌, List, [], ◌∷◌, ◌++◌, map, length, refl, sym, ◌∙◌, ap, arith}
use Rattle.std.specs.List.{slice_get, list_any, flat_map}
use Rattle.std.proofs.lemmas.List.{map-append}
use Rattle.statement.specs.declared.kinds.Kind.{Kind}
use Rattle.statement.specs.declared.kinds.Kind.TheVariants.{And, Nand, Or, Nor, Xor, Xnor, Not, Buff, Dff, Const0, Const1}
use Rattle.statement.specs.declared.kinds.Tri.{Tri}
use Rattle.statement.specs.declared.kinds.Tri.TheVariants.{Zero, One, X}
use Rattle.statement.specs.declared.lines.Fault.{Fault}
use Rattle.statement.specs.declared.lines.Line.{Line}
use Rattle.statement.specs.declared.lines.Line.TheVariants.{Pin, Out}
use Rattle.statement.specs.Values.{parity, Settles, is_line, stuck, outs, next, on_pins, pins_of, known}
use Rattle.statement.specs.Netlists.{Definition, Netlist, cells}
use Rattle.netlist.specs.ThreeValues.{complement, is_zero, is_one, is_x}
use Rattle.netlist.proofs.Lists.{map_map}
use Rattle.tri.specs.Gates.{conjunction_tri, disjunction_tri, parity_tri, only_tri, gate_tri}
use Rattle.tri.specs.Settled.{tris}
use Rattle.events.proofs.WordBits.{image_settles}
use Rattle.lane_play.specs.declared.bits.Bits.{Bits}
use Rattle.lane_play.specs.declared.packed.Lanes.{Lanes}
use Rattle.lane_play.specs.inner.Bits.{all_bits, bit_in, bits_and, bits_not, bits_or, bits_xor, no_bits, with_bit}
use Rattle.lane_play.specs.inner.Lanes.{lane, lanes, always, both, either, unequal, opposite, all_of, some_of, odd_of, only_of, gate_lanes, with_lane, forced_from, lanes_rule, unknown}
use Rattle.lane_play.proofs.BitLemmas.{bit_in_all, bit_in_and, bit_in_none, bit_in_not, bit_in_or, bit_in_xor, with_bit_other, with_bit_same}

-- ---- two values

abbrev and_tri : Tri → Tri → Tri
and_tri Zero w = Zero
and_tri One w = w
and_tri X Zero = Zero
and_tri X One = X
and_tri X X = X

abbrev or_tri : Tri → Tri → Tri
or_tri One w = One
or_tri Zero w = w
or_tri X One = One
or_tri X Zero = X
or_tri X X = X

abbrev xor_tri : Tri → Tri → Tri
xor_tri X w = X
xor_tri Zero w = w
xor_tri One w = complement w

and_x : (z x : Bool) → (if z then Zero else X) ≡ and_tri X (if z then Zero else (if x then X else One))
and_x true x = refl
and_x false true = refl
and_x false false = refl

or_x : (z x : Bool) → (if z then One else X) ≡ or_tri X (if z then One else (if x then X else Zero))
or_x true x = refl
or_x false true = refl
or_x false false = refl

xor_one : (x b : Bool) → (if x then X else known (not b)) ≡ complement (if x then X else known b)
xor_one true b = refl
xor_one false true = refl
xor_one false false = refl

and_more : (v : Tri) (vs : List Tri) → conjunction_tri (v ∷ vs) ≡ and_tri v (conjunction_tri vs)
and_more Zero vs = refl
and_more One vs = refl
and_more X vs = and_x (list_any is_zero vs) (list_any is_x vs)

or_more : (v : Tri) (vs : List Tri) → disjunction_tri (v ∷ vs) ≡ or_tri v (disjunction_tri vs)
or_more One vs = refl
or_more Zero vs = refl
or_more X vs = or_x (list_any is_one vs) (list_any is_x vs)

xor_more : (v : Tri) (vs : List Tri) → parity_tri (v ∷ vs) ≡ xor_tri v (parity_tri vs)
xor_more X vs = refl
xor_more Zero vs = refl
xor_more One vs = xor_one (list_any is_x vs) (parity (map is_one vs))

-- ---- a known bit and what it is

abbrev tri_of : Bool → Bool → Tri
tri_of k b = if k then known b else X

and_bits : (k b l c : Bool) → tri_of ((k && l) || ((k && not b) || (l && not c))) (b && c) ≡ and_tri (tri_of k b) (tri_of l c)
and_bits true true true true = refl
and_bits true true true false = refl
and_bits true false true c = refl
and_bits true true false c = refl
and_bits true false false c = refl
and_bits false b true true = refl
and_bits false true true false = refl
and_bits false false true false = refl
and_bits false b false c = refl

or_bits : (k b l c : Bool) → tri_of ((k && l) || ((k && b) || (l && c))) (b || c) ≡ or_tri (tri_of k b) (tri_of l c)
or_bits true true true c = refl
or_bits true false true true = refl
or_bits true false true false = refl
or_bits true true false c = refl
or_bits true false false c = refl
or_bits false b true false = refl
or_bits false true true true = refl
or_bits false false true true = refl
or_bits false b false c = refl

xor_bits : (k b l c : Bool) → tri_of (k && l) (cond b (not c) c) ≡ xor_tri (tri_of k b) (tri_of l c)
xor_bits true true true true = refl
xor_bits true true true false = refl
xor_bits true false true c = refl
xor_bits true true false c = refl
xor_bits true false false c = refl
xor_bits false b l c = refl

not_bits : (k b : Bool) → tri_of k (not b) ≡ complement (tri_of k b)
not_bits true true = refl
not_bits true false = refl
not_bits false b = refl

-- ---- one machine

module _ (j : ℕ) (low : j < 128) where
  same_tri : (k l b c : Bool) → k ≡ l → b ≡ c → tri_of k b ≡ tri_of l c
  same_tri k l b c e f = ap (λ x. tri_of x b) e ∙ ap (tri_of l) f

  pub lane_always : (b : Bool) → lane j (always b) ≡ known b
  lane_always true = same_tri (bit_in j all_bits) true (bit_in j all_bits) true (bit_in_all j) (bit_in_all j)
  lane_always false = same_tri (bit_in j all_bits) true (bit_in j no_bits) false (bit_in_all j) (bit_in_none j)

  pub lane_unknown : lane j unknown ≡ X
  lane_unknown = ap (λ k. tri_of k (bit_in j no_bits)) (bit_in_none j)

  masked : (k v : Bits) → bit_in j (bits_and k (bits_not v)) ≡ (bit_in j k && not (bit_in j v))
  masked k v = bit_in_and k (bits_not v) j ∙ ap (λ b. bit_in j k && b) (bit_in_not v j)

  or_three : (a b c : Bits) → bit_in j (bits_or a (bits_or b c)) ≡ (bit_in j a || (bit_in j b || bit_in j c))
  or_three a b c = bit_in_or a (bits_or b c) j ∙ ap (λ x. bit_in j a || x) (bit_in_or b c j)

  lane_both : (u v : Lanes) → lane j (both u v) ≡ and_tri (lane j u) (lane j v)
  lane_both u v =
      same_tri (bit_in j (both u v).known) ((bit_in j u.known && bit_in j v.known) || ((bit_in j u.known && not (bit_in j u.value)) || (bit_in j v.known && not (bit_in j v.value))))
      (bit_in j (both u v).value) (bit_in j u.value && bit_in j v.value)
      (or_three (bits_and u.known v.known) (bits_and u.known (bits_not u.value)) (bits_and v.known (bits_not v.value))
      ∙ (ap (λ x. x || (bit_in j (bits_and u.known (bits_not u.value)) || bit_in j (bits_and v.known (bits_not v.value)))) (bit_in_and u.known v.known j)
      ∙ (ap (λ x. (bit_in j u.known && bit_in j v.known) || (x || bit_in j (bits_and v.known (bits_not v.value)))) (masked u.known u.value)
      ∙ ap (λ x. (bit_in j u.known && bit_in j v.known) || ((bit_in j u.known && not (bit_in j u.value)) || x)) (masked v.known v.value))))
      (bit_in_and u.value v.value j)
      ∙ and_bits (bit_in j u.known) (bit_in j u.value) (bit_in j v.known) (bit_in j v.value)

  lane_either : (u v : Lanes) → lane j (either u v) ≡ or_tri (lane j u) (lane j v)
  lane_either u v =
      same_tri (bit_in j (either u v).known) ((bit_in j u.known && bit_in j v.known) || ((bit_in j u.known && bit_in j u.value) || (bit_in j v.known && bit_in j v.value)))
      (bit_in j (either u v).value) (bit_in j u.value || bit_in j v.value)
      (or_three (bits_and u.known v.known) (bits_and u.known u.value) (bits_and v.known v.value)
      ∙ (ap (λ x. x || (bit_in j (bits_and u.known u.value) || bit_in j (bits_and v.known v.value))) (bit_in_and u.known v.known j)
      ∙ (ap (λ x. (bit_in j u.known && bit_in j v.known) || (x || bit_in j (bits_and v.known v.value))) (bit_in_and u.known u.value j)
      ∙ ap (λ x. (bit_in j u.known && bit_in j v.known) || ((bit_in j u.known && bit_in j u.value) || x)) (bit_in_and v.known v.value j))))
      (bit_in_or u.value v.value j)
      ∙ or_bits (bit_in j u.known) (bit_in j u.value) (bit_in j v.known) (bit_in j v.value)

  lane_unequal : (u v : Lanes) → lane j (unequal u v) ≡ xor_tri (lane j u) (lane j v)
  lane_unequal u v =
      same_tri (bit_in j (bits_and u.known v.known)) (bit_in j u.known && bit_in j v.known) (bit_in j (bits_xor u.value v.value)) (cond (bit_in j u.value) (not (bit_in j v.value)) (bit_in j v.value))
      (bit_in_and u.known v.known j) (bit_in_xor u.value v.value j)
      ∙ xor_bits (bit_in j u.known) (bit_in j u.value) (bit_in j v.known) (bit_in j v.value)

  lane_opposite : (v : Lanes) → lane j (opposite v) ≡ complement (lane j v)
  lane_opposite v = ap (tri_of (bit_in j v.known)) (bit_in_not v.value j) ∙ not_bits (bit_in j v.known) (bit_in j v.value)

  lane_all : (vs : List Lanes) → lane j (all_of vs) ≡ conjunction_tri (lanes j vs)
  lane_all [] = lane_always true
  lane_all (v ∷ vs) = lane_both v (all_of vs) ∙ (ap (and_tri (lane j v)) (lane_all vs) ∙ sym (and_more (lane j v) (lanes j vs)))

  lane_some : (vs : List Lanes) → lane j (some_of vs) ≡ disjunction_tri (lanes j vs)
  lane_some [] = lane_always false
  lane_some (v ∷ vs) = lane_either v (some_of vs) ∙ (ap (or_tri (lane j v)) (lane_some vs) ∙ sym (or_more (lane j v) (lanes j vs)))

  lane_odd : (vs : List Lanes) → lane j (odd_of vs) ≡ parity_tri (lanes j vs)
  lane_odd [] = lane_always false
  lane_odd (v ∷ vs) = lane_unequal v (odd_of vs) ∙ (ap (xor_tri (lane j v)) (lane_odd vs) ∙ sym (xor_more (lane j v) (lanes j vs)))

  lane_only : (vs : List Lanes) → lane j (only_of vs) ≡ only_tri (lanes j vs)
  lane_only [] = lane_always false
  lane_only (v ∷ vs) = refl

  lane_gate : (kind : Kind) (vs : List Lanes) → lane j (gate_lanes kind vs) ≡ gate_tri kind (lanes j vs)
  lane_gate And vs = lane_all vs
  lane_gate Nand vs = lane_opposite (all_of vs) ∙ ap complement (lane_all vs)
  lane_gate Or vs = lane_some vs
  lane_gate Nor vs = lane_opposite (some_of vs) ∙ ap complement (lane_some vs)
  lane_gate Xor vs = lane_odd vs
  lane_gate Xnor vs = lane_opposite (odd_of vs) ∙ ap complement (lane_odd vs)
  lane_gate Not vs = lane_opposite (only_of vs) ∙ ap complement (lane_only vs)
  lane_gate Buff vs = lane_only vs
  lane_gate Dff vs = lane_only vs
  lane_gate Const0 vs = lane_always false
  lane_gate Const1 vs = lane_always true

  -- ---- stuck lines

  pub lane_with : (b : Bool) (v : Lanes) → lane j (with_lane j b v) ≡ known b
  lane_with b v = same_tri (bit_in j (with_bit j true v.known)) true (bit_in j (with_bit j b v.value)) b (with_bit_same j true v.known) (with_bit_same j b v.value)

  pub lane_with_other : (k : ℕ) (b : Bool) (v : Lanes) → k < 128 → j ≢ k → lane j (with_lane k b v) ≡ lane j v
  lane_with_other k b v l ne =
      same_tri (bit_in j (with_bit k true v.known)) (bit_in j v.known) (bit_in j (with_bit k b v.value)) (bit_in j v.value)
      (with_bit_other k j true v.known l low ne) (with_bit_other k j b v.value l low ne)

  forced_other : (b here : Bool) (k : ℕ) (v : Lanes) → k < 128 → j ≢ k → lane j (if here then with_lane k b v else v) ≡ lane j v
  forced_other b true k v l ne = lane_with_other k b v l ne
  forced_other b false k v l ne = refl

  forced_here : (b here : Bool) (v : Lanes) → lane j (if here then with_lane j b v else v) ≡ cond here (known b) (lane j v)
  forced_here b true v = lane_with b v
  forced_here b false v = refl

  -- machines behind this one change nothing of it
  forced_behind : (k : ℕ) (fs : List Fault) (line : Line) (v : Lanes) → j < k → k + length fs ≤ 128 → lane j (forced_from k fs line v) ≡ lane j v
  forced_behind k [] line v l few = refl
  forced_behind k (f ∷ fs) line v l few =
      forced_behind (k + 1) fs line (if is_line f.line line then with_lane k f.value v else v) (omega (arith, l)) (omega (arith, few))
      ∙ forced_other f.value (is_line f.line line) k v (omega (arith, few)) (λ e. omega (arith, l, e))

  forced_at : (k i : ℕ) (fs : List Fault) (line : Line) (v : Lanes) → j ≡ k + i → k + length fs ≤ 128 → lane j (forced_from k fs line v) ≡ stuck known (slice_get fs i) line (lane j v)
  forced_at k i [] line v e few = refl
  forced_at k zero (f ∷ fs) line v e few =
      let here : k ≡ j = omega (arith, e) in
      forced_behind (k + 1) fs line (if is_line f.line line then with_lane k f.value v else v) (omega (arith, e)) (omega (arith, few))
      ∙ (ap (λ m. lane j (if is_line f.line line then with_lane m f.value v else v)) here ∙ forced_here f.value (is_line f.line line) v)
  forced_at k (suc i) (f ∷ fs) line v e few =
      forced_at (k + 1) i fs line (if is_line f.line line then with_lane k f.value v else v) (omega (arith, e)) (omega (arith, few))
      ∙ ap (stuck known (slice_get fs i) line) (forced_other f.value (is_line f.line line) k v (omega (arith, few)) (λ s. omega (arith, e, s)))

  module _ (faults : List Fault) (few : length faults ≤ 128) where
    pub lane_line : (line : Line) (v : Lanes) → lane j ((lanes_rule faults).line line v) ≡ (tris (slice_get faults j)).line line (lane j v)
    lane_line line v = forced_at 0 j faults line v (omega arith) (omega (arith, few))

    pub lane_gates : (d : Definition) (vs : List Lanes) → lane j ((lanes_rule faults).gate d vs) ≡ (tris (slice_get faults j)).gate d (lanes j vs)
    lane_gates d vs = lane_gate d.kind vs

    -- settled values of all machines are settled values of each
    pub lane_settles : (n : Netlist) (inputs state : List Lanes) (a : ℕ → Lanes) → Settles (lanes_rule faults) n inputs state a
        → Settles (tris (slice_get faults j)) n (lanes j inputs) (lanes j state) (λ x. lane j (a x))
    lane_settles n inputs state a s = image_settles (lane j) (lanes_rule faults) (tris (slice_get faults j)) lane_line lane_gates n inputs state a s

    pub lane_pins : (z k : ℕ) (vs : List Lanes) → lanes j (on_pins (lanes_rule faults) z k vs) ≡ on_pins (tris (slice_get faults j)) z k (lanes j vs)
    lane_pins z k [] = refl
    lane_pins z k (v ∷ vs) = ap (λ w. w ∷ lanes j (on_pins (lanes_rule faults) z (k + 1) vs)) (lane_line (Pin z k) v)
        ∙ ap (λ ws. (tris (slice_get faults j)).line (Pin z k) (lane j v) ∷ ws) (lane_pins z (k + 1) vs)

    lane_outputs : (xs : List ℕ) (a : ℕ → Lanes) → map (λ x. (tris (slice_get faults j)).line (Out x) (lane j (a x))) xs ≡ lanes j (map (λ x. (lanes_rule faults).line (Out x) (a x)) xs)
    lane_outputs [] a = refl
    lane_outputs (x ∷ xs) a = ap (λ w. w ∷ map (λ y. (tris (slice_get faults j)).line (Out y) (lane j (a y))) xs) (sym (lane_line (Out x) (a x)))
        ∙ ap (λ ws. lane j ((lanes_rule faults).line (Out x) (a x)) ∷ ws) (lane_outputs xs a)

    lane_cells : (ds : List Definition) (a : ℕ → Lanes) → flat_map (pins_of (tris (slice_get faults j)) (λ x. lane j (a x))) ds ≡ lanes j (flat_map (pins_of (lanes_rule faults) a) ds)
    lane_cells [] a = refl
    lane_cells (d ∷ ds) a =
        let here : pins_of (tris (slice_get faults j)) (λ x. lane j (a x)) d ≡ lanes j (pins_of (lanes_rule faults) a d) =
        ap (on_pins (tris (slice_get faults j)) d.id 0) (sym (map_map a (lane j) d.pins)) ∙ sym (lane_pins d.id 0 (map a d.pins)) in
        ap (λ xs. xs ++ flat_map (pins_of (tris (slice_get faults j)) (λ x. lane j (a x))) ds) here
        ∙ (ap (λ xs. lanes j (pins_of (lanes_rule faults) a d) ++ xs) (lane_cells ds a)
        ∙ sym (map-append (lane j) (pins_of (lanes_rule faults) a d) (flat_map (pins_of (lanes_rule faults) a) ds)))

    pub lane_outs : (n : Netlist) (a : ℕ → Lanes) → outs (tris (slice_get faults j)) n (λ x. lane j (a x)) ≡ lanes j (outs (lanes_rule faults) n a)
    lane_outs n a = lane_outputs n.outputs a

    pub lane_next : (n : Netlist) (a : ℕ → Lanes) → next (tris (slice_get faults j)) n (λ x. lane j (a x)) ≡ lanes j (next (lanes_rule faults) n a)
    lane_next n a = lane_cells (cells n) a

-- What is done to the values of all machines is done to those of each.
use Rattle.std.proofs.Common.{◌≡◌, ℕ, suc, zero, ◌+◌, ◌<◌, ◌≤◌, true, false, if◌then◌else◌, Bool, List, [], ◌∷◌, ◌++◌, map, length, get_or, set, take, refl, sym, ◌∙◌, ap, subst, arith}
use Rattle.std.specs.List.{slice_get}
use Rattle.std.proofs.lemmas.List.{length-map, map-set, take_more}
use Rattle.std.proofs.lemmas.List.Elements.{All-contains}
use Rattle.statement.specs.declared.kinds.Tri.{Tri}
use Rattle.statement.specs.declared.kinds.Tri.TheVariants.{Zero, One, X}
use Rattle.statement.specs.declared.lines.Fault.{Fault}
use Rattle.statement.specs.declared.lines.Line.TheVariants.{Stem, Out}
use Rattle.statement.specs.Netlists.{Definition, Netlist, cells, gates}
use Rattle.statement.specs.Values.{Rule, Settles, on_pins, pins_of, outs, next, known}
use Rattle.netlist.specs.Settled.{at}
use Rattle.netlist.specs.ThreeValues.{is_x}
use Rattle.netlist.specs.Settling.{AreSourcesDriven, IsEvaluated, AreEvaluated}
use Rattle.netlist.proofs.Alike.{zip_append}
use Rattle.netlist.proofs.Lists.{All-from_contains, map_agree, map_map}
use Rattle.netlist.proofs.Settling.{zip_kept}
use Rattle.tri.specs.Settled.{tris}
use Rattle.events.proofs.WordBits.{zip_map}
use Rattle.scan_play.proofs.PlanLemmas.{flat_map_agree}
use Rattle.lane_play.specs.declared.packed.Lanes.{Lanes}
use Rattle.lane_play.specs.inner.Bits.{all_bits, bit_in}
use Rattle.lane_play.specs.inner.Lanes.{always, lane, lanes, lanes_rule, unknown}
use Rattle.lane_play.specs.inner.Shifts.{AreCommon}
use Rattle.lane_play.proofs.BitLemmas.{bit_in_all}
use Rattle.lane_play.proofs.LaneBits.{lane_always, lane_gates, lane_line, lane_next, lane_outs, lane_pins, lane_settles, lane_unknown}

-- ---- assignments that agree

module _ {V : Type 0} (rule : Rule V) (n : Netlist) (a b : ℕ → V) (same : (x : ℕ) → a x ≡ b x) where
  pins_agree : (d : Definition) → pins_of rule a d ≡ pins_of rule b d
  pins_agree d = ap (on_pins rule d.id 0) (map_agree a b d.pins (λ k e l. same (get_or d.pins k e)))

  settles_agree : (inputs state : List V) → Settles rule n inputs state a → Settles rule n inputs state b
  settles_agree inputs state s = (
    zip_kept (λ x v. a x ≡ rule.line (Stem x) v) (λ x v. b x ≡ rule.line (Stem x) v) n.inputs inputs (λ x v c e. sym (same x) ∙ e) s.0,
    zip_kept (λ (d : Definition) v. a d.id ≡ rule.line (Stem d.id) v) (λ (d : Definition) v. b d.id ≡ rule.line (Stem d.id) v) (cells n) state (λ d v c e. sym (same d.id) ∙ e) s.1,
    All-from_contains (λ (d : Definition). b d.id ≡ rule.line (Stem d.id) (rule.gate d (pins_of rule b d))) (gates n) (λ d c.
        sym (same d.id)
        ∙ (All-contains (λ (e : Definition). a e.id ≡ rule.line (Stem e.id) (rule.gate e (pins_of rule a e))) (gates n) d s.2 c
        ∙ ap (λ vs. rule.line (Stem d.id) (rule.gate d vs)) (pins_agree d))),
  )

  outs_agree : outs rule n a ≡ outs rule n b
  outs_agree = map_agree (λ x. rule.line (Out x) (a x)) (λ x. rule.line (Out x) (b x)) n.outputs (λ k e l. ap (rule.line (Out (get_or n.outputs k e))) (same (get_or n.outputs k e)))

  next_agree : next rule n a ≡ next rule n b
  next_agree = flat_map_agree (pins_of rule a) (pins_of rule b) (cells n) (λ d c. pins_agree d)

-- ---- what all machines know

known_is : (b : Bool) → is_x (known b) ≡ false
known_is true = refl
known_is false = refl

pub all_known : (k : ℕ) → k < 128 → (v : Lanes) → v.known ≡ all_bits → is_x (lane k v) ≡ false
all_known k low v e =
    ap (λ w. is_x (if bit_in k w then known (bit_in k v.value) else X)) e
    ∙ (ap (λ b. is_x (if b then known (bit_in k v.value) else X)) (bit_in_all k) ∙ known_is (bit_in k v.value))

pub common_known : (k : ℕ) → k < 128 → (values : List Lanes) (table : List Tri) → AreCommon values table → (x : ℕ) → is_x (at table X x) ≡ false → is_x (at (lanes k values) X x) ≡ false
common_known k low [] [] c x e = e
common_known k low [] (t ∷ ts) c x e = absurd c
common_known k low (v ∷ vs) [] c x e = absurd c
common_known k low (v ∷ vs) (t ∷ ts) c zero e = c.0 k low e
common_known k low (v ∷ vs) (t ∷ ts) c (suc x) e = common_known k low vs ts c.1 x e

pub common_size : (values : List Lanes) (table : List Tri) → AreCommon values table → length table ≡ length values
common_size [] [] c = refl
common_size [] (t ∷ ts) c = absurd c
common_size (v ∷ vs) [] c = absurd c
common_size (v ∷ vs) (t ∷ ts) c = omega (arith, common_size vs ts c.1)

pub common_more : (values : List Lanes) (old new : List Tri) (i : ℕ) (v : Lanes) (t : Tri) → i < length values → v ≡ get_or values i v → new ≡ old ++ t ∷ []
    → ((k : ℕ) → k < 128 → is_x t ≡ false → is_x (lane k v) ≡ false) → AreCommon (take i values) old → AreCommon (take (i + 1) values) new
common_more values old new i v t l is e here h =
    subst (λ vs. AreCommon vs new) (sym (take_more values i v l ∙ ap (λ y. take i values ++ y ∷ []) (sym is)))
    (subst (λ ts. AreCommon (take i values ++ v ∷ []) ts) (sym e)
    (zip_append (λ (w : Lanes) (u : Tri). (k : ℕ) → k < 128 → is_x u ≡ false → is_x (lane k w) ≡ false) (take i values) (v ∷ []) old (t ∷ []) h (here, tt)))

-- ---- one machine

-- values of which a machine's is this
abbrev everywhere : Tri → Lanes
everywhere Zero = always false
everywhere One = always true
everywhere X = unknown

module _ (k : ℕ) (low : k < 128) where
  lane_everywhere : (t : Tri) → lane k (everywhere t) ≡ t
  lane_everywhere Zero = lane_always k low false
  lane_everywhere One = lane_always k low true
  lane_everywhere X = lane_unknown k low

  at_lane : (values : List Lanes) (x : ℕ) (d : Lanes) → at (lanes k values) (lane k d) x ≡ lane k (at values d x)
  at_lane [] x d = refl
  at_lane (v ∷ vs) zero d = refl
  at_lane (v ∷ vs) (suc x) d = at_lane vs x d

  at_machine : (values : List Lanes) (x : ℕ) (t : Tri) → at (lanes k values) t x ≡ lane k (at values (everywhere t) x)
  at_machine values x t = ap (λ d. at (lanes k values) d x) (sym (lane_everywhere t)) ∙ at_lane values x (everywhere t)

  module _ (faults : List Fault) (few : length faults ≤ 128) where
    pub machine_sources : (n : Netlist) (inputs state old new : List Lanes) → AreSourcesDriven (lanes_rule faults) n inputs state old new
        → AreSourcesDriven (tris (slice_get faults k)) n (lanes k inputs) (lanes k state) (lanes k old) (lanes k new)
    machine_sources n inputs state old new h =
        let rule : Rule Lanes = lanes_rule faults in
        let own : Rule Tri = tris (slice_get faults k) in
        record {
          size = length-map new (lane k) ∙ (h.size ∙ sym (length-map old (lane k)));
          inputs_driven = λ t.
              zip_map (lane k) (λ x v. at new (everywhere t) x ≡ rule.line (Stem x) v) (λ x v. at (lanes k new) t x ≡ own.line (Stem x) v) n.inputs inputs
              (λ x v e. at_machine new x t ∙ (ap (lane k) e ∙ lane_line k low faults few (Stem x) v)) (h.inputs_driven (everywhere t));
          cells_driven = λ t.
              zip_map (lane k) (λ (c : Definition) v. at new (everywhere t) c.id ≡ rule.line (Stem c.id) v) (λ (c : Definition) v. at (lanes k new) t c.id ≡ own.line (Stem c.id) v) (cells n) state
              (λ c v e. at_machine new c.id t ∙ (ap (lane k) e ∙ lane_line k low faults few (Stem c.id) v)) (h.cells_driven (everywhere t));
          gates_stay = λ x t gate. at_machine new x t ∙ (ap (lane k) (h.gates_stay x (everywhere t) gate) ∙ sym (at_machine old x t));
        }

    pins_same : (g : Definition) (values : List Lanes) (t : Tri) → lanes k (pins_of (lanes_rule faults) (at values (everywhere t)) g) ≡ pins_of (tris (slice_get faults k)) (at (lanes k values) t) g
    pins_same g values t =
        lane_pins k low faults few g.id 0 (map (at values (everywhere t)) g.pins)
        ∙ ap (on_pins (tris (slice_get faults k)) g.id 0)
        (map_map (at values (everywhere t)) (lane k) g.pins
        ∙ map_agree (λ x. lane k (at values (everywhere t) x)) (at (lanes k values) t) g.pins (λ i e l. sym (at_machine values (get_or g.pins i e) t)))

    machine_evaluated : (n : Netlist) (x : ℕ) (old new : List Lanes) → IsEvaluated (lanes_rule faults) n x old new → IsEvaluated (tris (slice_get faults k)) n x (lanes k old) (lanes k new)
    machine_evaluated n x old new h = record {
      size = length-map new (lane k) ∙ (h.size ∙ sym (length-map old (lane k)));
      set = λ g t gate same.
          let rule : Rule Lanes = lanes_rule faults in
          let own : Rule Tri = tris (slice_get faults k) in
          let read : List Lanes = pins_of rule (at old (everywhere t)) g in
          ap (lanes k) (h.set g (everywhere t) gate same)
          ∙ (map-set (lane k) old x (rule.line (Stem g.id) (rule.gate g read))
          ∙ ap (set (lanes k old) x)
          (lane_line k low faults few (Stem g.id) (rule.gate g read)
          ∙ ap (own.line (Stem g.id)) (lane_gates k low faults few g read ∙ ap (own.gate g) (pins_same g old t))));
    }

    pub machine_steps : (n : Netlist) (steps : List ℕ) (old new : List Lanes) → AreEvaluated (lanes_rule faults) n steps old new → AreEvaluated (tris (slice_get faults k)) n steps (lanes k old) (lanes k new)
    machine_steps n [] old new h = ap (lanes k) h
    machine_steps n (x ∷ xs) old new h = (lanes k h.0, machine_evaluated n x old h.0 h.1, machine_steps n xs h.0 new h.2)

    pub machine_settles : (n : Netlist) (inputs state values : List Lanes) → ((d : Lanes) → Settles (lanes_rule faults) n inputs state (at values d))
        → Settles (tris (slice_get faults k)) n (lanes k inputs) (lanes k state) (at (lanes k values) X)
    machine_settles n inputs state values s =
        settles_agree (tris (slice_get faults k)) n (λ x. lane k (at values (everywhere X) x)) (at (lanes k values) X) (λ x. sym (at_machine values x X)) (lanes k inputs) (lanes k state)
        (lane_settles k low faults few n inputs state (at values (everywhere X)) (s (everywhere X)))

    pub machine_outs : (n : Netlist) (values : List Lanes) → lanes k (outs (lanes_rule faults) n (at values unknown)) ≡ outs (tris (slice_get faults k)) n (at (lanes k values) X)
    machine_outs n values =
        sym (lane_outs k low faults few n (at values (everywhere X)))
        ∙ outs_agree (tris (slice_get faults k)) n (λ x. lane k (at values (everywhere X) x)) (at (lanes k values) X) (λ x. sym (at_machine values x X))

    pub machine_next : (n : Netlist) (values : List Lanes) → lanes k (next (lanes_rule faults) n (at values unknown)) ≡ next (tris (slice_get faults k)) n (at (lanes k values) X)
    machine_next n values =
        sym (lane_next k low faults few n (at values (everywhere X)))
        ∙ next_agree (tris (slice_get faults k)) n (λ x. lane k (at values (everywhere X) x)) (at (lanes k values) X) (λ x. sym (at_machine values x X))

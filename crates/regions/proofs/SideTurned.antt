-- Four stems turned over side by side: what settled without a fault settles anew in each lane.
use Rattle.std.proofs.Common.{◌≡◌, ℕ, ◌+◌, ◌||◌, Bool, false, List, [], ◌∷◌, map, get_or, None, refl, sym, ◌∙◌, ap, subst, eqb, cond, bit_xor}
use Rattle.std.specs.List.{Contains, list_any}
use Rattle.std.proofs.Math.ListN.{get_or-map}
use Rattle.std.proofs.lemmas.Bool.{ne_eqb, or_parts}
use Rattle.std.proofs.lemmas.List.Elements.{All-contains}
use Rattle.std.proofs.lemmas.List.Folds.{list_any_none}
use Rattle.statement.specs.declared.kinds.Kind.{Kind}
use Rattle.statement.specs.declared.lines.Line.TheVariants.{Stem}
use Rattle.statement.specs.Netlists.{Definition, Netlist, cells, gates}
use Rattle.statement.specs.Values.{Rule, Settles, on_pins, pins_of}
use Rattle.netlist.specs.Settled.{at}
use Rattle.netlist.proofs.Lists.{All-from_contains, contains_head, contains_tail, map_agree}
use Rattle.netlist.proofs.Settling.{zip_kept}
use Rattle.events.specs.Standing.{SettlesAllAnew}
use Rattle.events.specs.Waiting.{AgreeAt, IsDrivenTo}
use Rattle.events.specs.Words.{gate_word, words}
use Rattle.events.proofs.Steps.{rule_changes}
use Rattle.events.proofs.WordBits.{image_settles}
use Rattle.regions.specs.declared.fours.Four.{Four}
use Rattle.regions.specs.declared.fours.Lane.{Lane}
use Rattle.regions.specs.declared.fours.Lane.TheVariants.{A, B, C, D}
use Rattle.regions.specs.declared.side.TurnedFour.{TurnedFour}
use Rattle.regions.specs.Side.{lane_by_lane, lane_of, lane_words, side_words, spread, turned_signals, SettlesInLanes}
use Rattle.regions.proofs.SideGates.{side_pins, side_settles}

-- ---- assignments that agree

settles_agree : {V : Type 0} (rule : Rule V) (n : Netlist) (a b : ℕ → V) → ((x : ℕ) → a x ≡ b x) → (inputs state : List V) → Settles rule n inputs state a → Settles rule n inputs state b
settles_agree rule n a b same inputs state s = (
  zip_kept (λ x v. a x ≡ rule.line (Stem x) v) (λ x v. b x ≡ rule.line (Stem x) v) n.inputs inputs (λ x v c e. sym (same x) ∙ e) s.0,
  zip_kept (λ (d : Definition) v. a d.id ≡ rule.line (Stem d.id) v) (λ (d : Definition) v. b d.id ≡ rule.line (Stem d.id) v) (cells n) state (λ d v c e. sym (same d.id) ∙ e) s.1,
  All-from_contains (λ (d : Definition). b d.id ≡ rule.line (Stem d.id) (rule.gate d (pins_of rule b d))) (gates n) (λ d c.
      sym (same d.id)
      ∙ (All-contains (λ (e : Definition). a e.id ≡ rule.line (Stem e.id) (rule.gate e (pins_of rule a e))) (gates n) d s.2 c
      ∙ ap (λ vs. rule.line (Stem d.id) (rule.gate d (on_pins rule d.id 0 vs))) (map_agree a b d.pins (λ k e l. same (get_or d.pins k e))))),
)

-- ---- one word in each lane

pub spread_lane : (lane : Lane) (w : ℕ) → lane_of lane (spread w) ≡ w
spread_lane A w = refl
spread_lane B w = refl
spread_lane C w = refl
spread_lane D w = refl

spread_lanes : (lane : Lane) (ws : List ℕ) → map (lane_of lane) (map spread ws) ≡ ws
spread_lanes lane [] = refl
spread_lanes lane (w ∷ ws) = ap (λ v. v ∷ map (lane_of lane) (map spread ws)) (spread_lane lane w) ∙ ap (λ vs. w ∷ vs) (spread_lanes lane ws)

-- words side by side, where nothing is turned over
abbrev plain : Rule Four
plain = record { line = λ l v. v; gate = λ d. lane_by_lane (gate_word d.kind) }

plain_pins : (z k : ℕ) (vs : List Four) → on_pins plain z k vs ≡ vs
plain_pins z k [] = refl
plain_pins z k (v ∷ vs) = ap (λ ws. v ∷ ws) (plain_pins z (k + 1) vs)

abbrev four : ℕ → ℕ → ℕ → ℕ → Four
four a b c d = record { a = a; b = b; c = c; d = d }

four_same : (a b c d a' b' c' d' : ℕ) → a ≡ a' → b ≡ b' → c ≡ c' → d ≡ d' → four a b c d ≡ four a' b' c' d'
four_same a b c d a' b' c' d' ea eb ec ed =
    ap (λ x. four x b c d) ea ∙ (ap (λ x. four a' x c d) eb ∙ (ap (λ x. four a' b' x d) ec ∙ ap (λ x. four a' b' c' x) ed))

spread_gate : (kind : Kind) (ws : List ℕ) → spread (gate_word kind ws) ≡ lane_by_lane (gate_word kind) (map spread ws)
spread_gate kind ws =
    let f = λ (lane : Lane). gate_word kind (map (lane_of lane) (map spread ws)) in
    let same = λ (lane : Lane). ap (gate_word kind) (sym (spread_lanes lane ws)) in
    four_same (gate_word kind ws) (gate_word kind ws) (gate_word kind ws) (gate_word kind ws) (f A) (f B) (f C) (f D) (same A) (same B) (same C) (same D)

spread_settles : (n : Netlist) (inputs state : List ℕ) (a : ℕ → ℕ) → Settles (words None) n inputs state a → Settles plain n (map spread inputs) (map spread state) (λ x. spread (a x))
spread_settles = image_settles spread (words None) plain (λ l w. refl) (λ d ws. spread_gate d.kind ws)

-- ---- four stems turned over

module _ (n : Netlist) (t : TurnedFour) where
  abbrev turns : ℕ → Bool
  turns x = list_any (λ y. eqb y x) (turned_signals t)

  no_turn : (x : ℕ) → ¬ Contains (turned_signals t) x → turns x ≡ false
  no_turn x none = list_any_none (λ y. eqb y x) (turned_signals t)
      (All-from_contains (λ y. eqb y x ≡ false) (turned_signals t) (λ y c. ne_eqb y x (λ e. none (subst (Contains (turned_signals t)) e c))))

  off : (here : Bool) (v mask : ℕ) → here ≡ false → v ≡ cond here (bit_xor v mask) v
  off here v mask e = ap (λ b. cond b (bit_xor v mask) v) (sym e)

  agrees : (x : ℕ) → turns x ≡ false → AgreeAt plain (side_words t) n x
  agrees x f =
      let p = or_parts (eqb t.a.signal x) (eqb t.b.signal x || (eqb t.c.signal x || (eqb t.d.signal x || false))) f in
      let q = or_parts (eqb t.b.signal x) (eqb t.c.signal x || (eqb t.d.signal x || false)) p.1 in
      let r = or_parts (eqb t.c.signal x) (eqb t.d.signal x || false) q.1 in
      let s = or_parts (eqb t.d.signal x) false r.1 in
      record {
        stems = λ v. four_same v.a v.b v.c v.d
            (cond (eqb t.a.signal x) (bit_xor v.a t.a.mask) v.a) (cond (eqb t.b.signal x) (bit_xor v.b t.b.mask) v.b)
            (cond (eqb t.c.signal x) (bit_xor v.c t.c.mask) v.c) (cond (eqb t.d.signal x) (bit_xor v.d t.d.mask) v.d)
            (off (eqb t.a.signal x) v.a t.a.mask p.0) (off (eqb t.b.signal x) v.b t.b.mask q.0) (off (eqb t.c.signal x) v.c t.c.mask r.0) (off (eqb t.d.signal x) v.d t.d.mask s.0);
        gates_do = λ d c e a. ap (lane_by_lane (gate_word d.kind)) (plain_pins d.id 0 (map a d.pins) ∙ sym (side_pins t d.id 0 (map a d.pins)));
      }

  driven_as : (inputs state : List Four) (a : ℕ → Four) (x : ℕ) → Settles plain n inputs state a → IsDrivenTo (side_words t) n inputs state x ((side_words t).line (Stem x) (a x))
  driven_as inputs state a x s = record {
    from_inputs = zip_kept (λ y w. a y ≡ plain.line (Stem y) w) (λ y w. y ≡ x → (side_words t).line (Stem x) (a x) ≡ (side_words t).line (Stem x) w) n.inputs inputs
        (λ y w c r e. ap ((side_words t).line (Stem x)) (ap a (sym e) ∙ r)) s.0;
    from_state = zip_kept (λ (d : Definition) w. a d.id ≡ plain.line (Stem d.id) w) (λ (d : Definition) w. d.id ≡ x → (side_words t).line (Stem x) (a x) ≡ (side_words t).line (Stem x) w) (cells n) state
        (λ d w c r e. ap ((side_words t).line (Stem x)) (ap a (sym e) ∙ r)) s.1;
  }

  module _ (values : List ℕ) (old new : List Four) (stood : old ≡ map spread values) (anew : SettlesAllAnew (side_words t) n (turned_signals t) old new)
      (inputs state : List ℕ) (d : ℕ) (s : Settles (words None) n inputs state (at values d)) where
    before : Settles plain n (map spread inputs) (map spread state) (at old (spread d))
    before = settles_agree plain n (λ x. spread (at values d x)) (at old (spread d)) (λ x. sym (ap (λ vs. get_or vs x (spread d)) stood ∙ get_or-map spread values x d)) (map spread inputs) (map spread state)
        (spread_settles n inputs state (at values d) s)

    after : Settles (side_words t) n (map spread inputs) (map spread state) (at new (spread d))
    after = anew.each (map spread inputs) (map spread state) (spread d) turns (λ x c. driven_as (map spread inputs) (map spread state) (at old (spread d)) x before) no_turn
        (rule_changes plain (side_words t) n (map spread inputs) (map spread state) (at old (spread d)) turns agrees before)

    lane_settles : (lane : Lane) → Settles (lane_words lane t) n inputs state (at (map (lane_of lane) new) d)
    lane_settles lane =
        let own = lane_words lane t in
        settles_agree own n (λ x. lane_of lane (at new (spread d) x)) (at (map (lane_of lane) new) d)
        (λ x. sym (ap (get_or (map (lane_of lane) new) x) (sym (spread_lane lane d)) ∙ get_or-map (lane_of lane) new x (spread d))) inputs state
        (subst (λ i. Settles own n i state (λ x. lane_of lane (at new (spread d) x))) (spread_lanes lane inputs)
        (subst (λ i. Settles own n (map (lane_of lane) (map spread inputs)) i (λ x. lane_of lane (at new (spread d) x))) (spread_lanes lane state)
        (side_settles t lane n (map spread inputs) (map spread state) (at new (spread d)) after)))

  pub settles_in_lanes : (values : List ℕ) (old new : List Four) → old ≡ map spread values → SettlesAllAnew (side_words t) n (turned_signals t) old new → SettlesInLanes t n values new
  settles_in_lanes values old new stood anew lane = record { each = λ inputs state d s. lane_settles values old new stood anew inputs state d s lane }

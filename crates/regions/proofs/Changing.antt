-- A change of one signal alone, as it passes from gate to gate along a path.
use Rattle.std.proofs.Common.{◌≡◌, ◌≢◌, ℕ, zero, suc, ◌+◌, ◌<◌, ◌≤◌, Bool, true, false, ◌&&◌, ◌||◌, cond, List, [], ◌∷◌, map, length, get_or, None, refl, sym, ◌∙◌, ap, subst, inl, inr, eqb, leb, arith}
use Rattle.std.specs.Bool.{beq}
use Rattle.std.specs.List.{All, AllZip, Contains}
use Rattle.std.proofs.lemmas.Bool.{cases_eq, ne_eqb, eqb-false, leb-false, lt-leb, or_parts}
use Rattle.std.proofs.lemmas.List.{length-map, get_or_default}
use Rattle.std.proofs.lemmas.List.Elements.{All-contains, Contains-get_or}
use Rattle.netlist.specs.Conditions.{IsSound}
use Rattle.statement.specs.Values.{gate_bit, Rule, Settles, bits, on_pins, pins_of}
use Rattle.netlist.specs.Gates.{allows_pins}
use Rattle.statement.specs.Netlists.{Definition, Netlist, gates, signals}
use Rattle.netlist.proofs.Lists.{All-from_contains, map_agree, decides_beq}
use Rattle.netlist.proofs.Placed.{definition_below, gate_defined, signal_from}
use Rattle.regions.specs.Turned.{turned, turned_bits}
use Rattle.events.specs.Waiting.{AgreeAt}
use Rattle.regions.specs.Regions.{GatePin, IsOnlyReader, IsPath, IsRegionHead}
use Rattle.regions.specs.Sensitized.{lets_pass}
use Rattle.regions.proofs.Alike.{made_one, made_other, alike}
use Rattle.regions.proofs.Gates.{turned_at, gate_turned}
use Rattle.regions.proofs.Ranks.{AreRanks}
use Rattle.regions.proofs.OnlyReaders.{no_other, no_other_gate, reads_here}

-- ---- rules of bits that agree but at one signal

pub free_pins : (z k : ℕ) (bs : List Bool) → on_pins (bits None) z k bs ≡ bs
free_pins z k [] = refl
free_pins z k (b ∷ bs) = ap (λ cs. b ∷ cs) (free_pins z (k + 1) bs)

pub turned_pins : (h z k : ℕ) (t : Bool) (bs : List Bool) → on_pins (turned_bits h t) z k bs ≡ bs
turned_pins h z k t [] = refl
turned_pins h z k t (b ∷ bs) = ap (λ cs. b ∷ cs) (turned_pins h z (k + 1) t bs)

abbrev pub AgreesOff : Netlist → Rule Bool → ℕ → Type 0
AgreesOff n rule s = (x : ℕ) → x ≢ s → AgreeAt (bits None) rule n x

pub turned_off : (n : Netlist) (h : ℕ) (t : Bool) → AgreesOff n (turned_bits h t) h
turned_off n h t x ne = record {
  stems = λ v. ap (λ b. cond b (turned t v) v) (sym (ne_eqb h x (λ e. ne (sym e))));
  gates_do = λ d c e a. ap (gate_bit d.kind) (free_pins d.id 0 (map a d.pins) ∙ sym (turned_pins h d.id 0 t (map a d.pins)));
}

agree_both : (n : Netlist) (rule rule' : Rule Bool) (x : ℕ) → AgreeAt (bits None) rule n x → AgreeAt (bits None) rule' n x → AgreeAt rule rule' n x
agree_both n rule rule' x h k = record {
  stems = λ v. sym (h.stems v) ∙ k.stems v;
  gates_do = λ d c e a. sym (h.gates_do d c e a) ∙ k.gates_do d c e a;
}

pub zip_length : {X V : Type 0} (R : X → V → Type 0) (xs : List X) (vs : List V) → AllZip R xs vs → length vs ≡ length xs
zip_length R [] [] h = refl
zip_length R [] (v ∷ vs) h = absurd h
zip_length R (x ∷ xs) [] h = absurd h
zip_length R (x ∷ xs) (v ∷ vs) h = ap suc (zip_length R xs vs h.1)

-- the values of pins of which one alone differs
pins_turned : (a b : ℕ → Bool) (t : Bool) (pins : List ℕ) (k : ℕ) → ((j : ℕ) → j < length pins → j ≢ k → a (get_or pins j 0) ≡ b (get_or pins j 0))
    → (k < length pins → b (get_or pins k 0) ≡ turned t (a (get_or pins k 0))) → map b pins ≡ turned_at k t (map a pins)
pins_turned a b t [] k others here = refl
pins_turned a b t (x ∷ xs) zero others here =
    ap (λ v. v ∷ map b xs) (here (omega arith))
    ∙ ap (λ vs. turned t (a x) ∷ vs) (sym (map_agree a b xs (All-from_contains (λ y. a y ≡ b y) xs
    (λ y c. subst (λ z. a z ≡ b z) (get_or_default xs c.0 0 y c.1 ∙ c.2) (others (suc c.0) (omega (arith, c.1)) (λ e. omega arith))))))
pins_turned a b t (x ∷ xs) (suc k) others here =
    ap (λ v. v ∷ map b xs) (sym (others 0 (omega arith) (λ e. omega arith)))
    ∙ ap (λ vs. a x ∷ vs) (pins_turned a b t xs k (λ j l ne. others (suc j) (omega arith) (λ e. ne (omega arith))) (λ l. here (omega arith)))

either_false : (x y : Bool) → x ≡ false → y ≡ false → (x || y) ≡ false
either_false true y e f = e
either_false false y e f = f

pub and_apart : (x y z : Bool) → ((x && y) && z) ≡ (x && (y && z))
and_apart true y z = refl
and_apart false y z = refl

pub and_one : (x : Bool) → (x && true) ≡ x
and_one true = refl
and_one false = refl

-- the signal is none of those that the path leaves
abbrev pub Avoids : ℕ → List GatePin → ℕ → Type 0
Avoids s [] y = Unit {0}
Avoids s (p ∷ path) y = (y ≢ s) × Avoids p.gate.id path y

pub head_avoids : (n : Netlist) (s : ℕ) (path : List GatePin) (h y : ℕ) → IsPath n s path h → IsRegionHead n y → Avoids s path y
head_avoids n s [] h y w head = tt
head_avoids n s (p ∷ path) h y w head = ((λ e. head p (subst (λ z. IsOnlyReader n z p) (sym e) w.0)), head_avoids n p.gate.id path h y w.1 head)

module _ (n : Netlist) (sound : IsSound n) where
  pub gate_signal : (g : Definition) → Contains (gates n) g → Contains (signals n) g.id
  gate_signal g c = signal_from n sound.formed.numbered g.id (definition_below n sound.formed.numbered g (gate_defined n sound.formed.numbered g c))

  pub pin_signal : (d : Definition) → Contains n.definitions d → (y : ℕ) → Contains d.pins y → Contains (signals n) y
  pin_signal d c y m =
      let pins : All (Contains (signals n)) d.pins = All-contains (λ (e : Definition). All (Contains (signals n)) e.pins) n.definitions d sound.closed.pins c in
      All-contains (Contains (signals n)) d.pins y pins m

  module _ (rank : ℕ → ℕ) (above : AreRanks n rank) where
    only_above : (s : ℕ) (p : GatePin) → IsOnlyReader n s p → rank s < rank p.gate.id
    only_above s p only =
        let r = reads_here n sound.formed.numbered s p only in
        above p.gate only.gate s (p.place, r.0, get_or_default p.gate.pins p.place s 0 r.0 ∙ r.1)

    path_above : (s : ℕ) (path : List GatePin) (h : ℕ) → IsPath n s path h → rank s ≤ rank h
    path_above s [] h e = let same : rank s ≡ rank h = ap rank e in omega arith
    path_above s (p ∷ path) h w = let l = only_above s p w.0 in let m = path_above p.gate.id path h w.1 in omega arith

    -- the end of a path is none of those that it leaves
    pub end_avoids : (s : ℕ) (path : List GatePin) (h : ℕ) → IsPath n s path h → Avoids s path h
    end_avoids s [] h e = tt
    end_avoids s (p ∷ path) h w =
        ((λ e. let same : rank h ≡ rank s = ap rank e in let l = only_above s p w.0 in let m = path_above p.gate.id path h w.1 in omega arith), end_avoids p.gate.id path h w.1)

    module _ (inputs state : List Bool) (a : ℕ → Bool) (good : Settles (bits None) n inputs state a) where
      pub made_good : (d : Definition) → Contains (gates n) d → a d.id ≡ gate_bit d.kind (map a d.pins)
      made_good d g = made_one (bits None) (bits None) n inputs state a a good good d g ∙ ap (gate_bit d.kind) (free_pins d.id 0 (map a d.pins))

      module _ (rule : Rule Bool) (s : ℕ) (off : AgreesOff n rule s) (b : ℕ → Bool) (settles : Settles rule n inputs state b) where
        -- what comes before the signal is the same
        before : (y : ℕ) → Contains (signals n) y → rank y < rank s → a y ≡ b y
        before y c l = alike (bits None) rule n inputs state a b good settles beq decides_beq sound (λ x. leb (rank s) (rank x))
            (λ x f.
            let low = leb-false (rank s) (rank x) f in
            inr (
              off x (λ e. let same : rank x ≡ rank s = ap rank e in omega arith),
              λ d g e z m.
                  let up = above d g z m in
                  let same : rank d.id ≡ rank x = ap rank e in
                  lt-leb (rank s) (rank z) (omega arith),
            )) y c (lt-leb (rank s) (rank y) l)

        pub pins_before : (d : Definition) → Contains (gates n) d → d.id ≡ s → (y : ℕ) → Contains d.pins y → a y ≡ b y
        pins_before d g e y m =
            let up = above d g y m in
            let same : rank d.id ≡ rank s = ap rank e in
            before y (pin_signal d (gate_defined n sound.formed.numbered d g) y m) (omega arith)

        -- what another gate makes of its pins
        pub made : (d : Definition) → Contains (gates n) d → d.id ≢ s → b d.id ≡ gate_bit d.kind (map b d.pins)
        made d g ne =
            let agree = off d.id ne in
            made_other (bits None) rule n inputs state a b good settles d g
            ∙ (sym (agree.stems (rule.gate d (pins_of rule b d))) ∙ (sym (agree.gates_do d g refl b) ∙ ap (gate_bit d.kind) (free_pins d.id 0 (map b d.pins))))

        module _ (p : GatePin) (only : IsOnlyReader n s p) where
          not_own : p.gate.id ≢ s
          not_own e = let same : rank p.gate.id ≡ rank s = ap rank e in let l = only_above s p only in omega arith

          -- a side input is the same
          aside : (y : ℕ) → Contains (signals n) y → y ≢ s → rank y < rank p.gate.id → a y ≡ b y
          aside y c ne l = alike (bits None) rule n inputs state a b good settles beq decides_beq sound (λ x. eqb x s || leb (rank p.gate.id) (rank x))
              (λ x f.
              let parts = or_parts (eqb x s) (leb (rank p.gate.id) (rank x)) f in
              let low = leb-false (rank p.gate.id) (rank x) parts.1 in
              inr (
                off x (eqb-false x s parts.0),
                λ d g e z m.
                    let up = above d g z m in
                    let same : rank d.id ≡ rank x = ap rank e in
                    let other : z ≢ s = λ is.
                    let at : rank d.id ≡ rank p.gate.id =
                    ap rank (no_other_gate n sound.formed.numbered s p only d (gate_defined n sound.formed.numbered d g) (subst (λ w. Contains d.pins w) is m)) in omega arith in
                    either_false (eqb z s) (leb (rank p.gate.id) (rank z)) (ne_eqb z s other) (lt-leb (rank p.gate.id) (rank z) (omega arith)),
              ))
              y c (either_false (eqb y s) (leb (rank p.gate.id) (rank y)) (ne_eqb y s ne) (lt-leb (rank p.gate.id) (rank y) l))

          -- the gate that alone reads it differs where its side inputs let the change pass
          pub passes : (t : Bool) → b s ≡ turned t (a s) → b p.gate.id ≡ turned (t && lets_pass a p) (a p.gate.id)
          passes t differs =
              let g = p.gate in
              let r = reads_here n sound.formed.numbered s p only in
              let defined = gate_defined n sound.formed.numbered g only.gate in
              let allowed = All-contains (λ (d : Definition). allows_pins d.kind (length d.pins) ≡ true) n.definitions g sound.closed.allowed defined in
              let size = length-map g.pins a in
              let pins : map b g.pins ≡ turned_at p.place t (map a g.pins) =
              pins_turned a b t g.pins p.place (λ j l ne.
              let m : Contains g.pins (get_or g.pins j 0) = Contains-get_or g.pins j 0 l in
              let up = above g only.gate (get_or g.pins j 0) m in
              aside (get_or g.pins j 0) (pin_signal g defined (get_or g.pins j 0) m) (λ e. ne (no_other n sound.formed.numbered s p only g defined j l e).1) up)
              (λ l. ap b r.1 ∙ (differs ∙ ap (λ x. turned t (a x)) (sym r.1))) in
              made g only.gate not_own ∙ (ap (gate_bit g.kind) pins
              ∙ (gate_turned p.place t (map a g.pins) (subst (λ m. p.place < m) (sym size) r.0) g.kind (subst (λ m. allows_pins g.kind m ≡ true) (sym size) allowed)
              ∙ ap (turned (t && lets_pass a p)) (sym (made_good g only.gate))))

          -- another change that gives the gate the same value gives the same value to all but this signal
          pub beyond : (rule' : Rule Bool) → AgreesOff n rule' p.gate.id → (b' : ℕ → Bool) → Settles rule' n inputs state b' → b p.gate.id ≡ b' p.gate.id
              → (y : ℕ) → Contains (signals n) y → y ≢ s → b y ≡ b' y
          beyond rule' off' b' settles' here y c ne = alike rule rule' n inputs state b b' settles settles' beq decides_beq sound (λ x. eqb x s)
              (λ x f. elim (cases_eq x p.gate.id) [
                | inl e ↦ inl (subst (λ z. b z ≡ b' z) (sym e) here)
                | inr other ↦ inr (
                  agree_both n rule rule' x (off x (eqb-false x s f)) (off' x other),
                  λ d g e z m. ne_eqb z s (λ is. other (sym e
                      ∙ no_other_gate n sound.formed.numbered s p only d (gate_defined n sound.formed.numbered d g) (subst (λ w. Contains d.pins w) is m))),
                )
              ]) y c (ne_eqb y s ne)

        -- another change that gives it the same value
        pub same_change : (rule' : Rule Bool) → AgreesOff n rule' s → (b' : ℕ → Bool) → Settles rule' n inputs state b' → b s ≡ b' s
            → (y : ℕ) → Contains (signals n) y → b y ≡ b' y
        same_change rule' off' b' settles' here y c = alike rule rule' n inputs state b b' settles settles' beq decides_beq sound (λ x. false)
            (λ x f. elim (cases_eq x s) [
              | inl e ↦ inl (subst (λ z. b z ≡ b' z) (sym e) here)
              | inr other ↦ inr (agree_both n rule rule' x (off x other) (off' x other), λ d g e z m. refl)
            ]) y c refl

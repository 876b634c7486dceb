-- A gate keeps each pair where the fault isn't, if it and its pins have the same bit twice, either one; or any pair, and a pin too, while the other pins
-- have at least the same bit twice.
use Rattle.std.proofs.Common.{◌≡◌, ℕ, ◌<◌, Bool, true, false, not, cond, List, [], ◌∷◌, map, length, Some, refl, sym, ◌∙◌, ap, subst, inl, inr, arith}
use Rattle.std.specs.List.{Contains}
use Rattle.std.proofs.lemmas.Bool.{both_ways, cases_eq}
use Rattle.std.proofs.lemmas.List.Elements.{All-contains}
use Rattle.statement.specs.declared.kinds.Kind.{Kind}
use Rattle.statement.specs.declared.kinds.Kind.TheVariants.{And, Nand, Or, Nor, Xor, Xnor, Not, Buff, Dff, Const0, Const1}
use Rattle.statement.specs.declared.lines.Line.TheVariants.{Stem, Pin}
use Rattle.statement.specs.declared.lines.Fault.{Fault}
use Rattle.statement.specs.Netlists.{Definition, Netlist, gates}
use Rattle.netlist.specs.Conditions.{IsSound}
use Rattle.netlist.specs.Gates.{allows_pins}
use Rattle.statement.specs.Values.{gate_bit, is_line, on_pins, stuck}
use Rattle.netlist.proofs.Lists.{All-from_contains, contains_head}
use Rattle.netlist.proofs.Placed.{gate_defined}
use Rattle.refutation.specs.declared.pairs.Pairs.{Pairs}
use Rattle.refutation.specs.Pairs.{Pair, has, AreAmong, any_pair, same, only_pair, paired}
use Rattle.refutation.specs.Refutations.{Told, told_of, narrowed, made, IsBlocked, IsKept, IsKeeping}
use Rattle.refutation.proofs.PairLemmas.{pair, has_any, has_same, goods_on_pins, faults_on_pins}
use Rattle.refutation.proofs.Reached.{free_pins, off_pins}
use Rattle.refutation.proofs.Sweeping.{has_only}
use Rattle.refutation_check.specs.inner.Images.{made_sets}
use Rattle.refutation_check.specs.inner.Sweeps.{exactly}
use Rattle.refutation_check.proofs.Makes.{goods, faulties, twins, goods_twins, faulties_twins, among_twins, at_pin, makes}
use Rattle.refutation_check.proofs.SweepLemmas.{among_exactly, narrowed_there, narrowed_has, not_own, the_gate}

same_has_of : (g b : Bool) → has same (pair g b) ≡ true → pair g b ≡ pair g g
same_has_of true true h = refl
same_has_of true false h = absurd (both_ways false refl h)
same_has_of false true h = absurd (both_ways false refl h)
same_has_of false false h = refl

same_has : (p : Pair) → has same p ≡ true → p ≡ pair p.good p.good
same_has p h = same_has_of p.good p.faulty h

-- the same bit twice at a pin too
twin_at_pin : (kind : Kind) (b : Bool) → has same (at_pin kind (pair b b)) ≡ true
twin_at_pin And b = has_same (pair b b) refl
twin_at_pin Nand b = has_same (pair (not b) (not b)) refl
twin_at_pin Or b = has_same (pair b b) refl
twin_at_pin Nor b = has_same (pair (not b) (not b)) refl
twin_at_pin Xor b = has_same (pair b b) refl
twin_at_pin Xnor b = has_same (pair (not b) (not b)) refl
twin_at_pin Not b = has_same (pair (not b) (not b)) refl
twin_at_pin Buff b = has_same (pair b b) refl
twin_at_pin Dff b = has_same (pair b b) refl
twin_at_pin Const0 b = has_same (pair b b) refl
twin_at_pin Const1 b = has_same (pair b b) refl

module _ (n : Netlist) (f : Fault) (sound : IsSound n) (told : Told) (d : Definition) (g : Contains (gates n) d) (stem : is_line f.line (Stem d.id) ≡ false) (pins : (j : ℕ) → is_line f.line (Pin d.id j) ≡ false)
    (units : (x : ℕ) → Contains d.pins x → (b : Bool) → has (told_of told x) (pair b b) ≡ true) where
  made_is : (ps : List Pair) → made f d ps ≡ pair (gate_bit d.kind (goods ps)) (gate_bit d.kind (faulties ps))
  made_is ps =
      let on_good = goods_on_pins f d.id 0 ps ∙ free_pins d.id 0 (goods ps) in
      let on_faulty = faults_on_pins f d.id 0 ps ∙ off_pins f d.id 0 (faulties ps) pins in
      ap (λ cs. pair (gate_bit d.kind cs) (stuck (λ b. b) (Some f) (Stem d.id) (gate_bit d.kind (faulties (on_pins (paired f) d.id 0 ps))))) on_good
      ∙ (ap (λ cs. pair (gate_bit d.kind (goods ps)) (stuck (λ b. b) (Some f) (Stem d.id) (gate_bit d.kind cs))) on_faulty
      ∙ ap (λ t. pair (gate_bit d.kind (goods ps)) (cond t f.value (gate_bit d.kind (faulties ps)))) stem)

  none_here : (t : Told) → (b : IsBlocked n f t d.id) → (ps : List Pair) → AreAmong (map (told_of t) d.pins) ps → has (told_of t d.id) (made f d ps) ≡ false
  none_here t b = subst (λ (e : Definition). (ps : List Pair) → AreAmong (map (told_of t) e.pins) ps → has (told_of t d.id) (made f e ps) ≡ false)
      (the_gate n f sound told d g (made_sets f d (map (told_of told) d.pins)) refl b.gate b.member b.id) b.none

  apart : (x : ℕ) → Contains d.pins x → x ≡ d.id → ⊥
  apart = not_own n f sound told d g (made_sets f d (map (told_of told) d.pins)) refl

  -- where a pin has, for each pair of the signal, the one of which the gate makes it
  own_kept : (x : ℕ) → Contains d.pins x → ((p : Pair) → has (told_of told d.id) p ≡ true → has (told_of told x) (at_pin d.kind p) ≡ true) → IsKept n f told d.id d.id
  own_kept x c at p h b =
      let there : (y : ℕ) → Contains d.pins y → told_of told y ≡ told_of (narrowed told (exactly d.id p)) y = λ y m. sym (narrowed_there told d.id y (only_pair p) (apart y m)) in
      let allowed = All-contains (λ (e : Definition). allows_pins e.kind (length e.pins) ≡ true) n.definitions d sound.closed.allowed (gate_defined n sound.formed.numbered d g) in
      let m = makes (told_of (narrowed told (exactly d.id p))) d.pins (λ y k v. subst (λ (s : Pairs). has s (pair v v) ≡ true) (there y k) (units y k v)) x c p d.kind allowed
      (subst (λ (s : Pairs). has s (at_pin d.kind p) ≡ true) (there x c) (at p h)) in
      let makes_p : made f d m.pairs ≡ p = made_is m.pairs ∙ (ap (λ v. pair v (gate_bit d.kind (faulties m.pairs))) m.good ∙ ap (pair p.good) m.faulty) in
      both_ways (has (told_of (narrowed told (exactly d.id p)) d.id) p)
      (subst (λ (q : Pair). has (told_of (narrowed told (exactly d.id p)) d.id) q ≡ false) makes_p (none_here (narrowed told (exactly d.id p)) b m.pairs m.among))
      (narrowed_has told d.id (only_pair p) p h (has_only p))

  -- where the signal may have any pair
  wide_pin : told_of told d.id ≡ any_pair → (x : ℕ) → Contains d.pins x → IsKept n f told d.id x
  wide_pin own x c p h b =
      let exact = among_exactly told x p d.pins (twins false d.pins) h (among_twins (told_of told) false d.pins (λ y m. units y m false)) in
      both_ways (has (told_of (narrowed told (exactly x p)) d.id) (made f d exact.0))
      (none_here (narrowed told (exactly x p)) b exact.0 exact.1)
      (subst (λ (s : Pairs). has s (made f d exact.0) ≡ true) (sym (narrowed_there told x d.id (only_pair p) (λ e. apart x c (sym e)) ∙ own)) (has_any (made f d exact.0)))

  pub wide_keeps : told_of told d.id ≡ any_pair → (x : ℕ) → Contains d.pins x → told_of told x ≡ any_pair → IsKeeping n f told d
  wide_keeps own x c wide = record {
    own = own_kept x c (λ p h. subst (λ (s : Pairs). has s (at_pin d.kind p) ≡ true) (sym wide) (has_any (at_pin d.kind p)));
    pins = All-from_contains (IsKept n f told d.id) d.pins (wide_pin own);
  }

  -- where it and the pins have the same bit twice
  module _ (own : told_of told d.id ≡ same) (others : (x : ℕ) → Contains d.pins x → told_of told x ≡ same) where
    plain_pin : (x : ℕ) → Contains d.pins x → IsKept n f told d.id x
    plain_pin x c p h b =
        let is : p ≡ pair p.good p.good = same_has p (subst (λ (s : Pairs). has s p ≡ true) (others x c) h) in
        let each : (y : ℕ) → Contains d.pins y → has (told_of (narrowed told (exactly x p)) y) (pair p.good p.good) ≡ true =
        λ y m. elim (cases_eq y x) [
          | inl e ↦ subst (λ v. has (told_of (narrowed told (exactly x p)) v) (pair p.good p.good) ≡ true) (sym e)
              (subst (λ (q : Pair). has (told_of (narrowed told (exactly x p)) x) q ≡ true) is (narrowed_has told x (only_pair p) p h (has_only p)))
          | inr ne ↦ subst (λ (s : Pairs). has s (pair p.good p.good) ≡ true) (sym (narrowed_there told x y (only_pair p) ne)) (units y m p.good)
        ] in
        let off = none_here (narrowed told (exactly x p)) b (twins p.good d.pins) (among_twins (told_of (narrowed told (exactly x p))) p.good d.pins each) in
        let v = gate_bit d.kind (map (λ (y : ℕ). p.good) d.pins) in
        let makes_twin : made f d (twins p.good d.pins) ≡ pair (gate_bit d.kind (map (λ (y : ℕ). p.good) d.pins)) (gate_bit d.kind (map (λ (y : ℕ). p.good) d.pins)) =
        made_is (twins p.good d.pins) ∙ (ap (λ cs. pair (gate_bit d.kind cs) (gate_bit d.kind (faulties (twins p.good d.pins)))) (goods_twins p.good d.pins)
        ∙ ap (λ cs. pair (gate_bit d.kind (map (λ (y : ℕ). p.good) d.pins)) (gate_bit d.kind cs)) (faulties_twins p.good d.pins)) in
        both_ways (has (told_of (narrowed told (exactly x p)) d.id) (pair v v))
        (subst (λ (q : Pair). has (told_of (narrowed told (exactly x p)) d.id) q ≡ false) makes_twin off)
        (subst (λ (s : Pairs). has s (pair v v) ≡ true) (sym (narrowed_there told x d.id (only_pair p) (λ e. apart x c (sym e)) ∙ own)) (has_same (pair v v) refl))

    first_pin : (xs : List ℕ) → xs ≡ d.pins → 0 < length xs → (x : ℕ) × Contains d.pins x
    first_pin [] e l = absurd (omega arith)
    first_pin (x ∷ xs) e l = (x, subst (λ (ys : List ℕ). Contains ys x) e (contains_head x xs))

    pub plain_keeps : 0 < length d.pins → IsKeeping n f told d
    plain_keeps some =
        let one = first_pin d.pins refl some in
        record {
          own = own_kept one.0 one.1 (λ p h.
              let is : p ≡ pair p.good p.good = same_has p (subst (λ (s : Pairs). has s p ≡ true) own h) in
              subst (λ (s : Pairs). has s (at_pin d.kind p) ≡ true) (sym (others one.0 one.1))
              (subst (λ (q : Pair). has same (at_pin d.kind q) ≡ true) (sym is) (twin_at_pin d.kind p.good)));
          pins = All-from_contains (IsKept n f told d.id) d.pins plain_pin;
        }

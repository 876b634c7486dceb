-- What looks at gates come to, one after the other.
use Rattle.std.proofs.Common.{◌≡◌, ◌↔◌, ℕ, ◌+◌, ◌<◌, ◌≤◌, Bool, true, false, not, List, map, length, get_or, take, Result, refl, sym, ◌∙◌, ap, subst, inl, inr, ◌⊎◌, arith}
use Rattle.std.specs.Result.{IfOk}
use Rattle.std.specs.List.{All, Contains}
use Rattle.std.proofs.lemmas.Bool.{both_ways, cases_lt}
use Rattle.std.proofs.lemmas.List.{length-append, get_or_default}
use Rattle.std.proofs.lemmas.List.Elements.{All-more}
use Rattle.std.proofs.lemmas.Result.{IfOk-weaker}
use Rattle.statement.specs.declared.lines.Line.{Line}
use Rattle.statement.specs.declared.lines.Line.TheVariants.{Pin}
use Rattle.statement.specs.declared.lines.Fault.{Fault}
use Rattle.statement.specs.Netlists.{Definition, Netlist, gates, signals, readers_of}
use Rattle.netlist.specs.Netlist.{IsGateAt, Reads}
use Rattle.netlist.specs.Conditions.{IsSound}
use Rattle.netlist.proofs.Lists.{All-from_contains}
use Rattle.netlist.proofs.Placed.{signal_from}
use Rattle.refutation.specs.declared.pairs.Pairs.{Pairs}
use Rattle.refutation.specs.Pairs.{Pair, has, meet}
use Rattle.refutation.specs.Refutations.{Told, told_of, narrowed, IsKept, IsKeeping, LeavesNothing}
use Rattle.refutation.proofs.PairLemmas.{pair}
use Rattle.refutation_check.specs.inner.Images.{has_some, made_sets}
use Rattle.refutation_check.specs.inner.Trails.{Trailed, Grows}
use Rattle.refutation_check.specs.inner.Sweeps.{AreKept, Keeps, Narrows, IsBeside, IsGateTouched, IsKeepingAt, IsRestricted, IsLookedAt, ArePinsLookedAt, IsLooked, AreLooked, IsReaderLooked}
use Rattle.refutation_check.proofs.SweepLemmas.{meet_has, no_some, narrowed_less, keeps_kept, keeps_made, own_kept, pin_kept, the_gate}
use Rattle.refutation_check.proofs.LookLemmas.{touched_then, touched_later, narrows_then, looked_then, looked_fewer}
use Rattle.refutation_check.proofs.MarkLemmas.{gate_reader}

-- ---- one pair

pub negated : (b : Bool) (P : Type 0) → (b ≡ true) ↔ P → (not b ≡ true) ↔ (P → ⊥)
negated true P h = ((λ e. absurd (both_ways false refl e)), (λ w. absurd (w (h.0 refl))))
negated false P h = ((λ e p. both_ways false refl (h.1 p)), (λ w. refl))

pub none_kept : (own : Bool) (P Q : Type 0) → (P → own ≡ true) → own ≡ false → (false ≡ true) ↔ (P × Q)
none_kept own P Q h off = ((λ e. absurd (both_ways false refl e)), (λ w. absurd (both_ways own off (h w.0))))

pub kept_beside : {E : Type 0} (r : Result Bool E) (P Q : Type 0) → P → IfOk r (λ b. (b ≡ true) ↔ Q) → IfOk r (λ b. (b ≡ true) ↔ (P × Q))
kept_beside r P Q p = IfOk-weaker r (λ b. (b ≡ true) ↔ Q) (λ b. (b ≡ true) ↔ (P × Q)) (λ b h. ((λ e. (p, h.0 e)), (λ w. h.1 w.1)))

pub four_pairs : (Q : Pair → Type 0) (zero rises falls one : Bool) → (zero ≡ true) ↔ Q (pair false false) → (rises ≡ true) ↔ Q (pair false true) → (falls ≡ true) ↔ Q (pair true false)
    → (one ≡ true) ↔ Q (pair true true) → (p : Pair) → (has (record { zero = zero; rises = rises; falls = falls; one = one }) p ≡ true) ↔ Q p
four_pairs Q zero rises falls one a b c d p = each p.good p.faulty where
  each : (g w : Bool) → (has (record { zero = zero; rises = rises; falls = falls; one = one }) (pair g w) ≡ true) ↔ Q (pair g w)
  each true true = d
  each true false = c
  each false true = b
  each false false = a

-- in both where the first has no other
in_other : (s t : Pairs) (p : Pair) → meet s t ≡ s → has s p ≡ true → has t p ≡ true
in_other s t p e h = (meet_has s t p (subst (λ (u : Pairs). has u p ≡ true) (sym e) h)).1

longer : (a b : Trailed) → Grows a b → length a.trail ≤ length b.trail
longer a b g = let size : length b.trail ≡ length a.trail + length g.changes = ap length g.trail ∙ length-append a.trail g.changes in omega arith

module _ (n : Netlist) (f : Fault) where
  -- ---- one signal beside a gate

  pub narrows_by : (old new : Trailed) (x : ℕ) (set : Pairs) → IsRestricted old x set new → Keeps n f old.told (narrowed old.told (record { signal = x; pairs = set })) → Narrows n f old new
  narrows_by old new x set r k = record {
    within = λ y p h. narrowed_less old.told x set y p (subst (λ (t : Told). has (told_of t y) p ≡ true) r.told h);
    keeps = subst (Keeps n f old.told) (sym r.told) k;
    room = r.room;
  }

  pub looked_at : (old new : Trailed) (z x : ℕ) (kept : Pairs) → IsGateAt n z → IsBeside n z x → AreKept n f old.told z x kept → IsRestricted old x kept new → IsLookedAt n f old z x new
  looked_at old new z x kept g beside are r = record {
    narrows = narrows_by old new x kept r (keeps_kept n f old.told z x kept g beside are);
    quiet = λ none. let q = r.quiet none in (q.0, λ p h. ((are p).0 (in_other (told_of old.told x) kept p q.1 h)).1);
  }

  -- ---- the pins, one after the other

  pub pins_more : (old now new : Trailed) (z : ℕ) (pins : List ℕ) (k x : ℕ) → k < length pins → x ≡ get_or pins k x → IsBeside n z x → Grows old now → Grows now new → Narrows n f old now
      → ((IsGateTouched n now (length old.trail) z → ⊥) → (now ≡ old) × All (IsKept n f old.told z) (take k pins)) → IsLookedAt n f now z x new
      → (IsGateTouched n new (length old.trail) z → ⊥) → (new ≡ old) × All (IsKept n f old.told z) (take (k + 1) pins)
  pins_more old now new z pins k x l is beside g h narrows before look none =
      let w = before (λ t. none (t.0, t.1, touched_then now new (length old.trail) t.0 h t.2)) in
      let q = look.quiet (λ t. none (x, beside, touched_later new (length old.trail) (length now.trail) x (longer old now g) t)) in
      (q.0 ∙ w.0, All-more (IsKept n f old.told z) pins k x l w.1 (subst (IsKept n f old.told z) is (subst (λ (t : Trailed). IsKept n f t.told z x) w.0 q.1)))

  -- ---- all signals beside a gate

  module _ (sound : IsSound n) (old : Trailed) (d : Definition) (g : Contains (gates n) d) (made : Pairs) (is : made ≡ made_sets f d (map (told_of old.told) d.pins)) (some : has_some made ≡ true)
      (mid : Trailed) (r : IsRestricted old d.id made mid) where
    keeping : IsKept n f old.told d.id d.id → All (IsKept n f old.told d.id) d.pins → IsKeepingAt n f old.told d.id
    keeping own pins e m id = subst (IsKeeping n f old.told) (sym (the_gate n f sound old.told d g made is e m id)) (record { own = own; pins = pins })

    own_is : meet (told_of old.told d.id) made ≡ told_of old.told d.id → IsKept n f old.told d.id d.id
    own_is e = own_kept n f sound old.told d g made is (λ p h. in_other (told_of old.told d.id) made p e h)

    first : Narrows n f old mid
    first = narrows_by old mid d.id made r (keeps_made n f sound old.told d g made is)

    pub looked_own : meet made (told_of old.told d.id) ≡ made → IsLooked n f old d.id mid
    looked_own inside = record {
      narrows = first;
      quiet = λ none.
          let q = r.quiet (λ t. none (d.id, inl refl, t)) in
          subst (λ (t : Trailed). IsKeepingAt n f t.told d.id) (sym q.0)
          (keeping (own_is q.1) (All-from_contains (IsKept n f old.told d.id) d.pins
          (pin_kept n f sound old.told d g made is some (λ p h. in_other made (told_of old.told d.id) p inside h))));
    }

    pub looked_pins : (new : Trailed) → Grows old mid → Grows mid new → ArePinsLookedAt n f mid d.id d.pins new → IsLooked n f old d.id new
    looked_pins new h k look = record {
      narrows = narrows_then n f old mid new first look.narrows;
      quiet = λ none.
          let q = r.quiet (λ t. none (d.id, inl refl, touched_then mid new (length old.trail) d.id k t)) in
          let w = look.quiet (λ t. none (t.0, t.1, touched_later new (length old.trail) (length mid.trail) t.0 (longer old mid h) t.2)) in
          subst (λ (t : Trailed). IsKeepingAt n f t.told d.id) (sym (w.0 ∙ q.0))
          (keeping (own_is q.1) (subst (λ (t : Trailed). All (IsKept n f t.told d.id) d.pins) q.0 w.1));
    }

  -- ---- gates beside a signal

  pub looked_one : (old new : Trailed) (z : ℕ) (these : ℕ → Type 0) → ((y : ℕ) → these y → y ≡ z) → IsLooked n f old z new → AreLooked n f old these new
  looked_one old new z these only look = record {
    narrows = look.narrows;
    quiet = λ y t none. subst (IsKeepingAt n f new.told) (sym (only y t)) (look.quiet (λ w. none (subst (λ v. IsGateTouched n new (length old.trail) v) (sym (only y t)) w)));
  }

  pub looked_no : (old : Trailed) (these : ℕ → Type 0) → ((y : ℕ) → these y → ⊥) → AreLooked n f old these old
  looked_no old these none = record { narrows = record { within = λ x p h. h; keeps = λ some w al. w; room = omega arith }; quiet = λ y t _. absurd (none y t) }

  -- what gates leave nothing of now they leave nothing of before
  pub nothing_before : (old now : Told) → Keeps n f old now → LeavesNothing n f now → LeavesNothing n f old
  nothing_before old now keeps h some w al = h some (keeps some w al) al

  pub nothing_empty : IsSound n → (told : Told) (x : ℕ) → x < length (signals n) → has_some (told_of told x) ≡ false → LeavesNothing n f told
  nothing_empty sound told x l none some w al =
      let own = al.some x (signal_from n sound.formed.numbered x l) in
      both_ways (has (told_of told x) own.0) (no_some (told_of told x) none own.0) (w x own.0 own.1)

  -- the gates of the first lines
  abbrev pub Firsts : List Line → ℕ → ℕ → Type 0
  Firsts lines k z = IsGateAt n z × ((j : ℕ) × (i : ℕ) × (j < k) × (j < length lines) × (get_or lines j (Pin z i) ≡ Pin z i))

  pub readers_none : (old : Trailed) (lines : List Line) → AreLooked n f old (Firsts lines 0) old
  readers_none old lines = looked_no old (Firsts lines 0) (λ z t. let l = t.1.2 in absurd (omega arith))

  pub readers_more : (old now new : Trailed) (lines : List Line) (k : ℕ) (line : Line) → k < length lines → line ≡ get_or lines k line → Grows old now → Grows now new
      → AreLooked n f old (Firsts lines k) now → IsReaderLooked n f now line new → AreLooked n f old (Firsts lines (k + 1)) new
  readers_more old now new lines k line l is g h before look =
      looked_fewer n f old new (λ z. Firsts lines k z ⊎ (IsGateAt n z × ((i : ℕ) × (line ≡ Pin z i)))) (Firsts lines (k + 1))
      (λ z t. elim (cases_lt t.1.0 k) [
        | inl early ↦ inl (t.0, (t.1.0, t.1.1, early, t.1.3, t.1.4))
        | inr late ↦
            let below = t.1.2 in
            let at : t.1.0 ≡ k = omega arith in
            inr (t.0, (t.1.1, is ∙ (get_or_default lines k line (Pin z t.1.1) l ∙ (sym (ap (λ j. get_or lines j (Pin z t.1.1)) at) ∙ t.1.4))))
      ])
      (looked_then n f old now new (Firsts lines k) (λ z. IsGateAt n z × ((i : ℕ) × (line ≡ Pin z i))) g h before look)

  pub readers_all : (old new : Trailed) (x : ℕ) (lines : List Line) (k : ℕ) → lines ≡ readers_of n x → length lines ≤ k → AreLooked n f old (Firsts lines k) new → AreLooked n f old (λ z. Reads n z x) new
  readers_all old new x lines k is end look =
      looked_fewer n f old new (Firsts lines k) (λ z. Reads n z x)
      (λ z r.
      let at = gate_reader n x z r in
      let c : Contains lines (Pin z at.0) = subst (λ (ls : List Line). Contains ls (Pin z at.0)) (sym is) at.1 in
      let low = c.1 in
      ((r.0, r.1, r.2), (c.0, at.0, omega arith, low, c.2))) look

  pub looked_around : (a b c : Trailed) (x : ℕ) → Grows a b → Grows b c → AreLooked n f a (λ z. IsGateAt n z × (z ≡ x)) b → AreLooked n f b (λ z. Reads n z x) c
      → AreLooked n f a (λ z. IsGateAt n z × IsBeside n z x) c
  looked_around a b c x g h v w =
      looked_fewer n f a c (λ z. (IsGateAt n z × (z ≡ x)) ⊎ Reads n z x) (λ z. IsGateAt n z × IsBeside n z x)
      (λ z t. elim t.1 [ inl e ↦ inl (t.0, sym e) | inr r ↦ inr r ])
      (looked_then n f a b c (λ z. IsGateAt n z × (z ≡ x)) (λ z. Reads n z x) g h v w)

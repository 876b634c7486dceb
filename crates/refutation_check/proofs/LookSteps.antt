-- What looks find, from what their calls answer.
use Rattle.std.specs.Result.{IfOk, OnOk}
use Rattle.std.specs.Bool.{MatchBool}
use Rattle.std.proofs.Common.{Result, Ok, Err, ◌≡◌, ◌↔◌, ℕ, ◌<◌, ◌≤◌, Bool, true, false, not, List, map, length, get_or, sym, ◌∙◌, ap, subst, inr, arith}
use Rattle.std.specs.List.{Contains}
use Rattle.std.proofs.lemmas.Result.{IfOk-weaker}
use Rattle.statement.specs.declared.lines.Line.{Line}
use Rattle.statement.specs.declared.lines.Line.TheVariants.{Pin}
use Rattle.statement.specs.declared.lines.Fault.{Fault}
use Rattle.statement.specs.Netlists.{Definition, Netlist, gates, is_flip_flop, signals}
use Rattle.netlist.specs.Netlist.{is_gate, IsGateAt}
use Rattle.netlist.specs.Conditions.{IsSound}
use Rattle.netlist.proofs.Lists.{contains_filter, filter_contains}
use Rattle.netlist.proofs.Placed.{same_definition}
use Rattle.netlist.proofs.Settling.{pins_within}
use Rattle.refutation.specs.declared.pairs.Pairs.{Pairs}
use Rattle.refutation.specs.Pairs.{Pair, has, meet, only_pair}
use Rattle.refutation.specs.Refutations.{Told, told_of, narrowed, IsBlocked, LeavesNothing}
use Rattle.refutation.specs.declared.steps.Literal.{Literal}
use Rattle.refutation.proofs.PairLemmas.{pair}
use Rattle.refutation_check.specs.inner.Images.{has_some, made_sets}
use Rattle.refutation_check.specs.inner.Trails.{Trailed, Grows, put}
use Rattle.refutation_check.specs.inner.Sweeps.{AreKept, ArePinsLookedAt, ArePinsOf, AreLooked, AreReadersLooked, IsBeside, IsLooked, IsLookedAround, IsLookedAt, IsMakerLooked, IsReaderLooked, IsRestricted, exactly}
use Rattle.refutation_check.proofs.LookLemmas.{restricted_less}
use Rattle.refutation_check.proofs.Looks.{four_pairs, kept_beside, looked_around, looked_at, looked_no, looked_one, looked_own, looked_pins, negated, none_kept, nothing_before, nothing_empty}
use Rattle.refutation_check.proofs.MarkLemmas.{defined_place, not_gate, pin_signal}
use Rattle.refutation_check.proofs.SweepLemmas.{some_pair}

pub restricted_put : {T E : Type 0} (r : Result T E) (old new : Trailed) (x : ℕ) (s own left : Pairs) → x < length old.told → own ≡ told_of old.told x → left ≡ meet own s → (left ≡ own → ⊥)
    → OnOk r (new ≡ put old x left) → OnOk r (IsRestricted old x s new)
restricted_put (Ok v) old new x s own left l is made ne h = restricted_less old x s l new left (made ∙ ap (λ (t : Pairs). meet t s) is) (λ e. ne (e ∙ sym is)) h
restricted_put (Err e) old new x s own left l is made ne h = tt

-- whether the gate isn't blocked
pub open_if : (n : Netlist) (f : Fault) (z : ℕ) (told narrow : Told) (l : Literal) (blocked : Bool) → narrow ≡ narrowed told l → (blocked ≡ true) ↔ IsBlocked n f narrow z
    → (not blocked ≡ true) ↔ (IsBlocked n f (narrowed told l) z → ⊥)
open_if n f z told narrow l blocked is h = negated blocked (IsBlocked n f (narrowed told l) z) (subst (λ (t : Told). (blocked ≡ true) ↔ IsBlocked n f t z) is h)

-- the definition of a gate is a gate
pub gate_member : (n : Netlist) → IsSound n → (z : ℕ) (d : Definition) → Contains n.definitions d → d.id ≡ z → IsGateAt n z → Contains (gates n) d
gate_member n sound z d c id g =
    subst (Contains (gates n)) (same_definition n sound.formed.numbered g.0 d (contains_filter is_gate n.definitions g.0 g.1).0 c (g.2 ∙ sym id)) g.1

pub gate_place : (n : Netlist) → IsSound n → (z : ℕ) → IsGateAt n z → (length n.inputs ≤ z) × (z < length (signals n))
gate_place n sound z g = defined_place n sound g.0 z (contains_filter is_gate n.definitions g.0 g.1).0 g.2

module _ (n : Netlist) (f : Fault) where
  looked_bool : (old new : Trailed) (z : ℕ) (these : ℕ → Type 0) → ((y : ℕ) → these y → y ≡ z) → (b : Bool) → MatchBool b (IsLooked n f old z new) (LeavesNothing n f old.told)
      → MatchBool b (AreLooked n f old these new) (LeavesNothing n f old.told)
  looked_bool old new z these only true h = looked_one n f old new z these only h
  looked_bool old new z these only false h = h

  pub looked_if : {E : Type 0} (r : Result Bool E) (old new : Trailed) (z : ℕ) (these : ℕ → Type 0) → ((y : ℕ) → these y → y ≡ z)
      → IfOk r (λ b. MatchBool b (IsLooked n f old z new) (LeavesNothing n f old.told)) → IfOk r (λ b. MatchBool b (AreLooked n f old these new) (LeavesNothing n f old.told))
  looked_if r old new z these only =
      IfOk-weaker r (λ b. MatchBool b (IsLooked n f old z new) (LeavesNothing n f old.told)) (λ b. MatchBool b (AreLooked n f old these new) (LeavesNothing n f old.told))
      (looked_bool old new z these only)

  module _ (a b c : Trailed) (x : ℕ) (g : Grows a b) (h : Grows b c) (own : (p : Pair) × (has (told_of a.told x) p ≡ true)) (v : IsMakerLooked n f a x b) where
    around_bool : (ok : Bool) → MatchBool ok (AreReadersLooked n f b x c) (LeavesNothing n f b.told) → MatchBool ok (IsLookedAround n f a x c) (LeavesNothing n f a.told)
    around_bool true w = (looked_around n f a b c x g h v w, own)
    around_bool false w = nothing_before n f a.told b.told v.narrows.keeps w

    pub around_if : {E : Type 0} (r : Result Bool E) → IfOk r (λ ok. MatchBool ok (AreReadersLooked n f b x c) (LeavesNothing n f b.told))
        → IfOk r (λ ok. MatchBool ok (IsLookedAround n f a x c) (LeavesNothing n f a.told))
    around_if r = IfOk-weaker r (λ ok. MatchBool ok (AreReadersLooked n f b x c) (LeavesNothing n f b.told)) (λ ok. MatchBool ok (IsLookedAround n f a x c) (LeavesNothing n f a.told)) around_bool

  -- ---- pairs of a signal beside a gate

  -- the pair is the signal's, and the gate isn't blocked with it alone
  abbrev pub IsPairKept : Told → ℕ → ℕ → Pair → Type 0
  IsPairKept told z x p = (has (told_of told x) p ≡ true) × (IsBlocked n f (narrowed told (exactly x p)) z → ⊥)

  module _ (told : Told) (z x : ℕ) (p : Pair) (own : Pairs) (inside : Bool) (is : inside ≡ has own p) (own_is : own ≡ told_of told x) where
    had : (has (told_of told x) p ≡ true) → inside ≡ true
    had h = is ∙ (ap (λ (s : Pairs). has s p) own_is ∙ h)

    pub kept_off : inside ≡ false → (false ≡ true) ↔ IsPairKept told z x p
    kept_off off = none_kept inside (has (told_of told x) p ≡ true) (IsBlocked n f (narrowed told (exactly x p)) z → ⊥) had off

    pub kept_if : {E : Type 0} (r : Result Bool E) (pairs : Pairs) → inside ≡ true → pairs ≡ only_pair p
        → IfOk r (λ b. (b ≡ true) ↔ (IsBlocked n f (narrowed told (record { signal = x; pairs = pairs })) z → ⊥)) → IfOk r (λ b. (b ≡ true) ↔ IsPairKept told z x p)
    kept_if {E} r pairs on only_is h =
        kept_beside r (has (told_of told x) p ≡ true) (IsBlocked n f (narrowed told (exactly x p)) z → ⊥)
        (ap (λ (s : Pairs). has s p) (sym own_is) ∙ (sym is ∙ on))
        (subst (λ (s : Pairs). IfOk r (λ b. (b ≡ true) ↔ (IsBlocked n f (narrowed told (record { signal = x; pairs = s })) z → ⊥))) only_is h)

  pub four_kept : (old a b c : Trailed) (z x : ℕ) (zero rises falls one : Bool) → a ≡ old → b ≡ a → c ≡ b → (zero ≡ true) ↔ IsPairKept old.told z x (pair false false)
      → (rises ≡ true) ↔ IsPairKept a.told z x (pair false true) → (falls ≡ true) ↔ IsPairKept b.told z x (pair true false) → (one ≡ true) ↔ IsPairKept c.told z x (pair true true)
      → AreKept n f old.told z x (record { zero = zero; rises = rises; falls = falls; one = one })
  four_kept old a b c z x zero rises falls one a_is b_is c_is h k l m =
      four_pairs (IsPairKept old.told z x) zero rises falls one h
      (subst (λ (t : Trailed). (rises ≡ true) ↔ IsPairKept t.told z x (pair false true)) a_is k)
      (subst (λ (t : Trailed). (falls ≡ true) ↔ IsPairKept t.told z x (pair true false)) (b_is ∙ a_is) l)
      (subst (λ (t : Trailed). (one ≡ true) ↔ IsPairKept t.told z x (pair true true)) (c_is ∙ (b_is ∙ a_is)) m)

  pub looked_at_if : {T E : Type 0} (r : Result T E) (old mid new : Trailed) (z x : ℕ) (kept : Pairs) → IsGateAt n z → IsBeside n z x → mid ≡ old → AreKept n f old.told z x kept
      → OnOk r (IsRestricted mid x kept new) → OnOk r (IsLookedAt n f old z x new)
  looked_at_if (Ok v) old mid new z x kept g beside back are h = looked_at n f old new z x kept g beside are (subst (λ (t : Trailed). IsRestricted t x kept new) back h)
  looked_at_if (Err e) old mid new z x kept g beside back are h = tt

  -- ---- a gate's pins

  module _ (z : ℕ) (pins : List ℕ) (are : ArePinsOf n z pins) (k x : ℕ) (l : k < length pins) (is : x ≡ get_or pins k x) where
    pub pin_beside : IsBeside n z x
    pin_beside = inr (are.0, are.1, are.2, subst (λ (ps : List ℕ). Contains ps x) are.3 (k, l, sym is))

    pub pin_low : IsSound n → (m : ℕ) → m ≡ length (signals n) → x < m
    pin_low sound m size =
        let within = pins_within n sound.formed.numbered sound.closed are.0 (contains_filter is_gate n.definitions are.0 are.1).0 pins m are.3 size in
        subst (λ y. y < m) (sym is) (within k x l)

  -- ---- all signals beside a gate

  module _ (sound : IsSound n) (old : Trailed) (d : Definition) (g : Contains (gates n) d) (z : ℕ) (id : d.id ≡ z) (made : Pairs) (is : made ≡ made_sets f d (map (told_of old.told) d.pins)) (some : has_some made ≡ true)
      (mid : Trailed) (r : IsRestricted old z made mid) where
    here : IsRestricted old d.id made mid
    here = subst (λ y. IsRestricted old y made mid) (sym id) r

    pub look_own : (own : Pairs) → own ≡ told_of old.told z → meet made own ≡ made → IsLooked n f old z mid
    look_own own own_is inside =
        subst (λ y. IsLooked n f old y mid) id
        (looked_own n f sound old d g made is some mid here (ap (meet made) (ap (told_of old.told) id ∙ sym own_is) ∙ inside))

    pub look_pins : (new : Trailed) (pins : List ℕ) → pins ≡ d.pins → Grows old mid → Grows mid new → ArePinsLookedAt n f mid z pins new → IsLooked n f old z new
    look_pins new pins pins_are h k look =
        subst (λ y. IsLooked n f old y new) id
        (looked_pins n f sound old d g made is some mid here new h k
        (subst (λ (ps : List ℕ). ArePinsLookedAt n f mid d.id ps new) pins_are (subst (λ y. ArePinsLookedAt n f mid y pins new) (sym id) look)))

  -- ---- the gate that makes a signal

  pub no_maker : IsSound n → (old : Trailed) (x : ℕ) → x < length n.inputs → IsMakerLooked n f old x old
  no_maker sound old x l = looked_no n f old (λ z. IsGateAt n z × (z ≡ x)) (λ z t. let high = (gate_place n sound z t.0).0 in let e = t.1 in absurd (omega arith))

  pub cell_maker : IsSound n → (old : Trailed) (x : ℕ) (d : Definition) → Contains n.definitions d → d.id ≡ x → is_flip_flop d.kind ≡ true → IsMakerLooked n f old x old
  cell_maker sound old x d c id cell = looked_no n f old (λ z. IsGateAt n z × (z ≡ x)) (λ z t. not_gate n sound d x z c id cell t.1 t.0)

  pub gate_there : (x : ℕ) (d : Definition) → Contains n.definitions d → d.id ≡ x → is_flip_flop d.kind ≡ false → IsGateAt n x
  gate_there x d c id gate = (d, filter_contains is_gate n.definitions d c (ap not gate), id)

  -- ---- a reader

  pub no_reader : (old : Trailed) (line : Line) → ((z k : ℕ) → line ≡ Pin z k → IsGateAt n z → ⊥) → IsReaderLooked n f old line old
  no_reader old line none = looked_no n f old (λ z. IsGateAt n z × ((k : ℕ) × (line ≡ Pin z k))) (λ z t. none z t.1.0 t.1.1 t.0)

  pub reader_if : {E : Type 0} (r : Result Bool E) (old new : Trailed) (line : Line) (z k : ℕ) → line ≡ Pin z k → IfOk r (λ b. MatchBool b (IsLooked n f old z new) (LeavesNothing n f old.told))
      → IfOk r (λ b. MatchBool b (IsReaderLooked n f old line new) (LeavesNothing n f old.told))
  reader_if r old new line z k is = looked_if r old new z (λ y. IsGateAt n y × ((j : ℕ) × (line ≡ Pin y j))) (λ y t. pin_signal y t.1.0 z k (sym t.1.1 ∙ is))

  -- ---- whether a signal may have a pair

  module _ (told : Told) (x : ℕ) (own : Pairs) (some : Bool) where
    pub left_some : own ≡ told_of told x → some ≡ has_some own → some ≡ true → (p : Pair) × (has (told_of told x) p ≡ true)
    left_some own_is is on = some_pair (told_of told x) (ap (λ (s : Pairs). has_some s) (sym own_is) ∙ (sym is ∙ on))

  pub left_empty : IsSound n → (told : Told) (x : ℕ) (own : Pairs) (some : Bool) → length told ≡ length (signals n) → x < length told → own ≡ told_of told x → some ≡ has_some own → some ≡ false
      → LeavesNothing n f told
  left_empty sound told x own some size l own_is is off =
      nothing_empty n f sound told x (omega arith) (ap (λ (s : Pairs). has_some s) (sym own_is) ∙ (sym is ∙ off))

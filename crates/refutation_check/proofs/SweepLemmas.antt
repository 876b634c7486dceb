-- What gates keep of sets of pairs.
use Rattle.std.proofs.Common.{◌≡◌, ℕ, ◌<◌, Bool, true, false, ◌||◌, List, [], ◌∷◌, map, length, refl, sym, subst, inl, inr, eqb, arith}
use Rattle.std.specs.List.{Contains}
use Rattle.std.proofs.lemmas.Bool.{both_ways, and_parts, or_parts, or_cases, cases_Bool, cases_eq, false_from_ne_true, eqb-true, eq-eqb}
use Rattle.std.proofs.lemmas.List.{length-set, get_or-set_same, get_or-set_other}
use Rattle.std.proofs.lemmas.List.Elements.{All-contains}
use Rattle.statement.specs.declared.lines.Fault.{Fault}
use Rattle.statement.specs.Netlists.{Definition, Netlist, gates}
use Rattle.netlist.specs.Netlist.{IsGateAt}
use Rattle.netlist.specs.Conditions.{IsSound}
use Rattle.netlist.proofs.Lists.{All-from_contains, contains_head, contains_tail}
use Rattle.netlist.proofs.Placed.{same_definition, gate_defined}
use Rattle.tri.proofs.LabelLemmas.{defined_is_signal}
use Rattle.refutation.specs.declared.pairs.Pairs.{Pairs}
use Rattle.refutation.specs.Pairs.{Pair, has, AreAmong, meet, no_pair, only_pair}
use Rattle.refutation.specs.Refutations.{Told, told_of, narrowed, made, IsAllowed, IsBlocked, IsKept, IsKeeping, IsWithin, LeavesNothing}
use Rattle.refutation.proofs.PairLemmas.{pair, has_meet}
use Rattle.refutation.proofs.Sweeping.{has_only, only_has, told_below}
use Rattle.refutation_check.specs.inner.Images.{has_some, made_sets}
use Rattle.refutation_check.specs.inner.Sweeps.{AreKept, Keeps, IsBeside, IsKeepingAt, exactly}
use Rattle.refutation_check.proofs.ImageLemmas.{made_sound, made_reach}

-- ---- sets

meet_has_of : (s t : Pairs) (g b : Bool) → has (meet s t) (pair g b) ≡ true → (has s (pair g b) ≡ true) × (has t (pair g b) ≡ true)
meet_has_of s t true true h = and_parts s.one t.one h
meet_has_of s t true false h = and_parts s.falls t.falls h
meet_has_of s t false true h = and_parts s.rises t.rises h
meet_has_of s t false false h = and_parts s.zero t.zero h

pub meet_has : (s t : Pairs) (p : Pair) → has (meet s t) p ≡ true → (has s p ≡ true) × (has t p ≡ true)
meet_has s t p h = meet_has_of s t p.good p.faulty h

no_some_of : (s : Pairs) (g b : Bool) → has_some s ≡ false → has s (pair g b) ≡ false
no_some_of s true true h = (or_parts s.falls s.one (or_parts (s.zero || s.rises) (s.falls || s.one) h).1).1
no_some_of s true false h = (or_parts s.falls s.one (or_parts (s.zero || s.rises) (s.falls || s.one) h).1).0
no_some_of s false true h = (or_parts s.zero s.rises (or_parts (s.zero || s.rises) (s.falls || s.one) h).0).1
no_some_of s false false h = (or_parts s.zero s.rises (or_parts (s.zero || s.rises) (s.falls || s.one) h).0).0

pub no_some : (s : Pairs) → has_some s ≡ false → (p : Pair) → has s p ≡ false
no_some s h p = no_some_of s p.good p.faulty h

pub some_pair : (s : Pairs) → has_some s ≡ true → (p : Pair) × (has s p ≡ true)
some_pair s h = elim (or_cases (s.zero || s.rises) (s.falls || s.one) h) [
  | inl low ↦ elim (or_cases s.zero s.rises low) [ inl e ↦ (pair false false, e) | inr e ↦ (pair false true, e) ]
  | inr high ↦ elim (or_cases s.falls s.one high) [ inl e ↦ (pair true false, e) | inr e ↦ (pair true true, e) ]
]

-- ---- narrowed sets

pub narrowed_here : (told : Told) (x : ℕ) (s : Pairs) → x < length told → told_of (narrowed told (record { signal = x; pairs = s })) x ≡ meet (told_of told x) s
narrowed_here told x s l = get_or-set_same told x (meet (told_of told x) s) no_pair l

pub narrowed_there : (told : Told) (x y : ℕ) (s : Pairs) → (y ≡ x → ⊥) → told_of (narrowed told (record { signal = x; pairs = s })) y ≡ told_of told y
narrowed_there told x y s ne = get_or-set_other told x y (meet (told_of told x) s) no_pair ne

pub narrowed_size : (told : Told) (x : ℕ) (s : Pairs) → length (narrowed told (record { signal = x; pairs = s })) ≡ length told
narrowed_size told x s = length-set told x (meet (told_of told x) s)

-- what has a pair of it had it
pub narrowed_less : (told : Told) (x : ℕ) (s : Pairs) (y : ℕ) (p : Pair) → has (told_of (narrowed told (record { signal = x; pairs = s })) y) p ≡ true → has (told_of told y) p ≡ true
narrowed_less told x s y p h = elim (cases_eq y x) [
  | inl e ↦
      let low = told_below (narrowed told (record { signal = x; pairs = s })) y p h in
      let size = narrowed_size told x s in
      let within : x < length told = omega arith in
      let at : has (told_of (narrowed told (record { signal = x; pairs = s })) x) p ≡ true = subst (λ z. has (told_of (narrowed told (record { signal = x; pairs = s })) z) p ≡ true) e h in
      subst (λ z. has (told_of told z) p ≡ true) (sym e)
      (meet_has (told_of told x) s p (subst (λ (t : Pairs). has t p ≡ true) (narrowed_here told x s within) at)).0
  | inr ne ↦ subst (λ (t : Pairs). has t p ≡ true) (narrowed_there told x y s ne) h
]

pub narrowed_has : (told : Told) (x : ℕ) (s : Pairs) (p : Pair) → has (told_of told x) p ≡ true → has s p ≡ true → has (told_of (narrowed told (record { signal = x; pairs = s })) x) p ≡ true
narrowed_has told x s p h k =
    subst (λ (t : Pairs). has t p ≡ true) (sym (narrowed_here told x s (told_below told x p h))) (has_meet (told_of told x) s p h k)

pub narrowed_within : (a b : Told) (x : ℕ) (s : Pairs) (y : ℕ) → ((p : Pair) → has (told_of a y) p ≡ true → has (told_of b y) p ≡ true)
    → (p : Pair) → has (told_of (narrowed a (record { signal = x; pairs = s })) y) p ≡ true → has (told_of (narrowed b (record { signal = x; pairs = s })) y) p ≡ true
narrowed_within a b x s y sub p h = elim (cases_eq y x) [
  | inl e ↦
      let at : has (told_of (narrowed a (record { signal = x; pairs = s })) x) p ≡ true = subst (λ z. has (told_of (narrowed a (record { signal = x; pairs = s })) z) p ≡ true) e h in
      let low = told_below (narrowed a (record { signal = x; pairs = s })) x p at in
      let size = narrowed_size a x s in
      let within : x < length a = omega arith in
      let both = meet_has (told_of a x) s p (subst (λ (t : Pairs). has t p ≡ true) (narrowed_here a x s within) at) in
      let wider : has (told_of b x) p ≡ true = subst (λ z. has (told_of b z) p ≡ true) e (sub p (subst (λ z. has (told_of a z) p ≡ true) (sym e) both.0)) in
      subst (λ z. has (told_of (narrowed b (record { signal = x; pairs = s })) z) p ≡ true) (sym e) (narrowed_has b x s p wider both.1)
  | inr ne ↦
      subst (λ (t : Pairs). has t p ≡ true) (sym (narrowed_there b x y s ne)) (sub p (subst (λ (t : Pairs). has t p ≡ true) (narrowed_there a x y s ne) h))
]

-- ---- pairs of the pins

pub among_wider : (a b : ℕ → Pairs) (xs : List ℕ) (ps : List Pair) → ((y : ℕ) → Contains xs y → (p : Pair) → has (a y) p ≡ true → has (b y) p ≡ true) → AreAmong (map a xs) ps → AreAmong (map b xs) ps
among_wider a b [] [] sub h = tt
among_wider a b [] (p ∷ ps) sub h = absurd h
among_wider a b (x ∷ xs) [] sub h = absurd h
among_wider a b (x ∷ xs) (p ∷ ps) sub h = (sub x (contains_head x xs) p h.0, among_wider a b xs ps (λ y c. sub y (contains_tail x y xs c)) h.1)

-- with this pair wherever the pin is the signal
pub among_exactly : (told : Told) (x : ℕ) (p : Pair) (xs : List ℕ) (ps : List Pair) → has (told_of told x) p ≡ true → AreAmong (map (told_of told) xs) ps
    → (qs : List Pair) × AreAmong (map (told_of (narrowed told (exactly x p))) xs) qs
among_exactly told x p [] [] h a = ([], tt)
among_exactly told x p [] (q ∷ qs) h a = absurd a
among_exactly told x p (y ∷ ys) [] h a = absurd a
among_exactly told x p (y ∷ ys) (q ∷ qs) h a =
    let rest = among_exactly told x p ys qs h a.1 in
    elim (cases_eq y x) [
      | inl e ↦ (p ∷ rest.0, (subst (λ z. has (told_of (narrowed told (exactly x p)) z) p ≡ true) (sym e) (narrowed_has told x (only_pair p) p h (has_only p)), rest.1))
      | inr ne ↦ (q ∷ rest.0, (subst (λ (t : Pairs). has t q ≡ true) (sym (narrowed_there told x y (only_pair p) ne)) a.0, rest.1))
    ]

module _ (n : Netlist) (f : Fault) where
  -- ---- blocked gates

  -- what is blocked is blocked with fewer pairs
  pub blocked_within : (a b : Told) (z : ℕ) → ((y : ℕ) → IsBeside n z y → (p : Pair) → has (told_of a y) p ≡ true → has (told_of b y) p ≡ true) → IsBlocked n f b z → IsBlocked n f a z
  blocked_within a b z sub w = record {
    gate = w.gate;
    member = w.member;
    id = w.id;
    none = λ ps among. false_from_ne_true (has (told_of a z) (made f w.gate ps)) (λ h.
        both_ways (has (told_of b z) (made f w.gate ps))
        (w.none ps (among_wider (told_of a) (told_of b) w.gate.pins ps (λ y c. sub y (inr (w.gate, w.member, w.id, c))) among))
        (sub z (inl refl) (made f w.gate ps) h));
  }

  -- ---- what is kept

  pub kept_same : (a b : Told) (z x : ℕ) → ((y : ℕ) → IsBeside n z y → told_of a y ≡ told_of b y) → IsBeside n z x → IsKept n f a z x → IsKept n f b z x
  kept_same a b z x same beside k p h blocked =
      k p (subst (λ (t : Pairs). has t p ≡ true) (sym (same x beside)) h)
      (blocked_within (narrowed a (exactly x p)) (narrowed b (exactly x p)) z
      (λ y c. narrowed_within a b x (only_pair p) y (λ q m. subst (λ (t : Pairs). has t q ≡ true) (same y c) m)) blocked)

  pub keeping_same : (a b : Told) (z : ℕ) → ((y : ℕ) → IsBeside n z y → told_of a y ≡ told_of b y) → IsKeepingAt n f a z → IsKeepingAt n f b z
  keeping_same a b z same k d g id =
      let w = k d g id in
      let at : (y : ℕ) → IsBeside n d.id y → told_of a y ≡ told_of b y = λ y c. same y (subst (λ v. IsBeside n v y) id c) in
      record {
        own = kept_same a b d.id d.id at (inl refl) w.own;
        pins = All-from_contains (IsKept n f b d.id) d.pins (λ x c. kept_same a b d.id x at (inr (d, g, refl, c)) (All-contains (IsKept n f a d.id) d.pins x w.pins c));
      }

  pub kept_if_allowed : (told : Told) (z x : ℕ) → IsAllowed n f told → IsGateAt n z → IsBeside n z x → IsKept n f told z x
  kept_if_allowed told z x a g beside =
      elim beside [
        | inl e ↦
            let w = All-contains (IsKeeping n f told) (gates n) g.0 a.gates g.1 in
            subst (λ v. IsKept n f told z v) (sym e) (subst (λ v. IsKept n f told v v) g.2 w.own)
        | inr r ↦
            let w = All-contains (IsKeeping n f told) (gates n) r.0 a.gates r.1 in
            subst (λ v. IsKept n f told v x) r.2 (All-contains (IsKept n f told r.0.id) r.0.pins x w.pins r.3)
      ]

  -- ---- what is left is what gates allow

  pub keeps_then : (a b c : Told) → Keeps n f a b → Keeps n f b c → Keeps n f a c
  keeps_then a b c h k some w al = k some (h some w al) al

  pub keeps_kept : (told : Told) (z x : ℕ) (kept : Pairs) → IsGateAt n z → IsBeside n z x → AreKept n f told z x kept → Keeps n f told (narrowed told (record { signal = x; pairs = kept }))
  keeps_kept told z x kept g beside are some w al y p h = elim (cases_eq y x) [
    | inl e ↦
        let here : has (told_of some x) p ≡ true = subst (λ v. has (told_of some v) p ≡ true) e h in
        let told_here = w x p here in
        let open_here : IsBlocked n f (narrowed told (exactly x p)) z → ⊥ = λ b.
        kept_if_allowed some z x al g beside p here
        (blocked_within (narrowed some (exactly x p)) (narrowed told (exactly x p)) z (λ v c. narrowed_within some told x (only_pair p) v (w v)) b) in
        subst (λ v. has (told_of (narrowed told (record { signal = x; pairs = kept })) v) p ≡ true) (sym e) (narrowed_has told x kept p told_here ((are p).1 (told_here, open_here)))
    | inr ne ↦ subst (λ (t : Pairs). has t p ≡ true) (sym (narrowed_there told x y kept ne)) (w y p h)
  ]

  module _ (sound : IsSound n) (told : Told) (d : Definition) (g : Contains (gates n) d) (sets : Pairs) (is : sets ≡ made_sets f d (map (told_of told) d.pins)) where
    -- a gate doesn't read itself
    pub not_own : (x : ℕ) → Contains d.pins x → x ≡ d.id → ⊥
    not_own x c e =
        sound.acyclic d.id ((λ z. eqb z d.id), (λ z s. (d.id, (d, g, sym (eqb-true z d.id s), subst (Contains d.pins) e c), eq-eqb d.id d.id refl)), eq-eqb d.id d.id refl)

    pub the_gate : (e : Definition) → Contains (gates n) e → e.id ≡ d.id → e ≡ d
    the_gate e m id = same_definition n sound.formed.numbered e d (gate_defined n sound.formed.numbered e m) (gate_defined n sound.formed.numbered d g) id

    -- of what is blocked with the pair alone the gate makes nothing
    not_made : (some : Told) (p : Pair) → IsWithin some told → has sets p ≡ false → IsBlocked n f (narrowed some (exactly d.id p)) d.id
    not_made some p w off = record {
      gate = d;
      member = g;
      id = refl;
      none = λ ps among. false_from_ne_true (has (told_of (narrowed some (exactly d.id p)) d.id) (made f d ps)) (λ h.
          let low = told_below (narrowed some (exactly d.id p)) d.id (made f d ps) h in
          let size = narrowed_size some d.id (only_pair p) in
          let within : d.id < length some = omega arith in
          let only = (meet_has (told_of some d.id) (only_pair p) (made f d ps) (subst (λ (t : Pairs). has t (made f d ps) ≡ true) (narrowed_here some d.id (only_pair p) within) h)).1 in
          let same : p ≡ made f d ps = only_has p (made f d ps) only in
          let wide = among_wider (told_of (narrowed some (exactly d.id p))) (told_of told) d.pins ps (λ y c q m. w y q (narrowed_less some d.id (only_pair p) y q m)) among in
          both_ways (has sets p) off
          (subst (λ (t : Pairs). has t p ≡ true) (sym is)
          (subst (λ (q : Pair). has (made_sets f d (map (told_of told) d.pins)) q ≡ true) (sym same) (made_sound f d (map (told_of told) d.pins) ps wide))));
    }

    gate_here : IsGateAt n d.id
    gate_here = (d, g, refl)

    pub keeps_made : Keeps n f told (narrowed told (record { signal = d.id; pairs = sets }))
    keeps_made some w al y p h = elim (cases_eq y d.id) [
      | inl e ↦
          let here : has (told_of some d.id) p ≡ true = subst (λ v. has (told_of some v) p ≡ true) e h in
          let told_here = w d.id p here in
          let kept = kept_if_allowed some d.id d.id al gate_here (inl refl) p here in
          subst (λ v. has (told_of (narrowed told (record { signal = d.id; pairs = sets })) v) p ≡ true) (sym e)
          (narrowed_has told d.id sets p told_here (elim (cases_Bool (has sets p)) [ inl on ↦ on | inr off ↦ absurd (kept (not_made some p w off)) ]))
      | inr ne ↦ subst (λ (t : Pairs). has t p ≡ true) (sym (narrowed_there told d.id y sets ne)) (w y p h)
    ]

    pub nothing_made : has_some sets ≡ false → LeavesNothing n f told
    nothing_made none some w al =
        let own = al.some d.id (defined_is_signal n d (gate_defined n sound.formed.numbered d g)) in
        kept_if_allowed some d.id d.id al gate_here (inl refl) own.0 own.1 (not_made some own.0 w (no_some sets none own.0))

    -- where the signal has no pair that the gate doesn't make
    pub own_kept : ((p : Pair) → has (told_of told d.id) p ≡ true → has sets p ≡ true) → IsKept n f told d.id d.id
    own_kept within p h b =
        let there = made_reach f d (map (told_of told) d.pins) p (subst (λ (t : Pairs). has t p ≡ true) is (within p h)) in
        let among = among_wider (told_of told) (told_of (narrowed told (exactly d.id p))) d.pins there.0
        (λ y c q m. subst (λ (t : Pairs). has t q ≡ true) (sym (narrowed_there told d.id y (only_pair p) (not_own y c))) m) there.1 in
        let none = subst (λ (e : Definition). (ps : List Pair) → AreAmong (map (told_of (narrowed told (exactly d.id p))) e.pins) ps → has (told_of (narrowed told (exactly d.id p)) d.id) (made f e ps) ≡ false)
        (the_gate b.gate b.member b.id) b.none in
        both_ways (has (told_of (narrowed told (exactly d.id p)) d.id) p)
        (subst (λ (q : Pair). has (told_of (narrowed told (exactly d.id p)) d.id) q ≡ false) there.2 (none there.0 among))
        (narrowed_has told d.id (only_pair p) p h (has_only p))

    -- where the gate makes no pair that the signal doesn't have, but some
    pub pin_kept : has_some sets ≡ true → ((p : Pair) → has sets p ≡ true → has (told_of told d.id) p ≡ true) → (x : ℕ) → Contains d.pins x → IsKept n f told d.id x
    pin_kept some within x c p h b =
        let one = some_pair sets some in
        let first = made_reach f d (map (told_of told) d.pins) one.0 (subst (λ (t : Pairs). has t one.0 ≡ true) is one.1) in
        let exact = among_exactly told x p d.pins first.0 h first.1 in
        let wide = among_wider (told_of (narrowed told (exactly x p))) (told_of told) d.pins exact.0 (λ y m q k. narrowed_less told x (only_pair p) y q k) exact.1 in
        let made_here = subst (λ (t : Pairs). has t (made f d exact.0) ≡ true) (sym is) (made_sound f d (map (told_of told) d.pins) exact.0 wide) in
        let none = subst (λ (e : Definition). (ps : List Pair) → AreAmong (map (told_of (narrowed told (exactly x p))) e.pins) ps → has (told_of (narrowed told (exactly x p)) d.id) (made f e ps) ≡ false)
        (the_gate b.gate b.member b.id) b.none in
        both_ways (has (told_of (narrowed told (exactly x p)) d.id) (made f d exact.0))
        (none exact.0 exact.1)
        (subst (λ (t : Pairs). has t (made f d exact.0) ≡ true) (sym (narrowed_there told x d.id (only_pair p) (λ e. not_own x c (sym e)))) (within (made f d exact.0) made_here))

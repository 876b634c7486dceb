-- What a trail says of the gates to look at, and of how many changes there may be.
use Rattle.std.proofs.Common.{◌≡◌, ℕ, ◌+◌, ◌-◌, ◌<◌, ◌≤◌, suc, zero, Bool, true, false, ◌&&◌, List, [], ◌∷◌, ◌++◌, length, get_or, set, refl, sym, ◌∙◌, ap, subst, inl, inr, ◌⊎◌, eqb, arith}
use Rattle.std.specs.List.{Contains, list_any}
use Rattle.std.proofs.lemmas.Bool.{both_ways, cases_Bool, cases_eq, cases_lt, eqb-true, eq-eqb}
use Rattle.std.proofs.lemmas.List.{length-append, get_or_append_left, get_or-append_right, get_or-set_other, get_or_push, set-get_or}
use Rattle.statement.specs.declared.lines.Fault.{Fault}
use Rattle.statement.specs.Netlists.{Definition, Netlist, gates, signals}
use Rattle.netlist.specs.Netlist.{IsGateAt}
use Rattle.netlist.specs.Conditions.{IsSound}
use Rattle.netlist.proofs.Lists.{All-from_contains, any_true, any_from, contains_head, contains_tail}
use Rattle.netlist.proofs.Placed.{same_definition, gate_defined, signal_below}
use Rattle.refutation.specs.declared.pairs.Pairs.{Pairs}
use Rattle.refutation_check.specs.declared.sets.Change.{Change}
use Rattle.refutation.specs.Pairs.{Pair, has, meet, no_pair}
use Rattle.refutation.specs.Refutations.{Told, told_of, IsKeeping, IsSwept, IsWithin}
use Rattle.refutation_check.specs.inner.Trails.{Trailed, Grows, put, undone}
use Rattle.refutation_check.specs.inner.Sweeps.{Keeps, Narrows, IsTouched, IsBeside, IsCalm, IsRestricted, AreLooked, bit, pair_count, pair_counts}
use Rattle.refutation_check.proofs.SweepLemmas.{keeping_same, keeps_then}
use Rattle.refutation_check.proofs.SetLemmas.{set_of}

-- ---- what was touched

pub touched_then : (a b : Trailed) (from x : ℕ) → Grows a b → IsTouched a from x → IsTouched b from x
touched_then a b from x g t =
    let low = t.3 in
    let size : length b.trail ≡ length a.trail + length g.changes = ap length g.trail ∙ length-append a.trail g.changes in
    (t.0, t.1, t.2, omega arith, ap (λ cs. get_or cs t.1 t.0) g.trail ∙ (get_or_append_left a.trail g.changes t.0 t.1 low ∙ t.4), t.5)

pub touched_later : (t : Trailed) (from later x : ℕ) → from ≤ later → IsTouched t later x → IsTouched t from x
touched_later t from later x l w = let h = w.2 in (w.0, w.1, omega arith, w.3, w.4, w.5)

undone_other : (cs : List Change) (told : Told) (x : ℕ) → ((c : Change) → Contains cs c → c.signal ≡ x → ⊥) → told_of (undone cs told) x ≡ told_of told x
undone_other [] told x h = refl
undone_other (c ∷ cs) told x h =
    get_or-set_other (undone cs told) c.signal x c.before no_pair (λ e. h c (contains_head c cs) (sym e))
    ∙ undone_other cs told x (λ d m. h d (contains_tail c d cs m))

-- what wasn't touched has what it had
pub untouched_same : (a b : Trailed) (x : ℕ) → Grows a b → (IsTouched b (length a.trail) x → ⊥) → told_of b.told x ≡ told_of a.told x
untouched_same a b x g none =
    sym (undone_other g.changes b.told x (λ c m e. none (touched_at c m e))) ∙ ap (λ (t : Told). told_of t x) g.told where
      touched_at : (c : Change) → Contains g.changes c → c.signal ≡ x → IsTouched b (length a.trail) x
      touched_at c m e =
          let low = m.1 in
          let size : length b.trail ≡ length a.trail + length g.changes = ap length g.trail ∙ length-append a.trail g.changes in
          let back : length a.trail + m.0 - length a.trail ≡ m.0 = omega arith in (
            c,
            length a.trail + m.0,
            omega arith,
            omega arith,
            ap (λ cs. get_or cs (length a.trail + m.0) c) g.trail
                ∙ (get_or-append_right a.trail g.changes (length a.trail) (length a.trail + m.0) c refl (omega arith) ∙ (ap (λ i. get_or g.changes i c) back ∙ m.2)),
            e,
          )

-- ---- calm

module _ (n : Netlist) (f : Fault) where
  pub calm_grows : (a b : Trailed) (from : ℕ) → Grows a b → from ≤ length a.trail → IsCalm n f a from → IsCalm n f b from
  calm_grows a b from g l calm = record {
    gates = λ z none.
        keeping_same n f a.told b.told z (λ y c. sym (untouched_same a b y g (λ t. none (y, c, touched_later b from (length a.trail) y l t))))
        (calm.gates z (λ w. none (w.0, w.1, touched_then a b from w.0 g w.2)));
    some = λ x low none.
        let size = g.size in
        subst (λ (s : Pairs). (p : Pair) × (has s p ≡ true)) (sym (untouched_same a b x g (λ t. none (touched_later b from (length a.trail) x l t))))
        (calm.some x (omega arith) (λ t. none (touched_then a b from x g t)));
  }

  reads_or_not : IsSound n → (d : Definition) (z x : ℕ) → Contains (gates n) d → d.id ≡ z → IsBeside n z x ⊎ (IsBeside n z x → ⊥)
  reads_or_not sound d z x g id = elim (cases_eq x z) [
    | inl e ↦ inl (inl e)
    | inr ne ↦ elim (cases_Bool (list_any (λ y. eqb y x) d.pins)) [
      | inl some ↦
          let w = any_true (λ y. eqb y x) d.pins some in
          inl (inr (d, g, id, subst (Contains d.pins) (eqb-true w.0 x w.2) w.1))
      | inr none ↦ inr (λ beside. elim beside [
        | inl e ↦ ne e
        | inr r ↦
            let same : r.0 ≡ d = same_definition n sound.formed.numbered r.0 d (gate_defined n sound.formed.numbered r.0 r.1) (gate_defined n sound.formed.numbered d g) (r.2 ∙ sym id) in
            let c = subst (λ (e : Definition). Contains e.pins x) same r.3 in
            both_ways (list_any (λ y. eqb y x) d.pins) none (any_from (λ y. eqb y x) d.pins x c (eq-eqb x x refl))
      ])
    ]
  ]

  -- one place of the trail further
  pub calm_more : IsSound n → (a b : Trailed) (next : ℕ) (id : ℕ) → next < length a.trail → ((c : Change) → get_or a.trail next c ≡ c → id ≡ c.signal) → Grows a b
      → AreLooked n f a (λ z. IsGateAt n z × IsBeside n z id) b → (p : Pair) × (has (told_of a.told id) p ≡ true) → IsCalm n f a next → IsCalm n f b (next + 1)
  calm_more sound a b next id low is g looked own calm = record {
    gates = λ z none d m at. elim (reads_or_not sound d z id m at) [
      | inl beside ↦
          looked.quiet z ((d, m, at), beside) (λ w. none (w.0, w.1, touched_later b (next + 1) (length a.trail) w.0 (omega (arith, low)) w.2)) d m at
      | inr apart ↦
          keeping_same n f a.told b.told z (λ y c. sym (untouched_same a b y g (λ t. none (y, c, touched_later b (next + 1) (length a.trail) y (omega (arith, low)) t))))
          (calm.gates z (λ w. none (w.0, w.1, further w.0 (λ e. apart (subst (IsBeside n z) e w.1)) w.2))) d m at
    ];
    some = λ x below none.
        let size = g.size in
        subst (λ (s : Pairs). (p : Pair) × (has s p ≡ true)) (sym (untouched_same a b x g (λ t. none (touched_later b (next + 1) (length a.trail) x (omega (arith, low)) t))))
        (elim (cases_eq x id) [
          | inl e ↦ subst (λ y. (p : Pair) × (has (told_of a.told y) p ≡ true)) (sym e) own
          | inr ne ↦ calm.some x (omega arith) (λ t. none (further x ne t))
        ]);
  } where
    further : (x : ℕ) → (x ≡ id → ⊥) → IsTouched a next x → IsTouched b (next + 1) x
    further x ne t =
        let from = t.2 in
        let at : (next ≡ t.1) ⊎ (next ≡ t.1 → ⊥) = cases_eq next t.1 in
        elim at [
          | inl e ↦ absurd (ne (sym t.5 ∙ sym (is t.0 (ap (λ i. get_or a.trail i t.0) e ∙ t.4))))
          | inr later ↦ elim (cases_lt t.1 (next + 1)) [
            | inl early ↦ absurd (later (omega arith))
            | inr late ↦ touched_then a b (next + 1) x g (t.0, t.1, late, t.3, t.4, t.5)
          ]
        ]

  -- at the end of the trail
  pub swept_at_end : IsSound n → (old : Told) (t : Trailed) (next : ℕ) → length t.told ≡ length (signals n) → length t.trail ≤ next → IsCalm n f t next → IsWithin t.told old → Keeps n f old t.told → IsSwept n f old t.told
  swept_at_end sound old t next size end calm within keeps = record {
    allowed = record {
      size = size;
      some = λ x c. let low = signal_below n sound.formed.numbered x c in calm.some x (omega arith) (none x);
      gates = All-from_contains (IsKeeping n f t.told) (gates n) (λ d g. calm.gates d.id (λ w. none w.0 w.2) d g refl);
    };
    within = within;
    most = λ some w al. keeps some w al;
  } where
    none : (x : ℕ) → IsTouched t next x → ⊥
    none x w = let low = w.3 in let from = w.2 in absurd (omega (arith, low, from))

  -- ---- one after the other

  pub narrows_none : (t : Trailed) → Narrows n f t t
  narrows_none t = record { within = λ x p h. h; keeps = λ some w al. w; room = omega arith }

  pub narrows_then : (a b c : Trailed) → Narrows n f a b → Narrows n f b c → Narrows n f a c
  narrows_then a b c v w = record {
    within = λ x p h. v.within x p (w.within x p h);
    keeps = keeps_then n f a.told b.told c.told v.keeps w.keeps;
    room = let k = v.room in let l = w.room in omega arith;
  }

  pub looked_then : (a b c : Trailed) (these those : ℕ → Type 0) → Grows a b → Grows b c → AreLooked n f a these b → AreLooked n f b those c → AreLooked n f a (λ z. these z ⊎ those z) c
  looked_then a b c these those g h v w = record {
    narrows = narrows_then a b c v.narrows w.narrows;
    quiet = λ z one none.
        let size : length b.trail ≡ length a.trail + length g.changes = ap length g.trail ∙ length-append a.trail g.changes in
        let later : length a.trail ≤ length b.trail = omega arith in
        elim one [
          | inl first ↦
              keeping_same n f b.told c.told z (λ y s. sym (untouched_same b c y h (λ t. none (y, s, touched_later c (length a.trail) (length b.trail) y later t))))
              (v.quiet z first (λ u. none (u.0, u.1, touched_then b c (length a.trail) u.0 h u.2)))
          | inr second ↦ w.quiet z second (λ u. none (u.0, u.1, touched_later c (length a.trail) (length b.trail) u.0 later u.2))
        ];
  }

  pub looked_fewer : (a b : Trailed) (these those : ℕ → Type 0) → ((z : ℕ) → those z → these z) → AreLooked n f a these b → AreLooked n f a those b
  looked_fewer a b these those sub v = record { narrows = v.narrows; quiet = λ z t. v.quiet z (sub z t) }

-- ---- how many pairs there are

bits_of : (a b : Bool) → ((a && b) ≡ a) ⊎ (bit (a && b) + 1 ≤ bit a)
bits_of true true = inl refl
bits_of true false = inr (omega arith)
bits_of false b = inl refl

less_bits : (a b : Bool) → bit (a && b) ≤ bit a
less_bits true true = omega arith
less_bits true false = omega arith
less_bits false b = omega arith

pub fewer_pairs : (s t : Pairs) → (meet s t ≡ s → ⊥) → pair_count (meet s t) + 1 ≤ pair_count s
fewer_pairs s t ne =
    let lz = less_bits s.zero t.zero in
    let lr = less_bits s.rises t.rises in
    let lf = less_bits s.falls t.falls in
    let lo = less_bits s.one t.one in
    elim (bits_of s.zero t.zero) [
      | inr z ↦ omega arith
      | inl z ↦ elim (bits_of s.rises t.rises) [
        | inr r ↦ omega arith
        | inl r ↦ elim (bits_of s.falls t.falls) [
          | inr w ↦ omega arith
          | inl w ↦ elim (bits_of s.one t.one) [
            | inr o ↦ omega arith
            | inl o ↦ absurd (ne (ap (λ b. set_of b (s.rises && t.rises) (s.falls && t.falls) (s.one && t.one)) z
                ∙ (ap (λ b. set_of s.zero b (s.falls && t.falls) (s.one && t.one)) r ∙ (ap (λ b. set_of s.zero s.rises b (s.one && t.one)) w ∙ ap (λ b. set_of s.zero s.rises s.falls b) o))))
          ]
        ]
      ]
    ]

pub counts_set : (told : Told) (x : ℕ) (s : Pairs) → x < length told → pair_counts (set told x s) + pair_count (told_of told x) ≡ pair_counts told + pair_count s
counts_set [] x s l = absurd (omega arith)
counts_set (t ∷ ts) zero s l = omega arith
counts_set (t ∷ ts) (suc x) s l = let h = counts_set ts x s (omega arith) in omega (arith, h)

-- what a restriction comes to
module _ (old : Trailed) (x : ℕ) (s : Pairs) (l : x < length old.told) where
  pub restricted_same : meet (told_of old.told x) s ≡ told_of old.told x → IsRestricted old x s old
  restricted_same e = record {
    told = sym (ap (λ (t : Pairs). set old.told x t) e ∙ set-get_or old.told x no_pair);
    room = omega arith;
    quiet = λ _. (refl, e);
  }

  pub restricted_less : (new : Trailed) (left : Pairs) → left ≡ meet (told_of old.told x) s → (left ≡ told_of old.told x → ⊥) → new ≡ put old x left → IsRestricted old x s new
  restricted_less new left is ne made =
      subst (IsRestricted old x s) (sym (made ∙ ap (put old x) is)) (record {
        told = refl;
        room =
            let fewer = fewer_pairs (told_of old.told x) s (λ e. ne (is ∙ e)) in
            let counts = counts_set old.told x (meet (told_of old.told x) s) l in
            let longer = length-append old.trail (record { signal = x; before = told_of old.told x } ∷ []) in
            omega arith;
        quiet = λ none. absurd (none (record { signal = x; before = told_of old.told x }, length old.trail, omega arith, here, there, refl));
      }) where
        here : length old.trail < length (old.trail ++ record { signal = x; before = told_of old.told x } ∷ [])
        here = let longer = length-append old.trail (record { signal = x; before = told_of old.told x } ∷ []) in omega arith

        there : get_or (old.trail ++ record { signal = x; before = told_of old.told x } ∷ []) (length old.trail) (record { signal = x; before = told_of old.told x }) ≡ record { signal = x; before = told_of old.told x }
        there = get_or_push old.trail (record { signal = x; before = told_of old.told x }) (record { signal = x; before = told_of old.told x }) (length old.trail) refl

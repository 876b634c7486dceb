-- A fault binds one signal after the other: how roles follow, and that those of the fault come of it.
use Rattle.std.proofs.Common.{◌≡◌, ℕ, zero, suc, ◌++◌, ◌<◌, ◌≤◌, ◌||◌, ◌⊎◌, Bool, true, false, leb, eqb, List, [], ◌∷◌, length, get_or, Option, Some, None, refl, sym, ◌∙◌, ap, subst, inl, inr, arith}
use Rattle.std.specs.Bool.{Decides}
use Rattle.std.specs.List.{All, Contains}
use Rattle.std.proofs.lemmas.Bool.{both_ways, cases_Bool, leb-true, le-leb, eqb-true, eq-eqb, cases_lt}
use Rattle.std.proofs.lemmas.List.Elements.{All-contains, Contains-append_left, Contains-append_right, Contains-append_cases}
use Rattle.statement.specs.declared.lines.Line.{Line}
use Rattle.statement.specs.declared.lines.Line.TheVariants.{Stem, Pin, Out}
use Rattle.statement.specs.declared.lines.Fault.{Fault}
use Rattle.statement.specs.Patterns.{Holds}
use Rattle.netlist.specs.Lines.{IsPinBelow}
use Rattle.statement.specs.Netlists.{Definition, Netlist, gates, signals, readers_of}
use Rattle.netlist.specs.Netlist.{is_gate, Reads, IsGateAt}
use Rattle.netlist.specs.Conditions.{IsSound}
use Rattle.netlist.proofs.Lists.{All-from_contains, contains_cases, contains_filter, filter_contains, contains_head, contains_nil}
use Rattle.netlist.proofs.Placed.{same_definition, signal_below, signal_from}
use Rattle.tri.proofs.LabelLemmas.{defined_is_signal}
use Rattle.head_lines.specs.declared.roles.Role.{Role}
use Rattle.head_lines.specs.declared.roles.Role.TheVariants.{Bound, Head, Inner}
use Rattle.head_lines.specs.HeadLines.{IsUpward, IsOrigin, IsConstant, IsBound, IsObserved, IsEdgeOf, is_bound_role, is_head_role, role_at, AreRoles}
use Rattle.head_lines.specs.Rooms.{nowhere, AreBeside}
use Rattle.head_lines.specs.inner.Binding.{IsKeptBeside, IsPut, IsFlipped, AreHeads, IsBoundNow, IsOnlyReader, IsSite, AreRolesBut, is_unbound, unbound, waiting}
use Rattle.head_lines.proofs.Free.{reached_more, bound_up, bound_here}
use Rattle.head_lines.proofs.Readers.{get_or_any, pin_listed, IsPinOf, reader_cases, readers_below}

-- ---- roles

inner_bound : Inner ≡ Bound → ⊥
inner_bound e = cc

head_bound : Head ≡ Bound → ⊥
head_bound e = cc

head_inner : Head ≡ Inner → ⊥
head_inner e = cc

bound_inner : Bound ≡ Inner → ⊥
bound_inner e = cc

is_bound_then : (r : Role) → is_bound_role r ≡ true → r ≡ Bound
is_bound_then Bound e = refl
is_bound_then Head e = absurd (both_ways false refl e)
is_bound_then Inner e = absurd (both_ways false refl e)

-- neither free nor bound
head_left : (r : Role) → (r ≡ Inner → ⊥) → (r ≡ Bound → ⊥) → is_head_role r ≡ true
head_left Bound i b = absurd (b refl)
head_left Head i b = refl
head_left Inner i b = absurd (i refl)

same_or_not : (x y : ℕ) → (x ≡ y) ⊎ (x ≡ y → ⊥)
same_or_not x y = elim (cases_Bool (eqb x y)) [
  | inl t ↦ inl (eqb-true x y t)
  | inr f ↦ inr (λ e. both_ways (eqb x y) f (eq-eqb x y e))
]

some_same : (x y : ℕ) → Some x ≡ Some y → x ≡ y
some_same x y e = cc

none_some : (x : ℕ) → None ≡ Some x → ⊥
none_some x e = cc

either_left : (a b : Bool) → a ≡ true → (a || b) ≡ true
either_left true b e = refl
either_left false b e = absurd (both_ways false refl e)

either_right : (a b : Bool) → b ≡ true → (a || b) ≡ true
either_right true b e = refl
either_right false b e = e

either : (a b : Bool) → (a || b) ≡ true → (a ≡ true) ⊎ (b ≡ true)
either true b e = inl refl
either false b e = inr e

-- ---- what changed is named

-- ---- head lines of a gate

pub head_put : (old new : List Role) (x : ℕ) → role_at old x ≡ Inner → IsPut old new x Head → AreHeads old new (x ∷ [])
head_put old new x inner p = record {
  size = p.size;
  none_inner = λ y c. elim (contains_cases x y [] c) [
    | inl s ↦ subst (λ w. role_at new w ≡ Inner → ⊥) s (λ e. head_inner (sym p.here ∙ e))
    | inr none ↦ absurd (contains_nil y none)
  ];
  turned = λ y. elim (same_or_not y x) [
    | inl s ↦ inr (
      subst (λ w. Contains (x ∷ []) w) (sym s) (contains_head x []),
      subst (λ w. IsFlipped (role_at old w) (role_at new w)) (sym s) (record { was = inner; is = p.here }),
    )
    | inr ne ↦ inl (p.others y ne)
  ];
}

pub heads_more : (old mid new : List Role) (xs : List ℕ) (x : ℕ) → AreHeads old mid xs → AreHeads mid new (x ∷ []) → AreHeads old new (xs ++ x ∷ [])
heads_more old mid new xs x a b = record {
  size = b.size ∙ a.size;
  none_inner = λ y c. elim (Contains-append_cases xs (x ∷ []) y c) [
    | inl m ↦ elim (b.turned y) [
      | inl same ↦ (λ e. a.none_inner y m (sym same ∙ e))
      | inr t ↦ (λ e. head_inner (sym t.1.is ∙ e))
    ]
    | inr m ↦ b.none_inner y m
  ];
  turned = λ y. elim (b.turned y) [
    | inl same ↦ elim (a.turned y) [
      | inl before ↦ inl (same ∙ before)
      | inr t ↦ inr (Contains-append_left xs (x ∷ []) y t.0, record { was = t.1.was; is = same ∙ t.1.is })
    ]
    | inr t ↦ elim (a.turned y) [
      | inl before ↦ inr (Contains-append_right xs (x ∷ []) y t.0, record { was = sym before ∙ t.1.was; is = t.1.is })
      | inr u ↦ absurd (head_inner (sym u.1.is ∙ t.1.was))
    ]
  ];
}

pub bound_now : (n : Netlist) (z : ℕ) (old mid new : List Role) (pins : List ℕ) → IsPut old mid z Bound → AreHeads mid new pins
    → All (λ x. Reads n z x) pins → ((x : ℕ) → Reads n z x → Contains pins x) → IsBoundNow n z old new
bound_now n z old mid new pins p h are all = record {
  size = h.size ∙ p.size;
  here = elim (h.turned z) [
    | inl same ↦ same ∙ p.here
    | inr t ↦ absurd (bound_inner (sym p.here ∙ t.1.was))
  ];
  none_inner = λ x r. h.none_inner x (all x r);
  turned = λ x ne. elim (h.turned x) [
    | inl same ↦ inl (same ∙ p.others x ne)
    | inr t ↦ inr (All-contains (λ y. Reads n z y) pins x are t.0, record { was = sym (p.others x ne) ∙ t.1.was; is = t.1.is })
  ];
}

-- ---- fewer are unbound

cost_less : (o r : Role) → (o ≡ Bound → r ≡ Bound) → is_unbound r ≤ is_unbound o
cost_less Bound r h = (let e = ap is_unbound (h refl) in omega arith)
cost_less Head Bound h = omega arith
cost_less Head Head h = omega arith
cost_less Head Inner h = omega arith
cost_less Inner Bound h = omega arith
cost_less Inner Head h = omega arith
cost_less Inner Inner h = omega arith

cost_one : (o r : Role) → r ≡ Bound → (o ≡ Bound → ⊥) → is_unbound r < is_unbound o
cost_one Bound r e h = absurd (h refl)
cost_one Head r e h = (let c = ap is_unbound e in omega arith)
cost_one Inner r e h = (let c = ap is_unbound e in omega arith)

no_more : (old new : List Role) → length new ≡ length old → ((y : ℕ) → role_at old y ≡ Bound → role_at new y ≡ Bound) → unbound new ≤ unbound old
no_more [] [] e h = omega arith
no_more [] (r ∷ new) e h = absurd (omega arith)
no_more (o ∷ old) [] e h = absurd (omega arith)
no_more (o ∷ old) (r ∷ new) e h =
    let a = cost_less o r (h 0) in
    let b = no_more old new (omega arith) (λ y. h (suc y)) in
    omega arith

fewer_at : (old new : List Role) (z : ℕ) → length new ≡ length old → ((y : ℕ) → role_at old y ≡ Bound → role_at new y ≡ Bound)
    → z < length old → role_at new z ≡ Bound → (role_at old z ≡ Bound → ⊥) → unbound new < unbound old
fewer_at [] new z e h l is was = absurd (omega arith)
fewer_at (o ∷ old) [] z e h l is was = absurd (omega arith)
fewer_at (o ∷ old) (r ∷ new) zero e h l is was =
    let a = cost_one o r is was in
    let b = no_more old new (omega arith) (λ y. h (suc y)) in
    omega arith
fewer_at (o ∷ old) (r ∷ new) (suc z) e h l is was =
    let a = cost_less o r (h 0) in
    let b = fewer_at old new z (omega arith) (λ y. h (suc y)) (omega arith) is was in
    omega arith

-- what was bound still is
still : (n : Netlist) (z : ℕ) (old new : List Role) → IsBoundNow n z old new → (y : ℕ) → role_at old y ≡ Bound → role_at new y ≡ Bound
still n z old new b y e = elim (same_or_not y z) [
  | inl s ↦ subst (λ w. role_at new w ≡ Bound) (sym s) b.here
  | inr ne ↦ elim (b.turned y ne) [
    | inl same ↦ same ∙ e
    | inr t ↦ absurd (inner_bound (sym t.1.was ∙ e))
  ]
]

pub fewer_now : (n : Netlist) (z : ℕ) (old new : List Role) → IsBoundNow n z old new → z < length old → (role_at old z ≡ Bound → ⊥) → unbound new < unbound old
fewer_now n z old new b l was = fewer_at old new z b.size (still n z old new b) l b.here was

-- ---- readers and pins are signals

reader_signal : (n : Netlist) (z x : ℕ) → Reads n z x → Contains (signals n) z
reader_signal n z x r = subst (Contains (signals n)) r.2 (defined_is_signal n r.0 (contains_filter is_gate n.definitions r.0 r.1).0)

read_signal : (n : Netlist) → IsSound n → (z x : ℕ) → Reads n z x → Contains (signals n) x
read_signal n sound z x r =
    All-contains (Contains (signals n)) r.0.pins x
    (All-contains (λ (e : Definition). All (Contains (signals n)) e.pins) n.definitions r.0 sound.closed.pins (contains_filter is_gate n.definitions r.0 r.1).0) r.3

-- an edge of one set is one of each equal set
edge_of : (n : Netlist) (B C : ℕ → Type 0) (x : ℕ) → ((y : ℕ) → Contains (signals n) y → B y → C y) → ((y : ℕ) → Contains (signals n) y → C y → B y)
    → IsEdgeOf n B x → IsEdgeOf n C x
edge_of n B C x to from h = record {
  signal = h.signal;
  outside = λ c. h.outside (from x h.signal c);
  read = elim h.read [
    | inl w ↦ inl (w.0, to w.0 (reader_signal n w.0 x w.2) w.1, w.2)
    | inr o ↦ inr o
  ];
}

-- ---- the next signal

-- it is bound now
module _ (f : Fault) (n : Netlist) (holds : Holds) (z : ℕ) (old new : List Role) (next : Option ℕ)
    (way : AreRolesBut f n holds old (Some z)) (b : IsBoundNow n z old new) (r : IsOnlyReader n z next) where
  here_too : (y : ℕ) → Some z ≡ Some y → role_at new y ≡ Bound
  here_too y e = subst (λ w. role_at new w ≡ Bound) (some_same z y e) b.here

  came : (y : ℕ) → role_at new y ≡ Bound → (role_at old y ≡ Bound) ⊎ (y ≡ z)
  came y e = elim (same_or_not y z) [
    | inl s ↦ inr s
    | inr ne ↦ elim (b.turned y ne) [
      | inl same ↦ inl (sym same ∙ e)
      | inr t ↦ absurd (head_bound (sym t.1.is ∙ e))
    ]
  ]

  begun_at : (x : ℕ) → Contains (signals n) x → IsOrigin f n x ⊎ IsConstant n holds x → role_at new x ≡ Bound
  begun_at x s h = elim (way.begun x s h) [
    | inl o ↦ still n z old new b x o
    | inr e ↦ here_too x e
  ]

  closed_at : (y x : ℕ) → Reads n y x → role_at new x ≡ Bound → (role_at new y ≡ Bound) ⊎ (next ≡ Some y)
  closed_at y x rd e = elim (came x e) [
    | inl o ↦ elim (way.closed y x rd o) [
      | inl q ↦ inl (still n z old new b y q)
      | inr q ↦ inl (here_too y q)
    ]
    | inr s ↦
        let rz : Reads n y z = subst (Reads n y) s rd in
        elim (r.all y rz) [
          | inl stem ↦ inl (begun_at y (reader_signal n y z rz) (inl (inr (z, stem, rz))))
          | inr q ↦ inr q
        ]
  ]

  heads_at : (x : ℕ) → Contains (signals n) x → Decides (is_head_role (role_at new x)) (IsEdgeOf n (λ w. role_at new w ≡ Bound) x)
  heads_at x s = elim (same_or_not x z) [
    | inl q ↦
        let nb : role_at new x ≡ Bound = subst (λ w. role_at new w ≡ Bound) (sym q) b.here in (
          λ t. absurd (both_ways false refl (sym (ap is_head_role nb) ∙ t)),
          λ h. absurd (h.outside nb),
        )
    | inr ne ↦ elim (b.turned x ne) [
      | inl same ↦ (λ t. as_was same ((way.heads x s).0 (sym (ap is_head_role same) ∙ t)), λ h. to_head same h)
      | inr t ↦ (
        λ u. record { signal = s; outside = λ nb. head_bound (sym t.1.is ∙ nb); read = inl (z, b.here, t.0) },
        λ h. ap is_head_role t.1.is,
      )
    ]
  ]
    where
      as_was : role_at new x ≡ role_at old x → IsEdgeOf n (λ w. role_at old w ≡ Bound) x → IsEdgeOf n (λ w. role_at new w ≡ Bound) x
      as_was same h = record {
        signal = s;
        outside = λ nb. h.outside (sym same ∙ nb);
        read = elim h.read [
          | inl w ↦ inl (w.0, still n z old new b w.0 w.1, w.2)
          | inr o ↦ inr o
        ];
      }

      head_still : role_at new x ≡ role_at old x → IsEdgeOf n (λ w. role_at new w ≡ Bound) x → ((y : ℕ) × (role_at old y ≡ Bound) × Reads n y x) ⊎ IsObserved n x
          → is_head_role (role_at new x) ≡ true
      head_still same h rd = ap is_head_role same ∙ (way.heads x s).1 (record { signal = s; outside = λ ob. h.outside (same ∙ ob); read = rd })

      to_head : role_at new x ≡ role_at old x → IsEdgeOf n (λ w. role_at new w ≡ Bound) x → is_head_role (role_at new x) ≡ true
      to_head same h = elim h.read [
        | inl w ↦ elim (came w.0 w.1) [
          | inl o ↦ head_still same h (inl (w.0, o, w.2))
          | inr q ↦ head_left (role_at new x) (b.none_inner x (subst (λ v. Reads n v x) q w.2)) h.outside
        ]
        | inr o ↦ head_still same h (inr o)
      ]

  pub next_now : AreRolesBut f n holds new next
  next_now = record {
    size = b.size ∙ way.size;
    next_is = λ y e. (let rd = r.reads y e in (reader_signal n y z rd, bound_up f n holds y z rd (way.next_is z refl).1));
    sound = λ x s e. elim (came x e) [
      | inl o ↦ way.sound x s o
      | inr q ↦ subst (IsBound f n holds) (sym q) (way.next_is z refl).1
    ];
    begun = λ x s h. inl (begun_at x s h);
    closed = closed_at;
    heads = heads_at;
  }

-- ---- from the roles whatever the fault, to those of the fault

module _ (f : Fault) (n : Netlist) (holds : Holds) (sound : IsSound n) (base roles : List Role) (site : Option ℕ)
    (are : AreRoles nowhere n holds base) (size : length roles ≡ length base) (beside : AreBeside base roles []) (is : IsSite n f.line site) where
  as_base : (x : ℕ) → role_at roles x ≡ role_at base x
  as_base x = elim (beside x) [ inl e ↦ e | inr c ↦ absurd (contains_nil x c) ]

  no_site : (y : ℕ) → IsOrigin nowhere n y ⊎ IsConstant n holds y → IsOrigin f n y ⊎ IsConstant n holds y
  no_site y h = elim h [
    | inl o ↦ elim o [ inl s ↦ absurd s | inr k ↦ inl (inr k) ]
    | inr k ↦ inr k
  ]

  bound_for : (x : ℕ) → IsBound nowhere n holds x → IsBound f n holds x
  bound_for x h = reached_more n (λ y. IsOrigin nowhere n y ⊎ IsConstant n holds y) (λ y. IsOrigin f n y ⊎ IsConstant n holds y) x no_site h

  role_bound : (x : ℕ) → Contains (signals n) x → role_at roles x ≡ Bound → IsBound nowhere n holds x
  role_bound x s e = (are.marks.bound_are x s).0 (ap is_bound_role (sym (as_base x) ∙ e))

  bound_role_at : (x : ℕ) → Contains (signals n) x → IsBound nowhere n holds x → role_at roles x ≡ Bound
  bound_role_at x s h = as_base x ∙ is_bound_then (role_at base x) ((are.marks.bound_are x s).1 h)

  begun_first : (x : ℕ) → Contains (signals n) x → IsOrigin f n x ⊎ IsConstant n holds x → (role_at roles x ≡ Bound) ⊎ (site ≡ Some x)
  begun_first x s h = elim h [
    | inl o ↦ elim o [
      | inl l ↦ inr (is.all x s l)
      | inr k ↦ inl (bound_role_at x s (bound_here nowhere n holds x (inl (inr k))))
    ]
    | inr k ↦ inl (bound_role_at x s (bound_here nowhere n holds x (inr k)))
  ]

  pub first_roles : AreRolesBut f n holds roles site
  first_roles = record {
    size = size ∙ are.size;
    next_is = λ z e. (let w = is.is z e in (w.0, bound_here f n holds z (inl (inl w.1))));
    sound = λ x s e. bound_for x (role_bound x s e);
    begun = begun_first;
    closed = λ z x r e. inl (bound_role_at z (reader_signal n z x r) (bound_up nowhere n holds z x r (role_bound x (read_signal n sound z x r) e)));
    heads = λ x s. (
      λ t. edge_of n (IsBound nowhere n holds) (λ w. role_at roles w ≡ Bound) x bound_role_at role_bound ((are.marks.heads_are x s).0 (sym (ap is_head_role (as_base x)) ∙ t)),
      λ h. ap is_head_role (as_base x) ∙ (are.marks.heads_are x s).1 (edge_of n (λ w. role_at roles w ≡ Bound) (IsBound nowhere n holds) x role_bound bound_role_at h),
    );
  }

module _ (f : Fault) (n : Netlist) (holds : Holds) (sound : IsSound n) (roles : List Role) (way : AreRolesBut f n holds roles None) where
  role_set : ℕ → Bool
  role_set x = leb (length (signals n)) x || is_bound_role (role_at roles x)

  set_signal : (x : ℕ) → Contains (signals n) x → role_set x ≡ true → role_at roles x ≡ Bound
  unfolding role_set
  set_signal x s t = elim (either (leb (length (signals n)) x) (is_bound_role (role_at roles x)) t) [
    | inl far ↦ absurd (let p = leb-true (length (signals n)) x far in let q = signal_below n sound.formed.numbered x s in omega arith)
    | inr m ↦ is_bound_then (role_at roles x) m
  ]

  in_set : (x : ℕ) → role_at roles x ≡ Bound → role_set x ≡ true
  unfolding role_set
  in_set x e = either_right (leb (length (signals n)) x) (is_bound_role (role_at roles x)) (ap is_bound_role e)

  set_up : IsUpward n role_set
  set_up z x r t = elim (way.closed z x r (set_signal x (read_signal n sound z x r) t)) [
    | inl b ↦ in_set z b
    | inr e ↦ absurd (none_some z e)
  ]

  set_start : (x : ℕ) → IsOrigin f n x ⊎ IsConstant n holds x → role_set x ≡ true
  unfolding role_set
  set_start x h = elim (cases_lt x (length (signals n))) [
    | inl near ↦ elim (way.begun x (signal_from n sound.formed.numbered x near) h) [
      | inl b ↦ in_set x b
      | inr e ↦ absurd (none_some x e)
    ]
    | inr far ↦ either_left (leb (length (signals n)) x) (is_bound_role (role_at roles x)) (le-leb (length (signals n)) x far)
  ]

  bound_then : (x : ℕ) → Contains (signals n) x → IsBound f n holds x → role_at roles x ≡ Bound
  bound_then x s h = set_signal x s (h role_set set_up set_start)

  pub last_roles : AreRoles f n holds roles
  last_roles = record {
    size = way.size;
    marks = record {
      bound_are = λ x s. (λ t. way.sound x s (is_bound_then (role_at roles x) t), λ h. ap is_bound_role (bound_then x s h));
      heads_are = λ x s. (
        λ t. edge_of n (λ w. role_at roles w ≡ Bound) (IsBound f n holds) x way.sound bound_then ((way.heads x s).0 t),
        λ h. (way.heads x s).1 (edge_of n (IsBound f n holds) (λ w. role_at roles w ≡ Bound) x bound_then way.sound h),
      );
    };
  }

-- ---- the only reader

-- a list of one element has no other
alone : {A : Type 0} (xs : List A) (a b : A) → length xs ≡ 1 → Contains xs a → get_or xs 0 b ≡ a
alone xs a b e c = (let z : c.0 ≡ 0 = (let l = c.1 in omega arith) in get_or_any xs 0 b a (omega arith) ∙ (ap (λ j. get_or xs j a) (sym z) ∙ c.2))

-- the pin by which a gate reads a signal
pin_of : (n : Netlist) (z x : ℕ) → Reads n z x → (k : ℕ) × Contains (readers_of n x) (Pin z k)
pin_of n z x r = (
  r.3.0,
  subst (λ y. Contains (readers_of n x) (Pin y r.3.0)) r.2
      (pin_listed n r.0 r.3.0 x (contains_filter is_gate n.definitions r.0 r.1).0 r.3.1 (get_or_any r.0.pins r.3.0 0 x r.3.1 ∙ r.3.2)),
)

pub readers_not_one : (n : Netlist) (x : ℕ) → Contains (signals n) x → (length (readers_of n x) ≡ 1 → ⊥) → IsOnlyReader n x None
readers_not_one n x s h = record {
  reads = λ z e. absurd (none_some z e);
  all = λ z r.
      let c = (pin_of n z x r).1 in
      let l = c.1 in
      inl (s, (let m : length (readers_of n x) ≡ 1 → ⊥ = h in omega arith));
}

pub pin_same : (a i b j : ℕ) → Pin a i ≡ Pin b j → a ≡ b
pin_same a i b j e = cc

pub stem_pin : (y a i : ℕ) → Stem y ≡ Pin a i → ⊥
stem_pin y a i e = cc

pub out_pin : (y a i : ℕ) → Out y ≡ Pin a i → ⊥
out_pin y a i e = cc

pub no_pin_reads : (n : Netlist) (x : ℕ) (lines : List Line) (d line : Line) → lines ≡ readers_of n x → length lines ≡ 1 → get_or lines 0 d ≡ line
    → ((z k : ℕ) → line ≡ Pin z k → IsGateAt n z → ⊥) → IsOnlyReader n x None
no_pin_reads n x lines d line same one e none = record {
  reads = λ z q. absurd (none_some z q);
  all = λ z r.
      let w = pin_of n z x r in
      let c : Contains lines (Pin z w.0) = subst (λ ls. Contains ls (Pin z w.0)) (sym same) w.1 in
      absurd (none z w.0 (sym e ∙ alone lines (Pin z w.0) d one c) (r.0, r.1, r.2));
}

only_listed : (n : Netlist) (x z k : ℕ) (lines : List Line) (d : Line) → lines ≡ readers_of n x → length lines ≡ 1 → get_or lines 0 d ≡ Pin z k → Contains (readers_of n x) (Pin z k)
only_listed n x z k lines d same one e =
    let l : 0 < length lines = omega arith in
    subst (λ ls. Contains ls (Pin z k)) same (0, l, get_or_any lines 0 (Pin z k) d l ∙ e)

pub pin_below : (n : Netlist) → IsSound n → (x z k : ℕ) (lines : List Line) (d : Line) → lines ≡ readers_of n x → length lines ≡ 1 → get_or lines 0 d ≡ Pin z k → z < length (signals n)
pin_below n sound x z k lines d same one e =
    All-contains (IsPinBelow (length (signals n))) (readers_of n x) (Pin z k) (readers_below n sound.formed.numbered x) (only_listed n x z k lines d same one e)

pub one_pin_reads : (n : Netlist) → IsSound n → (x z k : ℕ) (lines : List Line) (d : Line) → lines ≡ readers_of n x → length lines ≡ 1 → get_or lines 0 d ≡ Pin z k
    → IsGateAt n z → IsOnlyReader n x (Some z)
one_pin_reads n sound x z k lines d same one e gate = record {
  reads = λ y q. subst (λ v. Reads n v x) (some_same z y q) reads_it;
  all = λ y r.
      let w = pin_of n y x r in
      let c : Contains lines (Pin y w.0) = subst (λ ls. Contains ls (Pin y w.0)) (sym same) w.1 in
      inr (ap Some (pin_same z k y w.0 (sym e ∙ alone lines (Pin y w.0) d one c)));
}
  where
    by_pin : (g : Definition) → Contains n.definitions g → IsPinOf g x (Pin z k) → Reads n z x
    by_pin g c p =
        let at : z ≡ g.id = pin_same z k g.id p.place p.is in
        let it : gate.0 ≡ g = same_definition n sound.formed.numbered gate.0 g (contains_filter is_gate n.definitions gate.0 gate.1).0 c (gate.2 ∙ at) in
        let reads : Contains g.pins x = (p.place, p.within, get_or_any g.pins p.place x 0 p.within ∙ p.pin) in
        (g, subst (Contains (gates n)) it gate.1, sym at, reads)

    reads_it : Reads n z x
    reads_it = elim (reader_cases n x (Pin z k) (only_listed n x z k lines d same one e)) [
      | inl w ↦ by_pin w.0 w.1 w.2
      | inr w ↦ absurd (out_pin x z k (sym w.0))
    ]

pub waits_once : (next : Option ℕ) → waiting next ≤ 1
waits_once None = omega arith
waits_once (Some z) = omega arith

-- ---- the pins of a gate

pub pins_read : (n : Netlist) (d : Definition) (z : ℕ) → Contains n.definitions d → d.id ≡ z → is_gate d ≡ true → (pins : List ℕ) → pins ≡ d.pins → All (λ x. Reads n z x) pins
pins_read n d z c e g pins same =
    All-from_contains (λ x. Reads n z x) pins (λ x m. (d, filter_contains is_gate n.definitions d c g, e, subst (λ ps. Contains ps x) same m))

pub pins_all : (n : Netlist) → IsSound n → (d : Definition) (z : ℕ) → Contains n.definitions d → d.id ≡ z → (pins : List ℕ) → pins ≡ d.pins
    → (x : ℕ) → Reads n z x → Contains pins x
pins_all n sound d z c e pins same x r =
    let is : r.0 ≡ d = same_definition n sound.formed.numbered r.0 d (contains_filter is_gate n.definitions r.0 r.1).0 c (r.2 ∙ sym e) in
    subst (λ ps. Contains ps x) (sym same) (subst (λ (g : Definition). Contains g.pins x) is r.3)

-- a gate reads signals
pub pins_below : (n : Netlist) → IsSound n → (z : ℕ) (pins : List ℕ) → All (λ x. Reads n z x) pins → All (λ x. x < length (signals n)) pins
pins_below n sound z pins h =
    All-from_contains (λ x. x < length (signals n)) pins (λ x m. signal_below n sound.formed.numbered x (read_signal n sound z x (All-contains (λ y. Reads n z y) pins x h m)))

-- Marks of the signals that are observed.
use Rattle.std.proofs.Common.{◌≡◌, ℕ, ◌+◌, ◌<◌, Bool, true, false, List, [], ◌∷◌, ◌++◌, length, get_or, set, take, replicate, refl, sym, ◌∙◌, ap, subst, inl, inr, arith}
use Rattle.std.specs.List.{Contains, flat_map}
use Rattle.std.proofs.lemmas.Bool.{both_ways, cases_eq, cases_lt}
use Rattle.std.proofs.lemmas.Grind.{take_at_read, flat_map-append}
use Rattle.std.proofs.lemmas.List.{get_or-set_same, get_or-set_other, length-set, get_or-replicate, get_or_past, length-replicate, append-nil}
use Rattle.std.proofs.lemmas.List.Elements.{All-push, All-weaker, Contains-push, Contains-append_left, Contains-append_cases}
use Rattle.statement.specs.Netlists.{Definition, Netlist, cells, signals}
use Rattle.netlist.proofs.Lists.{all_flat_map, contains_nil, contains_head, contains_tail}
use Rattle.redundancy_cert.specs.inner.Passing.{Marks, AreObserved}

still : (m : List Bool) (x y : ℕ) → x < length m → get_or m y false ≡ true → get_or (set m x true) y false ≡ true
still m x y l h = elim (cases_eq y x) [
  | inl e ↦ ap (λ z. get_or (set m x true) z false) e ∙ get_or-set_same m x true false l
  | inr ne ↦ get_or-set_other m x y true false ne ∙ h
]

pub marks_more : (ids ids' : List ℕ) (x : ℕ) (old m new : List Bool) → x < length m → ids' ≡ ids ++ x ∷ [] → new ≡ set m x true → Marks ids old m → Marks ids' old new
marks_more ids ids' x old m new l more e h =
    subst (λ xs. Marks xs old new) (sym more) (subst (Marks (ids ++ x ∷ []) old) (sym e) (record {
      size = length-set m x true ∙ h.size;
      marked = All-push (λ y. get_or (set m x true) y false ≡ true) ids x
          (All-weaker (λ y. get_or m y false ≡ true) (λ y. get_or (set m x true) y false ≡ true) (λ y. still m x y l) ids h.marked)
          (get_or-set_same m x true false l);
      kept = λ y k. still m x y l (h.kept y k);
      only = λ y k. elim (cases_eq y x) [
        | inl same ↦ inr (subst (Contains (ids ++ x ∷ [])) (sym same) (Contains-push ids x))
        | inr ne ↦ elim (h.only y (sym (get_or-set_other m x y true false ne) ∙ k)) [
          | inl was ↦ inl was
          | inr c ↦ inr (Contains-append_left ids (x ∷ []) y c)
        ]
      ];
    }))

pub none_marked : (old : List Bool) → Marks [] old old
none_marked old = record { size = refl; marked = λ k d l. absurd (omega arith); kept = λ y h. h; only = λ y h. inl h }

-- one output more
pub outputs_more : (outputs items : List ℕ) (k x i : ℕ) → items ≡ outputs → k < length items → x ≡ get_or items k x → i ≡ x → take (k + 1) outputs ≡ take k outputs ++ i ∷ []
outputs_more outputs items k x i e l is same =
    let here : get_or outputs k x ≡ x = ap (λ xs. get_or xs k x) (sym e) ∙ sym is in
    (take_at_read outputs k x (subst (λ xs. k < length xs) e l)).1 ∙ ap (λ y. take k outputs ++ y ∷ []) (here ∙ sym same)

single : (pins : List ℕ) (x : ℕ) → length pins ≡ 1 → x ≡ get_or pins 0 x → pins ≡ x ∷ []
single [] x l e = absurd (omega (arith, l))
single (y ∷ []) x l e = ap (λ z. z ∷ []) (sym e)
single (y ∷ z ∷ zs) x l e = absurd (omega (arith, l))

-- one cell's pin more
pub pins_more : (ds : List Definition) (k : ℕ) (d : Definition) (pins : List ℕ) (p i : ℕ) → k < length ds → get_or ds k d ≡ d → pins ≡ d.pins → length pins ≡ 1
    → p ≡ get_or pins 0 p → i ≡ p → flat_map (λ (e : Definition). e.pins) (take (k + 1) ds) ≡ flat_map (λ (e : Definition). e.pins) (take k ds) ++ i ∷ []
pins_more ds k d pins p i l is e one first same =
    let f : Definition → List ℕ = λ d. d.pins in
    ap (flat_map f) ((take_at_read ds k d l).1 ∙ ap (λ (x : Definition). take k ds ++ x ∷ []) is)
    ∙ (flat_map-append f (take k ds) (d ∷ [])
    ∙ ap (λ xs. flat_map f (take k ds) ++ xs) (append-nil d.pins ∙ (sym e ∙ (single pins p one first ∙ ap (λ y. y ∷ []) (sym same)))))

contains_flat : (ds : List Definition) (x : ℕ) → Contains (flat_map (λ (e : Definition). e.pins) ds) x → (d : Definition) × Contains ds d × Contains d.pins x
contains_flat [] x c = absurd (contains_nil x c)
contains_flat (d ∷ ds) x c = elim (Contains-append_cases d.pins (flat_map (λ (e : Definition). e.pins) ds) x c) [
  | inl here ↦ (d, contains_head d ds, here)
  | inr there ↦ let w = contains_flat ds x there in (w.0, contains_tail d w.0 ds w.1, w.2)
]

never : (count x : ℕ) (m : List Bool) → m ≡ replicate count false → get_or m x false ≡ true → ⊥
never count x m e h = both_ways (get_or m x false) (ap (λ xs. get_or xs x false) e ∙ none count x) h
  where
    none : (count x : ℕ) → get_or (replicate count false) x false ≡ false
    none count x = elim (cases_lt x count) [
      | inl l ↦ get_or-replicate count x false false l
      | inr g ↦ get_or_past (replicate count false) x false (let e = length-replicate count false in omega arith)
    ]

pub observed_from : (n : Netlist) (count : ℕ) (m0 m1 m2 : List Bool) → m0 ≡ replicate count false → count ≡ length (signals n)
    → Marks n.outputs m0 m1 → Marks (flat_map (λ (e : Definition). e.pins) (cells n)) m1 m2 → AreObserved n m2
observed_from n count m0 m1 m2 none size first second = record {
  size = second.size ∙ (first.size ∙ (ap length none ∙ (length-replicate count false ∙ size)));
  outputs = All-weaker (λ x. get_or m1 x false ≡ true) (λ x. get_or m2 x false ≡ true) second.kept n.outputs first.marked;
  pins = all_flat_map (λ x. get_or m2 x false ≡ true) (λ (e : Definition). e.pins) (cells n) second.marked;
  only = λ x h. elim (second.only x h) [
    | inl before ↦ elim (first.only x before) [ inl never_marked ↦ absurd (never count x m0 none never_marked) | inr out ↦ inl out ]
    | inr pin ↦ inr (contains_flat (cells n) x pin)
  ];
}

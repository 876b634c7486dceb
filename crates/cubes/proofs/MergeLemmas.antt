-- One more cube is merged; and what each merging is like.
use Rattle.std.proofs.Common.{◌≡◌, ◌≢◌, ◌↔◌, ℕ, ◌+◌, ◌==◌, ◌<◌, ◌≤◌, Bool, not, cond, ◌⊎◌, List, [], ◌∷◌, ◌++◌, length, get_or, set, refl, sym, ◌∙◌, ap, subst, inl, inr, arith, length-append, length-set, Some}
use Rattle.std.specs.List.{All, AllPairs, Contains}
use Rattle.std.proofs.lemmas.Bool.{cases_lt, cases_eq, eq-eqb, ne_eqb, cond-true, cond-false}
use Rattle.std.proofs.lemmas.List.{get_or_append_left, get_or-set_same, get_or-set_other, get_or_past, get_or_default}
use Rattle.std.proofs.Math.Seq.{get_or-append_seam}
use Rattle.std.proofs.lemmas.Option.{get_or_from_slice_get, slice_get-get_or, slice_get_within}
use Rattle.statement.specs.declared.kinds.Tri.TheVariants.{X}
use Rattle.statement.specs.Netlists.{Netlist}
use Rattle.statement.specs.Patterns.{Holds}
use Rattle.statement.specs.Values.{known}
use Rattle.cubes.specs.Cubes.{Cube, HasBit, Contradicts, HasBitsOf, HaveSameWidths, IsCubeOf}
use Rattle.cubes.specs.Merging.{cube_at, AreMergedBy, AreMerged}
use Rattle.cubes.specs.inner.Joining.{IsAdded, IsJoinedCube}
use Rattle.cubes.proofs.RowLemmas.{bit_left, joined_bits, joined_widths, same_widths, known_is_no_x, row_left}

-- What an addition does to the results, whether it joins one or begins one: a place past the end holds no bit.
pub record Growth (cube : Cube) (place : ℕ) (old new : List Cube) : Type 0 where
  pub grows : length old ≤ length new
  pub within : place < length new
  pub only : (q : ℕ) → q < length new → q ≢ place → q < length old
  pub others : (q : ℕ) → q < length old → q ≢ place → cube_at new q ≡ cube_at old q
  pub bits : (k : ℕ) (b : Bool) → HasBit (cube_at new place) k b ↔ (HasBit (cube_at old place) k b ⊎ HasBit cube k b)
  pub widths : HaveSameWidths (cube_at new place) cube

has_bit_along : (c d : Cube) (k : ℕ) (b : Bool) → c ≡ d → HasBit c k b → HasBit d k b
has_bit_along c d k b e h = subst (λ (x : Cube). HasBit x k b) e h

past_has_none : (cubes : List Cube) (p k : ℕ) (b : Bool) → length cubes ≤ p → HasBit (cube_at cubes p) k b → ⊥
past_has_none cubes p k b l h = known_is_no_x b (has_bit_along (cube_at cubes p) (record { inputs = []; cells = [] }) k b (get_or_past cubes p (record { inputs = []; cells = [] }) l) h)

joined_growth : (cube : Cube) (old : List Cube) (place : ℕ) (r : Cube) (new : List Cube) → place < length old → HaveSameWidths (cube_at old place) cube
    → ¬ Contradicts (cube_at old place) cube → IsJoinedCube (cube_at old place) cube r → new ≡ set old place r → Growth cube place old new
joined_growth cube old place r new l w clear j is =
    let size : length new ≡ length old = ap length is ∙ length-set old place r in
    let at : cube_at new place ≡ r = ap (λ (xs : List Cube). cube_at xs place) is ∙ get_or-set_same old place r (record { inputs = []; cells = [] }) l in
    record {
      grows = omega arith;
      within = omega arith;
      only = λ q lt ne. omega arith;
      others = λ q lt ne. ap (λ (xs : List Cube). cube_at xs q) is ∙ get_or-set_other old place q r (record { inputs = []; cells = [] }) ne;
      bits = λ k b. let iff = joined_bits (cube_at old place) cube r w j clear k b in
          ((λ h. iff.0 (has_bit_along (cube_at new place) r k b at h)), (λ h. has_bit_along r (cube_at new place) k b (sym at) (iff.1 h)));
      widths = subst (λ (x : Cube). HaveSameWidths x cube) (sym at) (same_widths r (cube_at old place) cube (joined_widths (cube_at old place) cube r j) w);
    }

begun_growth : (cube : Cube) (old : List Cube) (place : ℕ) (new : List Cube) → place ≡ length old → new ≡ old ++ (cube ∷ []) → Growth cube place old new
begun_growth cube old place new e is =
    let size : length new ≡ length old + 1 = ap length is ∙ length-append old (cube ∷ []) in
    let at : cube_at new place ≡ cube = ap (λ (xs : List Cube). cube_at xs place) is ∙ (ap (cube_at (old ++ (cube ∷ []))) e ∙ get_or-append_seam old cube [] (record { inputs = []; cells = [] })) in
    record {
      grows = omega arith;
      within = omega arith;
      only = λ q lt ne. omega arith;
      others = λ q lt ne. ap (λ (xs : List Cube). cube_at xs q) is ∙ get_or_append_left old (cube ∷ []) (record { inputs = []; cells = [] }) q lt;
      bits = λ k b. (
        (λ h. inr (has_bit_along (cube_at new place) cube k b at h)),
        (λ h. elim h [
          | inl o ↦ absurd (past_has_none old place k b (omega arith) o)
          | inr o ↦ has_bit_along cube (cube_at new place) k b (sym at) o
        ]),
      );
      widths = subst (λ (x : Cube). HaveSameWidths x cube) (sym at) (record { inputs = refl; cells = refl });
    }

growth : (cube : Cube) (old new : List Cube) → ((p : ℕ) → p < length old → HaveSameWidths (cube_at old p) cube)
    → (a : IsAdded cube old new) → Growth cube a.place old new
growth cube old new w a = elim (cases_lt a.place (length old)) [
  | inl l ↦ let j = a.joined l in joined_growth cube old a.place j.0 new l (w a.place l) (a.clear l) j.1 j.2
  | inr l ↦ let within = a.within in let e : a.place ≡ length old = omega arith in begun_growth cube old a.place new e (a.begun e)
]

-- ---- an addition, from what the code did

at_blank : (cubes : List Cube) (k : ℕ) (c : Cube) → c ≡ get_or cubes k c → k < length cubes → c ≡ cube_at cubes k
at_blank cubes k c e l = e ∙ get_or_default cubes k c (record { inputs = []; cells = [] }) l

pub contradicts_at : (cubes : List Cube) (k : ℕ) (c d : Cube) → c ≡ get_or cubes k c → k < length cubes → Contradicts c d → Contradicts (cube_at cubes k) d
contradicts_at cubes k c d e l h = subst (λ (x : Cube). Contradicts x d) (at_blank cubes k c e l) h

pub joining_adds : (cube : Cube) (old lent : List Cube) (place : ℕ) (here r : Cube) → lent ≡ old
    → (place < length lent) × (¬ Contradicts (cube_at lent place) cube) × ((p : ℕ) → p < place → Contradicts (cube_at lent p) cube)
    → here ≡ get_or old place here → IsJoinedCube here cube r → IsAdded cube old (set old place r)
joining_adds cube old lent place here r is found read j =
    let within : place < length old = subst (λ (xs : List Cube). place < length xs) is found.0 in
    record {
      place = place;
      within = omega arith;
      before = λ p l. subst (λ (xs : List Cube). Contradicts (cube_at xs p) cube) is (found.2 p l);
      clear = λ l. subst (λ (xs : List Cube). ¬ Contradicts (cube_at xs place) cube) is found.1;
      joined = λ l. (r, subst (λ (x : Cube). IsJoinedCube x cube r) (at_blank old place here read within) j, refl);
      begun = λ e. absurd (omega arith);
    }

pub beginning_adds : (cube copy : Cube) (old lent new : List Cube) → lent ≡ old → ((p : ℕ) → p < length lent → Contradicts (cube_at lent p) cube)
    → copy ≡ cube → new ≡ old ++ (copy ∷ []) → IsAdded cube old new
beginning_adds cube copy old lent new is all same more = record {
  place = length old;
  within = omega arith;
  before = λ p l. subst (λ (xs : List Cube). Contradicts (cube_at xs p) cube) is (all p (subst (λ (xs : List Cube). p < length xs) (sym is) l));
  clear = λ l. absurd (omega arith);
  joined = λ l. absurd (omega arith);
  begun = λ e. more ∙ ap (λ (x : Cube). old ++ (x ∷ [])) same;
}

below_cases : (j m : ℕ) → j < m + 1 → (j < m) ⊎ (j ≡ m)
below_cases j m l = elim (cases_lt j m) [ inl h ↦ inl h | inr h ↦ inr (omega arith) ]

-- cube m goes to p, and the others where they went
with_place : (ℕ → ℕ) → ℕ → ℕ → ℕ → ℕ
with_place place m p j = cond (j == m) p (place j)

with_place_old : (place : ℕ → ℕ) (m p j : ℕ) → j < m → with_place place m p j ≡ place j
unfolding with_place
with_place_old place m p j l = cond-false (j == m) p (place j) (ne_eqb j m (λ e. omega arith))

with_place_new : (place : ℕ → ℕ) (m p j : ℕ) → j ≡ m → with_place place m p j ≡ p
unfolding with_place
with_place_new place m p j e = cond-true (j == m) p (place j) (eq-eqb j m e)

pub none_merged : (cubes : List Cube) → AreMerged cubes [] 0
none_merged cubes = (
  (λ j. 0),
  record {
    clear = λ j i l. absurd (omega arith);
    least = λ j p l. absurd (omega arith);
    placed = λ j l. absurd (omega arith);
    used = λ p l. absurd (omega arith);
    widths = λ j l. absurd (omega arith);
    bits = λ p k b l. absurd (omega arith);
  },
)

module _ (cubes old : List Cube) (m : ℕ) (place : ℕ → ℕ) (h : AreMergedBy place cubes old m) (less : m < length cubes) (same : AllPairs HaveSameWidths cubes) where
  pub widths_of_next : (p : ℕ) → p < length old → HaveSameWidths (cube_at old p) (cube_at cubes m)
  widths_of_next p l =
      let u = h.used p l in
      let w : HaveSameWidths (cube_at old (place u.0)) (cube_at cubes u.0) = h.widths u.0 u.1 in
      same_widths (cube_at old p) (cube_at cubes u.0) (cube_at cubes m)
      (subst (λ q. HaveSameWidths (cube_at old q) (cube_at cubes u.0)) u.2 w)
      (same u.0 m (record { inputs = []; cells = [] }) u.1 less)

  module _ (new : List Cube) (a : IsAdded (cube_at cubes m) old new) where
    next_place : ℕ → ℕ
    next_place = with_place place m a.place

    before : (j : ℕ) → j < m → next_place j ≡ place j
    unfolding next_place
    before j l = with_place_old place m a.place j l

    here : (j : ℕ) → j ≡ m → next_place j ≡ a.place
    unfolding next_place
    here j e = with_place_new place m a.place j e

    g : Growth (cube_at cubes m) a.place old new
    g = growth (cube_at cubes m) old new widths_of_next a

    -- a cube that has gone to the place doesn't contradict this one
    clear_here : (i : ℕ) → i < m → place i ≡ a.place → ¬ Contradicts (cube_at cubes i) (cube_at cubes m)
    clear_here i l e c =
        let within = h.placed i l in
        let at : a.place < length old = omega arith in
        let has : HasBit (cube_at old a.place) c.0 c.1 = (h.bits a.place c.0 c.1 at).1 (i, l, e, c.2) in
        a.clear at (c.0, c.1, has, c.3)

    least_here : (p : ℕ) → p < a.place → (i : ℕ) × (i < m) × (next_place i ≡ p) × Contradicts (cube_at cubes i) (cube_at cubes m)
    least_here p l =
        let c = a.before p l in
        let within = a.within in
        let s = (h.bits p c.0 c.1 (omega arith)).0 c.2 in
        (s.0, s.1, before s.0 s.1 ∙ s.2, (c.0, c.1, s.3, c.3))

    later : (p j : ℕ) → j < m → place j ≡ p → next_place j ≡ p
    later p j l e = before j l ∙ e

    new_used : (p : ℕ) → p < length new → (j : ℕ) × (j < m + 1) × (next_place j ≡ p)
    new_used p l = elim (cases_eq p a.place) [
      | inl e ↦ (m, omega arith, here m refl ∙ sym e)
      | inr ne ↦ let u = h.used p (g.only p l ne) in (u.0, omega (arith, u.1), later p u.0 u.1 u.2)
    ]

    new_widths : (j : ℕ) → j < m + 1 → HaveSameWidths (cube_at new (next_place j)) (cube_at cubes j)
    new_widths j l = elim (below_cases j m l) [
      | inl lt ↦
          let w : HaveSameWidths (cube_at old (place j)) (cube_at cubes j) = h.widths j lt in
          subst (λ q. HaveSameWidths (cube_at new q) (cube_at cubes j)) (sym (before j lt))
          (elim (cases_eq (place j) a.place) [
            | inl e ↦
                subst (λ q. HaveSameWidths (cube_at new q) (cube_at cubes j)) (sym e)
                (same_widths (cube_at new a.place) (cube_at cubes m) (cube_at cubes j) g.widths
                (let p = same j m (record { inputs = []; cells = [] }) lt less in record { inputs = sym p.inputs; cells = sym p.cells }))
            | inr ne ↦ subst (λ (x : Cube). HaveSameWidths x (cube_at cubes j)) (sym (g.others (place j) (h.placed j lt) ne)) w
          ])
      | inr e ↦
          subst (λ q. HaveSameWidths (cube_at new q) (cube_at cubes j)) (sym (here j e))
          (subst (λ i. HaveSameWidths (cube_at new a.place) (cube_at cubes i)) (sym e) g.widths)
    ]

    new_bits : (p k : ℕ) (b : Bool) → p < length new
        → HasBit (cube_at new p) k b ↔ ((j : ℕ) × (j < m + 1) × (next_place j ≡ p) × HasBit (cube_at cubes j) k b)
    new_bits p k b l = elim (cases_eq p a.place) [
      | inl e ↦ (
        λ bit. elim ((g.bits k b).0 (subst (λ q. HasBit (cube_at new q) k b) e bit)) [
          | inl o ↦ elim (cases_lt a.place (length old)) [
            | inl lt ↦ let s = (h.bits a.place k b lt).0 o in (s.0, omega (arith, s.1), later a.place s.0 s.1 s.2 ∙ sym e, s.3)
            | inr ge ↦ absurd (past_has_none old a.place k b ge o)
          ]
          | inr o ↦ (m, omega arith, here m refl ∙ sym e, o)
        ],
        λ s. subst (λ q. HasBit (cube_at new q) k b) (sym e) ((g.bits k b).1 (elim (below_cases s.0 m s.1) [
          | inl lt ↦
              let there : place s.0 ≡ a.place = sym (before s.0 lt) ∙ (s.2 ∙ e) in
              let within = h.placed s.0 lt in
              inl ((h.bits a.place k b (omega arith)).1 (s.0, lt, there, s.3))
          | inr is ↦ inr (subst (λ i. HasBit (cube_at cubes i) k b) is s.3)
        ])),
      )
      | inr ne ↦
          let lt = g.only p l ne in
          let at = g.others p lt ne in (
            λ bit. let s = (h.bits p k b lt).0 (has_bit_along (cube_at new p) (cube_at old p) k b at bit) in (s.0, omega (arith, s.1), later p s.0 s.1 s.2, s.3),
            λ s. has_bit_along (cube_at old p) (cube_at new p) k b (sym at) ((h.bits p k b lt).1 (elim (below_cases s.0 m s.1) [
              | inl less' ↦ (s.0, less', sym (before s.0 less') ∙ s.2, s.3)
              | inr is ↦ absurd (ne (sym s.2 ∙ here s.0 is))
            ])),
          )
    ]

    new_clear : (j i : ℕ) → j < m + 1 → i < j → next_place i ≡ next_place j → ¬ Contradicts (cube_at cubes i) (cube_at cubes j)
    new_clear j i l lt e c = elim (below_cases j m l) [
      | inl less' ↦ h.clear j i less' lt (sym (before i (omega arith)) ∙ (e ∙ before j less')) c
      | inr is ↦
          let under : i < m = omega arith in
          clear_here i under (sym (before i under) ∙ (e ∙ here j is)) (subst (λ q. Contradicts (cube_at cubes i) (cube_at cubes q)) is c)
    ]

    new_least : (j p : ℕ) → j < m + 1 → p < next_place j → (i : ℕ) × (i < j) × (next_place i ≡ p) × Contradicts (cube_at cubes i) (cube_at cubes j)
    new_least j p l lt = elim (below_cases j m l) [
      | inl less' ↦
          let s = h.least j p less' (subst (λ q. p < q) (before j less') lt) in
          (s.0, s.1, later p s.0 (omega (arith, s.1)) s.2, s.3)
      | inr is ↦
          let s = least_here p (subst (λ q. p < q) (here j is) lt) in
          (s.0, omega (arith, s.1), s.2, subst (λ q. Contradicts (cube_at cubes s.0) (cube_at cubes q)) (sym is) s.3)
    ]

    new_placed : (j : ℕ) → j < m + 1 → next_place j < length new
    new_placed j l = elim (below_cases j m l) [
      | inl lt ↦ let within = h.placed j lt in let grows = g.grows in let at = before j lt in omega arith
      | inr is ↦ let within = g.within in let at = here j is in omega arith
    ]

    pub one_more_merged : AreMerged cubes new (m + 1)
    one_more_merged = (
      next_place,
      record {
        clear = new_clear;
        least = new_least;
        placed = new_placed;
        used = new_used;
        widths = new_widths;
        bits = new_bits;
      },
    )

pub next_fits : (cubes old : List Cube) (m : ℕ) (cube : Cube) → AreMerged cubes old m → cube ≡ get_or cubes m cube → m < length cubes
    → AllPairs HaveSameWidths cubes → All (λ (r : Cube). HaveSameWidths r cube) old
next_fits cubes old m cube h read less same k d l =
    subst (λ (r : Cube). HaveSameWidths r cube) (get_or_default old k (record { inputs = []; cells = [] }) d l)
    (subst (λ (x : Cube). HaveSameWidths (cube_at old k) x) (sym (at_blank cubes m cube read less)) (widths_of_next cubes old m h.0 h.1 less same k l))

pub merged_more : (cubes old new : List Cube) (m : ℕ) (cube : Cube) → AreMerged cubes old m → cube ≡ get_or cubes m cube → m < length cubes
    → AllPairs HaveSameWidths cubes → IsAdded cube old new → AreMerged cubes new (m + 1)
merged_more cubes old new m cube h read less same a =
    one_more_merged cubes old m h.0 h.1 less same new (subst (λ (x : Cube). IsAdded x old new) (at_blank cubes m cube read less) a)

pub one_more : (cube : Cube) (old new : List Cube) → IsAdded cube old new → length new ≤ length old + 1
one_more cube old new a = elim (cases_lt a.place (length old)) [
  | inl l ↦ let j = a.joined l in let size : length new ≡ length old = ap length j.2 ∙ length-set old a.place j.0 in omega arith
  | inr l ↦
      let within = a.within in
      let size : length new ≡ length old + 1 = ap length (a.begun (omega arith)) ∙ length-append old (cube ∷ []) in
      omega arith
]

-- ---- what each merging is like

module _ (cubes results : List Cube) (place : ℕ → ℕ) (h : AreMergedBy place cubes results (length cubes)) where
  pub each_kept : (c : Cube) → Contains cubes c → (r : Cube) × Contains results r × HaveSameWidths r c × HasBitsOf r c
  each_kept c at =
      let within = h.placed at.0 at.1 in
      let r : Cube = cube_at results (place at.0) in
      let is : cube_at cubes at.0 ≡ c = get_or_default cubes at.0 (record { inputs = []; cells = [] }) c at.1 ∙ at.2 in (
        r,
        (place at.0, within, get_or_default results (place at.0) r (record { inputs = []; cells = [] }) within),
        subst (λ (x : Cube). HaveSameWidths r x) is (h.widths at.0 at.1),
        λ k b bit. (h.bits (place at.0) k b within).1 (at.0, at.1, refl, has_bit_along c (cube_at cubes at.0) k b (sym is) bit),
      )

  pub all_apart : AllPairs Contradicts results
  all_apart p q d less within =
      let u = h.used q within in
      let s = h.least u.0 p u.1 (subst (λ x. p < x) (sym u.2) less) in
      let k = s.3.0 in
      let b = s.3.1 in
      let low : p < length results = omega arith in
      let first : HasBit (cube_at results p) k b = (h.bits p k b low).1 (s.0, omega (arith, s.1, u.1), s.2, s.3.2) in
      let second : HasBit (cube_at results q) k (not b) = (h.bits q k (not b) within).1 (u.0, u.1, u.2, s.3.3) in (
        k,
        b,
        has_bit_along (cube_at results p) (get_or results p d) k b (get_or_default results p (record { inputs = []; cells = [] }) d low) first,
        has_bit_along (cube_at results q) (get_or results q d) k (not b) (get_or_default results q (record { inputs = []; cells = [] }) d within) second,
      )

  -- merged cubes of a netlist are cubes of it
  module _ (n : Netlist) (holds : Holds) (fit : All (IsCubeOf n holds) cubes) where
    fits_at : (p : ℕ) → p < length results → IsCubeOf n holds (cube_at results p)
    fits_at p l =
        let u = h.used p l in
        let c : IsCubeOf n holds (cube_at cubes u.0) = fit u.0 (record { inputs = []; cells = [] }) u.1 in
        let w : HaveSameWidths (cube_at results (place u.0)) (cube_at cubes u.0) = h.widths u.0 u.1 in
        let same : HaveSameWidths (cube_at results p) (cube_at cubes u.0) = subst (λ q. HaveSameWidths (cube_at results q) (cube_at cubes u.0)) u.2 w in
        record {
          inputs = same.inputs ∙ c.inputs;
          cells = same.cells ∙ c.cells;
          held = λ k b at.
              let bit = c.held k b at in
              let has : HasBit (cube_at cubes u.0) k b = bit_left (cube_at cubes u.0).inputs (cube_at cubes u.0).cells k b (get_or_from_slice_get (cube_at cubes u.0).inputs k (known b) X bit) in
              let there : HasBit (cube_at results p) k b = (h.bits p k b l).1 (u.0, u.1, u.2, has) in
              let here : k < length (cube_at cubes u.0).inputs = slice_get_within (cube_at cubes u.0).inputs k (known b) bit in
              let wide = same.inputs in
              let within : k < length (cube_at results p).inputs = omega arith in
              slice_get-get_or (cube_at results p).inputs k X within
              ∙ ap Some (sym (row_left (cube_at results p).inputs (cube_at results p).cells k within) ∙ there);
        }

    pub all_fit : All (IsCubeOf n holds) results
    all_fit p d l = subst (IsCubeOf n holds) (get_or_default results p (record { inputs = []; cells = [] }) d l) (fits_at p l)

at_end : (cubes results : List Cube) (m : ℕ) → AreMerged cubes results m → m ≡ length cubes → AreMerged cubes results (length cubes)
at_end cubes results m h e = subst (λ n. AreMerged cubes results n) e h

pub kept_at_end : (cubes results : List Cube) (m : ℕ) → AreMerged cubes results m → m ≡ length cubes
    → (c : Cube) → Contains cubes c → (r : Cube) × Contains results r × HasBitsOf r c
kept_at_end cubes results m h e c at =
    let w = at_end cubes results m h e in
    let r = each_kept cubes results w.0 w.1 c at in
    (r.0, r.1, r.3)

pub apart_at_end : (cubes results : List Cube) (m : ℕ) → AreMerged cubes results m → m ≡ length cubes → AllPairs Contradicts results
apart_at_end cubes results m h e = let w = at_end cubes results m h e in all_apart cubes results w.0 w.1

pub fit_at_end : (cubes results : List Cube) (m : ℕ) → AreMerged cubes results m → m ≡ length cubes
    → (n : Netlist) (holds : Holds) → All (IsCubeOf n holds) cubes → All (IsCubeOf n holds) results
fit_at_end cubes results m h e = let w = at_end cubes results m h e in all_fit cubes results w.0 w.1

-- cubes of one netlist have the same widths
pub netlist_widths : (n : Netlist) (holds : Holds) (cubes : List Cube) → All (IsCubeOf n holds) cubes → AllPairs HaveSameWidths cubes
netlist_widths n holds cubes all i j d a b =
    let x = all i d (omega arith) in
    let y = all j d b in
    record { inputs = x.inputs ∙ sym y.inputs; cells = x.cells ∙ sym y.cells }

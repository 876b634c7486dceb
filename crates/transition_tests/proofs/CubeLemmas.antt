-- The cubes of tests, and patterns that have their bits.
use Rattle.std.proofs.Common.{take, append-nil, ◌≡◌, ℕ, zero, suc, ◌+◌, ◌-◌, ◌<◌, ◌≤◌, ◌^◌, inl, inr, Bool, true, false, List, [], ◌∷◌, ◌++◌, length, length-append, get_or, Option, Some, None, refl, sym, ◌∙◌, ap, subst, arith}
use Rattle.std.specs.List.{All, AllZip, Contains, slice_get}
use Rattle.std.proofs.lemmas.Bool.{cases_lt}
use Rattle.std.proofs.lemmas.Grind.{flat_map-append}
use Rattle.std.proofs.lemmas.List.{get_or-append_right, get_or_past, length-map, take_more}
use Rattle.std.proofs.lemmas.List.Elements.{All-nil, All-cons, All-append, Contains-append_right}
use Rattle.statement.specs.declared.kinds.Tri.{Tri}
use Rattle.statement.specs.declared.kinds.Tri.TheVariants.{Zero, One, X}
use Rattle.statement.specs.declared.lines.Fault.{Fault}
use Rattle.statement.specs.Patterns.{Holds, Pattern}
use Rattle.netlist.specs.Conditions.{IsSound}
use Rattle.netlist.specs.Designs.{IsDesign}
use Rattle.statement.specs.Netlists.{Netlist, cells}
use Rattle.statement.specs.Values.{known, allows}
use Rattle.netlist.specs.ThreeValues.{AreAllowed}
use Rattle.netlist.proofs.Lists.{contains_head, contains_tail}
use Rattle.cubes.specs.Cubes.{Cube, AgreesWith, HasBitsOf, HaveSameWidths, IsCubeOf, IsPatternOf}
use Rattle.cubes.proofs.RowLemmas.{bit_left, bit_right, known_is_no_x, row_left}
use Rattle.statement.specs.Faults.{universe_of}
use Rattle.fault_universe.specs.Laws.{most_design_faults}
use Rattle.fault_universe.proofs.Sizes.{fault_bound}
use Rattle.evidence.specs.declared.engine.Found.{Found}
use Rattle.evidence.specs.declared.engine.Found.TheVariants.{Test, Closed, Refuted, Partial}
use Rattle.transition_frames.specs.Frames.{frames_of, in_first}
use Rattle.transition_frames.proofs.Framed.{cells_framed}
use Rattle.transition.specs.Searches.{IsFoundIfLeft}
use Rattle.transition_tests.specs.Making.{cube_of, cubes_in}
use Rattle.transition_tests.specs.inner.Cubes.{HasAgreeing}

-- ---- the cubes of answers

-- a cube of the two frames is one of the netlist
pub frame_cube : (n : Netlist) (holds : Holds) (f : Fault) (c : Cube) → IsCubeOf (frames_of n f) holds c → IsCubeOf n holds c
frame_cube n holds f c is = record {
  inputs = is.inputs;
  cells = is.cells ∙ (ap length (cells_framed n f) ∙ length-map (cells n) (in_first n f));
  held = is.held;
}

module _ (n : Netlist) (holds : Holds) (limit : ℕ) (refutes : Bool) where
  one_cube : (f : Fault) (left : Bool) (x : Option Found) (xs : List (Option Found)) → IsFoundIfLeft n holds limit refutes f left x → All (IsCubeOf n holds) (cubes_in xs)
      → All (IsCubeOf n holds) (cubes_in (x ∷ xs))
  one_cube f left None xs is rest = rest
  one_cube f false (Some x) xs is rest = absurd (let e : Some x ≡ None = is in cc)
  one_cube f true (Some (Test c o)) xs is rest = All-cons (IsCubeOf n holds) c (cubes_in xs) (frame_cube n holds f c is.evidence.is_cube) rest
  one_cube f true (Some (Closed t)) xs is rest = rest
  one_cube f true (Some (Refuted s)) xs is rest = rest
  one_cube f true (Some (Partial t)) xs is rest = rest

  -- the cubes of what was found are cubes of the netlist
  pub all_cubes : (faults : List Fault) (left : ℕ → Bool) (found : List (Option Found)) → length found ≡ length faults
      → ((k : ℕ) (f : Fault) → slice_get faults k ≡ Some f → IsFoundIfLeft n holds limit refutes f (left k) (get_or found k None)) → All (IsCubeOf n holds) (cubes_in found)
  all_cubes [] left [] size each = All-nil (IsCubeOf n holds)
  all_cubes [] left (x ∷ xs) size each = absurd (omega arith)
  all_cubes (f ∷ fs) left [] size each = absurd (omega arith)
  all_cubes (f ∷ fs) left (x ∷ xs) size each =
      one_cube f (left zero) x xs (each zero f refl) (all_cubes fs (λ k. left (suc k)) xs (omega arith) (λ k g at. each (suc k) g at))

pub cubes_more : (found : List (Option Found)) (i : ℕ) (x : Option Found) (old new : List Cube) → i < length found → x ≡ get_or found i x → old ≡ cubes_in (take i found)
    → new ≡ old ++ cube_of x → new ≡ cubes_in (take (i + 1) found)
cubes_more found i x old new lt at before added =
    let next : take (i + 1) found ≡ take i found ++ x ∷ [] = take_more found i x lt ∙ ap (λ (o : Option Found). take i found ++ o ∷ []) (sym at) in
    added ∙ (ap (λ (cs : List Cube). cs ++ cube_of x) before ∙ (ap (λ (cs : List Cube). cubes_in (take i found) ++ cs) (sym (append-nil (cube_of x)))
    ∙ (sym (flat_map-append cube_of (take i found) (x ∷ [])) ∙ ap cubes_in (sym next))))

pub few_cubes : (found : List (Option Found)) → length (cubes_in found) ≤ length found
few_cubes [] = omega arith
few_cubes (None ∷ xs) = let rest = few_cubes xs in omega arith
few_cubes (Some (Test c o) ∷ xs) = let rest = few_cubes xs in omega arith
few_cubes (Some (Closed t) ∷ xs) = let rest = few_cubes xs in omega arith
few_cubes (Some (Refuted s) ∷ xs) = let rest = few_cubes xs in omega arith
few_cubes (Some (Partial t) ∷ xs) = let rest = few_cubes xs in omega arith

pub few_faults : (n : Netlist) → IsSound n → IsDesign n → length (universe_of n) ≤ most_design_faults
few_faults n sound design = let b = fault_bound n sound in let s = design.small in omega arith

-- behind the batch patterns are no more than cubes, and so than faults
pub few_patterns : (faults : List Fault) (found : List (Option Found)) (batch patterns : List Pattern) → length found ≡ length faults → length faults ≤ most_design_faults
    → length batch ≤ length faults + 64 → length patterns ≤ length batch + length (cubes_in found) → length patterns + 64 ≤ 2 ^ 32
few_patterns faults found batch patterns size few small fewer =
    let count = few_cubes found in
    omega arith

-- the cubes of the other answers stand among all
pub other_cube : (x : Option Found) (xs : List (Option Found)) (c : Cube) → Contains (cubes_in xs) c → Contains (cubes_in (x ∷ xs)) c
other_cube None xs c is = is
other_cube (Some (Test d o)) xs c is = contains_tail d c (cubes_in xs) is
other_cube (Some (Closed t)) xs c is = is
other_cube (Some (Refuted s)) xs c is = is
other_cube (Some (Partial t)) xs c is = is

-- ---- bits of a part

allowed_one : (c r : Tri) (b : Bool) → ((bit : Bool) → c ≡ known bit → r ≡ known bit) → allows r b ≡ true → allows c b ≡ true
allowed_one X r b part h = refl
allowed_one Zero r b part h = let same : r ≡ Zero = part false refl in subst (λ (v : Tri). allows v b ≡ true) same h
allowed_one One r b part h = let same : r ≡ One = part true refl in subst (λ (v : Tri). allows v b ≡ true) same h

allowed_part : (cs rs : List Tri) (bits : List Bool) → length rs ≡ length cs → ((k : ℕ) (bit : Bool) → get_or cs k X ≡ known bit → get_or rs k X ≡ known bit)
    → AreAllowed rs bits → AreAllowed cs bits
allowed_part [] [] bits size part h = h
allowed_part [] (r ∷ rs) bits size part h = absurd (omega arith)
allowed_part (c ∷ cs) [] bits size part h = absurd (omega arith)
allowed_part (c ∷ cs) (r ∷ rs) [] size part h = elim h [ ]
allowed_part (c ∷ cs) (r ∷ rs) (b ∷ bits) size part h =
    (allowed_one c r b (λ bit e. part zero bit e) h.0, allowed_part cs rs bits (omega arith) (λ k bit e. part (suc k) bit e) h.1)

bit_within : (xs : List Tri) (k : ℕ) (b : Bool) → get_or xs k X ≡ known b → k < length xs
bit_within xs k b e = elim (cases_lt k (length xs)) [ inl lt ↦ lt | inr past ↦ absurd (known_is_no_x b (sym (get_or_past xs k X past) ∙ e)) ]

behind_all : (xs ys : List Tri) (k : ℕ) → get_or (xs ++ ys) (length xs + k) X ≡ get_or ys k X
behind_all xs ys k =
    let le : length xs ≤ length xs + k = omega arith in
    let same : length xs + k - length xs ≡ k = omega arith in
    get_or-append_right xs ys (length xs) (length xs + k) X refl le ∙ ap (λ i. get_or ys i X) same

-- a pattern with the bits of a cube has those of each cube whose bits that one has
pub part_agrees : (p : Pattern) (r c : Cube) → HaveSameWidths r c → HasBitsOf r c → AgreesWith p r → AgreesWith p c
part_agrees p r c same has agrees = record {
  inputs = allowed_part c.inputs r.inputs p.inputs same.inputs
      (λ k b e.
      let size = same.inputs in
      let within = bit_within c.inputs k b e in
      sym (row_left r.inputs r.cells k (omega arith)) ∙ has k b (bit_left c.inputs c.cells k b e))
      agrees.inputs;
  cells = allowed_part c.cells r.cells p.cells same.cells
      (λ k b e.
      sym (behind_all r.inputs r.cells k)
      ∙ (ap (λ (i : ℕ). get_or (r.inputs ++ r.cells) (i + k) X) same.inputs ∙ has (length c.inputs + k) b (bit_right c.inputs c.cells k b e)))
      agrees.cells;
}

-- ---- each cube has a pattern

paired_at : {A B : Type 0} (R : A → B → Type 0) (xs : List A) (ys : List B) (k : ℕ) (y : B) → AllZip R xs ys → k < length ys → get_or ys k y ≡ y
    → (x : A) × Contains xs x × R x y
paired_at R [] [] k y z lt e = absurd (omega arith)
paired_at R [] (b ∷ ys) k y z lt e = elim z [ ]
paired_at R (a ∷ xs) [] k y z lt e = elim z [ ]
paired_at R (a ∷ xs) (b ∷ ys) zero y z lt e = (a, contains_head a xs, subst (λ w. R a w) e z.0)
paired_at R (a ∷ xs) (b ∷ ys) (suc k) y z lt e = let r = paired_at R xs ys k y z.1 (omega arith) e in (r.0, contains_tail a r.0 xs r.1, r.2)

pub agreeing : (cubes merged : List Cube) (patterns : List Pattern) → ((c : Cube) → Contains cubes c → (r : Cube) × Contains merged r × HaveSameWidths r c × HasBitsOf r c)
    → AllZip AgreesWith patterns merged → (c : Cube) → Contains cubes c → HasAgreeing patterns c
agreeing cubes merged patterns kept agree c is =
    let r = kept c is in
    let p = paired_at AgreesWith patterns merged r.1.0 r.0 agree r.1.1 r.1.2 in
    (p.0, p.1, part_agrees p.0 r.0 c r.2 r.3 p.2)

-- ---- behind a batch

pub all_behind : (n : Netlist) (holds : Holds) (batch filled patterns : List Pattern) → All (IsPatternOf n holds) batch → All (IsPatternOf n holds) filled
    → patterns ≡ batch ++ filled → All (IsPatternOf n holds) patterns
all_behind n holds batch filled patterns obey obeys is =
    subst (λ (ps : List Pattern). All (IsPatternOf n holds) ps) (sym is) (All-append (IsPatternOf n holds) batch filled obey obeys)

pub agreeing_behind : (batch filled patterns : List Pattern) (c : Cube) → patterns ≡ batch ++ filled → HasAgreeing filled c → HasAgreeing patterns c
agreeing_behind batch filled patterns c is has =
    (has.0, subst (λ (ps : List Pattern). Contains ps has.0) (sym is) (Contains-append_right batch filled has.0 has.1), has.2)

pub behind_count : (batch filled patterns : List Pattern) (k : ℕ) → patterns ≡ batch ++ filled → length filled ≤ k → length patterns ≤ length batch + k
behind_count batch filled patterns k is few = omega (arith, ap length is, length-append batch filled, few)

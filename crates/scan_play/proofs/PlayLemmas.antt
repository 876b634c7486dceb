-- What the player has found so far, and what it answers in the end.
use Rattle.std.proofs.Common.{◌≡◌, ℕ, suc, zero, ◌+◌, ◌<◌, ◌⊎◌, Bool, true, false, not, List, [], ◌∷◌, ◌++◌, length, get_or, drop, replicate, Option, Some, None, slice_get, refl, sym, ◌∙◌, ap, subst, inl, inr, arith, length-append}
use Rattle.std.specs.List.{All, AllZip}
use Rattle.std.specs.Option.{MatchOption}
use Rattle.std.proofs.lemmas.List.{length-map, length-replicate, append_assoc, append-nil, drop_more}
use Rattle.std.proofs.lemmas.List.Elements.{All-head, All-tail}
use Rattle.statement.specs.declared.kinds.Tri.{Tri}
use Rattle.statement.specs.declared.kinds.Tri.TheVariants.{Zero, One, X}
use Rattle.statement.specs.declared.lines.Fault.{Fault}
use Rattle.statement.specs.Netlists.{Netlist, cells}
use Rattle.netlist.specs.Conditions.{IsSound}
use Rattle.statement.specs.Values.{known}
use Rattle.tri.specs.Settled.{tri_table}
use Rattle.scan_play.specs.declared.played.Played.{Played}
use Rattle.scan_play.specs.declared.played.Played.TheVariants.{Passes, Fails, Unknown}
use Rattle.statement.specs.Runs.{Cycle, Runs, strobe_at, shown_at}
use Rattle.scan_play.specs.Cycles.{IsCycleOf}
use Rattle.scan_play.specs.Playing.{IsStrobeMet, AreMetBefore, IsPlayed, PlaysAs}
use Rattle.scan_play.specs.Judging.{IsJudged, Judging, judged, judged_in, played_or_else}
use Rattle.scan_play.specs.inner.Unmet.{unmet_by, or_passes}
use Rattle.scan_play.specs.inner.Steps.{IsStep, PlaysOn}
use Rattle.scan_play.proofs.RunLaws.{some_run}

-- ---- a row

pub judged_more : (J : Judging) (c o : ℕ) (ss vs : List Tri) (s v : Tri) → o < length ss → length ss ≡ length vs → s ≡ get_or ss o s → v ≡ get_or vs o v
    → judged_in J c o (drop o ss) (drop o vs) ≡ played_or_else (J c o s v) (judged_in J c (o + 1) (drop (o + 1) ss) (drop (o + 1) vs))
judged_more J c o ss vs s v l e is is' =
    let one : drop o ss ≡ s ∷ drop (o + 1) ss = drop_more ss o s l ∙ ap (λ x. x ∷ drop (o + 1) ss) (sym is) in
    let two : drop o vs ≡ v ∷ drop (o + 1) vs = drop_more vs o v (omega (arith, l, e)) ∙ ap (λ x. x ∷ drop (o + 1) vs) (sym is') in
    ap (λ x. judged_in J c o x (drop o vs)) one ∙ ap (λ x. judged_in J c o (s ∷ drop (o + 1) ss) x) two

-- ---- cycles, one behind the other

module _ (J : Judging) (f : Option Fault) (n : Netlist) where
  pub plays_nothing : (first : ℕ) (state : List Tri) → length state ≡ length (cells n) → PlaysOn J f n [] first state state None
  plays_nothing first state size = record {
    size = size;
    outcome = λ rest shown run. (shown, run, ap (λ k. judged J k rest shown) (omega arith));
  }

  or_some : (p : Played) (x y : Option Played) → x ≡ Some p → played_or_else x y ≡ Some p
  or_some p x y e = ap (λ z. played_or_else z y) e

  step_outcome : (cycle : Cycle) (number : ℕ) (state after : List Tri) (found : Option Played) → IsStep J f n state after cycle number found
      → (rest : List Cycle) (shown : List (List Tri)) → Runs tri_table f n state (cycle ∷ rest) shown
      → MatchOption found
      ((later : List (List Tri)) × Runs tri_table f n after rest later × (judged J number (cycle ∷ rest) shown ≡ judged J (number + 1) rest later))
      (λ p. judged J number (cycle ∷ rest) shown ≡ Some p)
  step_outcome cycle number state after found step rest [] run = absurd run
  step_outcome cycle number state after None step rest (row ∷ rows) run =
      let t = step.outcome row run.0 run.1 in
      (rows, subst (λ (s : List Tri). Runs tri_table f n s rest rows) t.1 run.2, ap (λ x. played_or_else x (judged J (number + 1) rest rows)) t.0)
  step_outcome cycle number state after (Some p) step rest (row ∷ rows) run =
      let t = step.outcome row run.0 run.1 in
      or_some p (judged_in J number 0 cycle.strobe row) (judged J (number + 1) rest rows) t.0

  pub plays_step : (cycle : Cycle) (number : ℕ) (state after : List Tri) (found : Option Played) → IsStep J f n state after cycle number found
      → PlaysOn J f n (cycle ∷ []) number state after found
  plays_step cycle number state after found step = record { size = step.size; outcome = λ rest shown run. step_outcome cycle number state after found step rest shown run }

  then_outcome : (cs ds : List Cycle) (first : ℕ) (state middle after : List Tri) (found : Option Played)
      → PlaysOn J f n cs first state middle None → PlaysOn J f n ds (first + length cs) middle after found
      → (rest : List Cycle) (shown : List (List Tri)) → Runs tri_table f n state (cs ++ (ds ++ rest)) shown
      → MatchOption found
      ((later : List (List Tri)) × Runs tri_table f n after rest later × (judged J first (cs ++ (ds ++ rest)) shown ≡ judged J (first + length (cs ++ ds)) rest later))
      (λ p. judged J first (cs ++ (ds ++ rest)) shown ≡ Some p)
  then_outcome cs ds first state middle after None one two rest shown run =
      let a = one.outcome (ds ++ rest) shown run in
      let b = two.outcome rest a.0 a.1 in
      (b.0, b.1, a.2 ∙ (b.2 ∙ ap (λ k. judged J k rest b.0) (omega (arith, length-append cs ds))))
  then_outcome cs ds first state middle after (Some p) one two rest shown run =
      let a = one.outcome (ds ++ rest) shown run in
      a.2 ∙ two.outcome rest a.0 a.1

  pub plays_then : (cs ds : List Cycle) (first : ℕ) (state middle after : List Tri) (found : Option Played)
      → PlaysOn J f n cs first state middle None → PlaysOn J f n ds (first + length cs) middle after found → PlaysOn J f n (cs ++ ds) first state after found
  plays_then cs ds first state middle after found one two = record {
    size = two.size;
    outcome = λ rest shown run.
        let same = append_assoc cs ds rest in
        let P : List Cycle → Type 0 = λ x.
        MatchOption found
        ((later : List (List Tri)) × Runs tri_table f n after rest later × (judged J first x shown ≡ judged J (first + length (cs ++ ds)) rest later))
        (λ p. judged J first x shown ≡ Some p) in
        subst P (sym same) (then_outcome cs ds first state middle after found one two rest shown (subst (λ (x : List Cycle). Runs tri_table f n state x shown) same run));
  }

  -- what is found stays, whatever comes behind it
  pub plays_found : (cs ds : List Cycle) (first : ℕ) (state after : List Tri) (p : Played) → PlaysOn J f n cs first state after (Some p) → PlaysOn J f n (cs ++ ds) first state after (Some p)
  plays_found cs ds first state after p one = record {
    size = one.size;
    outcome = λ rest shown run.
        let same = append_assoc cs ds rest in
        ap (λ x. judged J first x shown) same ∙ one.outcome (ds ++ rest) shown (subst (λ (x : List Cycle). Runs tri_table f n state x shown) same run);
  }

-- ---- the answer

known_not_x : {P : Type 0} (b : Bool) → X ≡ known b → P
known_not_x true e = cc
known_not_x false e = cc

met_told : (c o : ℕ) (s v : Tri) → unmet_by c o s v ≡ None → (s ≡ X) ⊎ (v ≡ s)
met_told c o X v e = inl refl
met_told c o Zero Zero e = inr refl
met_told c o Zero One e = cc
met_told c o Zero X e = cc
met_told c o One Zero e = cc
met_told c o One One e = inr refl
met_told c o One X e = cc

-- what is unmet at one strobe
abbrev IsUnmetAt : ℕ → ℕ → Tri → Option Tri → Played → Type 0
IsUnmetAt c o s v Passes = ⊥
IsUnmetAt c o s v (Fails c' o') = (c' ≡ c) × (o' ≡ o) × ((b : Bool) × (s ≡ known b) × (v ≡ Some (known (not b))))
IsUnmetAt c o s v (Unknown c' o') = (c' ≡ c) × (o' ≡ o) × ((b : Bool) × (s ≡ known b) × (v ≡ Some X))

some_played : (p q : Played) → Some p ≡ Some q → p ≡ q
some_played p q e = cc

told_is : (c o : ℕ) (s v : Tri) (p : Played) → unmet_by c o s v ≡ Some p → IsUnmetAt c o s (Some v) p
told_is c o X v p e = cc
told_is c o Zero Zero p e = cc
told_is c o Zero One p e = subst (IsUnmetAt c o Zero (Some One)) (some_played (Fails c o) p e) (refl, refl, (false, refl, refl))
told_is c o Zero X p e = subst (IsUnmetAt c o Zero (Some X)) (some_played (Unknown c o) p e) (refl, refl, (false, refl, refl))
told_is c o One Zero p e = subst (IsUnmetAt c o One (Some Zero)) (some_played (Fails c o) p e) (refl, refl, (true, refl, refl))
told_is c o One One p e = cc
told_is c o One X p e = subst (IsUnmetAt c o One (Some X)) (some_played (Unknown c o) p e) (refl, refl, (true, refl, refl))

abbrev MetIn : List Tri → List Tri → ℕ → Type 0
MetIn ss vs o = (get_or ss o X ≡ X) ⊎ (slice_get vs o ≡ Some (get_or ss o X))

met_here : (s v : Tri) → (s ≡ X) ⊎ (v ≡ s) → (s ≡ X) ⊎ (Some v ≡ Some s)
met_here s v h = elim h [ inl e ↦ inl e | inr e ↦ inr (ap (λ x. Some x) e) ]

pub or_none : (x y : Option Played) → played_or_else x y ≡ None → (x ≡ None) × (y ≡ None)
or_none None y e = (refl, e)
or_none (Some p) y e = cc

pub or_cases : (x y : Option Played) (p : Played) → played_or_else x y ≡ Some p → (x ≡ Some p) ⊎ ((x ≡ None) × (y ≡ Some p))
or_cases None y p e = inr (refl, e)
or_cases (Some q) y p e = inl e

row_all_met : (c o : ℕ) (ss vs : List Tri) → length ss ≡ length vs → judged_in unmet_by c o ss vs ≡ None → (k : ℕ) → MetIn ss vs k
row_all_met c o [] vs l e k = inl refl
row_all_met c o (s ∷ ss) [] l e k = absurd (omega (arith, l))
row_all_met c o (s ∷ ss) (v ∷ vs) l e zero = met_here s v (met_told c o s v (or_none (unmet_by c o s v) (judged_in unmet_by c (o + 1) ss vs) e).0)
row_all_met c o (s ∷ ss) (v ∷ vs) l e (suc k) = row_all_met c (o + 1) ss vs (omega (arith, l)) (or_none (unmet_by c o s v) (judged_in unmet_by c (o + 1) ss vs) e).1 k

-- the first unmet strobe is at this place of the row
pub record FoundIn (c o : ℕ) (ss vs : List Tri) (p : Played) : Type 0 where
  pub place : ℕ
  pub outcome : IsUnmetAt c (o + place) (get_or ss place X) (slice_get vs place) p
  pub before : (k : ℕ) → k < place → MetIn ss vs k

row_found : (c o : ℕ) (ss vs : List Tri) (p : Played) → judged_in unmet_by c o ss vs ≡ Some p → FoundIn c o ss vs p
row_found c o [] vs p e = cc
row_found c o (s ∷ ss) [] p e = cc
row_found c o (s ∷ ss) (v ∷ vs) p e = elim (or_cases (unmet_by c o s v) (judged_in unmet_by c (o + 1) ss vs) p e) [
  | inl h ↦ record {
    place = 0;
    outcome = subst (λ k. IsUnmetAt c k s (Some v) p) (omega arith) (told_is c o s v p h);
    before = λ k l. absurd (omega (arith, l));
  }
  | inr h ↦
      let r = row_found c (o + 1) ss vs p h.1 in
      record {
        place = suc r.place;
        outcome = subst (λ k. IsUnmetAt c k (get_or ss r.place X) (slice_get vs r.place) p) (omega arith) r.outcome;
        before = elim [ zero ↦ λ l. met_here s v (met_told c o s v h.0) | suc k ↦ λ l. r.before k (omega (arith, l)) ];
      }
]

-- each row is as long as its strobes
abbrev AreWide : List Cycle → List (List Tri) → Type 0
AreWide cycles shown = AllZip (λ (c : Cycle) (row : List Tri). length c.strobe ≡ length row) cycles shown

all_met : (c : ℕ) (cycles : List Cycle) (shown : List (List Tri)) → AreWide cycles shown → judged unmet_by c cycles shown ≡ None → (k o : ℕ) → IsStrobeMet cycles shown k o
all_met c [] shown w e k o = inl refl
all_met c (x ∷ xs) [] w e k o = absurd w
all_met c (x ∷ xs) (row ∷ rows) w e zero o = row_all_met c 0 x.strobe row w.0 (or_none (judged_in unmet_by c 0 x.strobe row) (judged unmet_by (c + 1) xs rows) e).0 o
all_met c (x ∷ xs) (row ∷ rows) w e (suc k) o = all_met (c + 1) xs rows w.1 (or_none (judged_in unmet_by c 0 x.strobe row) (judged unmet_by (c + 1) xs rows) e).1 k o

pub record Found (c : ℕ) (cycles : List Cycle) (shown : List (List Tri)) (p : Played) : Type 0 where
  pub cycle : ℕ
  pub place : ℕ
  pub outcome : IsUnmetAt (c + cycle) place (strobe_at cycles cycle place) (shown_at shown cycle place) p
  pub before : AreMetBefore cycles shown cycle place

found_at : (c : ℕ) (cycles : List Cycle) (shown : List (List Tri)) (p : Played) → AreWide cycles shown → judged unmet_by c cycles shown ≡ Some p → Found c cycles shown p
found_at c [] shown p w e = cc
found_at c (x ∷ xs) [] p w e = absurd w
found_at c (x ∷ xs) (row ∷ rows) p w e = elim (or_cases (judged_in unmet_by c 0 x.strobe row) (judged unmet_by (c + 1) xs rows) p e) [
  | inl h ↦
      let r = row_found c 0 x.strobe row p h in
      record {
        cycle = 0;
        place = r.place;
        outcome = subst (λ k. IsUnmetAt k r.place (get_or x.strobe r.place X) (slice_get row r.place) p) (omega arith)
            (subst (λ k. IsUnmetAt c k (get_or x.strobe r.place X) (slice_get row r.place) p) (omega arith) r.outcome);
        before = λ k o l. elim l [
          | inl less ↦ absurd (omega (arith, less))
          | inr here ↦ subst (λ j. IsStrobeMet (x ∷ xs) (row ∷ rows) j o) (sym here.0) (r.before o here.1)
        ];
      }
  | inr h ↦
      let r = found_at (c + 1) xs rows p w.1 h.1 in
      record {
        cycle = suc r.cycle;
        place = r.place;
        outcome = subst (λ k. IsUnmetAt k r.place (strobe_at xs r.cycle r.place) (shown_at rows r.cycle r.place) p) (omega arith) r.outcome;
        before = elim [
          | zero ↦ λ o l. row_all_met c 0 x.strobe row w.0 h.0 o
          | suc k ↦ λ o l. r.before k o (elim l [ inl less ↦ inl (omega (arith, less)) | inr here ↦ inr (omega (arith, here.0), here.1) ])
        ];
      }
]

is_played : (cycles : List Cycle) (shown : List (List Tri)) (p : Played) → Found 0 cycles shown p → IsPlayed cycles shown p
is_played cycles shown Passes r = absurd r.outcome
is_played cycles shown (Fails c o) r =
    let here : c ≡ r.cycle = omega (arith, r.outcome.0) in
    let there : o ≡ r.place = r.outcome.1 in
    let P : ℕ → ℕ → Type 0 = λ x y. AreMetBefore cycles shown x y × ((b : Bool) × (strobe_at cycles x y ≡ known b) × (shown_at shown x y ≡ Some (known (not b)))) in
    subst (λ x. P x o) (sym here) (subst (λ y. P r.cycle y) (sym there) (r.before, r.outcome.2))
is_played cycles shown (Unknown c o) r =
    let here : c ≡ r.cycle = omega (arith, r.outcome.0) in
    let there : o ≡ r.place = r.outcome.1 in
    let P : ℕ → ℕ → Type 0 = λ x y. AreMetBefore cycles shown x y × ((b : Bool) × (strobe_at cycles x y ≡ known b) × (shown_at shown x y ≡ Some X)) in
    subst (λ x. P x o) (sym here) (subst (λ y. P r.cycle y) (sym there) (r.before, r.outcome.2))

rows_wide : (f : Option Fault) (n : Netlist) (state : List Tri) (cycles : List Cycle) (shown : List (List Tri)) → All (IsCycleOf n) cycles → Runs tri_table f n state cycles shown → AreWide cycles shown
rows_wide f n state [] [] fit run = tt
rows_wide f n state [] (row ∷ rows) fit run = absurd run
rows_wide f n state (x ∷ xs) [] fit run = absurd run
rows_wide f n state (x ∷ xs) (row ∷ rows) fit run = (
  (All-head (IsCycleOf n) x xs fit).strobe ∙ sym (ap length run.1.shows ∙ length-map n.outputs _),
  rows_wide f n run.0 xs rows (All-tail (IsCycleOf n) x xs fit) run.2,
)

-- what was played is what is first said
pub judged_as : (J : Judging) (f : Option Fault) (n : Netlist) (cycles : List Cycle) (start after : List Tri) (found : Option Played) → IsSound n → All (IsCycleOf n) cycles
    → start ≡ replicate (length (cells n)) X → PlaysOn J f n cycles 0 start after found → IsJudged J n f cycles found
judged_as J f n cycles start after None sound fit is h =
    let begin = replicate (length (cells n)) X in
    let r = some_run X tri_table f n begin cycles sound.formed.numbered sound.closed sound.acyclic (length-replicate (length (cells n)) X) fit in
    let own : Runs tri_table f n start cycles r.0 = subst (λ (s : List Tri). Runs tri_table f n s cycles r.0) (sym is) r.1 in
    let run : Runs tri_table f n start (cycles ++ []) r.0 = subst (λ (x : List Cycle). Runs tri_table f n start x r.0) (sym (append-nil cycles)) own in
    let t = h.outcome [] r.0 run in
    record { shown = r.0; runs = r.1; said = ap (λ x. judged J 0 x r.0) (sym (append-nil cycles)) ∙ t.2 }
judged_as J f n cycles start after (Some p) sound fit is h =
    let begin = replicate (length (cells n)) X in
    let r = some_run X tri_table f n begin cycles sound.formed.numbered sound.closed sound.acyclic (length-replicate (length (cells n)) X) fit in
    let own : Runs tri_table f n start cycles r.0 = subst (λ (s : List Tri). Runs tri_table f n s cycles r.0) (sym is) r.1 in
    let run : Runs tri_table f n start (cycles ++ []) r.0 = subst (λ (x : List Cycle). Runs tri_table f n start x r.0) (sym (append-nil cycles)) own in
    let t : judged J 0 (cycles ++ []) r.0 ≡ Some p = h.outcome [] r.0 run in
    record { shown = r.0; runs = r.1; said = ap (λ x. judged J 0 x r.0) (sym (append-nil cycles)) ∙ t }

pub plays_as : (f : Option Fault) (n : Netlist) (cycles : List Cycle) (found : Option Played) → All (IsCycleOf n) cycles → IsJudged unmet_by n f cycles found → PlaysAs n f cycles (or_passes found)
plays_as f n cycles None fit h = (h.shown, h.runs, all_met 0 cycles h.shown (rows_wide f n (replicate (length (cells n)) X) cycles h.shown fit h.runs) h.said)
plays_as f n cycles (Some p) fit h =
    (h.shown, h.runs, is_played cycles h.shown p (found_at 0 cycles h.shown p (rows_wide f n (replicate (length (cells n)) X) cycles h.shown fit h.runs) h.said))

-- Hits of the faults of which nothing is told.
use Rattle.std.proofs.Common.{◌≡◌, ◌≢◌, ℕ, zero, suc, Bool, true, false, not, cond, eqb, ◌+◌, ◌<◌, ◌≤◌, List, [], ◌∷◌, ◌++◌, length, get_or, set, drop, Option, Some, None, refl, sym, ◌∙◌, ap, subst, inl, inr, arith}
use Rattle.std.specs.List.{All}
use Rattle.std.specs.Prelude.{is_some}
use Rattle.std.proofs.lemmas.Bool.{both_ways, cases_eq, eq-eqb, ne_eqb}
use Rattle.std.proofs.lemmas.List.{append_assoc, drop_all, drop_more, drop-set-lt, append-nil}
use Rattle.statement.specs.declared.lines.Fault.{Fault}
use Rattle.statement.specs.declared.lines.Line.TheVariants.{Stem}
use Rattle.statement.specs.declared.lines.Point.{Point}
use Rattle.statement.specs.declared.lines.Point.TheVariants.{Output}
use Rattle.netlist.specs.Lines.{IsLineOf}
use Rattle.statement.specs.Netlists.{Netlist}
use Rattle.statement.specs.Patterns.{Pattern}
use Rattle.word_sim.specs.declared.batches.Hit.{Hit}
use Rattle.word_sim.specs.Hits.{AreHits}
use Rattle.word_sim.specs.inner.Found.{IsTold, untold}
use Rattle.word_sim.proofs.WordDetection.{some_below}

no_more : (h : Hit) (hits : List Hit) → h ∷ hits ≡ [] → ⊥
no_more h hits e = let l = ap (λ (hs : List Hit). length hs) e in absurd (omega arith)

head_same : (h g : Hit) (hs gs : List Hit) → h ∷ hs ≡ g ∷ gs → h ≡ g
head_same h g hs gs e = ap (λ (xs : List Hit). get_or xs 0 h) e

tail_same : (h g : Hit) (hs gs : List Hit) → h ∷ hs ≡ g ∷ gs → hs ≡ gs
tail_same h g hs gs e = ap (λ (xs : List Hit). drop 1 xs) e

module _ (n : Netlist) (part : List Pattern) where
  -- hits of faults from place m on
  above : (faults : List Fault) (told : List (Option (ℕ × Point))) (m : ℕ) (h : Hit) (hits : List Hit) → AreHits n part (untold m faults told) (h ∷ hits) → m ≤ h.class
  above [] told m h hits are = absurd (no_more h hits are)
  above (f ∷ faults) [] m h hits are = absurd (no_more h hits are)
  above (f ∷ faults) (None ∷ told) m h hits are = elim are [
    | inl none ↦ let l = above faults told (m + 1) h hits none.1 in omega arith
    | inr w ↦ let e : h.class ≡ m = ap (λ (g : Hit). g.class) (head_same h w.0 hits w.1 w.2) ∙ w.3 in omega arith
  ]
  above (f ∷ faults) (Some v ∷ told) m h hits are = let l = above faults told (m + 1) h hits are in omega arith

  module _ (start k : ℕ) (f : Fault) (faults : List Fault) (told : List (Option (ℕ × Point))) where
    -- there is no hit left
    pub none_here : (hs : List Hit) → hs ≡ [] → AreHits n part ((k, f) ∷ untold (k + 1) faults told) hs → IsTold n part start f None None × AreHits n part (untold (k + 1) faults told) hs
    none_here hs e are = elim are [
      | inl none ↦ (record { found = None; detected = none.0; last_is = refl }, none.1)
      | inr w ↦ absurd (no_more w.0 w.1 (sym w.2 ∙ e))
    ]

    -- the next hit is of another fault
    pub other_here : (hs : List Hit) (h : Hit) (hits : List Hit) → hs ≡ h ∷ hits → h.class ≢ k → AreHits n part ((k, f) ∷ untold (k + 1) faults told) hs
        → IsTold n part start f None None × AreHits n part (untold (k + 1) faults told) hs
    other_here hs h hits e ne are = elim are [
      | inl none ↦ (record { found = None; detected = none.0; last_is = refl }, none.1)
      | inr w ↦ absurd (ne (ap (λ (g : Hit). g.class) (head_same h w.0 hits w.1 (sym e ∙ w.2)) ∙ w.3))
    ]

    -- the next hit is of this fault
    pub hit_here : (hs : List Hit) (h : Hit) (hits : List Hit) → hs ≡ h ∷ hits → h.class ≡ k → AreHits n part ((k, f) ∷ untold (k + 1) faults told) hs
        → IsTold n part start f None (Some (start + h.pattern, h.point)) × AreHits n part (untold (k + 1) faults told) hits
    hit_here hs h hits e is are = elim are [
      | inl none ↦ let l = above faults told (k + 1) h hits (subst (AreHits n part (untold (k + 1) faults told)) e none.1) in absurd (omega arith)
      | inr w ↦
          let same : h ≡ w.0 = head_same h w.0 hits w.1 (sym e ∙ w.2) in (
            record {
              found = Some (w.0.pattern, w.0.point);
              detected = w.4;
              last_is = ap (λ (g : Hit). Some (start + g.pattern, g.point)) same;
            },
            subst (AreHits n part (untold (k + 1) faults told)) (sym (tail_same h w.0 hits w.1 (sym e ∙ w.2))) w.5,
          )
    ]

    -- either of them, by what is made of the next hit
    pub hit_or_other : (hits : List Hit) (next : ℕ) (h : Hit) (r : Option (ℕ × Point) × ℕ) → next < length hits → h ≡ get_or hits next h
        → r ≡ cond (eqb h.class k) (Some (start + h.pattern, h.point), next + 1) (None, next) → AreHits n part ((k, f) ∷ untold (k + 1) faults told) (drop next hits)
        → IsTold n part start f None r.0 × AreHits n part (untold (k + 1) faults told) (drop r.1 hits)
    hit_or_other hits next h r l is made are =
        let at : drop next hits ≡ h ∷ drop (next + 1) hits = drop_more hits next h l ∙ ap (λ (g : Hit). g ∷ drop (next + 1) hits) (sym is) in
        elim (cases_eq h.class k) [
          | inl e ↦ subst (λ (p : Option (ℕ × Point) × ℕ). IsTold n part start f None p.0 × AreHits n part (untold (k + 1) faults told) (drop p.1 hits))
              (sym (made ∙ ap (λ b. cond b (Some (start + h.pattern, h.point), next + 1) (None, next)) (eq-eqb h.class k e)))
              (hit_here (drop next hits) h (drop (next + 1) hits) at e are)
          | inr ne ↦ subst (λ (p : Option (ℕ × Point) × ℕ). IsTold n part start f None p.0 × AreHits n part (untold (k + 1) faults told) (drop p.1 hits))
              (sym (made ∙ ap (λ b. cond b (Some (start + h.pattern, h.point), next + 1) (None, next)) (ne_eqb h.class k ne)))
              (other_here (drop next hits) h (drop (next + 1) hits) at ne are)
        ]

    -- something is told already
    pub known_here : (known : Option (ℕ × Point)) (v : ℕ × Point) (hs : List Hit) → known ≡ Some v → AreHits n part (untold k (f ∷ faults) (known ∷ told)) hs
        → IsTold n part start f known known × AreHits n part (untold (k + 1) faults told) hs
    known_here None v hs e are = absurd (none_is v e) where
      none_is : (v : ℕ × Point) → ◌≡◌ {A = Option (ℕ × Point)} None (Some v) → ⊥
      none_is v e = cc
    known_here (Some u) v hs e are = (refl, are)

  -- hits name places among the patterns
  pub hits_small : (faults : List (ℕ × Fault)) (hits : List Hit) → length part ≤ 64 → AreHits n part faults hits → All (λ (h : Hit). h.pattern < 64) hits
  hits_small [] hits few are = subst (All (λ (h : Hit). h.pattern < 64)) (sym are) none_in where
    none_in : All (λ (h : Hit). h.pattern < 64) []
    none_in k d l = absurd (omega (arith, l))
  hits_small (g ∷ gs) hits few are = elim are [
    | inl none ↦ hits_small gs hits few none.1
    | inr w ↦ subst (All (λ (h : Hit). h.pattern < 64)) (sym w.2) (one_more w.0 w.1 (let l = some_below part w.0.pattern w.4.here.pattern w.4.here.at in omega arith) (hits_small gs w.1 few w.5))
  ] where
    one_more : (h : Hit) (hs : List Hit) → h.pattern < 64 → All (λ (h : Hit). h.pattern < 64) hs → All (λ (h : Hit). h.pattern < 64) (h ∷ hs)
    one_more h hs l all zero d m = l
    one_more h hs l all (suc k) d m = all k d (let e : suc k < suc (length hs) = m in omega (arith, e))

-- the faults of which nothing is told stand on lines of the netlist
pub untold_lines : (n : Netlist) (m : ℕ) (faults : List Fault) (told : List (Option (ℕ × Point))) → All (λ (f : Fault). IsLineOf n f.line) faults
    → All (λ (g : ℕ × Fault). IsLineOf n g.1.line) (untold m faults told)
untold_lines n m [] told all k d l = absurd (omega (arith, l))
untold_lines n m (f ∷ faults) [] all k d l = absurd (omega (arith, l))
untold_lines n m (f ∷ faults) (None ∷ told) all zero d l = all 0 f (omega arith)
untold_lines n m (f ∷ faults) (None ∷ told) all (suc k) d l =
    untold_lines n (m + 1) faults told (λ i e b. all (suc i) e (omega (arith, b))) k d (omega (arith, l))
untold_lines n m (f ∷ faults) (Some v ∷ told) all k d l = untold_lines n (m + 1) faults told (λ i e b. all (suc i) e (omega (arith, b))) k d l

-- ---- place after place

-- any fault, where a default is asked for
pub no_fault : Fault
no_fault = record { line = Stem 0; value = false }

-- the default of a read among hits
abbrev pub no_hit : Hit
no_hit = record { class = 0; pattern = 0; point = Output 0 }

untold_at : (faults : List Fault) (told : List (Option (ℕ × Point))) (k : ℕ) (f : Fault) (t : Option (ℕ × Point)) → k < length faults → k < length told
    → untold k (drop k faults) (drop k told) ≡ untold k (get_or faults k f ∷ drop (k + 1) faults) (get_or told k t ∷ drop (k + 1) told)
untold_at faults told k f t l m =
    ap (λ (fs : List Fault). untold k fs (drop k told)) (drop_more faults k f l) ∙ ap (untold k (get_or faults k f ∷ drop (k + 1) faults)) (drop_more told k t m)

module _ (n : Netlist) (part : List Pattern) (faults : List Fault) (told : List (Option (ℕ × Point))) (k : ℕ) where
  pub at_place : (f : Fault) (known : Option (ℕ × Point)) (hs : List Hit) → k < length faults → length told ≡ length faults → known ≡ get_or told k None
      → AreHits n part (untold k (drop k faults) (drop k told)) hs → AreHits n part (untold k (get_or faults k f ∷ drop (k + 1) faults) (known ∷ drop (k + 1) told)) hs
  at_place f known hs l size is are =
      subst (λ (t : Option (ℕ × Point)). AreHits n part (untold k (get_or faults k f ∷ drop (k + 1) faults) (t ∷ drop (k + 1) told)) hs) (sym is)
      (subst (λ (gs : List (ℕ × Fault)). AreHits n part gs hs) (untold_at faults told k f None l (omega arith)) are)

  pub past_place : (last : Option (ℕ × Point)) (hs : List Hit) → AreHits n part (untold (k + 1) (drop (k + 1) faults) (drop (k + 1) told)) hs
      → AreHits n part (untold (k + 1) (drop (k + 1) faults) (drop (k + 1) (set told k last))) hs
  past_place last hs are =
      subst (λ (ts : List (Option (ℕ × Point))). AreHits n part (untold (k + 1) (drop (k + 1) faults) ts) hs) (sym (drop-set-lt (k + 1) told k last (omega arith))) are

module _ (faults : List Fault) (told : List (Option (ℕ × Point))) (k : ℕ) (f : Fault) (t : Option (ℕ × Point)) (rest : List (ℕ × Fault)) (l : k < length faults) (m : k < length told)
    (is : rest ++ untold k (drop k faults) (drop k told) ≡ untold 0 faults told) where
  there : rest ++ untold k (get_or faults k f ∷ drop (k + 1) faults) (get_or told k t ∷ drop (k + 1) told) ≡ untold 0 faults told
  there = ap (λ gs. rest ++ gs) (sym (untold_at faults told k f t l m)) ∙ is

  -- nothing is told of the next fault
  pub list_more : get_or told k t ≡ None → (rest ++ (k, get_or faults k f) ∷ []) ++ untold (k + 1) (drop (k + 1) faults) (drop (k + 1) told) ≡ untold 0 faults told
  list_more e =
      append_assoc rest ((k, get_or faults k f) ∷ []) (untold (k + 1) (drop (k + 1) faults) (drop (k + 1) told))
      ∙ (ap (λ (o : Option (ℕ × Point)). rest ++ untold k (get_or faults k f ∷ drop (k + 1) faults) (o ∷ drop (k + 1) told)) (sym e) ∙ there)

  -- something is told of it
  pub list_same : (v : ℕ × Point) → get_or told k t ≡ Some v → rest ++ untold (k + 1) (drop (k + 1) faults) (drop (k + 1) told) ≡ untold 0 faults told
  list_same v e = ap (λ (o : Option (ℕ × Point)). rest ++ untold k (get_or faults k f ∷ drop (k + 1) faults) (o ∷ drop (k + 1) told)) (sym e) ∙ there

-- what a test tells
pub none_when : {X : Type 0} (o : Option X) (r : Bool) → is_some o ≡ not r → r ≡ true → o ≡ None
none_when None r e t = refl
none_when (Some v) r e t = absurd (both_ways (not r) (ap not t) (sym e))

pub some_when : {X : Type 0} (o : Option X) (r : Bool) → is_some o ≡ not r → r ≡ false → (v : X) × (o ≡ Some v)
some_when None r e f = absurd (both_ways (not r) (sym e) (ap not f))
some_when (Some v) r e f = (v, refl)

-- at the end
pub list_all_told : (faults : List Fault) (told : List (Option (ℕ × Point))) (k : ℕ) (rest : List (ℕ × Fault)) → length faults ≤ k → rest ++ untold k (drop k faults) (drop k told) ≡ untold 0 faults told
    → rest ≡ untold 0 faults told
list_all_told faults told k rest all is = sym (append-nil rest) ∙ (ap (λ (fs : List Fault). rest ++ untold k fs (drop k told)) (sym (drop_all k faults all)) ∙ is)

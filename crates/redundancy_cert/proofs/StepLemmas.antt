-- One step more, turned, or taken back.
use Rattle.std.proofs.Common.{◌≡◌, ◌≢◌, ℕ, ◌+◌, ◌-◌, ◌<◌, ◌≤◌, Bool, true, false, not, cond, List, [], ◌∷◌, ◌++◌, length, get_or, set, take, Option, Some, None, refl, sym, ◌∙◌, ap, subst, inl, inr, eqb, eq-eqb, arith}
use Rattle.std.specs.List.{All}
use Rattle.std.proofs.lemmas.Bool.{cases_eq, eqb-true}
use Rattle.std.proofs.lemmas.Grind.{take_at_read}
use Rattle.std.proofs.lemmas.List.{get_or-set_same, get_or-set_other, set_at}
use Rattle.std.proofs.lemmas.List.Elements.{All-head, All-push}
use Rattle.statement.specs.Netlists.{Netlist, signals}
use Rattle.netlist.proofs.Lists.{all_left, all_right}
use Rattle.tri.specs.declared.labels.Label.{Label}
use Rattle.tri.specs.Labels.{Decisions}
use Rattle.tri.specs.Labelling.{decided_in}
use Rattle.tri.specs.Paths.{Path, decisions, IsClosedPath}
use Rattle.std.specs.Bool.{MatchBool}
use Rattle.statement.specs.declared.lines.Fault.{Fault}
use Rattle.statement.specs.Patterns.{Holds}
use Rattle.redundancy_cert.specs.declared.nodes.Node.TheVariants.{Forced}
use Rattle.redundancy_cert.specs.declared.steps.Step.{Step}
use Rattle.redundancy_cert.specs.inner.Passing.{Labelled, AreStanding, SameRun}
use Rattle.redundancy_cert.specs.inner.Walk.{after, path_onto, path_of, waiting_of, StandsFor, AreFree, IsAt, IsForcedBy}
use Rattle.redundancy_cert.proofs.WalkLemmas.{path_onto-append}

free-append : (p : Path) (ss : List Step) (s : Step) → AreFree p ss → decisions (path_onto p ss) s.signal ≡ None → AreFree p (ss ++ s ∷ [])
free-append p [] s h here = (here, tt)
free-append p (r ∷ ss) s h here = (h.0, free-append ((r.signal, r.bit) ∷ p) ss s h.1 here)

free-front : (p : Path) (ss : List Step) (s : Step) → AreFree p (ss ++ s ∷ []) → AreFree p ss × (decisions (path_onto p ss) s.signal ≡ None)
free-front p [] s h = (tt, h.0)
free-front p (r ∷ ss) s h = let w = free-front ((r.signal, r.bit) ∷ p) ss s h.1 in ((h.0, w.0), w.1)

skip : (p : Path) (x y : ℕ) (b : Bool) → y ≢ x → decisions ((x, b) ∷ p) y ≡ decisions p y
skip p x y b ne =
    let step : (t : Bool) → eqb y x ≡ t → cond t (Some b) (decisions p y) ≡ decisions p y = elim [ true ↦ λ e. absurd (ne (eqb-true y x e)) | false ↦ λ e. refl ] in
    step (eqb y x) refl

on_top : (p : Path) (x : ℕ) (b : Bool) → decisions ((x, b) ∷ p) x ≡ Some b
on_top p x b = ap (λ t. cond t (Some b) (decisions p x)) (eq-eqb x x refl)

set_decides : (row : List (Option Bool)) (x : ℕ) (o : Option Bool) (old new : Path) → x < length row → decided_in row ≡ decisions old
    → ((y : ℕ) → y ≢ x → decisions old y ≡ decisions new y) → o ≡ decisions new x → decided_in (set row x o) ≡ decisions new
set_decides row x o old new l h same here =
    let each : (y : ℕ) → decided_in (set row x o) y ≡ decisions new y =
    λ y. elim (cases_eq y x) [
      | inl e ↦ ap (λ z. get_or (set row x o) z None) e ∙ (get_or-set_same row x o None l ∙ (here ∙ ap (decisions new) (sym e)))
      | inr ne ↦ get_or-set_other row x y o None ne ∙ (ap (λ (d : Decisions). d y) h ∙ same y ne)
    ] in
    λ j y. each y j

-- the step before place j is the last of the first j
pub at_last : (p : Labelled) (items : List Step) (j : ℕ) (s : Step) → 0 < j → j ≤ length items → s ≡ get_or items (j - 1) s → IsAt p (take j items) → IsAt p (take (j - 1) items ++ s ∷ [])
at_last p items j s some within is at =
    let one : j ≡ (j - 1) + 1 = omega arith in
    subst (IsAt p) (ap (λ i. take i items) one ∙ ((take_at_read items (j - 1) s (omega arith)).1 ∙ ap (λ (r : Step). take (j - 1) items ++ r ∷ []) (sym is))) at

module _ (p q : Labelled) (front : List Step) (s : Step) (o : Option Bool) (stands : AreStanding p) (at : IsAt p (front ++ s ∷ []))
    (made : q ≡ record p { decided = set p.decided s.signal o; values = q.values }) where
  path : path_of (front ++ s ∷ []) ≡ (s.signal, s.bit) ∷ path_of front
  path = path_onto-append [] front s

  low : s.signal < length p.decided
  low = subst (λ m. s.signal < m) (sym stands.decided)
      (All-head (λ (r : Step). r.signal < length (signals p.netlist)) s [] (all_right (λ (r : Step). r.signal < length (signals p.netlist)) front (s ∷ []) at.within))

  net : q.netlist ≡ p.netlist
  net = ap (λ (r : Labelled). r.netlist) made

  before : (y : ℕ) → y ≢ s.signal → decisions (path_of (front ++ s ∷ [])) y ≡ decisions (path_of front) y
  before y ne = ap (λ (r : Path). decisions r y) path ∙ skip (path_of front) s.signal y s.bit ne

  -- its decision is taken back
  pub taken_back : o ≡ None → IsAt q front
  taken_back none = record {
    decided = ap (λ (r : Labelled). decided_in r.decided) made
        ∙ set_decides p.decided s.signal o (path_of (front ++ s ∷ [])) (path_of front) low at.decided before (none ∙ sym (free-front [] front s at.free).1);
    free = (free-front [] front s at.free).0;
    within = subst (λ (m : Netlist). All (λ (r : Step). r.signal < length (signals m)) front) (sym net)
        (all_left (λ (r : Step). r.signal < length (signals p.netlist)) front (s ∷ []) at.within);
  }

  -- it has another bit
  pub turned_at : (t : Step) → t.signal ≡ s.signal → o ≡ Some t.bit → IsAt q (front ++ t ∷ [])
  turned_at t same bit =
      let new : path_of (front ++ t ∷ []) ≡ (s.signal, t.bit) ∷ path_of front = path_onto-append [] front t ∙ ap (λ x. (x, t.bit) ∷ path_of front) same in
      record {
        decided = ap (λ (r : Labelled). decided_in r.decided) made
            ∙ set_decides p.decided s.signal o (path_of (front ++ s ∷ [])) (path_of (front ++ t ∷ [])) low at.decided
            (λ y ne. before y ne ∙ sym (ap (λ (r : Path). decisions r y) new ∙ skip (path_of front) s.signal y t.bit ne))
            (bit ∙ sym (ap (λ (r : Path). decisions r s.signal) new ∙ on_top (path_of front) s.signal t.bit));
        free = free-append [] front t (free-front [] front s at.free).0 (ap (decisions (path_of front)) same ∙ (free-front [] front s at.free).1);
        within = subst (λ (m : Netlist). All (λ (r : Step). r.signal < length (signals m)) (front ++ t ∷ [])) (sym net)
            (All-push (λ (r : Step). r.signal < length (signals p.netlist)) front t (all_left (λ (r : Step). r.signal < length (signals p.netlist)) front (s ∷ []) at.within)
            (subst (λ x. x < length (signals p.netlist)) (sym same)
            (All-head (λ (r : Step). r.signal < length (signals p.netlist)) s [] (all_right (λ (r : Step). r.signal < length (signals p.netlist)) front (s ∷ []) at.within))));
      }

-- the step that was put on last is turned
pub turned_last : (ss new : List Step) (i : ℕ) (s t : Step) → i ≡ length ss → new ≡ ss ++ s ∷ [] → set new i t ≡ ss ++ t ∷ []
turned_last ss new i s t last e = ap (λ (xs : List Step). set xs i t) e ∙ set_at ss s [] t i (sym last)

-- one step more
pub entered : (p q : Labelled) (ss : List Step) (t : Step) → AreStanding p → IsAt p ss → decisions (path_of ss) t.signal ≡ None → t.signal < length (signals p.netlist)
    → q ≡ record p { decided = set p.decided t.signal (Some t.bit); values = q.values } → IsAt q (ss ++ t ∷ [])
entered p q ss t stands at free low made =
    let new : path_of (ss ++ t ∷ []) ≡ (t.signal, t.bit) ∷ path_of ss = path_onto-append [] ss t in
    record {
      decided = ap (λ (r : Labelled). decided_in r.decided) made
          ∙ set_decides p.decided t.signal (Some t.bit) (path_of ss) (path_of (ss ++ t ∷ [])) (subst (λ m. t.signal < m) (sym stands.decided) low) at.decided
          (λ y ne. sym (ap (λ (r : Path). decisions r y) new ∙ skip (path_of ss) t.signal y t.bit ne))
          (sym (ap (λ (r : Path). decisions r t.signal) new ∙ on_top (path_of ss) t.signal t.bit));
      free = free-append [] ss t at.free free;
      within = subst (λ (m : Netlist). All (λ (r : Step). r.signal < length (signals m)) (ss ++ t ∷ [])) (sym (ap (λ (r : Labelled). r.netlist) made))
          (All-push (λ (r : Step). r.signal < length (signals p.netlist)) ss t at.within low);
    }

pub same_run : (p q : Labelled) (row : List (Option Bool)) (values : List Label) → q ≡ record p { decided = row; values = values } → SameRun p q
same_run p q row values e = record {
  netlist = ap (λ (r : Labelled). r.netlist) e;
  holds = ap (λ (r : Labelled). r.holds) e;
  fault = ap (λ (r : Labelled). r.fault) e;
}

pub same_then : (p q r : Labelled) → SameRun p q → SameRun q r → SameRun p r
same_then p q r a b = record { netlist = b.netlist ∙ a.netlist; holds = b.holds ∙ a.holds; fault = b.fault ∙ a.fault }

pub same_start : (p : Labelled) → SameRun p p
same_start p = record { netlist = refl; holds = refl; fault = refl }

pub forced : (f : Fault) (p q : Labelled) (fits shut : Bool) (ss new : List Step) (x : ℕ) (b : Bool) → SameRun p q
    → MatchBool shut (IsClosedPath f q.netlist q.holds ((x, not b) ∷ path_of ss)) (IsClosedPath f q.netlist q.holds ((x, not b) ∷ path_of ss) → ⊥)
    → fits ≡ true → StandsFor new (after (path_of ss) (waiting_of ss) (Forced x b))
    → MatchBool shut (IsForcedBy f p fits ss x b new) (fits ≡ true → IsClosedPath f p.netlist p.holds ((x, not b) ∷ path_of ss) → ⊥)
forced f p q fits true ss new x b same h e next = record {
  stands = e;
  shut = subst (λ (n : Netlist). IsClosedPath f n p.holds ((x, not b) ∷ path_of ss)) same.netlist
      (subst (λ (hs : Holds). IsClosedPath f q.netlist hs ((x, not b) ∷ path_of ss)) same.holds h);
  next = next;
}
forced f p q fits false ss new x b same h e next = λ stands closed.
    h (subst (λ (hs : Holds). IsClosedPath f q.netlist hs ((x, not b) ∷ path_of ss)) (sym same.holds)
    (subst (λ (n : Netlist). IsClosedPath f n p.holds ((x, not b) ∷ path_of ss)) (sym same.netlist) closed))

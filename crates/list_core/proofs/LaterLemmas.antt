-- What comes later: verdicts change only upwards, patterns and journal only grow; and no batch hits a redundant class.
use Rattle.std.proofs.Common.{◌≡◌, ℕ, ◌+◌, ◌<◌, Bool, true, false, List, [], ◌∷◌, ◌++◌, length, set, get_or, refl, sym, ap, ◌∙◌, subst, arith, inl, inr}
use Rattle.std.specs.Prelude.{if◌then◌else◌}
use Rattle.std.specs.List.{All}
use Rattle.std.proofs.lemmas.List.{append_assoc, get_or-set_same, get_or-set_other}
use Rattle.std.proofs.lemmas.Option.{same_Some, slice_get_within, get_or_from_slice_get}
use Rattle.netlist.specs.Conditions.{IsSound}
use Rattle.statement.specs.declared.lines.Fault.{Fault}
use Rattle.statement.specs.declared.lines.Point.{Point}
use Rattle.cubes.specs.Cubes.{IsPatternOf}
use Rattle.statement.specs.Patterns.{Detects}
use Rattle.redundancy_cert.specs.declared.nodes.Node.{Node}
use Rattle.evidence.specs.declared.kinds.Evidence.{Evidence}
use Rattle.evidence.specs.Laws.{ShownIsRedundant}
use Rattle.word_sim.specs.declared.batches.Hit.{Hit as HitOf}
use Rattle.list_core.specs.declared.verdicts.Entry.TheVariants.{Take, Settle as SettleEntry, Publish as PublishEntry}
use Rattle.list_core.specs.declared.verdicts.Verdict.{Verdict}
use Rattle.list_core.specs.declared.verdicts.Verdict.TheVariants.{Open, Detected, Redundant, Aborted}
use Rattle.list_core.specs.Subjects.{Subject, class_count, RepresentsIn}
use Rattle.word_sim.specs.Hits.{Batch}
use Rattle.list_core.specs.Batches.{IsTrueHit, IsTrueBatch}
use Rattle.list_core.specs.Verdicts.{verdict_at, is_undetected, VerdictHolds}
use Rattle.list_core.specs.States.{State, IsTrueList, verdict_by, ended_by, hit_one, hit_verdicts, hit_entries}
use Rattle.list_core.specs.Laws.{Event, Enter, Claim, Settle, Publish, Reserve, MayCome, AllMayCome, after, after_all, MayBecome, IsLater}
use Rattle.list_core.proofs.ListLemmas.{same_or}
use Rattle.list_core.proofs.EventLemmas.{open_and_free, true_entered, true_claimed, true_settled, true_spared}
use Rattle.list_core.proofs.HitLemmas.{true_published, length-hit_one, hit_class, all_head, all_tail}

stays : (v : Verdict) → MayBecome v v
stays Open = tt
stays (Detected p o) = refl
stays (Redundant e) = refl
stays (Aborted t) = refl

-- from one to the next and on
on : (u v w : Verdict) → MayBecome u v → MayBecome v w → MayBecome u w
on Open v w h k = tt
on (Detected p o) v w h k = let P : Verdict → Type 0 = λ x. MayBecome x w in subst P h k
on (Redundant e) v w h k = let P : Verdict → Type 0 = λ x. MayBecome x w in subst P h k
on (Aborted t) (Aborted u) w h k = let P : List Node → Type 0 = λ x. MayBecome (Aborted x) w in subst P h k
on (Aborted t) (Detected p o) w h k = let P : Verdict → Type 0 = λ x. MayBecome (Aborted t) x in subst P (sym k) tt
on (Aborted t) Open w h k = absurd cc
on (Aborted t) (Redundant e) w h k = absurd cc

becomes_detected : (v : Verdict) (p : ℕ) (o : Point) → is_undetected v ≡ true → MayBecome v (Detected p o)
becomes_detected Open p o e = tt
becomes_detected (Detected q r) p o e = absurd cc
becomes_detected (Redundant shown) p o e = absurd cc
becomes_detected (Aborted t) p o e = tt

set_becomes : (vs : List Verdict) (c : ℕ) (v : Verdict) (k : ℕ) → c < length vs → MayBecome (verdict_at vs c) v → MayBecome (verdict_at vs k) (verdict_at (set vs c v) k)
set_becomes vs c v k lt h =
    elim (same_or k c) [
      | inl e ↦ (let P : ℕ → Type 0 = λ n. MayBecome (verdict_at vs n) (verdict_at (set vs c v) n) in subst P (sym e) (let Q : Verdict → Type 0 = λ u. MayBecome (verdict_at vs c) u in subst Q (sym (get_or-set_same vs c v Open lt)) h))
      | inr ne ↦ (let Q : Verdict → Type 0 = λ u. MayBecome (verdict_at vs k) u in subst Q (sym (get_or-set_other vs c k v Open ne)) (stays (verdict_at vs k)))
    ]

one_becomes : (old : ℕ) (h : HitOf) (vs : List Verdict) (k : ℕ) (b : Bool) → is_undetected (verdict_at vs h.class) ≡ b → h.class < length vs → MayBecome (verdict_at vs k) (verdict_at (if b then set vs h.class (Detected (old + h.pattern) h.point) else vs) k)
one_becomes old h vs k true may lt = set_becomes vs h.class (Detected (old + h.pattern) h.point) k lt (becomes_detected (verdict_at vs h.class) (old + h.pattern) h.point may)
one_becomes old h vs k false may lt = stays (verdict_at vs k)

hits_become : (j : Subject) (b : Batch) (old : ℕ) (hs : List HitOf) (vs : List Verdict) (k : ℕ) → length vs ≡ class_count j → All (IsTrueHit j b.patterns) hs → MayBecome (verdict_at vs k) (verdict_at (hit_verdicts old hs vs) k)
hits_become j b old [] vs k n are = stays (verdict_at vs k)
hits_become j b old (h ∷ hs) vs k n are =
    let here = all_head (IsTrueHit j b.patterns) h hs are in
    let lt : h.class < length vs = omega (arith, hit_class j b.patterns h here, n) in
    on (verdict_at vs k) (verdict_at (hit_one old h vs) k) (verdict_at (hit_verdicts old hs (hit_one old h vs)) k)
    (one_becomes old h vs k (is_undetected (verdict_at vs h.class)) refl lt)
    (hits_become j b old hs (hit_one old h vs) k (length-hit_one old h vs ∙ n) (all_tail (IsTrueHit j b.patterns) h hs are))

nothing_behind : {A : Type 0} (xs : List A) → xs ≡ xs ++ []
nothing_behind [] = refl
nothing_behind (x ∷ xs) = ap (λ ys. x ∷ ys) (nothing_behind xs)

open_becomes : (v w : Verdict) → v ≡ Open → MayBecome v w
open_becomes v w e = let P : Verdict → Type 0 = λ x. MayBecome x w in subst P (sym e) tt

settled_within : (j : Subject) (s : State) (c : ℕ) (f : Fault) → IsTrueList j s → RepresentsIn j c f → c < length s.verdicts
settled_within j s c f h rep = omega (arith, h.count, slice_get_within j.faults c f rep)

-- one event
pub true_after : (j : Subject) (s : State) (e : Event) → IsTrueList j s → MayCome j s e → IsTrueList j (after s e)
true_after j s (Enter w c) h may = let parts = open_and_free j s c h may.0 may.1 in true_entered j s w c h may.0 parts.0 parts.1
true_after j s (Claim w c) h may = true_claimed j s w c h may.0 may.1 may.2
true_after j s (Settle w c e) h may = true_settled j s w c may.1 e h (settled_within j s c may.1 h may.2) may.0 may.2 may.3
true_after j s (Publish w b) h may = true_published j s w b h may
true_after j s (Reserve a b) h may = true_spared j s a b h

pub later_after : (j : Subject) (s : State) (e : Event) → IsTrueList j s → MayCome j s e → IsLater s (after s e)
later_after j s (Enter w c) h may = record { verdicts = λ k. stays (verdict_at s.verdicts k); more_patterns = []; patterns = nothing_behind s.patterns; more_entries = Take w c ∷ []; journal = refl }
later_after j s (Claim w c) h may = record { verdicts = λ k. stays (verdict_at s.verdicts k); more_patterns = []; patterns = nothing_behind s.patterns; more_entries = Take w c ∷ []; journal = refl }
later_after j s (Settle w c e) h may = record {
  verdicts = λ k. set_becomes s.verdicts c (verdict_by e) k (settled_within j s c may.1 h may.2) (open_becomes (verdict_at s.verdicts c) (verdict_by e) may.0);
  more_patterns = [];
  patterns = nothing_behind s.patterns;
  more_entries = SettleEntry w c (ended_by e) ∷ [];
  journal = refl;
}
later_after j s (Publish w b) h may = record {
  verdicts = λ k. hits_become j b (length s.patterns) b.hits s.verdicts k h.count may.hits;
  more_patterns = b.patterns;
  patterns = refl;
  more_entries = PublishEntry w (length b.patterns) ∷ hit_entries (length s.patterns) b.hits s.verdicts;
  journal = append_assoc s.journal (PublishEntry w (length b.patterns) ∷ []) (hit_entries (length s.patterns) b.hits s.verdicts);
}
later_after j s (Reserve a b) h may = record { verdicts = λ k. stays (verdict_at s.verdicts k); more_patterns = []; patterns = nothing_behind s.patterns; more_entries = []; journal = nothing_behind s.journal }

later_on : (s t u : State) → IsLater s t → IsLater t u → IsLater s u
later_on s t u h k = record {
  verdicts = λ c. on (verdict_at s.verdicts c) (verdict_at t.verdicts c) (verdict_at u.verdicts c) (h.verdicts c) (k.verdicts c);
  more_patterns = h.more_patterns ++ k.more_patterns;
  patterns = k.patterns ∙ (ap (λ ps. ps ++ k.more_patterns) h.patterns ∙ append_assoc s.patterns h.more_patterns k.more_patterns);
  more_entries = h.more_entries ++ k.more_entries;
  journal = k.journal ∙ (ap (λ es. es ++ k.more_entries) h.journal ∙ append_assoc s.journal h.more_entries k.more_entries);
}

-- all of them
pub true_after_all : (j : Subject) (s : State) (es : List Event) → IsTrueList j s → AllMayCome j s es → IsTrueList j (after_all s es) × IsLater s (after_all s es)
true_after_all j s [] h may = (h, record { verdicts = λ k. stays (verdict_at s.verdicts k); more_patterns = []; patterns = nothing_behind s.patterns; more_entries = []; journal = nothing_behind s.journal })
true_after_all j s (e ∷ es) h may =
    let rest = true_after_all j (after s e) es (true_after j s e h may.0) may.1 in
    (rest.0, later_on s (after s e) (after_all (after s e) es) (later_after j s e h may.0) rest.1)

-- no true batch hits a redundant class
hit_not_redundant : ShownIsRedundant → (j : Subject) (s : State) (b : Batch) (h : HitOf) (e : Evidence) → IsSound j.netlist → IsTrueList j s
    → All (IsPatternOf j.netlist j.holds) b.patterns → IsTrueHit j b.patterns h → verdict_at s.verdicts h.class ≡ Redundant e → ⊥
hit_not_redundant redundant j s b h e sound list patterns hit is =
    let held : VerdictHolds j s.patterns h.class (Redundant e) = (let P : Verdict → Type 0 = λ v. VerdictHolds j s.patterns h.class v in subst P is (list.hold h.class)) in
    let same : hit.fault ≡ held.0.fault = same_Some hit.fault held.0.fault (sym hit.represents ∙ held.0.represents) in
    let within = slice_get_within b.patterns h.pattern hit.pattern hit.at in
    let pattern : IsPatternOf j.netlist j.holds hit.pattern =
    subst (IsPatternOf j.netlist j.holds) (get_or_from_slice_get b.patterns h.pattern hit.pattern hit.pattern hit.at) (patterns h.pattern hit.pattern within) in
    redundant held.0.fault j.netlist j.holds e sound held.0.shows held.1 hit.pattern.inputs hit.pattern.cells h.point pattern.obeys
    (let P : Fault → Type 0 = λ f. Detects j.netlist f hit.pattern.inputs hit.pattern.cells h.point in subst P same hit.detects)

pub no_hit : ShownIsRedundant → (j : Subject) (s : State) (b : Batch) → IsSound j.netlist → IsTrueList j s → IsTrueBatch j b
    → All (λ (h : HitOf). (e : Evidence) → ¬ (verdict_at s.verdicts h.class ≡ Redundant e)) b.hits
no_hit redundant j s b sound list are = λ k d lt e is. hit_not_redundant redundant j s b (get_or b.hits k d) e sound list are.patterns (are.hits k d lt) is

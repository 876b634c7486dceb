-- What the work on one class does to the list.
use Rattle.std.proofs.Common.{◌≡◌, inl, inr, ℕ, ◌+◌, ◌<◌, Bool, true, false, List, [], ◌∷◌, length, set, refl, sym, ◌∙◌, ap, subst, arith}
use Rattle.std.specs.Prelude.{if◌then◌else◌, ◌==◌}
use Rattle.std.proofs.lemmas.List.{get_or-set_same, get_or-set_other, length-append}
use Rattle.redundancy_cert.specs.declared.nodes.Node.{Node}
use Rattle.redundancy_cert.specs.Trees.{open_count}
use Rattle.evidence.specs.declared.kinds.Evidence.{Evidence}
use Rattle.evidence.specs.declared.kinds.Evidence.TheVariants.{Tree, Refutation}
use Rattle.word_sim.specs.declared.batches.Hit.{Hit}
use Rattle.word_sim.specs.Hits.{Batch}
use Rattle.list_core.specs.declared.fault_list.Settling.{Settling}
use Rattle.list_core.specs.declared.fault_list.Settling.TheVariants.{Settled, Already}
use Rattle.list_core.specs.declared.verdicts.Verdict.{Verdict}
use Rattle.list_core.specs.declared.verdicts.Verdict.TheVariants.{Open, Detected, Redundant, Aborted}
use Rattle.list_core.specs.Outcomes.{MatchSettling}
use Rattle.list_core.specs.Verdicts.{verdict_at, is_open, is_undetected}
use Rattle.list_core.specs.States.{State, claimed, settled, published, spared, verdict_by, hit_verdicts, hit_one}
use Rattle.list_core.proofs.ListLemmas.{same_or}
use Rattle.worker.specs.Working.{NoneOpenBelow}
use Rattle.worker.specs.inner.Closing.{IsClosed}

-- ---- a class gets a verdict that isn't Open

set_closed : (vs : List Verdict) (class : ℕ) (v : Verdict) → class < length vs → is_open v ≡ false → is_open (verdict_at (set vs class v) class) ≡ false
set_closed vs class v lt shut = ap is_open (get_or-set_same vs class v Open lt) ∙ shut

set_stays : (vs : List Verdict) (class : ℕ) (v : Verdict) (c : ℕ) → class < length vs → is_open v ≡ false
    → is_open (verdict_at vs c) ≡ false → is_open (verdict_at (set vs class v) c) ≡ false
set_stays vs class v c lt shut was =
    elim (same_or c class) [
      | inl e ↦ ap (λ (n : ℕ). is_open (verdict_at (set vs class v) n)) e ∙ set_closed vs class v lt shut
      | inr ne ↦ ap is_open (get_or-set_other vs class c v Open ne) ∙ was
    ]

-- ---- by evidence

tree_closes : (nodes : List Node) (b : Bool) → is_open (if b then Redundant (Tree nodes) else Aborted nodes) ≡ false
tree_closes nodes true = refl
tree_closes nodes false = refl

evidence_closes : (e : Evidence) → is_open (verdict_by e) ≡ false
evidence_closes (Tree nodes) = tree_closes nodes (open_count nodes == 0)
evidence_closes (Refutation steps) = refl

settled_closes : (s : State) (worker class : ℕ) (e : Evidence) → class < length s.verdicts → IsClosed class 0 s (settled s worker class e)
settled_closes s worker class e lt = record {
  closed = set_closed s.verdicts class (verdict_by e) lt (evidence_closes e);
  stays = λ c was. set_stays s.verdicts class (verdict_by e) c lt (evidence_closes e) was;
  claims = omega arith;
  few = omega arith;
}

same_closes : (s : State) (class more : ℕ) → is_open (verdict_at s.verdicts class) ≡ false → IsClosed class more s s
same_closes s class more shut = record { closed = shut; stays = λ c was. was; claims = omega arith; few = omega arith }

pub settling_closes : {J : Type 0} (r : Settling J) (s t : State) (worker class : ℕ) (e : Evidence) → class < length s.verdicts
    → MatchSettling r
    ((verdict_at s.verdicts class ≡ Open) × (t ≡ settled s worker class e))
    (λ f c is_entered. (is_open (verdict_at s.verdicts class) ≡ false) × (t ≡ s) × (f ≡ e) × (c ≡ class) × (is_entered ≡ false))
    → IsClosed class 0 s t
settling_closes Settled s t worker class e lt h = subst (IsClosed class 0 s) (sym h.1) (settled_closes s worker class e lt)
settling_closes (Already f over) s t worker class e lt h = subst (IsClosed class 0 s) (sym h.1) (same_closes s class 0 h.0)

-- ---- by a hit

detected_closes : (v : Verdict) → is_undetected v ≡ false → is_open v ≡ false
detected_closes Open e = e
detected_closes (Detected place point) e = refl
detected_closes (Redundant evidence) e = refl
detected_closes (Aborted tree) e = refl

hit_closes : (old : ℕ) (h : Hit) (vs : List Verdict) (b : Bool) → is_undetected (verdict_at vs h.class) ≡ b → h.class < length vs
    → is_open (verdict_at (if b then set vs h.class (Detected (old + h.pattern) h.point) else vs) h.class) ≡ false
hit_closes old h vs true may lt = set_closed vs h.class (Detected (old + h.pattern) h.point) lt refl
hit_closes old h vs false may lt = detected_closes (verdict_at vs h.class) may

hit_stays : (old : ℕ) (h : Hit) (vs : List Verdict) (c : ℕ) (b : Bool) → h.class < length vs → is_open (verdict_at vs c) ≡ false
    → is_open (verdict_at (if b then set vs h.class (Detected (old + h.pattern) h.point) else vs) c) ≡ false
hit_stays old h vs c true lt was = set_stays vs h.class (Detected (old + h.pattern) h.point) c lt refl was
hit_stays old h vs c false lt was = was

-- one pattern with one hit
pub single_closes : (s t : State) (worker : ℕ) (b : Batch) (h : Hit) → h.class < length s.verdicts → b.hits ≡ h ∷ [] → length b.patterns ≡ 1
    → t ≡ published (spared s 1 2) worker b → IsClosed h.class 0 s t
single_closes s t worker b h lt hits one is =
    let old : ℕ = length s.patterns in
    let now : hit_verdicts old b.hits s.verdicts ≡ hit_one old h s.verdicts = ap (λ (hs : List Hit). hit_verdicts old hs s.verdicts) hits in
    let undetected : Bool = is_undetected (verdict_at s.verdicts h.class) in
    subst (IsClosed h.class 0 s) (sym is) (record {
      closed = ap (λ (vs : List Verdict). is_open (verdict_at vs h.class)) now ∙ hit_closes old h s.verdicts undetected refl lt;
      stays = λ c was. ap (λ (vs : List Verdict). is_open (verdict_at vs c)) now ∙ hit_stays old h s.verdicts c undetected lt was;
      claims = omega arith;
      few = omega (arith, length-append s.patterns b.patterns, one);
    })

-- ---- with the claim before it

pub none_to_claim : (s t : State) (class : ℕ) → is_open (verdict_at s.verdicts class) ≡ false → t ≡ s → IsClosed class 1 s t
none_to_claim s t class shut is = subst (IsClosed class 1 s) (sym is) (same_closes s class 1 shut)

pub claimed_closes : (s claim t : State) (worker class given : ℕ) → claim ≡ claimed s worker class → given ≡ class → IsClosed given 0 claim t → IsClosed class 1 s t
claimed_closes s claim t worker class given is same shut =
    let there : IsClosed class 0 (claimed s worker class) t = subst (λ (c : State). IsClosed class 0 c t) is (subst (λ (k : ℕ). IsClosed k 0 claim t) same shut) in
    record { closed = there.closed; stays = there.stays; claims = omega (arith, there.claims); few = there.few }

-- ---- one class after the other

pub none_open_yet : (k : ℕ) (s t : State) → NoneOpenBelow k s.verdicts → IsClosed k 1 s t → NoneOpenBelow (k + 1) t.verdicts
none_open_yet k s t none shut class less =
    elim (same_or class k) [
      | inl e ↦ ap (λ (n : ℕ). is_open (verdict_at t.verdicts n)) e ∙ shut.closed
      | inr ne ↦ shut.stays class (none class (omega (arith, less, ne)))
    ]

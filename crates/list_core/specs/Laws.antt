-- The laws of the list, each the contract of a function of its name.
use Rattle.std.specs.Prelude.{ℕ, ◌≡◌, ◌<◌, ◌++◌, ⊤, true, List, [], ◌∷◌}
use Rattle.std.specs.List.{All}
use Rattle.netlist.specs.Conditions.{IsSound}
use Rattle.statement.specs.declared.lines.Fault.{Fault}
use Rattle.statement.specs.Patterns.{Pattern}
use Rattle.evidence.specs.declared.kinds.Evidence.{Evidence}
use Rattle.word_sim.specs.declared.batches.Hit.{Hit}
use Rattle.list_core.specs.declared.verdicts.Entry.{Entry}
use Rattle.list_core.specs.declared.verdicts.Verdict.{Verdict}
use Rattle.list_core.specs.declared.verdicts.Verdict.TheVariants.{Open, Detected, Redundant, Aborted}
use Rattle.list_core.specs.Subjects.{Subject, class_count, RepresentsIn}
use Rattle.word_sim.specs.Hits.{Batch}
use Rattle.list_core.specs.Batches.{IsTrueBatch}
use Rattle.list_core.specs.Verdicts.{verdict_at}
use Rattle.list_core.specs.States.{State, fresh_list, may_enter, entered, claimed, settled, published, spared, MaySettle, IsTrueList}

-- an event that changes the list
pub data Event : Type 0 where
  Enter : ℕ → ℕ → Event
  Claim : ℕ → ℕ → Event
  Settle : ℕ → ℕ → Evidence → Event
  Publish : ℕ → Batch → Event
  Reserve : ℕ → ℕ → Event

-- when it may come
abbrev pub MayCome : Subject → State → Event → Type 0
MayCome j s (Enter worker class) = (class < class_count j) × (may_enter s class ≡ true)
MayCome j s (Claim worker class) = (class < class_count j) × (verdict_at s.verdicts class ≡ Open) × (s.claims < class_count j)
MayCome j s (Settle worker class evidence) = (verdict_at s.verdicts class ≡ Open) × (f : Fault) × RepresentsIn j class f × MaySettle j f evidence
MayCome j s (Publish worker batch) = IsTrueBatch j batch
MayCome j s (Reserve patterns entries) = ⊤

abbrev pub after : State → Event → State
after s (Enter worker class) = entered s worker class
after s (Claim worker class) = claimed s worker class
after s (Settle worker class evidence) = settled s worker class evidence
after s (Publish worker batch) = published s worker batch
after s (Reserve patterns entries) = spared s patterns entries

abbrev pub after_all : State → List Event → State
after_all s [] = s
after_all s (e ∷ es) = after_all (after s e) es

abbrev pub AllMayCome : Subject → State → List Event → Type 0
AllMayCome j s [] = ⊤
AllMayCome j s (e ∷ es) = MayCome j s e × AllMayCome j (after s e) es

-- a verdict changes only from Open, or from Aborted to Detected
abbrev pub MayBecome : Verdict → Verdict → Type 0
MayBecome Open w = ⊤
MayBecome (Detected place point) w = w ≡ Detected place point
MayBecome (Redundant evidence) w = w ≡ Redundant evidence
MayBecome (Aborted tree) (Detected place point) = ⊤
MayBecome (Aborted tree) Open = Aborted tree ≡ Open
MayBecome (Aborted tree) (Redundant evidence) = Aborted tree ≡ Redundant evidence
MayBecome (Aborted tree) (Aborted u) = u ≡ tree

pub record IsLater (s t : State) : Type 0 where
  pub verdicts : (class : ℕ) → MayBecome (verdict_at s.verdicts class) (verdict_at t.verdicts class)
  pub more_patterns : List Pattern
  pub patterns : t.patterns ≡ s.patterns ++ more_patterns
  pub more_entries : List Entry
  pub journal : t.journal ≡ s.journal ++ more_entries

-- Every interleaving: whatever events come, the list stays true, its verdicts change only upwards, and patterns and journal only grow.
abbrev pub EveryInterleaving : Type 0
EveryInterleaving =
    (j : Subject) (s : State) (es : List Event) → IsTrueList j s → AllMayCome j s es → IsTrueList j (after_all s es) × IsLater s (after_all s es)

abbrev pub FreshIsTrue : Type 0
FreshIsTrue = (j : Subject) → IsTrueList j (fresh_list (class_count j))

-- No true batch hits a redundant class.
abbrev pub NoHitIsRedundant : Type 0
NoHitIsRedundant =
    (j : Subject) (s : State) (b : Batch) → IsSound j.netlist → IsTrueList j s → IsTrueBatch j b
    → All (λ (h : Hit). (evidence : Evidence) → ¬ (verdict_at s.verdicts h.class ≡ Redundant evidence)) b.hits

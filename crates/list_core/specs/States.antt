-- The list of faults as a machine: its state, its events, and the facts that every event keeps.
use Rattle.std.specs.Prelude.{sum_by, ℕ, ◌≡◌, ◌+◌, ◌-◌, ◌^◌, ◌<◌, ◌≤◌, ◌==◌, ◌&&◌, not, Bool, true, false, if◌then◌else◌, List, [], ◌∷◌, ◌++◌, length, map, slice_index_or, slice_set, Some, replicate}
use Rattle.std.specs.List.{All}
use Rattle.statement.specs.declared.lines.Fault.{Fault}
use Rattle.statement.specs.Patterns.{Pattern}
use Rattle.redundancy_cert.specs.Trees.{open_count}
use Rattle.evidence.specs.declared.kinds.Evidence.{Evidence}
use Rattle.evidence.specs.declared.kinds.Evidence.TheVariants.{Tree, Refutation}
use Rattle.evidence.specs.Evidence.{Shows, open_ends, closed_ends, MayBe}
use Rattle.word_sim.specs.declared.batches.Hit.{Hit as HitOf}
use Rattle.list_core.specs.declared.verdicts.Entry.{Entry}
use Rattle.list_core.specs.declared.verdicts.Entry.TheVariants.{Take, Settle, Publish, Hit}
use Rattle.list_core.specs.declared.verdicts.Ended.{Ended}
use Rattle.list_core.specs.declared.verdicts.Verdict.{Verdict}
use Rattle.list_core.specs.declared.verdicts.Verdict.TheVariants.{Open, Detected, Redundant, Aborted}
use Rattle.cubes.specs.Cubes.{IsPatternOf}
use Rattle.list_core.specs.Subjects.{Subject, class_count}
use Rattle.word_sim.specs.Hits.{Batch}
use Rattle.list_core.specs.Verdicts.{verdict_at, is_open, is_undetected, one_if_class_open, AllHold}
use Rattle.list_core.specs.Journal.{one_if_take, is_taken, verdict_kind, Replay, replay}

-- For each class its verdict, the patterns, and the journal; beside them which classes the journal has a Take of,
-- how many claims by number there were, and the spare room.
pub record State : Type 0 where
  pub verdicts : List Verdict
  pub patterns : List Pattern
  pub journal : List Entry
  pub taken : List Bool
  pub claims : ℕ
  pub spare_patterns : ℕ
  pub spare_entries : ℕ

abbrev pub fresh_list : ℕ → State
fresh_list classes = record { verdicts = replicate classes Open; patterns = []; journal = []; taken = replicate classes false; claims = 0; spare_patterns = 0; spare_entries = 0 }

-- the class is Open, and the journal has no Take of it
abbrev pub may_enter : State → ℕ → Bool
may_enter s class = is_open (verdict_at s.verdicts class) && not (is_taken s.journal class)

abbrev pub entered : State → ℕ → ℕ → State
entered s worker class = record s { journal = s.journal ++ Take worker class ∷ []; taken = slice_set s.taken class true }

abbrev pub claimed : State → ℕ → ℕ → State
claimed s worker class = record s { journal = s.journal ++ Take worker class ∷ []; taken = slice_set s.taken class true; claims = s.claims + 1 }

-- Redundant where the evidence leaves nothing open, else Aborted
abbrev pub ended_by : Evidence → Ended
ended_by evidence = if open_ends evidence == 0 then Ended.Redundant else Ended.Aborted

abbrev pub verdict_by : Evidence → Verdict
verdict_by (Tree nodes) = if open_count nodes == 0 then Redundant (Tree nodes) else Aborted nodes
verdict_by (Refutation steps) = Redundant (Refutation steps)

abbrev pub settled : State → ℕ → ℕ → Evidence → State
settled s worker class evidence =
    record s { verdicts = slice_set s.verdicts class (verdict_by evidence); journal = s.journal ++ Settle worker class (ended_by evidence) ∷ [] }

-- one hit: a class that is Open or Aborted becomes Detected, at the old number of patterns plus the hit's place, with an entry
abbrev pub hit_one : ℕ → HitOf → List Verdict → List Verdict
hit_one old h verdicts =
    if is_undetected (verdict_at verdicts h.class) then slice_set verdicts h.class (Detected (old + h.pattern) h.point) else verdicts

abbrev pub entry_of : ℕ → HitOf → List Verdict → List Entry
entry_of old h verdicts =
    if is_undetected (verdict_at verdicts h.class) then Hit h.class (old + h.pattern) h.point ∷ [] else []

-- the hits of a batch, in its order
abbrev pub hit_verdicts : ℕ → List HitOf → List Verdict → List Verdict
hit_verdicts old [] verdicts = verdicts
hit_verdicts old (h ∷ hs) verdicts = hit_verdicts old hs (hit_one old h verdicts)

abbrev pub hit_entries : ℕ → List HitOf → List Verdict → List Entry
hit_entries old [] verdicts = []
hit_entries old (h ∷ hs) verdicts = entry_of old h verdicts ++ hit_entries old hs (hit_one old h verdicts)

abbrev pub published : State → ℕ → Batch → State
published s worker b =
    let old = length s.patterns in
    record s {
      verdicts = hit_verdicts old b.hits s.verdicts;
      patterns = s.patterns ++ b.patterns;
      journal = (s.journal ++ Publish worker (length b.patterns) ∷ []) ++ hit_entries old b.hits s.verdicts;
      spare_patterns = s.spare_patterns - length b.patterns;
      spare_entries = s.spare_entries - (length b.hits + 1);
    }

-- with other spare room
abbrev pub spared : State → ℕ → ℕ → State
spared s patterns entries = record s { spare_patterns = patterns; spare_entries = entries }

-- the event Publish, whatever spare room it leaves
abbrev pub IsPublished : State → ℕ → Batch → State → Type 0
IsPublished s worker b t = spared t 0 0 ≡ spared (published s worker b) 0 0

-- the evidence is of the fault; where it leaves an end open, it has as many closed ends as the backtrack limit; and it is a refutation only where
-- there may be one
pub record MaySettle (j : Subject) (fault : Fault) (evidence : Evidence) : Type 0 where
  pub shows : Shows fault j.netlist j.holds evidence
  pub closed : 1 ≤ open_ends evidence → closed_ends evidence ≡ j.limit
  pub kind : MayBe j.refutes evidence

-- what the journal's replay is
abbrev pub replayed : State → ℕ → Replay
replayed s fresh = record { kinds = map verdict_kind s.verdicts; patterns = length s.patterns; fresh = fresh }

-- the classes from k on that are Open or Aborted, in order
abbrev pub undetected_from : ℕ → List Verdict → List ℕ
undetected_from k [] = []
undetected_from k (v ∷ vs) = if is_undetected v then k ∷ undetected_from (k + 1) vs else undetected_from (k + 1) vs

-- 1 for a class that was not taken
abbrev pub one_if_free : Bool → ℕ
one_if_free true = 0
one_if_free false = 1

abbrev pub mark_at : List Bool → ℕ → Bool
mark_at taken class = slice_index_or taken class false

-- what every event keeps
pub record IsTrueList (j : Subject) (s : State) : Type 0 where
  -- every class is Open or has a verdict that holds, and every pattern is one of the netlist
  pub count : length s.verdicts ≡ class_count j
  pub hold : AllHold j s.patterns s.verdicts
  pub patterns : All (IsPatternOf j.netlist j.holds) s.patterns
  -- the journal is legal, and its replay is the list
  pub fresh : ℕ
  pub legal : replay (class_count j) s.journal ≡ Some (replayed s fresh)
  -- which classes the journal has a Take of
  pub marks : length s.taken ≡ class_count j
  pub marked : (class : ℕ) → class < class_count j → mark_at s.taken class ≡ is_taken s.journal class
  -- one Take for each class that was taken, and one more at most for each claim
  pub claims : s.claims ≤ class_count j
  pub takes : sum_by one_if_take s.journal + sum_by one_if_free s.taken ≤ class_count j + s.claims
  pub by_claim : s.claims ≤ sum_by one_if_take s.journal

-- ---- for private functions

-- what a list keeps beside: the faults, the backtrack limit, and room for what is still to come
pub record IsKept (j : Subject) (s : State) (faults : List Fault) (limit entries entries_room patterns patterns_room : ℕ) : Type 0 where
  pub true_list : IsTrueList j s
  pub faults_are : faults ≡ j.faults
  pub limit_is : limit ≡ j.limit
  pub few : class_count j < 2 ^ 31
  pub room : entries + class_count j + sum_by one_if_free s.taken + sum_by one_if_class_open s.verdicts + s.spare_entries ≤ entries_room + s.claims
  pub spare : patterns + s.spare_patterns ≤ patterns_room

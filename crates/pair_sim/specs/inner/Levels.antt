-- The decisions of a path with what changed at each, and how the path's labels go back to those of a shorter one (private to this crate).
use Rattle.std.specs.Prelude.{ℕ, ◌≡◌, ◌+◌, ◌<◌, ◌≤◌, ◌==◌, Bool, false, not, List, [], ◌∷◌, map, reverse, length, take, drop, Option, Some, None, IsTrue, IsFalse, if◌then◌else◌}
use Rattle.std.specs.Bool.{MatchBool}
use Rattle.std.specs.List.{Contains, count_by}
use Rattle.statement.specs.declared.kinds.Tri.{Tri}
use Rattle.statement.specs.declared.kinds.Tri.TheVariants.{Zero, One, X}
use Rattle.statement.specs.declared.lines.Fault.{Fault}
use Rattle.statement.specs.Netlists.{Netlist, signals}
use Rattle.netlist.specs.Settled.{at}
use Rattle.statement.specs.Patterns.{Holds}
use Rattle.tri.specs.declared.labels.Label.{Label}
use Rattle.tri.specs.Labels.{is_known_as, label_of, IsContradicted}
use Rattle.tri.specs.Labelling.{AreLabelled, decided_in}
use Rattle.tri.specs.Paths.{Path, decisions}
use Rattle.events.specs.declared.trails.Change.{Change}
use Rattle.events.specs.Trails.{AreChanges}
use Rattle.pair_sim.specs.declared.levels.Level.{Level}

-- the label of a signal of which nothing is known
abbrev pub blank : Label
blank = label_of None X X false

-- the decisions of levels, the last one first in both
abbrev pub path_of : List Level → Path
path_of [] = []
path_of (v ∷ vs) = (v.signal, v.bit) ∷ path_of vs

-- how much a label tells: one for each of its three values that is known, and one where it may not differ
abbrev pub known_rank : Tri → ℕ
known_rank Zero = 1
known_rank One = 1
known_rank X = 0

abbrev pub rank : Label → ℕ
rank l = known_rank l.own + known_rank l.good + known_rank l.faulty + (if l.may_differ then 0 else 1)

-- how often the signal stands on a trail
abbrev pub times : ℕ → List (Change Label) → ℕ
times x trail = count_by (λ (c : Change Label). c.signal == x) trail

-- The trail against the labels of the path without decisions: a signal that stands on it k times has a rank that is greater by k at least,
-- and one that doesn't has its first label.
pub record IsNoted (f : Fault) (n : Netlist) (holds : Holds) (trail : List (Change Label)) (values : List Label) : Type 0 where
  pub start : List Label
  pub are : AreLabelled (Some f) (decisions []) n holds start
  pub within : (c : Change Label) → Contains trail c → c.signal < length (signals n)
  pub counted : (x : ℕ) → rank (at start blank x) + times x trail ≤ rank (at values blank x)
  pub others : (x : ℕ) → times x trail ≡ 0 → at values blank x ≡ at start blank x

-- The last level, over what stands below it. Where a decision is contradicted the trail has nothing of it.
pub record IsOnTop (f : Fault) (n : Netlist) (holds : Holds) (v : Level) (vs : List Level) (rest : List (Change Label) → List Label → Type 0)
    (trail : List (Change Label)) (values : List Label) : Type 0 where
  pub within : v.signal < length (signals n)
  pub fresh : decisions (path_of vs) v.signal ≡ None
  pub mark : v.mark ≤ length trail
  pub below : List Label
  pub are : AreLabelled (Some f) (decisions (path_of vs)) n holds below
  pub free : (at below blank v.signal).good ≡ X
  pub changes : IsFalse v.contradicted → AreChanges below values (drop v.mark trail)
  pub noted : IsFalse v.contradicted → IsNoted f n holds trail values
  pub none : IsTrue v.contradicted → length trail ≡ v.mark
  pub flag : MatchBool v.contradicted (IsContradicted (decisions (path_of (v ∷ vs))) n (at values blank)) (¬ IsContradicted (decisions (path_of (v ∷ vs))) n (at values blank))
  pub under : rest (take v.mark trail) below

-- the trail and the labels go back level by level (the last level first)
abbrev pub GoBack : Fault → Netlist → Holds → List Level → List (Change Label) → List Label → Type 0
GoBack f n holds [] trail values = trail ≡ []
GoBack f n holds (v ∷ vs) trail values = IsOnTop f n holds v vs (GoBack f n holds vs) trail values

-- whether a decision of the levels is contradicted (the last level first)
abbrev pub is_contradicted : List Level → Bool
is_contradicted [] = false
is_contradicted (v ∷ vs) = v.contradicted

-- how many signals are decided
abbrev pub decided_count : List (Option Bool) → ℕ
decided_count [] = 0
decided_count (None ∷ row) = decided_count row
decided_count (Some b ∷ row) = decided_count row + 1

-- the decided bit is the other one than what the pins tell
abbrev pub clashes : Option Bool → Tri → Bool
clashes None own = false
clashes (Some b) own = is_known_as (not b) own

-- A simulation as it is kept: the decided bits by number, the levels (the first one first), the signals of the trail, the labels and the trail.
pub record IsKept (f : Fault) (n : Netlist) (holds : Holds) (row : List (Option Bool)) (levels : List Level) (names : List ℕ) (values : List Label) (trail : List (Change Label)) : Type 0 where
  pub row_size : length row ≡ length (signals n)
  pub row_is : (x : ℕ) → decided_in row x ≡ decisions (path_of (reverse levels)) x
  pub counted : decided_count row ≡ length levels
  pub labelled : AreLabelled (Some f) (decisions (path_of (reverse levels))) n holds values
  pub back : GoBack f n holds (reverse levels) trail values
  pub names_are : names ≡ map (λ (c : Change Label). c.signal) trail

-- a decision on the signal of a change is contradicted
abbrev pub clashes_at : List (Option Bool) → List Label → Change Label → Bool
clashes_at row values c = clashes (decided_in row c.signal) (at values blank c.signal).own

-- What is done after the labels of a decision were worked out, and to take it back.
use Rattle.std.specs.Prelude.{ℕ, ◌≡◌, ◌⊎◌, ◌++◌, Bool, false, true, List, [], map, take, drop, slice_set, length, vec_capacity, Option, Some, None, IsTrue}
use Rattle.std.specs.List.{list_any, flat_map}
use Rattle.statement.specs.declared.kinds.Tri.TheVariants.{X}
use Rattle.statement.specs.declared.lines.Line.{Line}
use Rattle.statement.specs.declared.lines.Line.TheVariants.{Stem, Pin, Out}
use Rattle.statement.specs.declared.lines.Fault.{Fault}
use Rattle.statement.specs.Patterns.{Holds}
use Rattle.tri.specs.declared.labels.Label.{Label}
use Rattle.tri.specs.declared.labelling.Labelling.{Labelling}
use Rattle.tri.specs.Labels.{labels, label_of}
use Rattle.tri.specs.Labelling.{AreLabelled, decided_in}
use Rattle.events.specs.declared.trails.Change.{Change}
use Rattle.events.specs.Standing.{Standing, Moves, SettlesAnew}
use Rattle.events.specs.Stuck.{IsObservedOnly}
use Rattle.events.specs.Trails.{AreChanges, undone}
use Rattle.label_events.specs.Lines.{AgreeOnOtherLines}
use Rattle.pair_sim.specs.declared.reach.Reach.{Reach}
use Rattle.pair_sim.specs.inner.Levels.{clashes_at}
use Rattle.pair_sim.specs.inner.Reach.{reached_one}

-- the decided bit of a signal changed, and the labels settled anew
pub record IsRelabelled (x : ℕ) (decision : Option Bool) (old new : Labelling) (s s' : Standing Label) : Type 0 where
  pub moves : Moves s s'
  pub settles : SettlesAnew (labels new.fault (decided_in new.decided.items)) s.netlist x (label_of decision X X false) s.values s'.values
  pub row : new.decided.items ≡ slice_set old.decided.items x decision
  pub fault : new.fault ≡ old.fault

-- a decision is contradicted: the trail has nothing of the last one
pub record IsForgotten (was : Bool) (row : List (Option Bool)) (mark : ℕ) (s s' : Standing Label) (names names' : List ℕ) : Type 0 where
  pub is : s' ≡ record s { trail = take mark s.trail }
  pub names_are : names' ≡ names
  pub cause : (was ≡ true) ⊎ (list_any (clashes_at row s.values) (drop mark s.trail) ≡ true)

-- none is: the signals whose labels changed are named
pub record IsNamed (was : Bool) (row : List (Option Bool)) (mark : ℕ) (s s' : Standing Label) (names names' : List ℕ) : Type 0 where
  pub is : s' ≡ s
  pub names_are : names' ≡ names ++ map (λ (c : Change Label). c.signal) (drop mark s.trail)
  pub possible : was ≡ false
  pub none : list_any (clashes_at row s.values) (drop mark s.trail) ≡ false

-- the trail is played back
pub record IsPlayedBack (x mark : ℕ) (old new : Labelling) (s s' : Standing Label) (names names' : List ℕ) : Type 0 where
  pub is : s' ≡ record s { values = undone (drop mark s.trail) s.values; trail = take mark s.trail }
  pub row : new.decided.items ≡ slice_set old.decided.items x None
  pub fault : new.fault ≡ old.fault
  pub names_are : names' ≡ take mark names

-- the labels settle anew, and what that put onto the trail is taken off
pub record IsSettledBack (x mark : ℕ) (old new : Labelling) (s s' : Standing Label) (names names' : List ℕ) : Type 0 where
  pub between : Standing Label
  pub relabelled : IsRelabelled x None old new s between
  pub is : s' ≡ record between { trail = take mark between.trail }
  pub names_are : names' ≡ names

-- the signal that may change where the fault on this line does
abbrev pub site_of : Line → Option ℕ
site_of (Stem x) = Some x
site_of (Pin z k) = Some z
site_of (Out x) = None

-- what settled under another fault on this line, or none, settles, and the trail has gained what changed
pub record IsSiteSettled (holds : Holds) (line : Line) (b : Labelling) (s s' : Standing Label) : Type 0 where
  pub netlist : s'.netlist ≡ s.netlist
  pub room : s'.room ≡ s.room
  pub changes : List (Change Label)
  pub trail : s'.trail ≡ s.trail ++ changes
  pub are_changes : AreChanges s.values s'.values changes
  pub labelled : (f : Option Fault) → AgreeOnOtherLines line f b.fault → AreLabelled f (decided_in b.decided.items) s.netlist holds s.values
      → AreLabelled b.fault (decided_in b.decided.items) s.netlist holds s'.values

-- another fault, or none, comes onto a line, and the labels settle anew; the trail is empty then
pub record IsFaultPut (holds : Holds) (fault : Option Fault) (old new : Labelling) (s s' : Standing Label) : Type 0 where
  pub fault_is : new.fault ≡ fault
  pub row : new.decided.items ≡ old.decided.items
  pub netlist : s'.netlist ≡ s.netlist
  pub room : s'.room ≡ s.room
  pub trail : s'.trail ≡ []
  pub labelled : AreLabelled old.fault (decided_in old.decided.items) s.netlist holds s.values → AreLabelled fault (decided_in old.decided.items) s.netlist holds s'.values

-- a fault comes where there was none, and the labels settle anew; the trail has what changed
pub record IsFaultSet (holds : Holds) (fault : Fault) (old new : Labelling) (s s' : Standing Label) : Type 0 where
  pub fault_is : new.fault ≡ Some fault
  pub row : new.decided.items ≡ old.decided.items
  pub netlist : s'.netlist ≡ s.netlist
  pub room : s'.room ≡ s.room
  pub are_changes : AreChanges s.values s'.values s'.trail
  pub labelled : AreLabelled old.fault (decided_in old.decided.items) s.netlist holds s.values → AreLabelled (Some fault) (decided_in old.decided.items) s.netlist holds s'.values

-- Another fault comes in place of one, over the labels without a fault. What is noted of its reach is what it changes of these.
pub record IsFaultReplaced (holds : Holds) (fault : Fault) (old new : Labelling) (reach reach' : Reach) (s s' : Standing Label) : Type 0 where
  pub put : IsFaultPut holds (Some fault) old new s s'
  pub good : List Label
  pub good_are : AreLabelled old.fault (decided_in old.decided.items) s.netlist holds s.values → AreLabelled None (decided_in old.decided.items) s.netlist holds good
  pub changes : List (Change Label)
  pub are_changes : AreChanges good s'.values changes
  pub points : reach'.points ≡ reach.points
  pub known : IsTrue reach'.known → ¬ IsObservedOnly s.netlist fault.line
  pub signals_are : reach'.signals.items ≡ flat_map (reached_one reach.points.first.items (length reach.points.seen.items) s'.values) changes
  pub reach_room : vec_capacity reach'.signals ≡ vec_capacity reach.signals

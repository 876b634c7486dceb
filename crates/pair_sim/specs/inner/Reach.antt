-- The signals at observed points that a fault may reach, and what their labels tell (private to this crate).
use Rattle.std.specs.Prelude.{ℕ, ◌≡◌, ◌≤◌, ◌<◌, ◌&&◌, Bool, true, false, nat_lt, List, [], ◌∷◌, length, slice_index, Some, IsTrue, IsFalse, if◌then◌else◌}
use Rattle.std.specs.List.{All, Contains}
use Rattle.statement.specs.declared.lines.Fault.{Fault}
use Rattle.statement.specs.Patterns.{Holds}
use Rattle.statement.specs.Netlists.{Netlist, signals}
use Rattle.netlist.specs.Settled.{at}
use Rattle.tri.specs.declared.labels.Label.{Label}
use Rattle.tri.specs.Labelling.{AreLabelled}
use Rattle.tri.specs.Paths.{decisions, has_effect}
use Rattle.events.specs.declared.trails.Change.{Change}
use Rattle.events.specs.Stuck.{IsObservedOnly}
use Rattle.observed_points.specs.Points.{ArePoints, watched, point_of}
use Rattle.pair_sim.specs.declared.states.State.{State}
use Rattle.pair_sim.specs.declared.states.State.TheVariants.{Test, Blocked, Going}
use Rattle.pair_sim.specs.inner.Levels.{blank}

-- of a change, the signal where an observed point reads it (the first one that does stands below their count) and it may differ
abbrev pub reached_one : List ℕ → ℕ → List Label → Change Label → List ℕ
reached_one first count values c = if nat_lt (slice_index first c.signal) count && (at values blank c.signal).may_differ then c.signal ∷ [] else []

-- The fault enters an equation, and these are all signals at observed points that may differ without a decision.
pub record AreReached (f : Fault) (n : Netlist) (holds : Holds) (ids : List ℕ) : Type 0 where
  pub enters : ¬ IsObservedOnly n f.line
  pub watched_are : All (Contains (watched n)) ids
  pub each : (start : List Label) → AreLabelled (Some f) (decisions []) n holds start → (x : ℕ) → Contains (watched n) x → IsTrue (at start blank x).may_differ → Contains ids x

-- the points of the netlist, and these signals where they are known
pub record IsReach (f : Fault) (n : Netlist) (holds : Holds) (seen first numbers : List ℕ) (known : Bool) (ids : List ℕ) (room : ℕ) : Type 0 where
  pub points_are : ArePoints n seen first numbers
  pub reached : IsTrue known → AreReached f n holds ids
  pub room_is : length (signals n) ≤ room

-- what the labels of these signals tell: the first point with an effect, or the count of points, and whether one may differ
pub record AreViewed (first : List ℕ) (count : ℕ) (values : List Label) (ids : List ℕ) (least : ℕ) (differs : Bool) : Type 0 where
  pub bounded : least ≤ count
  pub here : least < count → (x : ℕ) × Contains ids x × IsTrue (has_effect (at values blank x)) × (slice_index first x ≡ least)
  pub before : (x : ℕ) → Contains ids x → IsTrue (has_effect (at values blank x)) → least ≤ slice_index first x
  pub some : IsTrue differs → (x : ℕ) × Contains ids x × IsTrue (at values blank x).may_differ
  pub none : IsFalse differs → (x : ℕ) → Contains ids x → IsFalse (at values blank x).may_differ

-- where a path stands by that
abbrev pub IsStateInView : Netlist → List ℕ → ℕ → List Label → List ℕ → State → Type 0
IsStateInView n first count values ids (Test point) = (least : ℕ) × (differs : Bool) × AreViewed first count values ids least differs × (least < count) × (point ≡ point_of n least)
IsStateInView n first count values ids Blocked = AreViewed first count values ids count false
IsStateInView n first count values ids Going = AreViewed first count values ids count true

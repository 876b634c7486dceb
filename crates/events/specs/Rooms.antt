-- What an evaluator keeps beside its netlist.
use Rattle.std.specs.Prelude.{ℕ, ◌≡◌, Bool, List}
use Rattle.statement.specs.Netlists.{Netlist}
use Rattle.events.specs.declared.trails.Change.{Change}
use Rattle.events.specs.Standing.{Standing, standing}
use Rattle.events.specs.inner.Running.{AreReady}

-- the tables that it reads, the marks of its agenda, the values, and the trail with its capacity
pub record Room (V : Type 0) : Type 0 where
  pub order : List ℕ
  pub places : List ℕ
  pub fans : List (List ℕ)
  pub marks : List Bool
  pub values : List V
  pub trail : List (Change V)
  pub capacity : ℕ

-- the room is that of an evaluator of this netlist
abbrev pub IsReusableRoom : {V : Type 0} → Netlist → Room V → Type 0
IsReusableRoom n r = AreReady n r.order r.places r.fans r.marks r.values r.trail r.capacity

-- the values of the netlist as they stand in the room
abbrev pub standing_in : {V : Type 0} → Netlist → Room V → Standing V
standing_in n r = standing n r.values r.trail r.capacity

-- what these values leave behind
pub record IsRoomOf {V : Type 0} (s : Standing V) (r : Room V) : Type 0 where
  pub serves : IsReusableRoom s.netlist r
  pub stands : s ≡ standing_in s.netlist r

-- Other values on inputs and cells, and the gates that these call.
use Rattle.std.specs.Prelude.{ℕ, ◌≡◌, ◌<◌, ◌⊎◌, Bool, List, length, slice_set, IsTrue}
use Rattle.std.specs.List.{list_any}
use Rattle.statement.specs.Netlists.{Netlist, readers_of}
use Rattle.statement.specs.Values.{Rule}
use Rattle.netlist.specs.Settled.{at}
use Rattle.netlist.specs.Settling.{IsDriven}
use Rattle.events.specs.Agendas.{marked}
use Rattle.events.specs.inner.Placing.{is_pin_at}

-- the gates that read a signal are marked
abbrev pub AreCalled : Netlist → List ℕ → ℕ → List Bool → Type 0
AreCalled n places x marks = (q : ℕ) → q < length marks → IsTrue (list_any (is_pin_at places q) (readers_of n x)) → IsTrue (marked marks q)

-- what is marked stays marked
pub record StayMarked (marks marks' : List Bool) : Type 0 where
  pub size : length marks' ≡ length marks
  pub kept : (q : ℕ) → IsTrue (marked marks q) → IsTrue (marked marks' q)

-- a signal has its value, and where it changed the gates that read it are marked
pub record Puts {V : Type 0} (n : Netlist) (places : List ℕ) (id : ℕ) (v : V) (old new : List V) (marks marks' : List Bool) : Type 0 where
  pub stay : StayMarked marks marks'
  pub values : new ≡ slice_set old id v
  pub called : ((d : V) → v ≡ at old d id) ⊎ AreCalled n places id marks'

-- the first m of these signals have what is driven onto them, and where a signal changed the gates that read it are marked
pub record AreDriven {V : Type 0} (rule : Rule V) (n : Netlist) (places ids : List ℕ) (driven old new : List V) (marks marks' : List Bool) (m : ℕ) : Type 0 where
  pub stay : StayMarked marks marks'
  pub driven_is : IsDriven rule ids driven old new m
  pub called : (x : ℕ) → ((d : V) → at new d x ≡ at old d x) ⊎ AreCalled n places x marks'

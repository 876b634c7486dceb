-- Which gates the cycles of a burst have to evaluate, where each machine has another line stuck.
use Rattle.std.specs.Prelude.{ℕ, ◌≡◌, ◌-◌, ◌<◌, ◌⊎◌, Bool, false, List, ◌++◌, length, map, replicate}
use Rattle.std.specs.List.{AllZip, slice_get}
use Rattle.statement.specs.declared.kinds.Tri.{Tri}
use Rattle.statement.specs.declared.lines.Fault.{Fault}
use Rattle.statement.specs.Netlists.{Netlist, cells, signals}
use Rattle.statement.specs.Values.{Settles}
use Rattle.netlist.specs.Orders.{IsOrder}
use Rattle.netlist.specs.Settled.{at}
use Rattle.netlist.specs.ThreeValues.{is_x}
use Rattle.scan_play.specs.declared.cycles.Burst.{Burst}
use Rattle.scan_play.specs.inner.Plans.{IsPlanned}
use Rattle.lane_play.specs.declared.packed.Lanes.{Lanes}
use Rattle.lane_play.specs.inner.Lanes.{always, lane, lanes, lanes_rule, unknown}

-- what settles where nothing is known of the cells, nor of the inputs behind those that are driven with these bits
abbrev pub AreStill : List Fault → Netlist → List Bool → List Lanes → Type 0
AreStill faults n drive values =
    (d : Lanes) → Settles (lanes_rule faults) n (map always drive ++ replicate (length n.inputs - length drive) unknown) (replicate (length (cells n)) unknown) (at values d)

-- where the table has no X, each machine's value is known
abbrev pub AreCommon : List Lanes → List Tri → Type 0
AreCommon values table = AllZip (λ v t. (k : ℕ) → k < 128 → is_x t ≡ false → is_x (lane k v) ≡ false) values table

-- With these values every cycle of a burst can be played by these steps, in each machine.
abbrev pub ArePlanned : List Fault → Netlist → List Bool → List Tri → List ℕ → List Lanes → Type 0
ArePlanned faults n drive strobe steps values = (k : ℕ) → k < 128 → IsPlanned (slice_get faults k) n drive strobe steps (lanes k values)

-- From these values every cycle of a burst can be played by these steps: they are all gates, in an order, or those of a plan.
abbrev pub AreEnough : List Fault → Netlist → Burst → List ℕ → List Lanes → Type 0
AreEnough faults n b steps values = (IsOrder n steps × (length values ≡ length (signals n))) ⊎ ArePlanned faults n b.drive.items b.strobe.items steps values

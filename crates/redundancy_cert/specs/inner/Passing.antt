-- The labels under a fault and decisions, as they stand while a tree is walked.
use Rattle.std.specs.Prelude.{ℕ, ◌≡◌, ◌==◌, ◌⊎◌, Bool, false, List, [], length, Option, None, slice_index_or, IsTrue}
use Rattle.std.specs.List.{All, Contains}
use Rattle.statement.specs.declared.kinds.Tri.TheVariants.{Zero}
use Rattle.statement.specs.declared.lines.Fault.{Fault}
use Rattle.statement.specs.Netlists.{Definition, Netlist, cells, signals}
use Rattle.statement.specs.Patterns.{Holds}
use Rattle.netlist.specs.Holds.{AreHoldsOf}
use Rattle.netlist.specs.Settled.{at}
use Rattle.events.specs.Waiting.{SettlesBut}
use Rattle.events.specs.declared.trails.Change.{Change}
use Rattle.tri.specs.declared.labels.Label.{Label}
use Rattle.tri.specs.Labels.{Decisions, labels, input_labels, cell_labels, AreLabels}
use Rattle.tri.specs.Labelling.{decided_in}
use Rattle.redundancy_cert.specs.inner.Tallies.{count_pairs, shows, contradicts}

-- the label that a read past the end is said to give
abbrev pub no_label : Label
no_label = record { own = Zero; good = Zero; faulty = Zero; may_differ = false }

-- what the labels are of, and the labels
pub record Labelled : Type 0 where
  pub netlist : Netlist
  pub holds : Holds
  pub fault : Option Fault
  pub decided : List (Option Bool)
  pub values : List Label

-- they are the labels
pub record AreStanding (p : Labelled) : Type 0 where
  pub holds : AreHoldsOf p.netlist p.holds
  pub decided : length p.decided ≡ length (signals p.netlist)
  pub size : length p.values ≡ length (signals p.netlist)
  pub labels : (d : Label) → AreLabels p.fault (decided_in p.decided) p.netlist p.holds (at p.values d)

-- an output reads it, or a cell's pin
abbrev pub IsObserved : Netlist → ℕ → Type 0
IsObserved n x = Contains n.outputs x ⊎ ((d : Definition) × Contains (cells n) d × Contains d.pins x)

-- a mark for each signal that is observed
pub record AreObserved (n : Netlist) (marks : List Bool) : Type 0 where
  pub size : length marks ≡ length (signals n)
  pub outputs : All (λ x. IsTrue (slice_index_or marks x false)) n.outputs
  pub pins : All (λ (d : Definition). All (λ x. IsTrue (slice_index_or marks x false)) d.pins) (cells n)
  pub only : (x : ℕ) → IsTrue (slice_index_or marks x false) → IsObserved n x

-- these signals are marked too
pub record Marks (ids : List ℕ) (old new : List Bool) : Type 0 where
  pub size : length new ≡ length old
  pub marked : All (λ x. IsTrue (slice_index_or new x false)) ids
  pub kept : (x : ℕ) → IsTrue (slice_index_or old x false) → IsTrue (slice_index_or new x false)
  pub only : (x : ℕ) → IsTrue (slice_index_or new x false) → IsTrue (slice_index_or old x false) ⊎ Contains ids x

-- what is kept beside the labels
pub record IsKept (p : Labelled) (marks : List Bool) (differing contradicted : ℕ) (trail : List (Change Label)) : Type 0 where
  pub standing : AreStanding p
  pub marks_are : AreObserved p.netlist marks
  pub differing_is : differing ≡ count_pairs shows marks p.values
  pub contradicted_is : contradicted ≡ count_pairs contradicts p.decided p.values
  pub trail_is : trail ≡ []

-- labels that settled but for one signal settle
pub record IsResettled (f : Option Fault) (path : Decisions) (n : Netlist) (holds : Holds) (id : ℕ) (old new : List Label) : Type 0 where
  pub size : length new ≡ length old
  pub each : (d : Label) → SettlesBut (λ x. x == id) (labels f path) n (input_labels path n holds) (cell_labels path n) (at old d)
      → AreLabels f path n holds (at new d)

-- without a fault and a decision
pub record IsStart (n : Netlist) (h : Holds) (p : Labelled) : Type 0 where
  pub netlist : p.netlist ≡ n
  pub holds : p.holds ≡ h
  pub fault : p.fault ≡ None
  pub free : (x : ℕ) → decided_in p.decided x ≡ None

-- the same netlist, held inputs and fault
pub record SameRun (p q : Labelled) : Type 0 where
  pub netlist : q.netlist ≡ p.netlist
  pub holds : q.holds ≡ p.holds
  pub fault : q.fault ≡ p.fault

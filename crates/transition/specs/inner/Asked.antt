-- What is asked of a search for slow lines.
use Rattle.std.specs.Prelude.{ℕ, ◌≡◌, ◌<◌, ◌≤◌, ◌^◌, Bool, List, length}
use Rattle.std.specs.List.{All}
use Rattle.statement.specs.declared.lines.Fault.{Fault}
use Rattle.statement.specs.Netlists.{Netlist}
use Rattle.statement.specs.Patterns.{Holds}
use Rattle.netlist.specs.Designs.{IsDesign}
use Rattle.netlist.specs.Holds.{AreHoldsOf}
use Rattle.netlist.specs.Lines.{IsLineOf}
use Rattle.evidence.specs.declared.engine.Found.{Found}
use Rattle.transition_frames.specs.Frames.{frame_names}
use Rattle.transition.specs.Searches.{AreFound, HasFrameEvidence}

-- answers for those of these faults of the netlist that are left, by this limit and under these held inputs, and whether refutations may be among them
pub record Asked : Type 0 where
  pub netlist : Netlist
  pub holds : Holds
  pub limit : ℕ
  pub refutes : Bool
  pub faults : List Fault
  pub left : List Bool

abbrev pub asked : Netlist → Holds → ℕ → Bool → List Fault → List Bool → Asked
asked n holds limit refutes faults left = record { netlist = n; holds = holds; limit = limit; refutes = refutes; faults = faults; left = left }

-- all that a search rests on
pub record IsTask (a : Asked) (names : List (List ℕ)) : Type 0 where
  pub design : IsDesign a.netlist
  pub names_are : names ≡ frame_names a.netlist
  pub held : AreHoldsOf a.netlist a.holds
  pub limited : 1 ≤ a.limit
  pub lines : All (λ (f : Fault). IsLineOf a.netlist f.line) a.faults
  pub few : length a.faults < 2 ^ 32
  pub size : length a.left ≡ length a.faults

-- an answer for a fault
abbrev pub IsAnswer : Asked → Fault → Found → Type 0
IsAnswer a f found = HasFrameEvidence a.netlist a.holds a.limit a.refutes f found

-- one for each of some faults, in order
abbrev pub AreAnswers : Asked → List Fault → List Found → Type 0
AreAnswers a faults found = AreFound a.netlist a.holds a.limit a.refutes faults found

-- What a search on the two frames of a slow line says of it.
use Rattle.std.specs.Prelude.{ℕ, Bool}
use Rattle.statement.specs.declared.lines.Fault.{Fault}
use Rattle.statement.specs.Netlists.{Netlist}
use Rattle.statement.specs.Patterns.{Holds}
use Rattle.netlist.specs.Holds.{AreHoldsOf}
use Rattle.evidence.specs.declared.engine.Found.{Found}
use Rattle.evidence.specs.Answers.{HasEvidence, MayAnswer}
use Rattle.transition.specs.Searches.{HasFrameEvidence}

-- held inputs of the netlist are such of this one
abbrev pub KeepsHolds : Netlist → Netlist → Type 0
KeepsHolds n core = (holds : Holds) → AreHoldsOf n holds → AreHoldsOf core holds

-- what is found of a stuck-at fault on this netlist is an answer for the slow line
pub record CarriesOver (n : Netlist) (f : Fault) (core : Netlist) (slow : Fault) : Type 0 where
  pub each : (holds : Holds) (limit : ℕ) (refutes : Bool) (found : Found) → HasEvidence slow core holds limit found → MayAnswer refutes found
      → HasFrameEvidence n holds limit refutes f found

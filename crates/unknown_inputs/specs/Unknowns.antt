-- Inputs that the tester can't set: each has some bit in each cycle, and nobody knows which. What is claimed holds for all of them.
use Rattle.std.specs.Prelude.{ℕ, ◌≡◌, Bool, true, false, List, [], ◌∷◌, Option, Some, None}
use Rattle.std.specs.List.{All, AllZip}
use Rattle.statement.specs.declared.lines.Fault.{Fault}
use Rattle.statement.specs.Netlists.{Netlist}
use Rattle.statement.specs.Patterns.{Holds, Obeys}
use Rattle.statement.specs.Values.{bit_table}
use Rattle.statement.specs.Runs.{Cycle, Runs, Passes, FailsAt}

-- of each input whether the tester can't set it; inputs behind the list are known
abbrev pub Unknowns : Type 0
Unknowns = List Bool

-- what stands at the known inputs
abbrev pub known_part : {V : Type 0} → Unknowns → List V → List V
known_part [] vs = vs
known_part (u ∷ us) [] = []
known_part (true ∷ us) (v ∷ vs) = known_part us vs
known_part (false ∷ us) (v ∷ vs) = v ∷ known_part us vs

-- what stands at the unknown ones
abbrev pub unknown_part : {V : Type 0} → Unknowns → List V → List V
unknown_part [] vs = []
unknown_part (u ∷ us) [] = []
unknown_part (true ∷ us) (v ∷ vs) = v ∷ unknown_part us vs
unknown_part (false ∷ us) (v ∷ vs) = unknown_part us vs

-- the cycle with some bits at the unknown inputs
pub record IsFilled (unknown : Unknowns) (cycle whole : Cycle) : Type 0 where
  pub drive : known_part unknown whole.drive ≡ cycle.drive
  pub strobe : whole.strobe ≡ cycle.strobe
  pub pulse : whole.pulse ≡ cycle.pulse

-- Whatever the unknown inputs have in each cycle, and from every power-up state, each strobe of a bit meets that bit.
abbrev pub PassesWhatever : Netlist → Unknowns → Option Fault → List Cycle → Type 0
PassesWhatever n unknown f cycles = (wholes : List Cycle) → AllZip (IsFilled unknown) cycles wholes → Passes n f wholes

-- Whatever they have, and from every power-up state, the strobe of cycle c at output o is of a bit, and the other bit is shown there.
abbrev pub FailsWhateverAt : Netlist → Unknowns → Option Fault → List Cycle → ℕ → ℕ → Type 0
FailsWhateverAt n unknown f cycles c o = (wholes : List Cycle) → AllZip (IsFilled unknown) cycles wholes → FailsAt n f wholes c o

-- the same holds, but each unknown input is held at 0
abbrev pub holds_at_zero : Unknowns → Holds → Holds
holds_at_zero [] holds = holds
holds_at_zero (u ∷ us) [] = []
holds_at_zero (true ∷ us) (h ∷ hs) = Some false ∷ holds_at_zero us hs
holds_at_zero (false ∷ us) (h ∷ hs) = h ∷ holds_at_zero us hs

-- From each power-up state, whatever is driven and pulsed under the held inputs, all outputs are in every cycle as without the fault.
abbrev pub IsUntold : Netlist → Holds → Fault → Type 0
IsUntold n holds f =
    (state : List Bool) (driven : List Cycle) (good faulty : List (List Bool)) → All (λ (cycle : Cycle). Obeys holds cycle.drive) driven
    → Runs bit_table None n state driven good → Runs bit_table (Some f) n state driven faulty → good ≡ faulty

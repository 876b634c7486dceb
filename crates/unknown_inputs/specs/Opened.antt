-- The opened netlist: an unknown input becomes a cell that reads itself and stands in no chain, so three-valued play from X has X there in each cycle.
use Rattle.std.specs.Prelude.{ℕ, ◌+◌, true, false, List, [], ◌∷◌, ◌++◌, map, length, slice_index_or, Option, Some, None}
use Rattle.statement.specs.declared.kinds.Kind.TheVariants.{Dff}
use Rattle.statement.specs.declared.lines.Line.{Line}
use Rattle.statement.specs.declared.lines.Line.TheVariants.{Stem, Pin, Out}
use Rattle.statement.specs.declared.lines.Fault.{Fault}
use Rattle.statement.specs.Netlists.{Definition, Netlist, name_of}
use Rattle.netlist.specs.Netlist.{define}
use Rattle.unknown_inputs.specs.Unknowns.{Unknowns, known_part, unknown_part}

-- ---- numbers of signals: known inputs, then unknown ones; every other signal keeps its number

-- the new numbers of these inputs, of which the next known one has the first number and the next unknown one the second
abbrev pub numbers_of : {V : Type 0} → Unknowns → ℕ → ℕ → List V → List ℕ
numbers_of us next_known next_unknown [] = []
numbers_of [] next_known next_unknown (x ∷ xs) = next_known ∷ numbers_of [] (next_known + 1) next_unknown xs
numbers_of (true ∷ us) next_known next_unknown (x ∷ xs) = next_unknown ∷ numbers_of us next_known (next_unknown + 1) xs
numbers_of (false ∷ us) next_known next_unknown (x ∷ xs) = next_known ∷ numbers_of us (next_known + 1) next_unknown xs

abbrev pub input_numbers : Netlist → Unknowns → List ℕ
input_numbers n unknown = numbers_of unknown 0 (length (known_part unknown n.inputs)) n.inputs

-- a number by this list of new ones; a number behind the list stays
abbrev pub number_by : List ℕ → ℕ → ℕ
number_by numbers x = slice_index_or numbers x x

abbrev pub opened_number : Netlist → Unknowns → ℕ → ℕ
opened_number n unknown = number_by (input_numbers n unknown)

-- ---- lines and faults: a pin keeps its place

abbrev pub line_by : (ℕ → ℕ) → Line → Line
line_by number (Stem x) = Stem (number x)
line_by number (Pin z k) = Pin (number z) k
line_by number (Out x) = Out (number x)

abbrev pub fault_by : (ℕ → ℕ) → Fault → Fault
fault_by number f = record { line = line_by number f.line; value = f.value }

abbrev pub fault_or_none_by : (ℕ → ℕ) → Option Fault → Option Fault
fault_or_none_by number None = None
fault_or_none_by number (Some f) = Some (fault_by number f)

abbrev pub opened_line : Netlist → Unknowns → Line → Line
opened_line n unknown = line_by (opened_number n unknown)

abbrev pub opened_fault : Netlist → Unknowns → Fault → Fault
opened_fault n unknown = fault_by (opened_number n unknown)

-- of a fault, or of none
abbrev pub fault_opened : Netlist → Unknowns → Option Fault → Option Fault
fault_opened n unknown = fault_or_none_by (opened_number n unknown)

-- ---- the netlist

-- `x = DFF(x)`
abbrev pub reads_itself : ℕ → Definition
reads_itself x = define x Dff (x ∷ [])

abbrev pub definition_by : (ℕ → ℕ) → Definition → Definition
definition_by number d = define (number d.id) d.kind (map number d.pins)

abbrev pub opened : Netlist → Unknowns → Netlist
opened n unknown =
    let number = opened_number n unknown in
    record {
      names = map (name_of n) (known_part unknown n.inputs) ++ map (name_of n) (unknown_part unknown n.inputs) ++ map (λ (d : Definition). name_of n d.id) n.definitions;
      inputs = map number (known_part unknown n.inputs);
      outputs = map number n.outputs;
      definitions = map reads_itself (map number (unknown_part unknown n.inputs)) ++ map (definition_by number) n.definitions;
    }

-- what opening makes: the opened netlist, and the new numbers of the inputs
pub record Opening : Type 0 where
  pub netlist : Netlist
  pub numbers : List ℕ

abbrev pub opening_of : Netlist → Unknowns → Opening
opening_of n unknown = record { netlist = opened n unknown; numbers = input_numbers n unknown }

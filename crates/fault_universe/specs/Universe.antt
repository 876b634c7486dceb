-- How many faults a list may have.
use Rattle.std.specs.Prelude.{ℕ, ◌^◌, if◌then◌else◌, nat_le, List, [], length}
use Rattle.std.specs.List.{flat_map}
use Rattle.statement.specs.Faults.{lines_of}
use Rattle.statement.specs.declared.lines.Line.{Line}
use Rattle.statement.specs.Netlists.{Netlist, signals}

-- ---- words of their own for what stands in these

abbrev pub branching : List Line → List Line
branching readers = if nat_le 2 (length readers) then readers else []

-- the lines of all signals
abbrev pub all_lines : Netlist → List Line
all_lines n = flat_map (lines_of n) (signals n)

-- lists with fewer faults than this are made: a place among them is a number of 32 bits
abbrev pub fault_limit : ℕ
fault_limit = 2 ^ 31

-- Decisions on inputs and cells alone. (PODEM: Goel, An implicit enumeration algorithm to generate tests, 1981.)
use Rattle.std.specs.Prelude.{ℕ, ◌^◌, ◌<◌, Bool, List, [], ◌++◌, map, length, Option, None, is_none, slice_index_or}
use Rattle.std.specs.List.{Contains, filter}
use Rattle.statement.specs.declared.kinds.Tri.{Tri}
use Rattle.statement.specs.declared.lines.Fault.{Fault}
use Rattle.statement.specs.Patterns.{Holds}
use Rattle.statement.specs.Netlists.{Definition, Netlist, cells}
use Rattle.tri.specs.Labels.{good_of, held_value}
use Rattle.tri.specs.Paths.{Path, decisions, IsClosedPath, IsGoingPath}
use Rattle.cubes.specs.Cubes.{Cube}
use Rattle.redundancy_cert.specs.declared.nodes.Node.{Node}
use Rattle.redundancy_cert.specs.declared.nodes.Node.TheVariants.{Closed, Open, Split, Forced}
use Rattle.evidence.specs.declared.engine.Found.{Found}
use Rattle.evidence.specs.declared.engine.Found.TheVariants.{Test, Closed as Complete, Refuted, Partial}
use Rattle.redundancy_cert.specs.Trees.{Place}
use Rattle.redundancy_cert.specs.Fits.{NodeFits}
use Rattle.redundancy_cert.specs.Stacks.{StandsBelow}

-- inputs, then cells
abbrev pub all_sources : Netlist → List ℕ
all_sources n = n.inputs ++ map (λ (d : Definition). d.id) (cells n)

-- the bit at which a source is held, if any; a cell isn't
abbrev pub held : Holds → ℕ → Option Bool
held holds x = slice_index_or holds x None

-- what may be decided: the inputs that aren't held, then the cells
abbrev pub sources : Netlist → Holds → List ℕ
sources n holds = filter (λ x. is_none (held holds x)) n.inputs ++ map (λ (d : Definition). d.id) (cells n)

-- the value of a source under held inputs and a path, and those of all of them
abbrev pub value_of : Holds → Path → ℕ → Tri
value_of holds path x = good_of (decisions path x) (held_value (held holds x))

abbrev pub cube_of : Netlist → Holds → Path → Cube
cube_of n holds path = record { inputs = map (value_of holds path) n.inputs; cells = map (λ (d : Definition). value_of holds path d.id) (cells n) }

-- A node fits, an Open where the search may go on (so no point's two values are known and differ), and what is decided is a source.
abbrev pub StandsInSources : Fault → Netlist → Holds → Path → Node → Type 0
StandsInSources f n holds path Closed = IsClosedPath f n holds path
StandsInSources f n holds path Open = IsGoingPath f n holds path
StandsInSources f n holds path (Split x) = NodeFits f n holds path (Split x) × Contains (sources n holds) x
StandsInSources f n holds path (Forced x b) = NodeFits f n holds path (Forced x b) × Contains (sources n holds) x

abbrev pub PlaceInSources : Fault → Netlist → Holds → Place → Type 0
PlaceInSources f n holds p = StandsInSources f n holds p.path p.node

-- a tree that decides sources alone
abbrev pub IsSourceTree : Fault → Netlist → Holds → List Node → Type 0
IsSourceTree f n holds nodes = StandsBelow (PlaceInSources f n holds) [] nodes

-- what more a search on sources answers: such trees, no refutation, and Partial only with a backtrack limit below 2 to the number of sources
abbrev pub HasSourceEvidence : Fault → Netlist → Holds → ℕ → Found → Type 0
HasSourceEvidence f n holds limit (Test cube point) = Unit {0}
HasSourceEvidence f n holds limit (Complete tree) = IsSourceTree f n holds tree
HasSourceEvidence f n holds limit (Refuted steps) = ⊥
HasSourceEvidence f n holds limit (Partial tree) = IsSourceTree f n holds tree × (limit < 2 ^ length (sources n holds))

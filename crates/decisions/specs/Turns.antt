-- What a turn of a search comes to. P is what the search asks of a node at its place, T when a simulation is at a test.
use Rattle.std.specs.Prelude.{ℕ, ◌≡◌, ◌+◌, ◌<◌, ◌⊎◌, List, [], ◌∷◌, is_none, IsTrue, if◌then◌else◌}
use Rattle.statement.specs.declared.lines.Fault.{Fault}
use Rattle.statement.specs.declared.lines.Point.{Point}
use Rattle.statement.specs.Patterns.{Holds}
use Rattle.statement.specs.Netlists.{Netlist, signals}
use Rattle.tri.specs.Paths.{Path, decisions}
use Rattle.pair_sim.specs.Sims.{Sim, sim}
use Rattle.redundancy_cert.specs.declared.stacks.Side.{Side}
use Rattle.redundancy_cert.specs.Trees.{Place}
use Rattle.redundancy_cert.specs.Stacks.{path_of_stack}
use Rattle.decisions.specs.declared.turns.Step.{Step}
use Rattle.decisions.specs.declared.turns.Step.TheVariants.{Found, Done, On}
use Rattle.decisions.specs.Standing.{SearchesAt, IsClosedTree}

-- how many of these signals aren't decided
abbrev pub undecided : Path → List ℕ → ℕ
undecided path [] = 0
undecided path (x ∷ xs) = (if is_none (decisions path x) then 1 else 0) + undecided path xs

-- labels of this netlist and fault, after some decisions
abbrev pub IsOfCase : Fault → Netlist → Holds → Sim → Type 0
IsOfCase f n holds s = s ≡ sim n f holds s.path

-- a test; or a whole tree with one Closed more; or the search goes on, with one Closed more or one decision more
abbrev pub IsSearchStep : (Place → Type 0) → (Sim → Point → Type 0) → Fault → Netlist → Holds → List Side → ℕ → Sim → List Side → Step → Type 0
IsSearchStep P T f n holds old closed new_sim new (Found point) = T new_sim point
IsSearchStep P T f n holds old closed new_sim new (Done tree) = IsClosedTree P tree.items (closed + 1) × IsOfCase f n holds new_sim
IsSearchStep P T f n holds old closed new_sim new (On more) =
    SearchesAt P f n holds new_sim new (closed + (if more then 1 else 0))
    × (IsTrue more ⊎ (undecided (path_of_stack new) (signals n) < undecided (path_of_stack old) (signals n)))

-- What a search does with its stack where a path ends, whatever it asks of its tree. (Goel 1981: the last node that isn't flagged gets its other
-- value and the flag, and flagged nodes after it are removed.)
use Rattle.std.specs.Prelude.{ℕ, ◌≡◌, ◌≢◌, Bool, List, [], ◌∷◌, ◌++◌, IsTrue}
use Rattle.std.specs.List.{All}
use Rattle.statement.specs.declared.lines.Fault.{Fault}
use Rattle.statement.specs.Patterns.{Holds}
use Rattle.statement.specs.Netlists.{Netlist}
use Rattle.tri.specs.Paths.{Path, IsUnknown}
use Rattle.pair_sim.specs.Sims.{Sim, sim}
use Rattle.redundancy_cert.specs.declared.nodes.Node.{Node}
use Rattle.redundancy_cert.specs.declared.stacks.Other.{Other}
use Rattle.redundancy_cert.specs.declared.stacks.Other.TheVariants.{Untried}
use Rattle.redundancy_cert.specs.declared.stacks.Side.{Side}
use Rattle.redundancy_cert.specs.Stacks.{stack_tree, path_of_stack, IsFlipped}
use Rattle.decisions.specs.declared.turns.Step.{Step}
use Rattle.decisions.specs.declared.turns.Step.TheVariants.{Found, Done, On}

-- a stack with one decision more
abbrev pub with_side : List Side → ℕ → Bool → Other → List Side
with_side stack x b other = stack ++ record { signal = x; bit = b; other = other } ∷ []

-- each decision is of a signal whose good value isn't known before it
abbrev pub AreFree : Fault → Netlist → Holds → Path → List Side → Type 0
AreFree f n holds p [] = Unit {0}
AreFree f n holds p (s ∷ ss) = IsUnknown f n holds p s.signal × AreFree f n holds ((s.signal, s.bit) ∷ p) ss

-- the simulation is at the end of the stack's path
pub record IsAtEnd (f : Fault) (n : Netlist) (holds : Holds) (s : Sim) (stack : List Side) : Type 0 where
  pub at : s ≡ sim n f holds (path_of_stack stack)
  pub free : AreFree f n holds [] stack

-- no decision has an untried side
abbrev pub AreTried : List Side → Type 0
AreTried sides = All (λ (s : Side). s.other ≢ Untried) sides

-- The path has ended with this tree, and the search goes on at the last side that was untried: the decisions after it are one tree with that of the
-- end, which is known of its other side now.
pub record IsBacktrack (done : List Node) (old new : List Side) : Type 0 where
  pub kept : List Side
  pub ended : List Side
  pub was : old ≡ kept ++ ended
  pub tried : AreTried ended
  pub turned : IsFlipped (stack_tree ended done) kept new

-- the path has ended with this tree, and no side was untried: the tree is whole
pub record AreAllEnded (done : List Node) (old new : List Side) (tree : List Node) : Type 0 where
  pub tried : AreTried old
  pub none : new ≡ []
  pub is : tree ≡ stack_tree old done

-- a turn in which the path has ended with this tree
abbrev pub IsBacktrackStep : List Node → List Side → List Side → Step → Type 0
IsBacktrackStep done old new (Found point) = ⊥
IsBacktrackStep done old new (Done tree) = AreAllEnded done old new tree.items
IsBacktrackStep done old new (On more) = IsTrue more × IsBacktrack done old new

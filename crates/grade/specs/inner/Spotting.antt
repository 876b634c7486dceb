-- The strobe at which a pattern first shows a fault.
use Rattle.std.specs.Prelude.{ℕ, ◌≡◌, true, List, Some, slice_get}
use Rattle.statement.specs.declared.lines.Fault.{Fault}
use Rattle.statement.specs.Netlists.{Netlist}
use Rattle.statement.specs.Patterns.{Pattern}
use Rattle.netlist.specs.Lines.{IsLineOf}
use Rattle.events.specs.Words.{bit_of}
use Rattle.regions.specs.Paths.{IsReach}
use Rattle.word_sim.specs.inner.Packed.{AreGoodFor}
use Rattle.grade.specs.inner.Keys.{IsFirstKey}

-- whichever patterns the words are of, for pattern j of these
abbrev pub IsSpotted : Netlist → List (List ℕ) → List ℕ → Fault → ℕ → ℕ → Type 0
IsSpotted n chains values f j key = (patterns : List Pattern) (p : Pattern) → AreGoodFor n patterns values → slice_get patterns j ≡ Some p → IsFirstKey n chains f p key

-- the same of each fault that reaches this head under pattern j
abbrev pub IsSpottedFrom : Netlist → List (List ℕ) → List ℕ → ℕ → ℕ → ℕ → Type 0
IsSpottedFrom n chains values h j key = (f : Fault) (word : ℕ) → IsLineOf n f.line → IsReach n values f h word → bit_of j word ≡ true → IsSpotted n chains values f j key

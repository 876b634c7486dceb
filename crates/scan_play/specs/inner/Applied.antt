-- One test as it is applied.
use Rattle.std.specs.Prelude.{ℕ, ◌≡◌, Bool, true, false, not, List, [], ◌∷◌, ◌++◌, map, length, replicate, None}
use Rattle.std.specs.List.{AllZip}
use Rattle.statement.specs.declared.kinds.Tri.{Tri}
use Rattle.statement.specs.Netlists.{Netlist}
use Rattle.statement.specs.Patterns.{Holds, Pattern}
use Rattle.statement.specs.declared.kinds.Tri.TheVariants.{X}
use Rattle.statement.specs.Values.{known}
use Rattle.statement.specs.Tests.{cells_of, Response, Responds, flush}
use Rattle.statement.specs.Runs.{Cycle}
use Rattle.scan_play.specs.declared.cycles.Burst.{Burst}
use Rattle.scan_play.specs.Shifts.{load}
use Rattle.scan_play.specs.Vectors.{capture, applied, vectors}
use Rattle.scan_play.specs.Bursts.{all_cycles}

-- the pattern's load and capture stand behind the others, and its response is what the cells hold
pub record IsApplied (n : Netlist) (holds : Holds) (chains : List (List ℕ)) (p : Pattern) (held after : List Tri) (old new : List Burst) : Type 0 where
  pub response : Response
  pub responds : Responds n None p response
  pub cycles : all_cycles new ≡ all_cycles old ++ (load n holds chains p.cells held ++ capture chains p response ∷ [])
  pub taken : after ≡ map known response.cells

-- the three loads that flush the chains
abbrev pub flushing : Netlist → Holds → List (List ℕ) → List Cycle
flushing n holds chains =
    load n holds chains (flush chains) (replicate (length (cells_of chains)) X)
    ++ load n holds chains (map not (flush chains)) (map known (flush chains))
    ++ load n holds chains (replicate (length (cells_of chains)) false) (map known (map not (flush chains)))

-- What stands so far, cycles or items of a file, applies these patterns to so many cells; then these hold what the next load has to strobe.
-- `answers` says what a response to a pattern is, `on` what the tests to come add, `all` what those of the whole list come to.
pub record AreApplied {E : Type 0} (answers : Pattern → Response → Type 0) (on : List Tri → List (Pattern × Response) → List E) (all : List (Pattern × Response) → List E)
    (cells : ℕ) (patterns : List Pattern) (made : List E) (held : List Tri) : Type 0 where
  pub tests : List (Pattern × Response)
  pub respond : AllZip (λ p (test : Pattern × Response). (test.0 ≡ p) × answers p test.1) patterns tests
  pub whole : (rest : List (Pattern × Response)) → made ++ on held rest ≡ all (tests ++ rest)
  pub size : length held ≡ cells

-- the cycles so far
abbrev pub IsBegun : Netlist → Holds → List (List ℕ) → List Pattern → List Cycle → List Tri → Type 0
IsBegun n holds chains patterns cycles held = AreApplied (Responds n None) (applied n holds chains) (vectors n holds chains) (length (cells_of chains)) patterns cycles held

-- A cycle with scan off: these bits at the functional inputs and strobes at the functional outputs, 0s and none at the others; a pulse where there are chains.
abbrev pub plain_cycle : List (List ℕ) → List Bool → List Tri → Cycle
plain_cycle [] inputs strobes = record { drive = inputs; strobe = strobes; pulse = false }
plain_cycle (chain ∷ chains) inputs strobes = record {
  drive = inputs ++ false ∷ replicate (length (chain ∷ chains)) false;
  strobe = strobes ++ replicate (length (chain ∷ chains)) X;
  pulse = true;
}

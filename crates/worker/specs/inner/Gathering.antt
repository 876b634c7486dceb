-- What several simulators found of what was dealt to them, and how it is put together.
use Rattle.std.specs.Prelude.{ℕ, ◌≡◌, ◌≢◌, ◌+◌, ◌<◌, List, Option, Some, None, Result, Ok, Err, Vec, IfOk, length, drop, slice_index_or}
use Rattle.std.specs.List.{All, slice_get}
use Rattle.std.specs.declared.alloc.Global.{Global}
use Rattle.statement.specs.Netlists.{Netlist}
use Rattle.statement.specs.Patterns.{Pattern}
use Rattle.statement.specs.declared.lines.Fault.{Fault}
use Rattle.netlist.specs.declared.no_memory.NoMemory.{NoMemory}
use Rattle.word_sim.specs.Hits.{AreHits}
use Rattle.word_sim.specs.declared.batches.Hit.{Hit}
use Rattle.worker.specs.declared.simulators.Part.{Part}
use Rattle.worker.specs.inner.Dealing.{dealt_hits}

-- so many simulators of the netlist, and one at least
pub record AreSimulators (n : Netlist) (count : ℕ) (parts : List Part) : Type 0 where
  pub some : 0 < length parts
  pub size : length parts ≡ count
  pub each : All (λ (p : Part). p.simulator ≡ n) parts

-- a part's simulator, and the hits of what was dealt to it
pub record HasFound (n : Netlist) (patterns : List Pattern) (numbers : List ℕ) (given : List (ℕ × Fault)) (w : ℕ) (part : Part) : Type 0 where
  pub same : part.simulator ≡ n
  pub hits : IfOk part.hits (λ v. AreHits n patterns (dealt_hits numbers w 0 given) v.items)

-- each part has
abbrev pub HaveFound : Netlist → List Pattern → List ℕ → List (ℕ × Fault) → List Part → Type 0
HaveFound n patterns numbers given parts = (w : ℕ) (d : Part) → w < length parts → HasFound n patterns numbers given w (slice_index_or parts w d)

-- the next hit, under this class, where it is of the fault at this place, and the number of the one after it
abbrev pub IsNextHit : List Hit → ℕ → ℕ → ℕ → Option Hit → ℕ → Type 0
IsNextHit hits next place class None after = (after ≡ next) × ((h : Hit) → slice_get hits next ≡ Some h → h.class ≢ place)
IsNextHit hits next place class (Some found) after =
    (after ≡ next + 1) × ((h : Hit) × (slice_get hits next ≡ Some h) × (h.class ≡ place) × (found.class ≡ class) × (found.pattern ≡ h.pattern) × (found.point ≡ h.point))

-- the same of what a part found
abbrev pub IsFound : Result (Vec Hit Global) NoMemory → ℕ → ℕ → ℕ → Option Hit → ℕ → Type 0
IsFound (Ok v) next place class found after = IsNextHit v.items next place class found after
IsFound (Err e) next place class found after = ⊥

-- what the parts have found of the faults that are left, from this place on, where so many hits of each are put together
abbrev pub AreLeft : Netlist → List Pattern → List ℕ → ℕ → List (ℕ × Fault) → List Part → List ℕ → Type 0
AreLeft n patterns numbers place given parts nexts =
    (w : ℕ) (d : Part) → w < length parts
    → IfOk (slice_index_or parts w d).hits (λ v. AreHits n patterns (dealt_hits numbers w place given) (drop (slice_index_or nexts w 0) v.items))

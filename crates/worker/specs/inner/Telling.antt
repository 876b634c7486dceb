-- What parts told of the faults that were dealt to them.
use Rattle.std.specs.Prelude.{ℕ, ◌≡◌, ◌+◌, ◌<◌, List, Option, Some, Result, Ok, Err, Vec, IfOk, length, drop, slice_index_or}
use Rattle.std.specs.List.{AllZip, slice_get}
use Rattle.std.specs.declared.alloc.Global.{Global}
use Rattle.statement.specs.Netlists.{Netlist}
use Rattle.statement.specs.Patterns.{Pattern}
use Rattle.statement.specs.declared.lines.Fault.{Fault}
use Rattle.statement.specs.declared.lines.Point.{Point}
use Rattle.netlist.specs.declared.no_memory.NoMemory.{NoMemory}
use Rattle.word_sim.specs.Hits.{LastDetected}
use Rattle.worker.specs.inner.Dealing.{dealt}

abbrev pub Told : Type 0
Told = Result (Vec (Option (ℕ × Point)) Global) NoMemory

-- where the faults that are dealt to each part are last detected
abbrev pub HaveTold : Netlist → List Pattern → List ℕ → List Fault → List Told → Type 0
HaveTold n patterns numbers faults parts =
    (w : ℕ) (d : Told) → w < length parts → IfOk (slice_index_or parts w d) (λ v. AllZip (LastDetected n patterns) (dealt numbers w faults) v.items)

-- what a part told at this place, and the place after it
abbrev pub IsTold : Told → ℕ → Option (ℕ × Point) → ℕ → Type 0
IsTold (Ok v) next one after = (after ≡ next + 1) × (slice_get v.items next ≡ Some one)
IsTold (Err e) next one after = ⊥

-- the same of the faults that are left, where so many of each part's are put together
abbrev pub AreLeft : Netlist → List Pattern → List ℕ → List Fault → List Told → List ℕ → Type 0
AreLeft n patterns numbers faults parts nexts =
    (w : ℕ) (d : Told) → w < length parts → IfOk (slice_index_or parts w d) (λ v. AllZip (LastDetected n patterns) (dealt numbers w faults) (drop (slice_index_or nexts w 0) v.items))

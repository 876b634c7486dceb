-- The faults that come nearest to a log, which none of them has to explain.
use Rattle.std.specs.Prelude.{ℕ, ◌≡◌, ◌≢◌, ◌+◌, ◌<◌, ◌↔◌, ◌⊎◌, Bool, List, length, map, slice_get, take, Option, Some, IsPermutation}
use Rattle.std.specs.List.{All, AllPairs, Contains}
use Rattle.statement.specs.declared.kinds.Tri.{Tri}
use Rattle.statement.specs.declared.lines.Fault.{Fault}
use Rattle.statement.specs.Netlists.{Netlist}
use Rattle.statement.specs.Values.{known}
use Rattle.statement.specs.Runs.{Cycle, numbers_from, shown_at, strobe_at}
use Rattle.scan_insert.specs.Names.{pin_name_of}
use Rattle.scan_insert.specs.Scanned.{Insertion, fault_at}
use Rattle.scan_play.specs.Playing.{PlayRuns}
use Rattle.diagnose.specs.Failures.{Failing}
use Rattle.diagnose.specs.Explaining.{IsFailingStrobe}
use Rattle.diagnose.specs.declared.ranks.Ranked.{Ranked}

-- a bit is strobed there, and the run isn't known to show it: it shows the other bit or X
pub record MayFail (s : Netlist) (cycles : List Cycle) (shown : List (List Tri)) (f : Failing) : Type 0 where
  pub output : ℕ
  pub bit : Bool
  pub strobed : strobe_at cycles f.cycle output ≡ known bit
  pub unmet : shown_at shown f.cycle output ≢ Some (known bit)
  pub named : f.signal ≡ pin_name_of s output

-- so many failures are of this kind
pub record AreMany (kind : Failing → Type 0) (number : ℕ) : Type 0 where
  pub all : List Failing
  pub exactly : (f : Failing) → Contains all f ↔ kind f
  pub once : AllPairs (λ f g. f ≢ g) all
  pub number_is : number ≡ length all

-- How far the three-valued run with the fault is from the log: so many of the log's failures it isn't known to show, and so many strobes of which the log tells no
-- failure it isn't known to meet. So a strobe at which X is shown counts, wherever it is, and a fault explains a log exactly where nothing counts.
pub record Differs (s : Netlist) (g : Option Fault) (cycles : List Cycle) (log : List Failing) (missing extra : ℕ) : Type 0 where
  pub shown : List (List Tri)
  pub runs : PlayRuns s g cycles shown
  pub are_missing : AreMany (λ f. Contains log f × ¬ IsFailingStrobe known s cycles shown f) missing
  pub are_extra : AreMany (λ f. MayFail s cycles shown f × ¬ Contains log f) extra

-- so far the fault at this place is from the log
pub record IsRanked (scanned : Insertion) (faults : List Fault) (cycles : List Cycle) (log : List Failing) (r : Ranked) : Type 0 where
  pub fault : Fault
  pub is_fault : slice_get faults r.place ≡ Some fault
  pub differs : Differs scanned.netlist (fault_at scanned.sites (Some fault)) cycles log r.missing r.extra

abbrev pub distance : Ranked → ℕ
distance r = r.missing + r.extra

-- the nearer one, and of two that are equally near the one that comes first in the list of faults
abbrev pub ComesBefore : Ranked → Ranked → Type 0
ComesBefore r q = (distance r < distance q) ⊎ ((distance r ≡ distance q) × (r.place < q.place))

-- each fault once, in this order
pub record AreAllRanked (scanned : Insertion) (faults : List Fault) (cycles : List Cycle) (log : List Failing) (all : List Ranked) : Type 0 where
  pub places : IsPermutation (numbers_from 0 (length faults)) (map (λ (r : Ranked). r.place) all)
  pub each : All (IsRanked scanned faults cycles log) all
  pub ordered : AllPairs ComesBefore all

-- the first ones of all, so many or as many as there are
abbrev pub IsRanking : Insertion → List Fault → List Cycle → List Failing → ℕ → List Ranked → Type 0
IsRanking scanned faults cycles log count ranking = (all : List Ranked) × AreAllRanked scanned faults cycles log all × (ranking ≡ take count all)

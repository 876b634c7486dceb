-- What a fault's first evidence shows of it. S says of evidence that it shows the fault.
use Rattle.std.specs.Prelude.{ℕ, ◌≡◌, ◌≤◌, List, MatchOption, Option, Some, None}
use Rattle.std.specs.List.{AllZip}
use Rattle.statement.specs.declared.lines.Fault.{Fault}
use Rattle.statement.specs.Netlists.{Netlist}
use Rattle.statement.specs.Patterns.{Holds}
use Rattle.redundancy_cert.specs.declared.counts.Counts.{Counts}
use Rattle.evidence.specs.declared.kinds.Evidence.{Evidence}
use Rattle.evidence.specs.Evidence.{Shows}
use Rattle.run_report.specs.Outcomes.{IsFirstOf}
use Rattle.check_parts.specs.Checkers.{AreEndCounts}

-- the fault's first evidence shows it, and has so many ends of each kind
pub record IsFirstShown (S : Evidence → Type 0) (evidence : List (Fault × Evidence)) (f : Fault) (counts : Counts) : Type 0 where
  pub one : Evidence
  pub first : IsFirstOf evidence f one
  pub shows : S one
  pub counted : AreEndCounts one counts

-- it has none, or its first shows nothing
abbrev pub NoFirstShown : (Evidence → Type 0) → List (Fault × Evidence) → Fault → Type 0
NoFirstShown S evidence f = (one : Evidence) → IsFirstOf evidence f one → ¬ S one

-- the ends of a fault's first evidence, where there is some and it shows the fault
abbrev pub AreFirstEnds : (Evidence → Type 0) → List (Fault × Evidence) → Fault → Option Counts → Type 0
AreFirstEnds S evidence f ends = MatchOption ends (NoFirstShown S evidence f) (IsFirstShown S evidence f)

-- the same of a fault of a netlist under held inputs
abbrev pub IsEnds : Netlist → Holds → List (Fault × Evidence) → Fault → Option Counts → Type 0
IsEnds n holds evidence f ends = AreFirstEnds (Shows f n holds) evidence f ends

-- of each of some faults
pub record AreEnds (n : Netlist) (holds : Holds) (evidence : List (Fault × Evidence)) (faults : List Fault) (ends : List (Option Counts)) : Type 0 where
  pub each : AllZip (IsEnds n holds evidence) faults ends

-- evidence with these ends leaves nothing open
abbrev pub IsShutBy : Option Counts → Type 0
IsShutBy None = ⊥
IsShutBy (Some counts) = counts.left_open ≡ 0

-- it leaves an end open, and has so many closed ends
abbrev pub IsLeftOpenBy : ℕ → Option Counts → Type 0
IsLeftOpenBy limit None = ⊥
IsLeftOpenBy limit (Some counts) = (counts.closed ≡ limit) × (1 ≤ counts.left_open)

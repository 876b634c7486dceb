-- How many strobes of a run are of a kind.
use Rattle.std.specs.Prelude.{ℕ, ◌≡◌, ◌+◌, ◌&&◌, not, Bool, true, false, if◌then◌else◌, List, [], ◌∷◌, Option, Some, None}
use Rattle.std.specs.List.{AllZip}
use Rattle.statement.specs.declared.kinds.Tri.{Tri}
use Rattle.statement.specs.declared.lines.Fault.{Fault}
use Rattle.statement.specs.Netlists.{Netlist}
use Rattle.statement.specs.Runs.{Cycle}
use Rattle.scan_play.specs.declared.played.Played.{Played}
use Rattle.scan_play.specs.Judging.{Judging}
use Rattle.scan_play.specs.Playing.{PlayRuns}

-- whether a strobe counts at which this value is shown, by cycle and output
abbrev pub Counting : Type 0
Counting = ℕ → ℕ → Tri → Tri → Bool

abbrev pub one_if : Bool → ℕ
one_if b = if b then 1 else 0

-- how many count of a row, from output o on
abbrev pub counted_in : Counting → ℕ → ℕ → List Tri → List Tri → ℕ
counted_in counts c o [] vs = 0
counted_in counts c o (s ∷ ss) [] = 0
counted_in counts c o (s ∷ ss) (v ∷ vs) = one_if (counts c o s v) + counted_in counts c (o + 1) ss vs

-- from cycle c on
abbrev pub counted : Counting → ℕ → List Cycle → List (List Tri) → ℕ
counted counts c [] shown = 0
counted counts c (x ∷ xs) [] = 0
counted counts c (x ∷ xs) (row ∷ rows) = counted_in counts c 0 x.strobe row + counted counts (c + 1) xs rows

abbrev pub is_said : Option Played → Bool
is_said None = false
is_said (Some p) = true

-- Something is said of the strobe, and its place is on the one side; or it is on the other.
abbrev pub on_one : Judging → (ℕ → ℕ → Bool) → Counting
on_one says side c o s v = side c o && is_said (says c o s v)

abbrev pub on_other : Judging → (ℕ → ℕ → Bool) → Counting
on_other says side c o s v = not (side c o) && is_said (says c o s v)

-- so many strobes of the run in three values count
pub record IsCounted (counts : Counting) (n : Netlist) (f : Option Fault) (cycles : List Cycle) (number : ℕ) : Type 0 where
  pub shown : List (List Tri)
  pub runs : PlayRuns n f cycles shown
  pub is : number ≡ counted counts 0 cycles shown

-- the same for each of some faults
abbrev pub AreCounted : Counting → Netlist → List Fault → List Cycle → List ℕ → Type 0
AreCounted counts n faults cycles numbers = AllZip (λ f number. IsCounted counts n (Some f) cycles number) faults numbers

-- What a judge says of what is shown beside what is strobed. The first strobe of which it says something ends a play.
use Rattle.std.specs.Prelude.{ℕ, ◌≡◌, ◌+◌, List, [], ◌∷◌, Option, Some, None}
use Rattle.statement.specs.declared.kinds.Tri.{Tri}
use Rattle.statement.specs.declared.kinds.Tri.TheVariants.{X}
use Rattle.statement.specs.declared.lines.Fault.{Fault}
use Rattle.statement.specs.Netlists.{Netlist}
use Rattle.scan_play.specs.declared.played.Played.{Played}
use Rattle.statement.specs.Runs.{Cycle}
use Rattle.scan_play.specs.Playing.{PlayRuns}

-- what is said of a strobe and the value that is shown, by cycle and output
abbrev pub Judging : Type 0
Judging = ℕ → ℕ → Tri → Tri → Option Played

-- nothing is said of what isn't strobed
abbrev pub IsOpen : Judging → Type 0
IsOpen says = (c o : ℕ) (v : Tri) → says c o X v ≡ None

abbrev pub played_or_else : Option Played → Option Played → Option Played
played_or_else (Some p) q = Some p
played_or_else None q = q

-- of a row, from output o on
abbrev pub judged_in : Judging → ℕ → ℕ → List Tri → List Tri → Option Played
judged_in says c o [] vs = None
judged_in says c o (s ∷ ss) [] = None
judged_in says c o (s ∷ ss) (v ∷ vs) = played_or_else (says c o s v) (judged_in says c (o + 1) ss vs)

-- from cycle c on
abbrev pub judged : Judging → ℕ → List Cycle → List (List Tri) → Option Played
judged says c [] shown = None
judged says c (x ∷ xs) [] = None
judged says c (x ∷ xs) (row ∷ rows) = played_or_else (judged_in says c 0 x.strobe row) (judged says (c + 1) xs rows)

-- what is first said of the run in three values
pub record IsJudged (says : Judging) (n : Netlist) (f : Option Fault) (cycles : List Cycle) (found : Option Played) : Type 0 where
  pub shown : List (List Tri)
  pub runs : PlayRuns n f cycles shown
  pub said : judged says 0 cycles shown ≡ found

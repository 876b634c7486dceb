-- What playing vectors in three values answers.
use Rattle.std.specs.Prelude.{ℕ, ◌≡◌, ◌<◌, ◌⊎◌, Bool, not, List, length, replicate, Option, Some}
use Rattle.statement.specs.declared.kinds.Tri.{Tri}
use Rattle.statement.specs.declared.kinds.Tri.TheVariants.{X}
use Rattle.statement.specs.declared.lines.Fault.{Fault}
use Rattle.statement.specs.Netlists.{Netlist, cells}
use Rattle.statement.specs.Values.{known}
use Rattle.tri.specs.Settled.{tri_table}
use Rattle.scan_play.specs.declared.played.Played.{Played}
use Rattle.scan_play.specs.declared.played.Played.TheVariants.{Passes, Fails, Unknown}
use Rattle.statement.specs.Runs.{Cycle, Runs, strobe_at, shown_at}

-- nothing is strobed at this place, or what is shown is known and equal
abbrev pub IsStrobeMet : List Cycle → List (List Tri) → ℕ → ℕ → Type 0
IsStrobeMet cycles shown c o = (strobe_at cycles c o ≡ X) ⊎ (shown_at shown c o ≡ Some (strobe_at cycles c o))

-- each place before this one, by cycle and then by output, is met
abbrev pub AreMetBefore : List Cycle → List (List Tri) → ℕ → ℕ → Type 0
AreMetBefore cycles shown c o = (c' o' : ℕ) → (c' < c) ⊎ ((c' ≡ c) × (o' < o)) → IsStrobeMet cycles shown c' o'

-- The first strobe that isn't known and equal decides.
abbrev pub IsPlayed : List Cycle → List (List Tri) → Played → Type 0
IsPlayed cycles shown Passes = (c o : ℕ) → IsStrobeMet cycles shown c o
IsPlayed cycles shown (Fails c o) =
    AreMetBefore cycles shown c o × ((b : Bool) × (strobe_at cycles c o ≡ known b) × (shown_at shown c o ≡ Some (known (not b))))
IsPlayed cycles shown (Unknown c o) =
    AreMetBefore cycles shown c o × ((b : Bool) × (strobe_at cycles c o ≡ known b) × (shown_at shown c o ≡ Some X))

-- the run in three values, from all cells X
abbrev pub PlayRuns : Netlist → Option Fault → List Cycle → List (List Tri) → Type 0
PlayRuns n f cycles shown = Runs tri_table f n (replicate (length (cells n)) X) cycles shown

abbrev pub PlaysAs : Netlist → Option Fault → List Cycle → Played → Type 0
PlaysAs n f cycles played = (shown : List (List Tri)) × PlayRuns n f cycles shown × IsPlayed cycles shown played

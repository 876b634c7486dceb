-- The hit of a fault that was found, and faults found among some of the patterns.
use Rattle.std.specs.Prelude.{ℕ, ◌≡◌, ◌+◌, ◌-◌, ◌≤◌, ◌<◌, List, [], ◌∷◌, take, drop, length, slice_index_or, Option, Some, None, ◌^◌, IfSome}
use Rattle.std.specs.List.{slice_get}
use Rattle.std.specs.Option.{option_map}
use Rattle.statement.specs.declared.lines.Fault.{Fault}
use Rattle.statement.specs.declared.lines.Point.{Point}
use Rattle.statement.specs.Netlists.{Netlist}
use Rattle.statement.specs.Patterns.{Pattern, IsDetectedAt, IsLastDetected}
use Rattle.word_sim.specs.declared.batches.Hit.{Hit}
use Rattle.word_sim.specs.Hits.{AreHits, LastDetected, LastMarked}
use Rattle.word_sim.specs.inner.Packed.{AreGoodFor, IsMarked}
use Rattle.observed_points.specs.Points.{point_of}

abbrev pub hit_of : Netlist → ℕ → Option (ℕ × ℕ) → List Hit
hit_of n class None = []
hit_of n class (Some w) = record { class = class; pattern = w.0; point = point_of n w.1 } ∷ []

-- what is found of a fault among the marked patterns, for whichever these are the words: where it is last detected, in numbers that fit
pub record IsFoundMarked (n : Netlist) (values : List ℕ) (marks : ℕ) (f : Fault) (found : Option (ℕ × ℕ)) : Type 0 where
  pub detected : (patterns : List Pattern) → AreGoodFor n patterns values → IsMarked (length patterns) marks
      → LastMarked n patterns marks f (option_map (λ (w : ℕ × ℕ). (w.0, point_of n w.1)) found)
  pub small : IfSome found (λ w. (w.0 < 64) × (w.1 < 2 ^ 32))

-- where the fault is last detected from place m on, if at all
abbrev pub IsFrom : Netlist → List Pattern → ℕ → Fault → Option (ℕ × Point) → Type 0
IsFrom n patterns m f None = (place : ℕ) (p : Point) → m ≤ place → ¬ IsDetectedAt n patterns f place p
IsFrom n patterns m f (Some w) = IsLastDetected n patterns f w.0 w.1

-- the same of each of some faults
pub record AreFrom (n : Netlist) (patterns : List Pattern) (m : ℕ) (faults : List Fault) (last : List (Option (ℕ × Point))) : Type 0 where
  pub size : length last ≡ length faults
  pub each : (k : ℕ) (f : Fault) → slice_get faults k ≡ Some f → IsFrom n patterns m f (slice_index_or last k None)

-- where these patterns detect the fault last, by its place among all
pub record IsMoved (n : Netlist) (part : List Pattern) (start : ℕ) (f : Fault) (last : Option (ℕ × Point)) : Type 0 where
  pub found : Option (ℕ × Point)
  pub detected : LastDetected n part f found
  pub last_is : last ≡ option_map (λ (w : ℕ × Point). (start + w.0, w.1)) found

-- what is known stays, or else it is where these patterns detect the fault last
abbrev pub IsTold : Netlist → List Pattern → ℕ → Fault → Option (ℕ × Point) → Option (ℕ × Point) → Type 0
IsTold n part start f None last = IsMoved n part start f last
IsTold n part start f (Some w) last = last ≡ Some w

-- for the first k faults from place m on, and for the others from place m' on
pub record AreFromUpTo (n : Netlist) (patterns : List Pattern) (m m' : ℕ) (faults : List Fault) (last : List (Option (ℕ × Point))) (k : ℕ) : Type 0 where
  pub size : length last ≡ length faults
  pub before : (i : ℕ) (f : Fault) → i < k → slice_get faults i ≡ Some f → IsFrom n patterns m f (slice_index_or last i None)
  pub after : (i : ℕ) (f : Fault) → k ≤ i → slice_get faults i ≡ Some f → IsFrom n patterns m' f (slice_index_or last i None)

-- the faults of which nothing is told, by their places from k on
abbrev pub untold : ℕ → List Fault → List (Option (ℕ × Point)) → List (ℕ × Fault)
untold k [] told = []
untold k (f ∷ faults) [] = []
untold k (f ∷ faults) (None ∷ told) = (k, f) ∷ untold (k + 1) faults told
untold k (f ∷ faults) (Some w ∷ told) = untold (k + 1) faults told

-- these hits of patterns from a place on tell where faults are last detected from there, if it was told where they are from the end of these patterns on
abbrev pub TellFrom : ℕ → List Fault → List Hit → List (Option (ℕ × Point)) → List (Option (ℕ × Point)) → Type 0
TellFrom start faults hits told told' = (n : Netlist) (patterns : List Pattern) (end : ℕ) → start ≤ end
    → AreHits n (take (end - start) (drop start patterns)) (untold 0 faults told) hits → AreFrom n patterns end faults told → AreFrom n patterns start faults told'

-- the same on the way: of the first k faults, with the hits that are left for the others
abbrev pub TellUpTo : ℕ → List Fault → List Hit → List (Option (ℕ × Point)) → List (Option (ℕ × Point)) → ℕ → List Hit → Type 0
TellUpTo start faults hits told told' k rest = (n : Netlist) (patterns : List Pattern) (end : ℕ) → start ≤ end
    → AreHits n (take (end - start) (drop start patterns)) (untold 0 faults told) hits → AreFrom n patterns end faults told
    → AreFromUpTo n patterns start end faults told' k × AreHits n (take (end - start) (drop start patterns)) (untold k (drop k faults) (drop k told')) rest

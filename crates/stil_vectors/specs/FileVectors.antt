-- When a vector has a word for the clock.
use Rattle.std.specs.Prelude.{ℕ, zero, suc, ◌≡◌, ◌≤◌, Some, slice_get, Bool, List, [], length, map, slice_index_or}
use Rattle.std.specs.List.{flat_map}
use Rattle.statement.specs.Benches.{Text}
use Rattle.statement.specs.declared.kinds.Tri.{Tri}
use Rattle.statement.specs.Tests.{driven_bit, strobed_value}

-- ---- words of their own for what stands in these

abbrev pub bits_of : Text → List Bool
bits_of word = map driven_bit word

abbrev pub values_of : Text → List Tri
values_of word = map strobed_value word

-- how often a call shifts
abbrev pub call_size : List Text → ℕ
call_size words = length (slice_index_or words 0 [])

-- the words one behind the other
abbrev pub together : List Text → Text
together words = flat_map (λ word. word) words

-- where there are chains, there is a word for the clock
abbrev pub IsPulsed : ℕ → List Text → Type 0
IsPulsed zero words = Unit {0}
IsPulsed (suc n) words = (word : Text) × (slice_get words (suc (suc n)) ≡ Some word) × (1 ≤ length word)

-- The table of the readers of every signal, as its users see it.
use Rattle.std.proofs.Common.{◌≡◌, ℕ, ◌<◌, [], map, length, get_or, ◌∙◌, ap}
use Rattle.std.proofs.lemmas.List.{length-map, get_or-map}
use Rattle.statement.specs.Netlists.{Netlist, signals, readers_of}
use Rattle.netlist.specs.Conditions.{IsNumbered}

pub table_count : (n : Netlist) → length (map (readers_of n) (signals n)) ≡ length (signals n)
table_count n = length-map (signals n) (readers_of n)

pub readers_at : (n : Netlist) → IsNumbered n → (x : ℕ) → x < length (signals n) → get_or (map (readers_of n) (signals n)) x [] ≡ readers_of n x
readers_at n numbered x l = get_or-map (readers_of n) (signals n) x 0 [] l ∙ ap (readers_of n) (numbered x l)

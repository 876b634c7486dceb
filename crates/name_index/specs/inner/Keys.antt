-- Keys of the index, without where they lie in memory.
use denote.Ref.{Bor}
use Rattle.std.specs.Prelude.{ℕ, ◌≡◌, List, map}
use Rattle.statement.specs.Netlists.{Netlist}

abbrev pub bytes_of : List (Bor (List ℕ)) → List (List ℕ)
bytes_of keys = map (λ (key : Bor (List ℕ)). key.now) keys

-- they are the names of the netlist, in the order of its signals
abbrev pub AreNames : List (Bor (List ℕ)) → Netlist → Type 0
AreNames keys n = bytes_of keys ≡ n.names

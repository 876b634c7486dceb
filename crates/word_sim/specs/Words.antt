-- What the words of up to 64 patterns say of each signal.
use Rattle.std.specs.Prelude.{ℕ, ◌≡◌, Bool, List, None, Some, length, map}
use Rattle.std.specs.List.{slice_get}
use Rattle.statement.specs.Netlists.{Netlist, cells, signals}
use Rattle.statement.specs.Values.{Settles, bits, next, outs}
use Rattle.netlist.specs.Settled.{at}
use Rattle.statement.specs.Patterns.{Pattern}
use Rattle.events.specs.Words.{bit_of}

-- a bit for each input and each cell of the netlist
pub record HasWidthsOf (n : Netlist) (p : Pattern) : Type 0 where
  pub inputs : length p.inputs ≡ length n.inputs
  pub cells : length p.cells ≡ length (cells n)

-- a word for each signal: bit j is the signal's settled bit under pattern j, without a fault
pub record AreGoodWords (n : Netlist) (patterns : List Pattern) (words : List ℕ) : Type 0 where
  pub size : length words ≡ length (signals n)
  pub each : (j : ℕ) (p : Pattern) → slice_get patterns j ≡ Some p → Settles (bits None) n p.inputs p.cells (λ x. bit_of j (at words 0 x))

-- a word for each output and for each cell's pin: bit j is what it shows under pattern j, without a fault
abbrev pub AreResponseWords : Netlist → List Pattern → List ℕ → List ℕ → Type 0
AreResponseWords n patterns outputs cells =
    (j : ℕ) (p : Pattern) → slice_get patterns j ≡ Some p
    → (a : ℕ → Bool) × Settles (bits None) n p.inputs p.cells a × (map (bit_of j) outputs ≡ outs (bits None) n a) × (map (bit_of j) cells ≡ next (bits None) n a)

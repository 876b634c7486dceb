-- What parts have to be before a netlist is made of them, what is then refused, and what every netlist is.
use Rattle.std.specs.Prelude.{ℕ, ◌≡◌, ◌≢◌, ◌<◌, ◌≤◌, ◌⊎◌, ⊤, length, slice_index, IsTrue}
use Rattle.std.specs.List.{All, AllPairs, Contains, EachIndex}
use Rattle.netlist.specs.declared.netlists.NetRefusal.{NetRefusal}
use Rattle.netlist.specs.declared.netlists.NetRefusal.TheVariants.{TooMany, NoInput, NoOutput, Undefined, Loop, NoMemory}
use Rattle.netlist.specs.declared.equations.Parts.{Parts}
use Rattle.netlist.specs.Gates.{allows_pins}
use Rattle.statement.specs.Netlists.{IsName, Definition, Netlist, signals}
use Rattle.netlist.specs.Netlist.{IsOnLoop, IsAcyclic}

-- the netlist of the parts
abbrev pub whole : Parts → Netlist
whole p = record { names = p.names; inputs = p.inputs.items; outputs = p.outputs.items; definitions = p.definitions.items }

-- the signals are 0, 1 and so on: inputs, then definitions
abbrev pub IsNumbered : Netlist → Type 0
IsNumbered n = EachIndex (signals n) (λ k. slice_index (signals n) k ≡ k)

-- a pin or an output reads it
abbrev pub HasReader : Netlist → ℕ → Type 0
HasReader n x = ((d : Definition) × Contains n.definitions d × Contains d.pins x) ⊎ Contains n.outputs x

pub record IsWellFormed (n : Netlist) : Type 0 where
  pub numbered : IsNumbered n
  pub named : (x : ℕ) → Contains (signals n) x → x < length n.names
  pub read_named : (x : ℕ) → HasReader n x → x < length n.names
  pub used : (x : ℕ) → x < length n.names → Contains (signals n) x ⊎ HasReader n x
  pub names : All IsName n.names
  pub distinct : AllPairs (λ x y. x ≢ y) n.names
  pub once : AllPairs (λ x y. x ≢ y) n.outputs
  pub allowed : All (λ (d : Definition). IsTrue (allows_pins d.kind (length d.pins))) n.definitions

-- each signal that is read is an input or defined, and each definition has pins as its kind allows
pub record IsClosed (n : Netlist) : Type 0 where
  pub pins : All (λ (d : Definition). All (Contains (signals n)) d.pins) n.definitions
  pub outputs : All (Contains (signals n)) n.outputs
  pub allowed : All (λ (d : Definition). IsTrue (allows_pins d.kind (length d.pins))) n.definitions

-- the most signals of any netlist
abbrev pub most_signals : ℕ
most_signals = 8000000

pub record IsSized (n : Netlist) : Type 0 where
  pub small : length (signals n) ≤ most_signals
  pub input : 0 < length n.inputs
  pub output : 0 < length n.outputs

-- it is read, and it is neither an input nor defined
abbrev pub IsUndefined : Netlist → ℕ → Type 0
IsUndefined n x = HasReader n x × ¬ Contains (signals n) x

-- what every netlist is
pub record IsSound (n : Netlist) : Type 0 where
  pub formed : IsWellFormed n
  pub sized : IsSized n
  pub closed : IsClosed n
  pub acyclic : IsAcyclic n

-- the first cause in this order
abbrev pub IsCause : Netlist → NetRefusal → Type 0
IsCause n TooMany = most_signals < length (signals n)
IsCause n NoInput = (length (signals n) ≤ most_signals) × (length n.inputs ≡ 0)
IsCause n NoOutput = (length (signals n) ≤ most_signals) × (0 < length n.inputs) × (length n.outputs ≡ 0)
IsCause n (Undefined z) = IsSized n × IsUndefined n z × ((y : ℕ) → y < z → ¬ IsUndefined n y)
IsCause n (Loop z) = IsSized n × ((y : ℕ) → ¬ IsUndefined n y) × IsOnLoop n z × ((y : ℕ) → y < z → ¬ IsOnLoop n y)
IsCause n NoMemory = ⊤

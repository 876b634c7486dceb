-- Where a loop stands in a text (private to this crate).
use Rattle.std.specs.Prelude.{ℕ, ◌≡◌, ◌<◌, ◌≤◌, ⊤, length, List, ◌∷◌, ◌++◌, Option}
use Rattle.statement.specs.declared.kinds.Kind.{Kind}
use Rattle.netlist.specs.declared.netlists.NetRefusal.{NetRefusal}
use Rattle.netlist.specs.declared.netlists.NetRefusal.TheVariants as net
use Rattle.netlist.specs.Netlist.{IsOnLoop}
use Rattle.bench_text.specs.declared.refusal.BenchKind.TheVariants.{Loop}
use Rattle.bench_text.specs.declared.refusal.BenchFault.{BenchFault}
use Rattle.bench_text.specs.declared.refusal.BenchFault.TheVariants.{NoMemory, Refused}
use Rattle.bench_text.specs.Forms.{Definition}
use Rattle.bench_text.specs.Said.{Said, statements_of}
use Rattle.bench_text.specs.Texts.{inputs_of, signals_of}
use Rattle.bench_text.specs.Netlists.{id_of, netlist_of}
use Rattle.bench_text.specs.Reading.{IsFirstOnLoop}

-- The definition of a signal stands on this line.
pub record IsDefinedAt (all : List Said) (signal line : ℕ) : Type 0 where
  pub before : List Said
  pub note : Said
  pub after : List Said
  pub z : List ℕ
  pub gate : Option Kind
  pub pins : List (List ℕ)
  pub split : all ≡ before ++ note ∷ after
  pub here : note.line ≡ line
  pub defines : note.statement ≡ Definition z gate pins
  pub signal_is : id_of (signals_of (statements_of all)) z ≡ signal

-- Why a netlist is refused, where the text is fine but for loops.
abbrev pub IsLeft : List Said → NetRefusal → Type 0
IsLeft all net.NoMemory = ⊤
IsLeft all (net.Loop z) = IsOnLoop (netlist_of (statements_of all)) z × ((y : ℕ) → y < z → ¬ IsOnLoop (netlist_of (statements_of all)) y)
    × (length (inputs_of (statements_of all)) ≤ z) × (z < length (signals_of (statements_of all)))
IsLeft all net.TooMany = ⊥
IsLeft all net.NoInput = ⊥
IsLeft all net.NoOutput = ⊥
IsLeft all (net.Undefined z) = ⊥

-- A text is refused for a loop alone.
abbrev pub IsLoopRefusal : List Said → BenchFault → Type 0
IsLoopRefusal all NoMemory = ⊤
IsLoopRefusal all (Refused r) = (r.kind ≡ Loop) × IsFirstOnLoop all r.line

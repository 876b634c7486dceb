-- Faults that one gate makes equal, and the least equivalence that holds them.
-- (Structural equivalence of stuck-at faults: McCluskey and Clegg, Fault equivalence in combinational logic networks, 1971;
-- Bushnell and Agrawal, Essentials of Electronic Testing, 2000, chapter 4.)
use Rattle.std.specs.Prelude.{ℕ, ◌≡◌, Bool, true, false, not, if◌then◌else◌, nat_le, length, Option, Some, None}
use Rattle.std.specs.List.{Contains, slice_get}
use Rattle.statement.specs.declared.kinds.Kind.{Kind}
use Rattle.statement.specs.declared.kinds.Kind.TheVariants.{And, Nand, Or, Nor, Xor, Xnor, Not, Buff, Dff, Const0, Const1}
use Rattle.statement.specs.declared.lines.Line.{Line}
use Rattle.statement.specs.declared.lines.Line.TheVariants.{Stem, Pin}
use Rattle.statement.specs.declared.lines.Fault.{Fault}
use Rattle.statement.specs.Netlists.{Definition, Netlist, readers_of}

-- what the output of a gate is stuck at where one of its pins is stuck at this bit, if that can't be told apart
abbrev pub output_value : Kind → Bool → Option Bool
output_value And v = if v then None else Some false
output_value Nand v = if v then None else Some true
output_value Or v = if v then Some true else None
output_value Nor v = if v then Some false else None
output_value Not v = Some (not v)
output_value Buff v = Some v
output_value Xor v = None
output_value Xnor v = None
output_value Dff v = None
output_value Const0 v = None
output_value Const1 v = None

-- the line at pin k of z, which reads x: a branch, or the stem x itself where nothing else reads x
abbrev pub line_at_pin : Netlist → ℕ → ℕ → ℕ → Line
line_at_pin n x z k = if nat_le 2 (length (readers_of n x)) then Pin z k else Stem x

-- a fault at a pin of a gate, and the fault at the gate's output that it makes
pub record IsJoined (n : Netlist) (f g : Fault) : Type 0 where
  pub gate : Definition
  pub place : ℕ
  pub signal : ℕ
  pub member : Contains n.definitions gate
  pub pin : slice_get gate.pins place ≡ Some signal
  pub input : f.line ≡ line_at_pin n signal gate.id place
  pub output : g.line ≡ Stem gate.id
  pub values : output_value gate.kind f.value ≡ Some g.value

-- the least equivalence that holds all joined pairs
pub data IsEquivalent (n : Netlist) : Fault → Fault → Type 0 where
  joined : (f g : Fault) → IsJoined n f g → IsEquivalent n f g
  reflexive : (f : Fault) → IsEquivalent n f f
  symmetric : (f g : Fault) → IsEquivalent n f g → IsEquivalent n g f
  transitive : (f g h : Fault) → IsEquivalent n f g → IsEquivalent n g h → IsEquivalent n f h

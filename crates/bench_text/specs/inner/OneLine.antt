-- What is wrong with a line on its own (private to this crate).
use Rattle.std.specs.Prelude.{ℕ, if◌then◌else◌, List, [], ◌∷◌, length, Option, Some, None, find}
use Rattle.netlist.specs.Gates.{allows_pins}
use Rattle.bench_text.specs.declared.refusal.Names.{Names}
use Rattle.bench_text.specs.declared.refusal.BenchKind.{BenchKind}
use Rattle.bench_text.specs.declared.refusal.BenchKind.TheVariants.{BadByte, BadLine, UnknownGate, BadPins}
use Rattle.bench_text.specs.Forms.{Statement, Definition}
use Rattle.bench_text.specs.Refusals.{applies}

-- the least that applies to a line on its own: DefinedTwice and Reserved come after it
unfoldable pub own_refusal : Names → List ℕ → Option BenchKind
own_refusal reading line = find (applies reading [] line) (BadByte ∷ BadLine ∷ UnknownGate ∷ BadPins ∷ [])

-- what a statement is refused for beside its form
abbrev pub gate_refusal : Statement → Option BenchKind
gate_refusal (Definition z None pins) = Some UnknownGate
gate_refusal (Definition z (Some kind) pins) = if allows_pins kind (length pins) then None else Some BadPins
gate_refusal _ = None

-- What has become of the list of faults, which is put on the output in pieces.
use Rattle.std.specs.Prelude.{◌≡◌, ◌⊎◌, ℕ, Option, Result, Ok, Err}
use Rattle.statement.specs.Benches.{Text}
use Rattle.statement.specs.Netlists.{Netlist}
use Rattle.outside.specs.declared.refusal.WriteRefusal.{WriteRefusal}
use Rattle.outside.specs.declared.refusal.WriteRefusal.TheVariants as write
use Rattle.commands.specs.Pieces.{PutsText, Waits}
use Rattle.atpg_top.specs.FaultLists.{IsFaultList}

-- A part of the text was put, and the rest waits. A refusal is that of the whole text.
abbrev pub PutsPiece : Option Text → ℕ → Option Text → ℕ → Text → Text → Result Unit WriteRefusal → Type 0
PutsPiece a f b g text rest (Ok _) = Waits a b text rest × (g ≡ f)
PutsPiece a f b g text rest (Err e) = PutsText a f b g text (Err e)

-- the list of a design's faults is put
abbrev pub PutsList : Netlist → Option Text → ℕ → Option Text → ℕ → Result Unit WriteRefusal → Type 0
PutsList n a f b g result = (text : Text) × IsFaultList n text × PutsText a f b g text result

-- the same, or memory ran out before there was a list
abbrev pub PutsFaultList : Netlist → Option Text → ℕ → Option Text → ℕ → Result Unit WriteRefusal → Type 0
PutsFaultList n a f b g (Err write.NoMemory) = ((b ≡ a) × (g ≡ f)) ⊎ PutsList n a f b g (Err write.NoMemory)
PutsFaultList n a f b g result = PutsList n a f b g result

-- What the reading of a text answers.
use Rattle.std.specs.Prelude.{ℕ, ◌≡◌, ⊤, List, ◌∷◌, ◌++◌, Option, Some, None, Result, Ok, Err}
use Rattle.std.specs.List.{AllByRecursion}
use Rattle.statement.specs.Netlists.{Netlist}
use Rattle.netlist.specs.Netlist.{IsOnLoop, IsAcyclic}
use Rattle.netlist.specs.Designs.{IsDesign}
use Rattle.bench_text.specs.declared.refusal.Names.{Names}
use Rattle.bench_text.specs.declared.refusal.Names.TheVariants.{Design, Scanned}
use Rattle.bench_text.specs.declared.refusal.BenchKind.TheVariants.{Loop}
use Rattle.bench_text.specs.declared.refusal.BenchRefusal.{BenchRefusal}
use Rattle.bench_text.specs.declared.refusal.BenchFault.{BenchFault}
use Rattle.bench_text.specs.declared.refusal.BenchFault.TheVariants.{NoMemory, Refused}
use Rattle.bench_text.specs.Forms.{Statement, Definition}
use Rattle.bench_text.specs.Said.{Said, statements_of}
use Rattle.bench_text.specs.Texts.{signals_of}
use Rattle.bench_text.specs.Whole.{notes, refusal}
use Rattle.bench_text.specs.Netlists.{id_of, netlist_of}

-- the netlist that a text stands for
abbrev pub netlist_in : Names → List ℕ → Netlist
netlist_in reading text = netlist_of (statements_of (notes reading text))

-- The statement defines a gate of the greatest set of gates each of which reads a gate of the set.
abbrev pub DefinesOnLoop : List Statement → Statement → Type 0
DefinesOnLoop ss (Definition z gate pins) = IsOnLoop (netlist_of ss) (id_of (signals_of ss) z)
DefinesOnLoop ss _ = ⊥

-- The first such statement stands on this line.
pub record IsFirstOnLoop (all : List Said) (line : ℕ) : Type 0 where
  pub before : List Said
  pub note : Said
  pub after : List Said
  pub split : all ≡ before ++ note ∷ after
  pub here : note.line ≡ line
  pub on_loop : DefinesOnLoop (statements_of all) note.statement
  pub first : AllByRecursion (λ (s : Said). ¬ DefinesOnLoop (statements_of all) s.statement) before

-- A text is refused for its first refused line, else for what is wrong with it as a whole, and for a loop last.
abbrev pub IsRefused : Option BenchRefusal → List Said → BenchRefusal → Type 0
IsRefused (Some first) all r = r ≡ first
IsRefused None all r = (r.kind ≡ Loop) × IsFirstOnLoop all r.line

abbrev pub IsRead : Names → List ℕ → Result Netlist BenchFault → Type 0
IsRead reading text (Ok n) = (n ≡ netlist_in reading text) × (refusal reading text ≡ None) × IsAcyclic n
IsRead reading text (Err NoMemory) = ⊤
IsRead reading text (Err (Refused r)) = IsRefused (refusal reading text) (notes reading text) r

-- what is read as a design is one
abbrev pub IsReadAs : Names → Netlist → Type 0
IsReadAs Design n = IsDesign n
IsReadAs Scanned n = ⊤

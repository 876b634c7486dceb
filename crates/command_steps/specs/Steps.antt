-- What is due of texts step by step: each step gives a value, or refuses. The first step that refuses decides.
use Rattle.std.specs.Prelude.{◌≡◌, ◌≢◌, ◌⊎◌, List, [], ◌∷◌, Option, Some, None, Result, Ok, Err}
use Rattle.std.specs.List.{All, Contains}
use Rattle.statement.specs.Benches.{Text}
use Rattle.statement.specs.declared.lines.Fault.{Fault}
use Rattle.statement.specs.Netlists.{Netlist}
use Rattle.netlist.specs.Conditions.{IsSound}
use Rattle.statement.specs.Patterns.{Holds}
use Rattle.netlist.specs.Holds.{none_held}
use Rattle.bench_text.specs.Reading.{IsRead}
use Rattle.bench_text.specs.declared.refusal.Names.{Names}
use Rattle.bench_text.specs.declared.refusal.Names.TheVariants.{Design}
use Rattle.bench_text.specs.declared.refusal.BenchFault.TheVariants as bench
use Rattle.statement.specs.Faults.{fault_text, universe_of}
use Rattle.command_line.specs.HoldLists.{HoldItem}
use Rattle.commands.specs.Due.{Due, Refuse}
use Rattle.command_steps.specs.Runs.{AreHeldFrom, IsFirstUnknown}
use Rattle.command_steps.specs.declared.refusal.Refusal.{Refusal}
use Rattle.command_steps.specs.declared.refusal.Refusal.TheVariants as refusal

infixr 10 ◌>>=◌
-- the step gives a value, of which the rest is due; or it refuses
abbrev pub ◌>>=◌ : {A : Type 0} → (Result A Refusal → Type 0) → (A → Due Refusal → Type 0) → Due Refusal → Type 0
(step >>= rest) due = ((x : _) × step (Ok x) × rest x due) ⊎ ((r : Refusal) × step (Err r) × (due ≡ Refuse r))

-- the netlist that .bench text stands for under this reading, or its refusal
abbrev pub netlist : Names → Text → Result Netlist Refusal → Type 0
netlist reading bytes (Ok n) = IsRead reading bytes (Ok n) × IsSound n
netlist reading bytes (Err (refusal.Netlist r)) = IsRead reading bytes (Err (bench.Refused r))
netlist reading bytes (Err _) = ⊥

-- the fault that is written so, if one is asked for; refused exactly where the netlist has none that is
abbrev pub named_fault : Netlist → Option Text → Result (Option Fault) Refusal → Type 0
named_fault n None (Ok f) = f ≡ None
named_fault n None (Err r) = ⊥
named_fault n (Some text) (Ok None) = ⊥
named_fault n (Some text) (Ok (Some f)) = Contains (universe_of n) f × (fault_text n f ≡ text)
named_fault n (Some text) (Err r) = (r ≡ refusal.NoSuchFault) × All (λ f. fault_text n f ≢ text) (universe_of n)

-- the inputs that are held, where each name is an input's; else refused for the first that isn't
abbrev pub named_holds : Netlist → List HoldItem → Result Holds Refusal → Type 0
named_holds n named (Ok holds) = AreHeldFrom n (none_held n) named holds
named_holds n named (Err (refusal.NoSuchInput place)) = IsFirstUnknown n named place
named_holds n named (Err _) = ⊥

-- the value for which the bytes stand; refused for this reason exactly where there is none
abbrev pub value : {V : Type 0} → (Text → V → Type 0) → Refusal → Text → Result V Refusal → Type 0
value StandsFor why bytes (Ok v) = StandsFor bytes v
value StandsFor why bytes (Err r) = (r ≡ why) × ((v : _) → ¬ StandsFor bytes v)

-- it is so; refused for this reason exactly where it isn't
abbrev pub test : Type 0 → Refusal → Result Unit Refusal → Type 0
test P why (Ok _) = P
test P why (Err r) = (r ≡ why) × (¬ P)

-- what is due of one text, by what is due of the design that it stands for
abbrev pub design_due : (Netlist → Due Refusal → Type 0) → List Text → Due Refusal → Type 0
design_due rest (bytes ∷ []) = netlist Design bytes >>= rest
design_due rest texts = λ d. ⊥

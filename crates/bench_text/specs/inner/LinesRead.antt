-- What the reading of the lines of a text answers.
use Rattle.std.specs.Prelude.{ℕ, ◌≡◌, ⊤, List, [], ◌++◌, length, map, Some, None, Result, Ok, Err}
use Rattle.bench_text.specs.declared.refusal.Names.{Names}
use Rattle.bench_text.specs.declared.refusal.BenchFault.{BenchFault}
use Rattle.bench_text.specs.declared.refusal.BenchFault.TheVariants.{NoMemory, Refused}
use Rattle.bench_text.specs.declared.draft.Draft.{Draft}
use Rattle.bench_text.specs.Bytes.{lines}
use Rattle.bench_text.specs.Forms.{Statement}
use Rattle.bench_text.specs.Said.{notes_from}
use Rattle.bench_text.specs.Texts.{statement_on, statements, first_refusal}
use Rattle.bench_text.specs.Whole.{notes}
use Rattle.bench_text.specs.inner.Drafted.{notes_in}

abbrev pub AreLinesRead : Names → List ℕ → Result Draft BenchFault → Type 0
AreLinesRead reading text (Ok d) = (notes_in d ≡ notes reading text) × (first_refusal reading [] (lines text) ≡ None)
AreLinesRead reading text (Err NoMemory) = ⊤
AreLinesRead reading text (Err (Refused r)) = first_refusal reading [] (lines text) ≡ Some r

-- some lines are read, and the others are left
pub record IsPartRead (reading : Names) (text rest : List ℕ) (d : Draft) : Type 0 where
  pub earlier : List Statement
  pub all : earlier ++ map (statement_on reading) (lines rest) ≡ statements reading text
  pub kept : notes_in d ≡ notes_from 1 earlier
  pub count : d.lines ≡ length earlier
  pub first : first_refusal reading earlier (lines rest) ≡ first_refusal reading [] (lines text)

-- What the lines of a text say, each with its number; lines that say nothing are left out.
use Rattle.std.specs.Prelude.{ℕ, ◌+◌, ◌++◌, List, [], ◌∷◌, map}
use Rattle.bench_text.specs.Forms.{Statement, Nothing, Input, Output, Definition}

pub record Said : Type 0 where
  pub line : ℕ
  pub statement : Statement

-- a statement of line n, if it is one
abbrev pub note_at : ℕ → Statement → List Said
note_at n Nothing = []
note_at n (Input x) = record { line = n; statement = Input x } ∷ []
note_at n (Output x) = record { line = n; statement = Output x } ∷ []
note_at n (Definition z gate pins) = record { line = n; statement = Definition z gate pins } ∷ []

-- the statements of the lines from n on
abbrev pub notes_from : ℕ → List Statement → List Said
notes_from n [] = []
notes_from n (s ∷ ss) = note_at n s ++ notes_from (n + 1) ss

abbrev pub statements_of : List Said → List Statement
statements_of notes = map (λ (s : Said). s.statement) notes

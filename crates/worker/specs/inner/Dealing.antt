-- What is dealt to each of several who go over faults beside each other.
use Rattle.std.specs.Prelude.{ℕ, ◌+◌, ◌==◌, List, [], ◌∷◌, cond, slice_index_or}
use Rattle.statement.specs.declared.lines.Fault.{Fault}
use Rattle.statement.specs.declared.lines.Line.{Line}
use Rattle.statement.specs.declared.lines.Line.TheVariants.{Stem, Pin, Out}

-- the signal at which a line stands
abbrev pub site : Line → ℕ
site (Stem x) = x
site (Pin z k) = z
site (Out o) = o

-- the part of a fault, by the parts of the signals
abbrev pub part_of : List ℕ → Fault → ℕ
part_of numbers f = slice_index_or numbers (site f.line) 0

-- the faults of a part
abbrev pub dealt : List ℕ → ℕ → List Fault → List Fault
dealt numbers w [] = []
dealt numbers w (f ∷ fs) = cond (part_of numbers f == w) (f ∷ dealt numbers w fs) (dealt numbers w fs)

-- the same, each under its place, where the first has this one
abbrev pub dealt_hits : List ℕ → ℕ → ℕ → List (ℕ × Fault) → List (ℕ × Fault)
dealt_hits numbers w place [] = []
dealt_hits numbers w place (g ∷ gs) =
    cond (part_of numbers g.1 == w) ((place, g.1) ∷ dealt_hits numbers w (place + 1) gs) (dealt_hits numbers w (place + 1) gs)

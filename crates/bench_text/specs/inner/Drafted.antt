-- What the lines read so far say.
use Rattle.std.specs.Prelude.{ℕ, ◌≡◌, Bool, true, List, map, length, Option, Some, None, slice_get}
use Rattle.bench_text.specs.declared.draft.Draft.{Draft}
use Rattle.bench_text.specs.declared.numbered.Numbered.{Numbered}
use Rattle.bench_text.specs.inner.Stated.{names}
use Rattle.bench_text.specs.Said.{Said, statements_of}
use Rattle.bench_text.specs.Texts.{signals_of}
use Rattle.bench_text.specs.inner.Numbered.{spelling_of_entry, are_below}

-- the names names_seen
abbrev pub names_seen : Draft → List (List ℕ)
names_seen d = names d.sights.names.keys

abbrev pub notes_in : Draft → List Said
notes_in d = map (spelling_of_entry (names_seen d)) d.entries.items

-- the signals that the lines define
abbrev pub signals_in : Draft → List (List ℕ)
signals_in d = signals_of (statements_of (notes_in d))

abbrev pub are_seen : Draft → Option Numbered → Bool
are_seen d None = true
are_seen d (Some s) = are_below (length (names_seen d)) s

-- Names were names_seen, and nothing else changed.
pub record Keeps (old new : Draft) : Type 0 where
  pub said : notes_in new ≡ notes_in old
  pub lines : new.lines ≡ old.lines
  pub names : (n : ℕ) (x : List ℕ) → slice_get (names_seen old) n ≡ Some x → slice_get (names_seen new) n ≡ Some x

-- these are the numbers of these names
abbrev pub AreNumbers : List (List ℕ) → List ℕ → List (List ℕ) → Type 0
AreNumbers names ns xs = map (slice_get names) ns ≡ map (λ x. Some x) xs

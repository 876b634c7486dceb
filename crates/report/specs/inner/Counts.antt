-- Words and counts apart, each in the order of the text.
use Rattle.std.specs.Prelude.{ℕ, ◌≡◌, ◌++◌, List, [], ◌∷◌, codes, length, map, slice_index}
use Rattle.std.specs.List.{All, flat_map, zip}
use Rattle.report.specs.declared.counts.ReportCounts.{ReportCounts}
use Rattle.report.specs.Counts.{AreSmallCounts, worded}
use Rattle.report.specs.Texts.{count_line, counts_text, unasked_line}
use Rattle.report.specs.Beginnings.{Begins, IsCount}
use Rattle.report.specs.inner.Lines.{NoSome}

abbrev pub count_of_counts : ℕ
count_of_counts = 14

abbrev pub count_words : List (List ℕ)
count_words = codes "inputs " ∷ codes "outputs " ∷ codes "gates " ∷ codes "cells " ∷ codes "chains " ∷ codes "faults " ∷ codes "classes "
    ∷ codes "patterns " ∷ codes "cycles " ∷ codes "limit " ∷ codes "detected " ∷ codes "redundant " ∷ codes "aborted " ∷ codes "untested " ∷ []

abbrev pub in_order : ReportCounts → List ℕ
in_order c = map (λ (p : List ℕ × ℕ). p.1) (worded c)

-- the counts that are these in order, and so many that weren't asked for
abbrev pub counts_from : List ℕ → ℕ → ReportCounts
counts_from ks unasked = record {
  inputs = slice_index ks 0;
  outputs = slice_index ks 1;
  gates = slice_index ks 2;
  cells = slice_index ks 3;
  chains = slice_index ks 4;
  faults = slice_index ks 5;
  classes = slice_index ks 6;
  patterns = slice_index ks 7;
  cycles = slice_index ks 8;
  limit = slice_index ks 9;
  detected = slice_index ks 10;
  redundant = slice_index ks 11;
  aborted = slice_index ks 12;
  untested = slice_index ks 13;
  unasked = unasked;
}

-- some counts behind the first words
abbrev pub some_counts : List (List ℕ) → List ℕ → List ℕ
some_counts words counts = flat_map (λ p. count_line p.0 p.1) (zip words counts)

-- so many small numbers as there are words, and their lines
abbrev pub AreNumbers : List ℕ → Type 0
AreNumbers counts = (length counts ≡ count_of_counts) × All IsCount counts

abbrev pub numbers_text : List ℕ → List ℕ
numbers_text counts = some_counts count_words counts

-- the lines of counts
abbrev pub counts_lines : ReportCounts → List ℕ
counts_lines c = counts_text c ++ unasked_line c.unasked

-- the text begins with all lines of these counts
abbrev pub CountsBegin : List ℕ → ReportCounts → List ℕ → Type 0
CountsBegin text c rest = Begins AreSmallCounts counts_lines text c rest × (c.unasked ≡ 0 → NoSome (codes "unasked ") rest)

-- The counts of a report as a list, each behind its word.
use Rattle.std.proofs.Common.{◌≡◌, ℕ, ◌+◌, ◌<◌, ◌≤◌, List, [], ◌∷◌, ◌++◌, get_or, length, set, take, take_all, Some, refl, sym, ◌∙◌, ap, ap₂, subst, codes, append_assoc, arith}
use Rattle.std.specs.List.{All, slice_get}
use Rattle.std.proofs.lemmas.List.{get_or-map, length-take-le, take_more_set}
use Rattle.std.proofs.lemmas.List.Elements.{All-map}
use Rattle.std.proofs.lemmas.List.FromFn.{fill_by_all}
use Rattle.report.specs.declared.counts.ReportCounts.{ReportCounts}
use Rattle.report.specs.Counts.{AreAllAsked, AreSmallCounts, worded}
use Rattle.report.specs.Texts.{count_line, counts_text, unasked_line}
use Rattle.report.specs.inner.Counts.{AreNumbers, CountsBegin, count_words, counts_from, counts_lines, in_order, numbers_text, some_counts}
use Rattle.report.specs.Beginnings.{Begins, IsCount, NoneBegins}
use Rattle.report.specs.inner.Lines.{SomeBegins}
use Rattle.report.proofs.LineLemmas.{IsTold, next_valid}
use Rattle.report.proofs.NumberLemmas.{counts_told, next_count_read, no_counts, some_told}

pub small_in_order : (c : ReportCounts) → AreSmallCounts c → All IsCount (in_order c)
small_in_order c v = All-map IsCount (λ (p : List ℕ × ℕ). p.1) (worded c) v.0

pub small_counts : (c : ReportCounts) → All IsCount (in_order c) → IsCount c.unasked → AreSmallCounts c
small_counts c v u = ((λ k d l. subst IsCount (get_or-map (λ (p : List ℕ × ℕ). p.1) (worded c) k d 0 l) (v k 0 l)), u)

-- a list of fourteen is the list of its elements
counts_from_order : (ks : List ℕ) (unasked : ℕ) → length ks ≡ 14 → in_order (counts_from ks unasked) ≡ ks
counts_from_order ks unasked size = sym (fill_by_all (λ k. get_or ks k 0) ks 14 0 size (λ k l. refl))

-- numbers, each behind its word
numbers_of : (c : ReportCounts) → AreSmallCounts c → AreNumbers (in_order c)
numbers_of c v = (refl, small_in_order c v)

numbers_told : IsTold AreNumbers numbers_text
numbers_told ks ls r s v w e = counts_told count_words ks ls r s v.0 w.0 v.1 w.1 e

-- all counts
pub all_counts_told : (text : List ℕ) (c d : ReportCounts) (r s : List ℕ) → CountsBegin text c r → CountsBegin text d s → (c ≡ d) × (r ≡ s)
all_counts_told text c d r s v w =
    let first = numbers_told (in_order c) (in_order d) (unasked_line c.unasked ++ r) (unasked_line d.unasked ++ s) (numbers_of c v.0.0) (numbers_of d w.0.0)
    (sym (append_assoc (counts_text c) (unasked_line c.unasked) r) ∙ (sym v.0.1 ∙ (w.0.1 ∙ append_assoc (counts_text d) (unasked_line d.unasked) s))) in
    let last = some_told (codes "unasked ") c.unasked d.unasked r s v.0.0.1 w.0.0.1 v.1 w.1 first.1 in
    (ap₂ counts_from first.0 last.0, last.1)

-- where none weren't asked for
pub asked_told : IsTold AreAllAsked counts_text
asked_told c d r s v w e =
    let told = numbers_told (in_order c) (in_order d) r s (numbers_of c v.0) (numbers_of d w.0) e in
    (ap₂ counts_from told.0 (v.1 ∙ sym w.1), told.1)

module _ (text : List ℕ) where
  pub no_asked : NoneBegins AreNumbers numbers_text text → NoneBegins AreAllAsked counts_text text
  no_asked none c r v e = none (in_order c) r (numbers_of c v.0) e

  pub no_numbers : NoneBegins AreNumbers numbers_text text → NoneBegins AreSmallCounts counts_lines text
  no_numbers none c r v e = none (in_order c) (unasked_line c.unasked ++ r) (numbers_of c v) (e ∙ append_assoc (counts_text c) (unasked_line c.unasked) r)

  module _ (numbers rest : List ℕ) (read : Begins AreNumbers numbers_text text numbers rest) where
    pub asked_found : (c : ReportCounts) → c ≡ counts_from numbers 0 → Begins AreAllAsked counts_text text c rest
    asked_found c made =
        let these = counts_from_order numbers 0 read.0.0 in
        let found : Begins AreAllAsked counts_text text (counts_from numbers 0) rest = (
          (small_counts (counts_from numbers 0) (subst (All IsCount) (sym these) read.0.1) (omega arith), refl),
          read.1 ∙ ap (λ ks. numbers_text ks ++ rest) (sym these),
        ) in
        subst (λ d. Begins AreAllAsked counts_text text d rest) (sym made) found

    pub counts_found : (unasked : ℕ) (after : List ℕ) → SomeBegins (codes "unasked ") rest unasked after → (c : ReportCounts) → c ≡ counts_from numbers unasked
        → CountsBegin text c after
    counts_found unasked after is c made =
        let these = counts_from_order numbers unasked read.0.0 in
        let found : CountsBegin text (counts_from numbers unasked) after = (
          (
            small_counts (counts_from numbers unasked) (subst (All IsCount) (sym these) read.0.1) is.0.0,
            read.1 ∙ (ap₂ (λ ks t. numbers_text ks ++ t) (sym these) is.0.1
                ∙ sym (append_assoc (counts_text (counts_from numbers unasked)) (unasked_line unasked) after)),
          ),
          is.1,
        ) in
        subst (λ d. CountsBegin text d after) (sym made) found

-- so many numbers are read, each behind its word
module _ (numbers : List ℕ) (size : length numbers ≡ 14) (k : ℕ) (text rest : List ℕ) (read : text ≡ some_counts count_words (take k numbers) ++ rest)
    (small : All IsCount (take k numbers)) where
  module _ (within : k < 14) (word : List ℕ) (is_word : slice_get count_words k ≡ Some word) where
    so_many : length (take k numbers) ≡ k
    so_many = length-take-le k numbers (omega (arith, size, within))

    word_next : slice_get count_words (length (take k numbers)) ≡ Some word
    word_next = subst (λ i. slice_get count_words i ≡ Some word) (sym so_many) is_word

    pub no_next_count : NoneBegins IsCount (count_line word) rest → NoneBegins AreNumbers numbers_text text
    no_next_count none ks r v e =
        no_counts count_words (take k numbers) ks rest r word word_next (omega (arith, so_many, within, v.0)) small v.1 none (sym read ∙ e)

    module _ (count : ℕ) (after : List ℕ) (begins : Begins IsCount (count_line word) rest count after) where
      one_more : take (k + 1) (set numbers k count) ≡ take k numbers ++ count ∷ []
      one_more = take_more_set numbers k count (omega (arith, size, within))

      pub next_count : text ≡ some_counts count_words (take (k + 1) (set numbers k count)) ++ after
      next_count =
          next_count_read count_words (take k numbers) (take (k + 1) (set numbers k count)) word text rest after count word_next read begins.1 one_more

      pub next_small : All IsCount (take (k + 1) (set numbers k count))
      next_small = next_valid IsCount (take k numbers) (take (k + 1) (set numbers k count)) count small begins.0 one_more

  pub numbers_found : 14 ≤ k → Begins AreNumbers numbers_text text numbers rest
  numbers_found full =
      let all : take k numbers ≡ numbers = take_all k numbers (omega (arith, size, full)) in
      ((size, subst (All IsCount) all small), read ∙ ap (λ ks. some_counts count_words ks ++ rest) all)

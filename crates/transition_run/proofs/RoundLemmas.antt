-- What stands before each of the two rounds of searches, and what comes of both.
use Rattle.std.proofs.Common.{◌≡◌, ℕ, ◌≤◌, ◌+◌, Bool, List, Option, length, sym, ◌∙◌, ap, subst, arith}
use Rattle.std.specs.List.{All, AllPairs}
use Rattle.std.proofs.lemmas.Slice.Zip.{AllZip-long}
use Rattle.statement.specs.Netlists.{Netlist}
use Rattle.statement.specs.Patterns.{Holds, Pattern}
use Rattle.statement.specs.Faults.{universe_of}
use Rattle.cubes.specs.Cubes.{HaveSameWidths, IsCubeOf, IsPatternOf}
use Rattle.cubes.proofs.MergeLemmas.{netlist_widths}
use Rattle.word_sim.specs.Words.{HasWidthsOf}
use Rattle.word_sim.proofs.WidthLemmas.{widths}
use Rattle.evidence.specs.declared.engine.Found.{Found}
use Rattle.transition.specs.Searches.{AreFoundWhereLeft}
use Rattle.transition_tests.specs.Batches.{AreLeftBy, IsLeftBy}
use Rattle.transition_tests.specs.Making.{cubes_in}
use Rattle.transition_tests.specs.Rounds.{AreFirst, AreJoined, AreUnanswered}
use Rattle.transition_tests.specs.Verdicts.{AreKnown}
use Rattle.transition_tests.proofs.RoundLemmas.{found_joined}
use Rattle.transition_tests.proofs.TestLemmas.{all_known, cubes_fit}
use Rattle.transition_run.specs.inner.Rounds.{AreBehind, AreDrawn}

-- patterns as they are seen have the netlist's widths
pub seen_wide : (n : Netlist) (holds : Holds) (patterns seen : List Pattern) → seen ≡ patterns → All (IsPatternOf n holds) patterns → All (HasWidthsOf n) seen
seen_wide n holds patterns seen same obey = widths n holds seen (subst (All (IsPatternOf n holds)) (sym same) obey)

left_count : (n : Netlist) (patterns : List Pattern) (left : List Bool) → AreLeftBy n patterns (universe_of n) left → length left ≡ length (universe_of n)
left_count n patterns left by = AllZip-long (IsLeftBy n patterns) (universe_of n) left by

pub drawn_are : (n : Netlist) (holds : Holds) (patterns seen : List Pattern) (left marks searched : List Bool) → All (IsPatternOf n holds) patterns → length patterns ≡ 64
    → AreLeftBy n seen (universe_of n) left → marks ≡ left → AreFirst marks searched → AreDrawn n holds patterns searched
drawn_are n holds patterns seen left marks searched obey count by same first =
    let size = first.size in
    record { obey = obey; count = count; size = omega (arith, size, ap length same, left_count n seen left by) }

module _ (n : Netlist) (holds : Holds) (limit : ℕ) (refutes : Bool) where
  -- the cubes of a first round's answers, as they are seen
  pub cubes_seen : (searched : List Bool) (found seen : List (Option Found)) → AreFoundWhereLeft n holds limit refutes (universe_of n) searched found → seen ≡ found
      → All (IsCubeOf n holds) (cubes_in seen)
  cubes_seen searched found seen are same =
      subst (λ (xs : List (Option Found)). All (IsCubeOf n holds) (cubes_in xs)) (sym same) (cubes_fit n holds limit refutes searched found are)

  pub cubes_wide : (searched : List Bool) (found seen : List (Option Found)) → AreFoundWhereLeft n holds limit refutes (universe_of n) searched found → seen ≡ found
      → AllPairs HaveSameWidths (cubes_in seen)
  cubes_wide searched found seen are same = netlist_widths n holds (cubes_in seen) (cubes_seen searched found seen are same)

  pub behind_few : (searched : List Bool) (batch patterns seen_patterns : List Pattern) (found seen : List (Option Found)) → AreDrawn n holds batch searched
      → AreFoundWhereLeft n holds limit refutes (universe_of n) searched found → seen ≡ found → length patterns ≤ length batch + length seen → seen_patterns ≡ patterns
      → length seen_patterns ≤ length (universe_of n) + 64
  behind_few searched batch patterns seen_patterns found seen drawn are same few also =
      let size = are.size in
      let count = drawn.count in
      omega (arith, few, size, count, ap length same, ap length also)

  -- there is an answer for each mark, as both are seen
  pub answers_count : (patterns : List Pattern) (searched left marks : List Bool) (found seen : List (Option Found)) → AreFoundWhereLeft n holds limit refutes (universe_of n) searched found
      → AreLeftBy n patterns (universe_of n) left → seen ≡ found → marks ≡ left → length seen ≡ length marks
  answers_count patterns searched left marks found seen are by same also =
      let size = are.size in
      omega (arith, size, left_count n patterns left by, ap length same, ap length also)

  pub are_behind : (searched left marks rest : List Bool) (patterns seen_patterns : List Pattern) (found seen : List (Option Found)) → All (IsPatternOf n holds) patterns
      → length seen_patterns ≤ length (universe_of n) + 64 → AreLeftBy n seen_patterns (universe_of n) left → AreFoundWhereLeft n holds limit refutes (universe_of n) searched found
      → AreUnanswered marks seen rest → seen_patterns ≡ patterns → marks ≡ left → seen ≡ found → AreBehind n holds limit refutes patterns left found rest
  are_behind searched left marks rest patterns seen_patterns found seen obey few by are unasked same_patterns same_left same_found = record {
    obey = obey;
    few = omega (arith, few, ap length same_patterns);
    by = subst (λ (ps : List Pattern). AreLeftBy n ps (universe_of n) left) same_patterns by;
    searched = searched;
    answers = are;
    unasked = subst (λ (ls : List Bool). AreUnanswered ls found rest) same_left (subst (λ (xs : List (Option Found)). AreUnanswered marks xs rest) same_found unasked);
  }

  pub rest_count : (patterns : List Pattern) (left : List Bool) (found : List (Option Found)) (rest : List Bool) → AreBehind n holds limit refutes patterns left found rest
      → length rest ≡ length (universe_of n)
  rest_count patterns left found rest b = b.unasked.size ∙ left_count n patterns left b.by

  -- what both rounds found is known
  pub both_known : (patterns : List Pattern) (left marks rest : List Bool) (found more answers : List (Option Found)) → AreBehind n holds limit refutes patterns left found rest
      → AreFoundWhereLeft n holds limit refutes (universe_of n) rest more → marks ≡ left → AreJoined marks found more answers → AreKnown n holds limit refutes patterns answers
  both_known patterns left marks rest found more answers b two same joined =
      all_known n holds limit refutes patterns (universe_of n) left answers b.by
      (found_joined n holds limit refutes (universe_of n) b.searched left rest found more answers (left_count n patterns left b.by) b.answers b.unasked two
      (subst (λ (ls : List Bool). AreJoined ls found more answers) same joined))

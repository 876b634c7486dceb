-- The faults that come nearest to a log, as they are shown.
use Rattle.std.proofs.Common.{◌≡◌, ℕ, suc, zero, ◌<◌, List, [], ◌∷◌, length, get_or, take, sym, subst, arith}
use Rattle.std.specs.List.{All}
use Rattle.std.proofs.lemmas.List.Elements.{All-cons, All-head, All-tail}
use Rattle.statement.specs.declared.lines.Fault.{Fault}
use Rattle.statement.specs.Netlists.{Netlist}
use Rattle.statement.specs.Faults.{universe_of}
use Rattle.statement.specs.Runs.{Cycle}
use Rattle.fault_universe.proofs.Elements.{slice_get_below}
use Rattle.scan_insert.specs.Scanned.{Insertion, insertion_of}
use Rattle.diagnose.specs.Failures.{Failing}
use Rattle.diagnose.specs.Ranking.{IsRanking}
use Rattle.diagnose.specs.declared.ranks.Ranked.{Ranked}

-- a ranking of the scanned design and its faults, as these are
pub ranking_at : (n : Netlist) (chains : List (List ℕ)) (scanned : Insertion) (faults : List Fault) (cycles : List Cycle) (log : List Failing) (count : ℕ) (found : List Ranked)
    → scanned ≡ insertion_of n chains → faults ≡ universe_of n → IsRanking scanned faults cycles log count found → IsRanking (insertion_of n chains) (universe_of n) cycles log count found
ranking_at n chains scanned faults cycles log count found is also are =
    subst (λ (s : Insertion). IsRanking s (universe_of n) cycles log count found) is (subst (λ (fs : List Fault). IsRanking scanned fs cycles log count found) also are)

-- the first of a list have what all have
all_taken : (P : Ranked → Type 0) (k : ℕ) (rs : List Ranked) → All P rs → All P (take k rs)
all_taken P k rs h = go k rs h
  where
    go : (k : ℕ) (rs : List Ranked) → All P rs → All P (take k rs)
    go zero [] h = h
    go zero (r ∷ rs) h = λ i d l. absurd (omega (arith, l))
    go (suc k) [] h = h
    go (suc k) (r ∷ rs) h = All-cons P r (take k rs) (All-head P r rs h) (go k rs (All-tail P r rs h))

-- each is at a place of the list of faults
pub ranked_within : (n : Netlist) (chains : List (List ℕ)) (cycles : List Cycle) (log : List Failing) (count : ℕ) (found : List Ranked)
    → IsRanking (insertion_of n chains) (universe_of n) cycles log count found → All (λ (r : Ranked). r.place < length (universe_of n)) found
ranked_within n chains cycles log count found are =
    subst (All (λ (r : Ranked). r.place < length (universe_of n))) (sym are.2)
    (all_taken (λ (r : Ranked). r.place < length (universe_of n)) count are.0
    (λ k d l. let r = are.1.each k d l in slice_get_below (universe_of n) (get_or are.0 k d).place r.fault r.is_fault))

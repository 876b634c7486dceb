-- Reports as texts, which stand for them byte for byte.
use Rattle.std.specs.Prelude.{ℕ, zero, suc, ◌/◌, ◌%◌, if◌then◌else◌, List, [], ◌∷◌, ◌++◌, codes, decimal}
use Rattle.std.specs.List.{flat_map}
use Rattle.report.specs.declared.counts.ReportCounts.{ReportCounts}
use Rattle.report.specs.Counts.{worded}
use Rattle.statement.specs.Reports.{fault_line}
use Rattle.report.specs.Reports.{Hold, Times, Report}

-- `inputs 5`
abbrev pub count_line : List ℕ → ℕ → List ℕ
count_line word count = word ++ (decimal count ++ codes "\n")

-- `83.05`
abbrev pub hundredths : ℕ → List ℕ
hundredths n = decimal (n / 100) ++ (codes "." ++ (decimal (n / 10 % 10) ++ decimal (n % 10)))

-- `coverage 83.05`
abbrev pub share_line : List ℕ → ℕ → List ℕ
share_line word share = word ++ (hundredths share ++ codes "\n")

-- `hold a 1`
abbrev pub hold_line : Hold → List ℕ
hold_line h = codes "hold " ++ (h.name ++ (if h.bit then codes " 1\n" else codes " 0\n"))

-- The fourth version is written exactly where detections are counted, the third else where lines are counted as unasked, the second else where an
-- input is held.
abbrev pub head : ℕ → ℕ → List Hold → List ℕ
head zero zero [] = codes "atpg report 1\n"
head zero zero (h ∷ hs) = codes "atpg report 2\n"
head zero (suc k) holds = codes "atpg report 3\n"
head (suc m) k holds = codes "atpg report 4\n"

abbrev pub counts_text : ReportCounts → List ℕ
counts_text c = flat_map (λ p. count_line p.0 p.1) (worded c)

-- `unasked 7`, where there is one
abbrev pub some_line : List ℕ → ℕ → List ℕ
some_line word zero = []
some_line word (suc k) = count_line word (suc k)

abbrev pub unasked_line : ℕ → List ℕ
unasked_line = some_line (codes "unasked ")

-- `times 2`, for each fault
abbrev pub times_lines : List ℕ → List ℕ
times_lines = flat_map (count_line (codes "times "))

-- `detect 3` above these, where detections are counted
abbrev pub times_text : Times → List ℕ
times_text t = some_line (codes "detect ") t.most ++ times_lines t.of

abbrev pub report_text : Report → List ℕ
report_text r =
    head r.times.most r.counts.unasked r.holds
    ++ (counts_text r.counts
    ++ (unasked_line r.counts.unasked
    ++ (share_line (codes "coverage ") r.coverage
    ++ (share_line (codes "efficiency ") r.efficiency
    ++ (times_text r.times
    ++ (flat_map hold_line r.holds
    ++ flat_map fault_line r.lines))))))

-- Reports of tests with unknown inputs, and their one text.
use Rattle.std.specs.Prelude.{ℕ, ◌≢◌, List, [], ◌∷◌, ◌++◌, codes, decimal}
use Rattle.std.specs.List.{All, flat_map}
use Rattle.report.specs.Beginnings.{IsCount}
use Rattle.report.specs.Reports.{Hold, IsBenchWord}
use Rattle.report.specs.Texts.{hold_line}
use Rattle.unknown_report.specs.declared.claims.ClaimCounts.{ClaimCounts}
use Rattle.unknown_report.specs.declared.reports.UnknownReport.{UnknownReport}

-- ---- texts

-- a word, a number and a byte behind it
abbrev pub numbered : List ℕ → ℕ → ℕ → List ℕ
numbered word mark k = word ++ (decimal k ++ mark ∷ [])

-- `chains 1`
abbrev pub chains_line : ℕ → List ℕ
chains_line = numbered (codes "chains ") 10

-- `unknown G0`
abbrev pub unknown_line : List ℕ → List ℕ
unknown_line name = codes "unknown " ++ (name ++ codes "\n")

-- `faults 34 detected 30 redundant 1 undetected 2 unknown 1`
abbrev pub counts_line : ClaimCounts → List ℕ
counts_line k =
    numbered (codes "faults ") 32 k.faults ++ (numbered (codes "detected ") 32 k.detected ++ (numbered (codes "redundant ") 32 k.redundant
    ++ (numbered (codes "undetected ") 32 k.undetected ++ numbered (codes "unknown ") 10 k.unknown)))

-- a line and its end
abbrev pub ended : List ℕ → List ℕ
ended line = line ++ codes "\n"

-- The first line, how many chains there are, the unknown inputs and the held ones by name, the counts, and a line for each fault.
abbrev pub unknown_report_text : UnknownReport → List ℕ
unknown_report_text r =
    codes "atpg unknown report 1\n" ++ (chains_line r.chains ++ (flat_map unknown_line r.unknown ++ (flat_map hold_line r.holds ++ (counts_line r.counts ++ flat_map ended r.lines))))

-- ---- reports

pub record AreSmallClaims (k : ClaimCounts) : Type 0 where
  pub faults : IsCount k.faults
  pub detected : IsCount k.detected
  pub redundant : IsCount k.redundant
  pub undetected : IsCount k.undetected
  pub unknown : IsCount k.unknown

-- one line: it has no end in it
abbrev pub IsLine : List ℕ → Type 0
IsLine = All (λ b. b ≢ 10)

-- what every such report is
pub record IsUnknownReport (r : UnknownReport) : Type 0 where
  pub chains : IsCount r.chains
  pub unknown : All IsBenchWord r.unknown
  pub holds : All (λ (h : Hold). IsBenchWord h.name) r.holds
  pub counts : AreSmallClaims r.counts
  pub lines : All IsLine r.lines

-- The versions of a report's text.
use Rattle.std.specs.Prelude.{ℕ, zero, suc, List, [], ◌∷◌, codes}
use Rattle.report.specs.Reports.{Hold}
use Rattle.report.specs.declared.versions.Version.{Version}
use Rattle.report.specs.declared.versions.Version.TheVariants.{First, Second, Third, Fourth}

abbrev pub version_line : Version → List ℕ
version_line First = codes "atpg report 1\n"
version_line Second = codes "atpg report 2\n"
version_line Third = codes "atpg report 3\n"
version_line Fourth = codes "atpg report 4\n"

-- where detections are counted to this most, so many faults weren't asked for and these inputs are held
abbrev pub version_of : ℕ → ℕ → List Hold → Version
version_of zero zero [] = First
version_of zero zero (h ∷ hs) = Second
version_of zero (suc k) holds = Third
version_of (suc m) k holds = Fourth

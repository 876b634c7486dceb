-- What the parts of a run take of each other.
use Rattle.std.proofs.Common.{◌≡◌, ℕ, ◌<◌, ◌≤◌, List, length, get_or, ◌∙◌, ap, arith}
use Rattle.std.specs.List.{All}
use Rattle.std.proofs.lemmas.Option.{slice_get-get_or}
use Rattle.std.proofs.lemmas.Slice.Zip.{AllZip-long}
use Rattle.statement.specs.declared.lines.Fault.{Fault}
use Rattle.netlist.specs.Conditions.{IsSound}
use Rattle.netlist.specs.Designs.{IsDesign}
use Rattle.netlist.specs.Lines.{IsLineOf, signal_of}
use Rattle.statement.specs.Netlists.{Netlist, signals}
use Rattle.statement.specs.Patterns.{Holds, Pattern}
use Rattle.scan_insert.specs.Chains.{chains_of}
use Rattle.scan_insert.specs.Scanned.{AreChainsOf, cell_ids}
use Rattle.fault_universe.specs.Laws.{FaultsHaveLines, FaultsHaveSignals}
use Rattle.statement.specs.Faults.{universe_of}
use Rattle.fault_universe.proofs.Elements.{contains_at}
use Rattle.good_files.specs.ScanOff.{design_chains}
use Rattle.transition_tests.specs.declared.verdicts.TransitionVerdict.{TransitionVerdict}
use Rattle.transition_tests.specs.Verdicts.{AreTests, IsVerdict}
use Rattle.transition_tests.specs.Lines.{leaves_of}
use Rattle.transition_report.specs.Texts.{IsNamedInFrames}
use Rattle.transition_tests.proofs.LeafLemmas.{leaves_named}

-- each fault is one of a line and of a signal
all_lines : FaultsHaveLines → FaultsHaveSignals → (n : Netlist) → IsSound n
    → All (λ (f : Fault). IsLineOf n f.line × (signal_of f.line < length (signals n))) (universe_of n)
all_lines lines have n sound k d lt =
    let f = get_or (universe_of n) k d in
    let at = slice_get-get_or (universe_of n) k d lt in
    (lines n f sound (contains_at (universe_of n) k f at), have n k f sound at)

-- there are as many verdicts as faults
pub verdicts_count : (n : Netlist) (holds : Holds) (limit : ℕ) (patterns : List Pattern) (verdicts : List TransitionVerdict) → AreTests n holds limit patterns verdicts
    → length verdicts ≡ length (universe_of n)
verdicts_count n holds limit patterns verdicts tests =
    let all = AllZip-long (IsVerdict n holds limit patterns) (universe_of n) verdicts tests.each in
    omega (arith, all)

-- the evidence of tests is named in their two frames
pub evidence_named : FaultsHaveLines → FaultsHaveSignals → (n : Netlist) → IsSound n → IsDesign n → (holds : Holds) (limit : ℕ) (patterns : List Pattern) (verdicts : List TransitionVerdict)
    → AreTests n holds limit patterns verdicts → All (IsNamedInFrames n) (leaves_of (universe_of n) verdicts)
evidence_named lines have n sound design holds limit patterns verdicts tests =
    leaves_named n sound design holds limit patterns (universe_of n) verdicts (all_lines lines have n sound) tests.each

-- the cells dealt to chains are the design's chains
pub dealt : (n : Netlist) (asked : ℕ) (cells : List ℕ) (chains : List (List ℕ)) → cells ≡ cell_ids n → chains ≡ chains_of cells asked → chains ≡ design_chains n asked
dealt n asked cells chains e made = made ∙ ap (λ (ids : List ℕ). chains_of ids asked) e

pub are_chains : (n : Netlist) (asked : ℕ) (chains : List (List ℕ)) → 1 ≤ asked → chains ≡ design_chains n asked → AreChainsOf n chains
are_chains n asked chains some are = record { asked = asked; some = omega (arith, some); are = are }

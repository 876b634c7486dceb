-- The last few patterns that detect faults, and what is told by them.
use Rattle.std.proofs.Common.{◌≡◌, ◌≤◌, ℕ, false, List, length, get_or, Option, sym, subst}
use Rattle.std.specs.List.{All, AllZip}
use Rattle.std.proofs.lemmas.Slice.Zip.{AllZip-long}
use Rattle.statement.specs.declared.lines.Fault.{Fault}
use Rattle.statement.specs.declared.lines.Point.{Point}
use Rattle.statement.specs.Netlists.{Netlist}
use Rattle.statement.specs.Patterns.{Holds, Pattern}
use Rattle.cubes.specs.Cubes.{IsPatternOf}
use Rattle.word_sim.specs.Hits.{LastDetected}
use Rattle.list_core.specs.Kept.{kept_from}
use Rattle.list_core.specs.declared.verdicts.Verdict.{Verdict}
use Rattle.list_core.proofs.KeepLemmas.{kept_all}
use Rattle.run_files.specs.inner.Often.{AreChosen, AreFewTold, AreGathered, AreLastFew, AreLastTold, AreTold}
use Rattle.run_files.proofs.OftenLemmas.{chosen_often}

abbrev Tells : Type 0
Tells = List (Option (ℕ × Point))

pub kept_obey : (n m : Netlist) (holds : Holds) (times : ℕ) (faults : List Fault) (near lent kept : List Pattern) → AreLastFew n times faults near kept → All (IsPatternOf m holds) lent → m ≡ n
    → lent ≡ near → All (IsPatternOf n holds) kept
kept_obey n m holds times faults near lent kept few obey same lent_is =
    let P : Pattern → Type 0 = IsPatternOf n holds in
    subst (λ (ps : List Pattern). All P ps) (sym few.kept_are)
    (kept_all P (λ i. get_or few.marks i false) 0 near
    (subst (λ (ps : List Pattern). All P ps) lent_is (subst (λ (s : Netlist). All (IsPatternOf s holds) lent) same obey)))

pub told_size : (n : Netlist) (patterns : List Pattern) (faults : List Fault) (told : Tells) → AreLastTold n patterns faults told → length told ≡ length faults
told_size n patterns faults told are = AllZip-long (LastDetected n patterns) faults told are.each

pub few_told : (n : Netlist) (times : ℕ) (faults : List Fault) (patterns lent kept : List Pattern) (last shown : Tells) (old new : List Verdict) → AreLastFew n times faults patterns kept
    → AreLastTold n lent faults last → AreTold shown old new → length old ≡ length faults → lent ≡ kept → shown ≡ last → AreFewTold n times faults patterns old kept new
few_told n times faults patterns lent kept last shown old new few are told count lent_is shown_is = record {
  few = few;
  last = last;
  last_are = subst (λ (ps : List Pattern). AreLastTold n ps faults last) lent_is are;
  told = subst (λ (os : Tells). AreTold os old new) shown_is told;
  count = count;
}

pub chosen_of_told : (n : Netlist) (holds : Holds) (times : ℕ) (faults : List Fault) (given gathered kept : List Pattern) (old new : List Verdict) → AreGathered n holds faults given gathered
    → AreFewTold n times faults gathered old kept new → 1 ≤ times → AreChosen n holds times faults given old kept new
chosen_of_told n holds times faults given gathered kept old new is told some =
    let marks = told.few.marks in
    let same = told.few.kept_are in
    subst (λ (ps : List Pattern). AreChosen n holds times faults given old ps new) (sym same)
    (chosen_often n holds times faults given gathered marks told.last old new some is told.few.needed
    (subst (λ (ps : List Pattern). AllZip (LastDetected n ps) faults told.last) same told.last_are.each) told.told told.count)

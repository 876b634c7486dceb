-- How often each fault is detected, by its class.
use Rattle.std.proofs.Common.{◌≡◌, ℕ, ◌<◌, ◌≤◌, inr, List, [], ◌∷◌, length, map, get_or, sym, ◌∙◌, subst, arith}
use Rattle.std.specs.List.{All, AllZip}
use Rattle.std.proofs.lemmas.Bool.Decides.{nat_tests}
use Rattle.std.proofs.lemmas.List.{get_or-map, length-map}
use Rattle.std.proofs.lemmas.List.Elements.{All-cons, All-get_or, All-nil}
use Rattle.std.proofs.lemmas.Option.{slice_get-get_or}
use Rattle.statement.specs.declared.lines.Fault.{Fault}
use Rattle.statement.specs.Netlists.{Netlist}
use Rattle.netlist.specs.Conditions.{IsSound}
use Rattle.netlist.proofs.Settling.{zip_from}
use Rattle.statement.specs.Patterns.{Pattern}
use Rattle.statement.specs.Faults.{universe_of}
use Rattle.scan_play.proofs.Shifting.{zip_at}
use Rattle.fault_collapse.specs.Classes.{AreClasses}
use Rattle.fault_collapse.specs.Laws.{DetectedAlike}
use Rattle.fault_collapse.specs.Numbers.{Classes}
use Rattle.detections.specs.Laws.{TimesAlike}
use Rattle.detections.specs.Times.{IsTimes}
use Rattle.report.specs.Reports.{Times}
use Rattle.run_report.proofs.ClassLemmas.{equivalent, to_member, to_representative}
use Rattle.run_files.specs.Runs.{counted_to}
use Rattle.run_files.specs.inner.Reports.{AreTimes}
use Rattle.run_files.proofs.KnownLemmas.{blank}

-- as many patterns detect each fault as its class's representative
pub times_by_class : TimesAlike → DetectedAlike → (n : Netlist) → IsSound n → (classes : Classes) → AreClasses n classes → (patterns : List Pattern) (most : ℕ) (numbers : List ℕ)
    → AllZip (IsTimes n patterns most) classes.representatives numbers
    → AllZip (IsTimes n patterns most) (universe_of n) (map (λ class. get_or numbers class 0) classes.numbers)
times_by_class law alike n sound classes are patterns most numbers all =
    let number : ℕ → ℕ = λ class. get_or numbers class 0 in
    zip_from (IsTimes n patterns most) (universe_of n) (map number classes.numbers) (sym (length-map classes.numbers number ∙ are.size)) (λ k d e lt.
    let f = get_or (universe_of n) k d in
    let at = slice_get-get_or (universe_of n) k d lt in
    let inside : k < length classes.numbers = omega (arith, lt, are.size) in
    let class = get_or classes.numbers k 0 in
    let of_class = slice_get-get_or classes.numbers k 0 inside in
    let within : class < length classes.representatives = All-get_or (λ c. c < length classes.representatives) classes.numbers k 0 inside are.within in
    let g = get_or classes.representatives class blank in
    let represents = slice_get-get_or classes.representatives class blank within in
    let same = equivalent n classes are k class f g at of_class represents in
    subst (IsTimes n patterns most f) (sym (get_or-map number classes.numbers k 0 e inside))
    (law n patterns most g f (number class)
    (λ place. (
      (λ d. (d.0, to_member n sound alike f g same patterns place d.0 d.1)),
      (λ d. (d.0, to_representative n sound alike f g same patterns place d.0 d.1)),
    ))
    (zip_at (IsTimes n patterns most) classes.representatives numbers class blank 0 all within)))

small : (n : Netlist) (patterns : List Pattern) (most : ℕ) (fs : List Fault) (ks : List ℕ) → AllZip (IsTimes n patterns most) fs ks → All (λ k. k ≤ most) ks
small n patterns most [] [] all = All-nil (λ k. k ≤ most)
small n patterns most [] (k ∷ ks) all = absurd all
small n patterns most (f ∷ fs) [] all = absurd all
small n patterns most (f ∷ fs) (k ∷ ks) all = All-cons (λ j. j ≤ most) k ks all.0.bounded (small n patterns most fs ks all.1)

counted_more : (most : ℕ) → 1 < most → most ≡ counted_to most
counted_more most more = grind (arith, nat_tests)

pub times_often : (n : Netlist) (patterns : List Pattern) (most : ℕ) (of : List ℕ) (t : Times) → 1 < most → most < 4294967296 → t ≡ record { most = most; of = of }
    → AllZip (IsTimes n patterns most) (universe_of n) of → AreTimes n patterns most t
times_often n patterns most of t more fits is all =
    subst (AreTimes n patterns most) (sym is)
    (record { most_is = counted_more most more; counted = inr (more, omega (arith, fits), small n patterns most (universe_of n) of all); has = inr all })

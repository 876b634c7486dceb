-- The points of verdicts are those of the netlist, and their evidence is a certificate's, named by signals of it.
use Rattle.std.proofs.Common.{◌≡◌, ℕ, zero, suc, ◌<◌, List, [], ◌∷◌, length, get_or, Some, Bool, refl, sym, ◌∙◌, ap, subst, arith}
use Rattle.std.specs.List.{All, Contains, slice_get}
use Rattle.std.proofs.lemmas.List.Elements.{All-append, All-contains, All-head, All-tail, All-nil, All-cons, All-from_get_or}
use Rattle.std.proofs.lemmas.Option.{slice_get-get_or, slice_get_within}
use Rattle.netlist.proofs.Lists.{All-from_contains}
use Rattle.statement.specs.declared.lines.Fault.{Fault}
use Rattle.statement.specs.Netlists.{Netlist}
use Rattle.netlist.specs.Conditions.{IsSound}
use Rattle.statement.specs.Patterns.{Holds, Pattern}
use Rattle.netlist.specs.Lines.{IsLineOf}
use Rattle.fault_universe.specs.Laws.{FaultsHaveLines, FaultsHaveSignals}
use Rattle.fault_universe.proofs.Elements.{contains_at}
use Rattle.statement.specs.Faults.{universe_of}
use Rattle.fault_collapse.specs.Classes.{AreClasses}
use Rattle.fault_collapse.specs.Numbers.{Classes}
use Rattle.evidence.specs.declared.kinds.Evidence.{Evidence}
use Rattle.evidence.specs.declared.kinds.Evidence.TheVariants.{Tree, Refutation}
use Rattle.evidence.specs.Evidence.{MayBe, Shows}
use Rattle.certificate.specs.Certificates.{HasSignals, HasSmallNumbers, IsEvidence, IsNamed, IsWellFormed}
use Rattle.certificate.proofs.NamedTrees.{nodes_named}
use Rattle.run_report.proofs.PointLemmas.{point_inside}
use Rattle.list_core.specs.declared.verdicts.Verdict.{Verdict}
use Rattle.list_core.specs.declared.verdicts.Verdict.TheVariants.{Open, Detected, Redundant, Aborted}
use Rattle.list_core.specs.Verdicts.{verdict_at}
use Rattle.report.specs.Reports.{IsLine}
use Rattle.statement.specs.Reports.{Line}
use Rattle.run_files.specs.inner.Outcomes.{AreLines}
use Rattle.run_files.specs.inner.Verdicts.{AreVerdicts, IsInside, IsVerdict, MayHave, leaf_at, leaves_of}
use Rattle.run_files.proofs.KnownLemmas.{blank}

-- ---- points

inside : (n : Netlist) → IsSound n → (holds : Holds) (limit : ℕ) (patterns : List Pattern) (f : Fault) (v : Verdict) → IsVerdict n holds limit patterns f v → IsInside n v
inside n sound holds limit patterns f Open is = tt
inside n sound holds limit patterns f (Detected place point) is = point_inside n sound f is.here.pattern.inputs is.here.pattern.cells point is.here.detects
inside n sound holds limit patterns f (Redundant e) is = tt
inside n sound holds limit patterns f (Aborted tree) is = tt

-- each point is one of the netlist
pub all_inside : (n : Netlist) → IsSound n → (holds : Holds) (faults : List Fault) (limit : ℕ) (patterns : List Pattern) (verdicts : List Verdict)
    → AreVerdicts n holds faults limit patterns verdicts → All (IsInside n) verdicts
all_inside n sound holds faults limit patterns verdicts found = All-from_get_or (IsInside n) verdicts Open (λ class lt.
    let at : slice_get faults class ≡ Some (get_or faults class blank) = slice_get-get_or faults class blank (omega (arith, lt, found.count)) in
    inside n sound holds limit patterns (get_or faults class blank) (verdict_at verdicts class) (found.each class (get_or faults class blank) at))

-- ---- lines

pub all_sound : (n : Netlist) (chains : List (List ℕ)) (numbers : List ℕ) (marks : List Bool) (verdicts : List Verdict) (lines : List Line)
    → AreLines n chains numbers marks verdicts (length (universe_of n)) lines → All IsLine lines
all_sound n chains numbers marks verdicts lines all = All-from_contains IsLine lines (λ line here.
    let f = get_or (universe_of n) here.0 blank in
    let lt : here.0 < length (universe_of n) = omega (arith, all.size, here.1) in
    let w = all.each here.0 f lt (slice_get-get_or (universe_of n) here.0 blank lt) in
    let both : Some w.0 ≡ Some line = sym w.1 ∙ (slice_get-get_or lines here.0 line here.1 ∙ ap (λ l. Some l) here.2) in
    let same : w.0 ≡ line = cc in
    subst IsLine same w.2.sound)

-- ---- evidence

leaf_all : (P : Fault × Evidence → Type 0) (n : Netlist) (holds : Holds) (limit : ℕ) (patterns : List Pattern) (f : Fault) (v : Verdict)
    → IsVerdict n holds limit patterns f v → ((e : Evidence) → Shows f n holds e → P (f, e)) → All P (leaf_at f v)
leaf_all P n holds limit patterns f Open is each = All-nil P
leaf_all P n holds limit patterns f (Detected place point) is each = All-nil P
leaf_all P n holds limit patterns f (Redundant e) is each = All-cons P (f, e) [] (each e is.1) (All-nil P)
leaf_all P n holds limit patterns f (Aborted tree) is each = All-cons P (f, Tree tree) [] (each (Tree tree) is.1) (All-nil P)

leaves_all : (P : Fault × Evidence → Type 0) (n : Netlist) (holds : Holds) (limit : ℕ) (patterns : List Pattern) (fs : List Fault) (vs : List Verdict) → length vs ≡ length fs
    → ((class : ℕ) (f : Fault) → slice_get fs class ≡ Some f → IsVerdict n holds limit patterns f (verdict_at vs class) × ((e : Evidence) → Shows f n holds e → P (f, e)))
    → All P (leaves_of fs vs)
leaves_all P n holds limit patterns [] vs size each = All-nil P
leaves_all P n holds limit patterns (f ∷ fs) [] size each = absurd (omega arith)
leaves_all P n holds limit patterns (f ∷ fs) (v ∷ vs) size each =
    let here = each zero f refl in
    All-append P (leaf_at f v) (leaves_of fs vs) (leaf_all P n holds limit patterns f v here.0 here.1)
    (leaves_all P n holds limit patterns fs vs (omega arith) (λ class g at. each (suc class) g at))

module _ (n : Netlist) (sound : IsSound n) (holds : Holds) (classes : Classes) (are : AreClasses n classes) (limit : ℕ) (patterns : List Pattern) (verdicts : List Verdict)
    (found : AreVerdicts n holds classes.representatives limit patterns verdicts) where
  -- what is so of the evidence of each fault of the netlist is so of that of verdicts
  all_leaves : (P : Fault × Evidence → Type 0) → ((f : Fault) → Contains (universe_of n) f → (e : Evidence) → Shows f n holds e → P (f, e))
      → All P (leaves_of classes.representatives verdicts)
  all_leaves P each =
      leaves_all P n holds limit patterns classes.representatives verdicts found.count (λ class f at.
      let first = are.first class (slice_get_within classes.representatives class f at) in
      (found.each class f at, each f (contains_at (universe_of n) first.place f (first.representative f at))))

  signals_of : (f : Fault) (e : Evidence) → Shows f n holds e → HasSignals n e
  signals_of f (Tree nodes) shows = nodes_named n sound f holds nodes shows
  signals_of f (Refutation steps) shows = tt

  formed_of : (f : Fault) (e : Evidence) → Shows f n holds e → HasSmallNumbers e → IsWellFormed n e
  formed_of f (Tree nodes) shows small = (nodes_named n sound f holds nodes shows, (shows.0, shows.1))
  formed_of f (Refutation steps) shows small = small

  pub all_named : FaultsHaveSignals → All (IsNamed n) (leaves_of classes.representatives verdicts)
  all_named law = all_leaves (IsNamed n) (λ f here e shows.
      let at = slice_get-get_or (universe_of n) here.0 f here.1 ∙ ap (λ (g : Fault). Some g) here.2 in
      record { fault = law n here.0 f sound at; signals = signals_of f e shows })

  abbrev IsSmall : Fault × Evidence → Type 0
  IsSmall p = HasSmallNumbers p.1

  abbrev MayBeFormed : Fault × Evidence → Type 0
  MayBeFormed p = Contains (universe_of n) p.0 × (HasSmallNumbers p.1 → IsWellFormed n p.1)

  -- the evidence of verdicts is a certificate's, each of a fault of the netlist
  pub all_evident : All IsSmall (leaves_of classes.representatives verdicts) → All (IsEvidence n) (leaves_of classes.representatives verdicts)
  all_evident small =
      let leaves = leaves_of classes.representatives verdicts in
      let ready = all_leaves MayBeFormed (λ f here e shows. (here, formed_of f e shows)) in
      All-from_contains (IsEvidence n) leaves (λ p here.
      let may = All-contains MayBeFormed leaves p ready here in
      record { fault = may.0; formed = may.1 (All-contains IsSmall leaves p small here) })

-- ---- kinds

leaf_kind : (refutes : Bool) (f : Fault) (v : Verdict) → MayHave refutes v → All (λ (p : Fault × Evidence). MayBe refutes p.1) (leaf_at f v)
leaf_kind refutes f Open may = All-nil (λ (p : Fault × Evidence). MayBe refutes p.1)
leaf_kind refutes f (Detected place point) may = All-nil (λ (p : Fault × Evidence). MayBe refutes p.1)
leaf_kind refutes f (Redundant e) may = All-cons (λ (p : Fault × Evidence). MayBe refutes p.1) (f, e) [] may (All-nil (λ (p : Fault × Evidence). MayBe refutes p.1))
leaf_kind refutes f (Aborted tree) may = All-cons (λ (p : Fault × Evidence). MayBe refutes p.1) (f, Tree tree) [] tt (All-nil (λ (p : Fault × Evidence). MayBe refutes p.1))

-- a refutation only where refutations are given
pub leaves_kinds : (refutes : Bool) (fs : List Fault) (vs : List Verdict) → All (MayHave refutes) vs → All (λ (p : Fault × Evidence). MayBe refutes p.1) (leaves_of fs vs)
leaves_kinds refutes [] vs may = All-nil (λ (p : Fault × Evidence). MayBe refutes p.1)
leaves_kinds refutes (f ∷ fs) [] may = All-nil (λ (p : Fault × Evidence). MayBe refutes p.1)
leaves_kinds refutes (f ∷ fs) (v ∷ vs) may =
    All-append (λ (p : Fault × Evidence). MayBe refutes p.1) (leaf_at f v) (leaves_of fs vs)
    (leaf_kind refutes f v (All-head (MayHave refutes) v vs may))
    (leaves_kinds refutes fs vs (All-tail (MayHave refutes) v vs may))

-- ---- lines of representatives

-- each representative stands on a line of the netlist
pub have_lines : FaultsHaveLines → (n : Netlist) → IsSound n → (classes : Classes) → AreClasses n classes → All (λ (f : Fault). IsLineOf n f.line) classes.representatives
have_lines law n sound classes are = All-from_contains (λ (f : Fault). IsLineOf n f.line) classes.representatives (λ f here.
    let at = slice_get-get_or classes.representatives here.0 f here.1 ∙ ap (λ (g : Fault). Some g) here.2 in
    let first = are.first here.0 here.1 in
    law n f sound (contains_at (universe_of n) first.place f (first.representative f at)))

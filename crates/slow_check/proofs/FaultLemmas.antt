-- The slow lines: all are true, or one is named.
use Rattle.std.proofs.Common.{◌≡◌, ℕ, zero, suc, ◌<◌, ◌≤◌, ◌^◌, ◌∙◌, List, length, get_or, take, Some, sym, ap, subst, arith}
use Rattle.std.specs.List.{All, slice_get}
use Rattle.std.proofs.lemmas.List.{get_or_default}
use Rattle.std.proofs.lemmas.List.Elements.{All-weaker}
use Rattle.std.proofs.lemmas.Option.{slice_get-get_or, slice_get_within}
use Rattle.statement.specs.declared.lines.Fault.{Fault}
use Rattle.statement.specs.Netlists.{Netlist, signals}
use Rattle.statement.specs.Faults.{universe_of}
use Rattle.statement.specs.Reports.{Line}
use Rattle.netlist.specs.Conditions.{IsSound}
use Rattle.netlist.specs.Designs.{IsDesign}
use Rattle.netlist.specs.Lines.{IsLineOf, signal_of}
use Rattle.fault_universe.specs.Laws.{FaultsHaveLines, FaultsHaveSignals, FewFaults}
use Rattle.fault_universe.proofs.Elements.{contains_at}
use Rattle.fault_universe.proofs.Distinct.{distinct_faults}
use Rattle.evidence.specs.declared.kinds.Evidence.{Evidence}
use Rattle.good_files.specs.GoodFiles.{faults_in}
use Rattle.transition_report.specs.Reading.{IsTransitionEvidence}
use Rattle.transition_report.specs.Texts.{transition_text}
use Rattle.check_parts.specs.Firsts.{IsOfFault}
use Rattle.check_parts.specs.Strays.{IsStrayAt}
use Rattle.check_parts.proofs.FirstLemmas.{fault_at, stands_in}
use Rattle.check_parts.proofs.Lists.{same_some}
use Rattle.good_slow_files.specs.GoodSlowFiles.{AreTrueSlowFaults, AreTrueSlowLines, IsTrueOfSlow, IsTrueSlowAt, SlowTest, slow_left_of}
use Rattle.good_slow_files.specs.Clauses.{IsFurtherSlow, IsStraySlow}
use Rattle.slow_check.proofs.LeftLemmas.{order_true}

-- ---- a line

-- the line at a place names the slow line there, and what it says is true
pub true_at : (t : SlowTest) (lines : List Line) (place : ℕ) (f : Fault) (line : Line) → slice_get (universe_of t.netlist) place ≡ Some f → slice_get lines place ≡ Some line
    → line.fault ≡ transition_text t.netlist f → IsTrueOfSlow t f line.outcome line.pin → IsTrueSlowAt t lines place
true_at t lines place f line member said names_it is = record { fault = f; line = line; member = member; said = said; names_it = names_it; is_true = is }

-- where it is true, it names it, and what it says is true
pub named_so : (t : SlowTest) (lines : List Line) (place : ℕ) (f : Fault) (line : Line) → slice_get (universe_of t.netlist) place ≡ Some f → slice_get lines place ≡ Some line
    → IsTrueSlowAt t lines place → line.fault ≡ transition_text t.netlist f
named_so t lines place f line member said w =
    let fault : w.fault ≡ f = same_some w.fault f (sym w.member ∙ member) in
    let own : w.line ≡ line = same_some w.line line (sym w.said ∙ said) in
    ap (λ (l : Line). l.fault) (sym own) ∙ (w.names_it ∙ ap (transition_text t.netlist) fault)

pub true_so : (t : SlowTest) (lines : List Line) (place : ℕ) (f : Fault) (line : Line) → slice_get (universe_of t.netlist) place ≡ Some f → slice_get lines place ≡ Some line
    → IsTrueSlowAt t lines place → IsTrueOfSlow t f line.outcome line.pin
true_so t lines place f line member said w =
    let fault : w.fault ≡ f = same_some w.fault f (sym w.member ∙ member) in
    let own : w.line ≡ line = same_some w.line line (sym w.said ∙ said) in
    subst (λ (g : Fault). IsTrueOfSlow t g line.outcome line.pin) fault (subst (λ (l : Line). IsTrueOfSlow t w.fault l.outcome l.pin) own w.is_true)

-- ---- lines

-- so many slow lines have true lines
abbrev pub AreBelow : SlowTest → List Line → ℕ → Type 0
AreBelow t lines count = (k : ℕ) → k < count → IsTrueSlowAt t lines k

enough_lines : (t : SlowTest) (lines : List Line) (count : ℕ) → AreBelow t lines count → count ≤ length lines
enough_lines t lines zero below = omega arith
enough_lines t lines (suc k) below =
    let last = below k (omega arith) in
    let lt = slice_get_within lines k last.line last.said in
    omega arith

pub all_lines : (t : SlowTest) (lines : List Line) → AreBelow t lines (length (universe_of t.netlist)) → length lines ≤ length (universe_of t.netlist) → AreTrueSlowLines t lines
all_lines t lines below few =
    let enough = enough_lines t lines (length (universe_of t.netlist)) below in
    record { each = below; no_more = omega arith }

pub further_line : (t : SlowTest) (lines : List Line) (line : Line) (at : ℕ) (text : List ℕ) → AreBelow t lines (length (universe_of t.netlist))
    → at ≡ length (universe_of t.netlist) → slice_get lines at ≡ Some line → text ≡ line.fault → IsFurtherSlow t lines text
further_line t lines line at text below is here names_it = record { line = line; each = below; further = ap (slice_get lines) (sym is) ∙ here; names_it = names_it }

-- ---- the certificate

pub all_true : (t : SlowTest) → IsSound t.netlist → (lines : List Line) → AreTrueSlowLines t lines
    → take (length t.evidence) (slow_left_of (universe_of t.netlist) lines) ≡ faults_in t.evidence → AreTrueSlowFaults t lines
all_true t sound lines are same = record {
  lines_true = are;
  left = order_true t (universe_of t.netlist) lines (distinct_faults t.netlist sound)
      (λ k f l at said. true_so t lines k f l at said (are.each k (slice_get_within (universe_of t.netlist) k f at))) same;
}

pub stray_named : (t : SlowTest) (lines : List Line) → AreTrueSlowLines t lines → (place : ℕ) (p : Fault × Evidence) (text : List ℕ)
    → IsStrayAt t.evidence (slow_left_of (universe_of t.netlist) lines) place → text ≡ transition_text t.netlist (get_or t.evidence place p).0 → IsStraySlow t lines text
stray_named t lines are place p text stray names_it =
    let q = get_or t.evidence place p in
    let at = fault_at t.evidence place q stray.within (get_or_default t.evidence place p q stray.within) in
    record { lines_true = are; place = place; fault = q.0; at = at; before = stray.before; stray = stray.stray q.0 at; names_it = names_it }

-- there are fewer than 2 ^ 32
pub few_of : FewFaults → (n : Netlist) → IsSound n → IsDesign n → length (universe_of n) < 2 ^ 32
few_of law n sound design =
    let few = law n sound in
    let small = design.small in
    omega arith

-- evidence is of faults of the netlist
pub of_faults : (n : Netlist) (evidence : List (Fault × Evidence)) → All (IsTransitionEvidence n) evidence → All (IsOfFault n) evidence
of_faults n evidence each = All-weaker (IsTransitionEvidence n) (IsOfFault n) (λ (p : Fault × Evidence) is. is.fault) evidence each

-- the fault of a line that is read can be written
pub line_signal : (n : Netlist) → IsSound n → FaultsHaveSignals → (evidence : List (Fault × Evidence)) → All (IsTransitionEvidence n) evidence → (k : ℕ) (p : Fault × Evidence)
    → k < length evidence → signal_of (get_or evidence k p).0.line < length (signals n)
line_signal n sound law evidence each k p lt =
    let q = get_or evidence k p in
    let member = stands_in n evidence k q lt (get_or_default evidence k p q lt) (of_faults n evidence each) in
    law n member.0 q.0 sound (slice_get-get_or (universe_of n) member.0 q.0 member.1 ∙ ap (λ (f : Fault). Some f) member.2)

-- each stands on a line
pub have_lines : FaultsHaveLines → (n : Netlist) → IsSound n → All (λ (f : Fault). IsLineOf n f.line) (universe_of n)
have_lines law n sound k d lt =
    let f = get_or (universe_of n) k d in
    law n f sound (contains_at (universe_of n) k f (slice_get-get_or (universe_of n) k d lt))

use Rattle.std.proofs.Common.{◌≡◌, ℕ, List, length, subst, sym, ◌∙◌, ap, arith}
use Rattle.std.specs.List.{All}
use Rattle.netlist.specs.Conditions.{IsSound}
use Rattle.netlist.specs.Designs.{IsDesign}
use Rattle.statement.specs.Faults.{universe_of}
use Rattle.statement.specs.Netlists.{Netlist}
use Rattle.statement.specs.Reports.{Line}
use Rattle.run_report.specs.Heads.{holds_named}
use Rattle.transition.proofs.Gathering.{universe_few}
use Rattle.transition_tests.specs.declared.verdicts.TransitionVerdict.{TransitionVerdict}
use Rattle.transition_tests.specs.Lines.{AreLines, IsInside}
use Rattle.transition_report.specs.Numbers.{IsReportOf}
use Rattle.transition_tests.proofs.LeafLemmas.{all_inside}
use Rattle.transition_run.proofs.FileLemmas.{verdicts_count}
use Rattle.transition_run.proofs.SaidLemmas.{lines_count}
use Rattle.transition_run.proofs.files.said_of.Goals as goal

pub lines_of-requires-clause-size : goal.lines_of-requires-clause-size
lines_of-requires-clause-size c =
    let l = c.args.lines.now in
    let tests = c.args.tests.now in
    ap length c.as_slice-verdicts.ensures.value
    ∙ (verdicts_count l.core.now l.holds.now l.limit tests.patterns.items tests.verdicts.items c.requires.tests
    ∙ ap (λ (m : Netlist). length (universe_of m)) (sym c.netlist-netlist.ensures))

pub lines_of-requires-clause-inside : goal.lines_of-requires-clause-inside
lines_of-requires-clause-inside c =
    let l = c.args.lines.now in
    let n = l.core.now in
    let tests = c.args.tests.now in
    subst (λ (m : Netlist). All (IsInside m) c.as_slice-verdicts.result.now) (sym c.netlist-netlist.ensures)
    (subst (λ (vs : List TransitionVerdict). All (IsInside n) vs) (sym c.as_slice-verdicts.ensures.value)
    (all_inside n (subst IsSound c.netlist-netlist.ensures c.sound.ensures) c.requires.lines.design l.holds.now l.limit tests.patterns.items (universe_of n) tests.verdicts.items c.requires.tests.each))

pub report_of-requires-clause-lines : goal.report_of-requires-clause-lines
report_of-requires-clause-lines c =
    let l = c.args.lines.now in
    let m = c.netlist-netlist.result.now in
    let tests = c.args.tests.now in
    lines_count m c.args.chains.now (universe_of m) c.as_slice-verdicts.result.now c.in_ok-texts.texts
    (ap length c.as_slice-verdicts.ensures.value
    ∙ (verdicts_count l.core.now l.holds.now l.limit tests.patterns.items tests.verdicts.items c.requires.tests
    ∙ ap (λ (k : Netlist). length (universe_of k)) (sym c.netlist-netlist.ensures)))
    c.in_ok-texts.ensures

pub report_of-requires-clause-few : goal.report_of-requires-clause-few
report_of-requires-clause-few c =
    let l = c.args.lines.now in
    let m = c.netlist-netlist.result.now in
    let tests = c.args.tests.now in
    let size = lines_count m c.args.chains.now (universe_of m) c.as_slice-verdicts.result.now c.in_ok-texts.texts
    (ap length c.as_slice-verdicts.ensures.value
    ∙ (verdicts_count l.core.now l.holds.now l.limit tests.patterns.items tests.verdicts.items c.requires.tests
    ∙ ap (λ (k : Netlist). length (universe_of k)) (sym c.netlist-netlist.ensures)))
    c.in_ok-texts.ensures in
    let few = universe_few m c.sound.ensures (subst IsDesign (sym c.netlist-netlist.ensures) c.requires.lines.design) in
    omega (arith, size, few)

pub returns : goal.returns
returns c =
    let l = c.args.lines.now in
    let n = l.core.now in
    let m = c.netlist-netlist.result.now in
    let same = c.netlist-netlist.ensures in
    let chains = c.args.chains.now in
    let tests = c.args.tests.now in
    let lines = c.in_ok-texts.texts in
    let r = c.report_of.result in
    let all : AreLines m chains (universe_of m) tests.verdicts.items lines =
    subst (λ (vs : List TransitionVerdict). AreLines m chains (universe_of m) vs lines) c.as_slice-verdicts.ensures.value c.in_ok-texts.ensures in
    let is : IsReportOf n chains (length c.as_slice.result.now) l.limit lines r =
    subst (λ (k : Netlist). IsReportOf k chains (length c.as_slice.result.now) l.limit lines r) same c.report_of.ensures.report in
    let count : length c.as_slice.result.now ≡ length tests.patterns.items = ap length c.as_slice.ensures.value in
    record {
      lines = subst (λ (ls : List Line). AreLines n chains (universe_of n) tests.verdicts.items ls) (sym is.lines_are)
          (subst (λ (k : Netlist). AreLines k chains (universe_of k) tests.verdicts.items lines) same all);
      numbers = subst (λ (ls : List Line). IsReportOf n chains (length tests.patterns.items) l.limit ls r) (sym is.lines_are)
          (subst (λ (k : ℕ). IsReportOf n chains k l.limit lines r) count is);
      held = c.report_of.ensures.holds ∙ (c.in_ok-held.ensures ∙ ap (λ (k : Netlist). holds_named k l.holds.now) same);
      sized = c.report_of.ensures.sized;
      counts = c.report_of.ensures.counts;
    }

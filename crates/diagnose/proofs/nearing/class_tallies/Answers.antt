use Rattle.std.proofs.Common.{subst, ◌∙◌, List}
use Rattle.std.proofs.lemmas.Option.{MatchOption-at_none, MatchOption-at_some}
use Rattle.statement.specs.declared.lines.Fault.{Fault}
use Rattle.diagnose.specs.inner.Marked.{marked_in}
use Rattle.diagnose.specs.inner.Marks.{AreMarks, IsUnstrobed}
use Rattle.diagnose.specs.inner.Ranks.{AreTallies}
use Rattle.diagnose.proofs.DesignLemmas.{has_names}
use Rattle.diagnose.proofs.nearing.class_tallies.Goals as goal

pub marks_of-requires : goal.marks_of-requires
marks_of-requires g c = has_names c.args.design.now c.args.vectors.now c.requires.design c.netlist.result.now c.netlist.ensures c.tester_names_differ.ensures

pub unreachable-requires : goal.unreachable-requires
unreachable-requires g c =
    let none = MatchOption-at_none _ _ c.in_default.is c.in_ok-marks.ensures in
    let u = subst (λ s. IsUnstrobed s c.args.vectors.now c.args.strobed.now) c.netlist.ensures none in
    let at = c.requires.strobed u.0 u.1 in
    u.2 at.0 at.1

pub returns : goal.returns
returns g c =
    let m = c.in-Some.marks in
    let n = c.args.design.now.core.now in
    let t = c.in_ok-counts.counts in
    record {
      rows = m.rows;
      width = m.width;
      table = m.table.items;
      marks = subst (λ s. AreMarks s c.args.vectors.now c.args.strobed.now m.rows m.width m.table.items) c.netlist.ensures (MatchOption-at_some _ _ m c.in-Some.is c.in_ok-marks.ensures);
      tallies = subst (λ (fs : List Fault). AreTallies (marked_in m) n c.args.vectors.now fs t.one.items t.other.items) (c.as_slice.ensures.value ∙ c.in_ok-suspects.ensures) c.in_ok-counts.ensures;
    }

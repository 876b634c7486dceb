use Rattle.std.proofs.Common.{◌∙◌, length, ap, subst}
use Rattle.std.proofs.lemmas.Result.{IfOk-weaker}
use Rattle.netlist.specs.Conditions.{IsSound}
use Rattle.statement.specs.Netlists.{Netlist, signals}
use Rattle.grade.proofs.Graded.{all_graded, none_graded}
use Rattle.grade.proofs.by_patterns.grade_settled.Goals as goal

pub grade_parts-requires-clause-before : goal.grade_parts-requires-clause-before
grade_parts-requires-clause-before c =
    let good = c.requires.good in
    let same = ap (λ (m : Netlist). length (signals m)) c.netlist-netlist.ensures in
    record {
      netlist = c.requires.netlist;
      settled = record { inputs = good.inputs; state = good.state; settles = good.settles };
      room = record { heads_size = c.in_ok-paths.ensures.heads ∙ same; opens_size = c.in_ok-paths.ensures.opens ∙ same };
      graded = none_graded c.args.asked.now c.in_ok-grades.grades.items (c.in_ok-grades.ensures.items_if_clones_equal (λ y e. e));
    }

pub returns : goal.returns
returns c =
    let sound = subst IsSound c.netlist-netlist.ensures c.sound.ensures in
    IfOk-weaker c.grade_parts.result _ _ (λ grades h. all_graded c.args.asked.now sound c.requires.asked grades.items h) c.grade_parts.ensures

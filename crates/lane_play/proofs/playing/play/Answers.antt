use Rattle.std.proofs.Common.{◌≡◌, [], List, length, map, refl, replicate, sym, ◌∙◌, ap, subst}
use Rattle.std.proofs.lemmas.List.{length-map}
use Rattle.statement.specs.declared.lines.Fault.{Fault}
use Rattle.statement.specs.Netlists.{Definition, Netlist, cells}
use Rattle.statement.specs.Runs.{Cycle}
use Rattle.lane_play.specs.declared.packed.Lanes.{Lanes}
use Rattle.lane_play.specs.inner.Lanes.{unknown}
use Rattle.lane_play.proofs.playing.play.Goals as goal

pub returns : goal.returns
returns g c =
    let n : Netlist = c.args.core.now in
    let faults : List Fault = c.args.faults.now in
    let after = c.in_ok-heard._state.items in
    let start : c.in_ok-state.state.items ≡ replicate (length (cells n)) unknown =
    c.in_ok-state.ensures
    ∙ (ap (λ (k : List _). replicate (length k) unknown) c.cells.ensures
    ∙ (ap (λ (m : Netlist). replicate (length (map (λ (d : Definition). d.id) (cells m))) unknown) c.netlist-2.ensures
    ∙ ap (λ k. replicate k unknown) (length-map (cells n) (λ (d : Definition). d.id)))) in
    let kept = g.W.Watch.kept c.args.judge.now in
    let begun = subst (λ (fs : List Fault). kept c.args.watch fs n [] c.in_ok-state.state.items) (sym c.in_ok-rule.ensures.faults)
    (subst (λ (s : List Lanes). kept c.args.watch faults n [] s) (sym start) c.requires.begun) in (
      after,
      subst (λ (fs : List Fault). kept c.in_ok-heard.heard fs n c.args.vectors.now after) c.in_ok-rule.ensures.faults
          (subst (λ (cs : List Cycle). kept c.in_ok-heard.heard c.in_ok-rule.rule.faults.now n cs after) (sym c.bursts.ensures) (c.in_ok-heard.ensures [] refl begun)),
    )

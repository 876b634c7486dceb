use Rattle.std.proofs.Common.{◌≡◌, length, List, replicate, map, ◌∙◌, ap, subst, sym}
use Rattle.std.proofs.lemmas.List.{length-map}
use Rattle.statement.specs.declared.kinds.Tri.TheVariants.{X}
use Rattle.statement.specs.Netlists.{Netlist, Definition, cells}
use Rattle.netlist.specs.Conditions.{IsSound}
use Rattle.statement.specs.Runs.{Cycle}
use Rattle.scan_play.specs.inner.Steps.{PlaysOn}
use Rattle.scan_play.proofs.PlayLemmas.{judged_as}
use Rattle.scan_play.proofs.playing.play_from_unknown.Goals as goal

pub returns : goal.returns
returns g c =
    let n = c.args.core.now in
    let says = g.J.Judge.says c.args.judge.now in
    let start = c.in_ok-state.state.items in
    let all : start ≡ replicate (length (cells n)) X =
    c.in_ok-state.ensures
    ∙ (ap (λ (k : List _). replicate (length k) X) c.cells.ensures
    ∙ (ap (λ (m : Netlist). replicate (length (map (λ (d : Definition). d.id) (cells m))) X) c.netlist-netlist.ensures
    ∙ ap (λ k. replicate k X) (length-map (cells n) (λ (d : Definition). d.id)))) in
    let played = subst (λ (cs : List Cycle). PlaysOn says c.args.rule.now.fault n cs 0 start c.play_bursts.new.bench.state.items c.in_ok-found.found) (sym c.bursts.ensures) c.in_ok-found.ensures in
    judged_as says c.args.rule.now.fault n c.args.vectors.now start c.play_bursts.new.bench.state.items c.in_ok-found.found
    (subst IsSound c.netlist.ensures c.sound.ensures) c.requires.fits all played

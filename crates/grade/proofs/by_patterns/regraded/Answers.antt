use Rattle.std.proofs.Common.{◌≡◌, ◌∙◌, Some, ap, subst, sym, get_or, arith}
use Rattle.std.proofs.lemmas.Option.{same_Some, slice_get-get_or}
use Rattle.statement.specs.declared.lines.Fault.{Fault}
use Rattle.statement.specs.Netlists.{Netlist}
use Rattle.netlist.specs.Conditions.{IsSound}
use Rattle.netlist.specs.Lines.{IsLineOf}
use Rattle.regions.specs.Paths.{AreOpen}
use Rattle.scan_play.proofs.Shifting.{zip_length}
use Rattle.word_sim.specs.Hits.{LastDetected}
use Rattle.run_report.proofs.CycleLemmas.{longest_small}
use Rattle.grade.specs.inner.Keys.{IsTimingOf}
use Rattle.grade.specs.inner.Spotting.{IsSpotted}
use Rattle.grade.proofs.Graded.{elsewhere_graded, there_below, there_graded, told_at}
use Rattle.grade.proofs.by_patterns.regraded.Goals as goal

pub bounds-asked-i : goal.bounds-asked-i
bounds-asked-i c =
    let a = c.args.asked.now in
    let size = zip_length (LastDetected a.core.now a.latest.now) a.faults.now a.told.now c.requires.asked.told in
    omega (arith, size, c.requires.within)

pub spot-key-requires-clause-timing : goal.spot-key-requires-clause-timing
spot-key-requires-clause-timing c = subst (λ (m : Netlist). IsTimingOf m c.args.asked.now.timing.now) (sym c.requires.batch.netlist) c.requires.asked.timing

pub spot-key-requires-clause-open : goal.spot-key-requires-clause-open
spot-key-requires-clause-open c =
    subst (λ (m : Netlist). AreOpen m c.args.events.now.values c.args.paths.now.heads.items c.args.paths.now.opens.items) (sym c.requires.batch.netlist) c.requires.batch.are_open

pub spot-key-requires-clause-line : goal.spot-key-requires-clause-line
spot-key-requires-clause-line c =
    let d = c.index-asked-i.result in
    let f : Fault = get_or c.args.asked.now.faults.now c.args.i d in
    subst (λ (m : Netlist). IsLineOf m f.line) (sym c.requires.batch.netlist) (c.requires.asked.lines c.args.i d c.requires.within)

pub place_in_order-place-requires : goal.place_in_order-place-requires
place_in_order-place-requires c =
    let a = c.args.asked.now in
    let f = c.index-asked-i.result in
    let at = slice_get-get_or a.faults.now c.args.i f c.requires.within ∙ ap Some (sym c.index-asked-i.is) in
    there_below a.core.now a.timing.now.chains.now a.latest.now f c.args.start c.in-Some.j _ c.in-Some.ensures (told_at a c.requires.asked c.args.i f at)

pub overflow_add-start : goal.overflow_add-start
overflow_add-start c =
    let a = c.args.asked.now in
    let f = c.index-asked-i.result in
    let at = slice_get-get_or a.faults.now c.args.i f c.requires.within ∙ ap Some (sym c.index-asked-i.is) in
    let below = there_below a.core.now a.timing.now.chains.now a.latest.now f c.args.start c.in-Some.j _ c.in-Some.ensures (told_at a c.requires.asked c.args.i f at) in
    omega (arith, below, c.requires.asked.count)

pub grade_at-requires-clause-longest : goal.grade_at-requires-clause-longest
grade_at-requires-clause-longest c =
    let a = c.args.asked.now in
    let sound : IsSound a.core.now = subst IsSound c.netlist.ensures c.sound.ensures in
    omega (arith, c.longest.ensures, longest_small a.core.now a.timing.now.chains.now sound c.requires.asked.timing.are_chains)

pub returns-in-None-clause-graded : goal.returns-in-None-clause-graded
returns-in-None-clause-graded c f at =
    let a = c.args.asked.now in
    elsewhere_graded a.core.now a.timing.now.chains.now a.latest.now f c.args.start _ c.args.grade c.in-None.ensures (c.requires.before f at)

pub returns-in-Some-clause-graded : goal.returns-in-Some-clause-graded
returns-in-Some-clause-graded c f at =
    let a = c.args.asked.now in
    let n = a.core.now in
    let chains = a.timing.now.chains.now in
    let j = c.in-Some.j in
    let key = c.spot-key.result in
    let values = c.args.events.now.values in
    let d = c.index-asked-i.result in
    let read : Fault = get_or a.faults.now c.args.i d in
    let same : read ≡ f = same_Some read f (sym (slice_get-get_or a.faults.now c.args.i d c.requires.within) ∙ at) in
    let sound : IsSound n = subst IsSound c.netlist.ensures c.sound.ensures in
    let spotted = subst (λ (x : Fault). IsSpotted n chains values x j key) same (subst (λ (m : Netlist). IsSpotted m chains values read j key) c.requires.batch.netlist c.spot-key.ensures.first) in
    there_graded n chains a.latest.now f c.args.start j _ c.in-Some.ensures (told_at a c.requires.asked c.args.i f at) sound c.requires.asked.timing.are_chains values key c.longest.result _
    c.grade_at.result c.requires.batch.good spotted c.longest.ensures c.place_in_order-place.ensures c.grade_at.ensures

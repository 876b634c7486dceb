use Rattle.std.proofs.Common.{ℕ, List, ◌<◌, get_or, length, subst}
use Rattle.std.proofs.lemmas.List.{get_or_default, take_all}
use Rattle.std.proofs.lemmas.List.Elements.{All-get_or}
use Rattle.lane_play.specs.inner.Apart.{AreLines}
use Rattle.lane_play.proofs.PackLemmas.{lines_more}
use Rattle.lane_play.proofs.packing.lines_of.Goals as goal

pub loop-place-preserved : goal.loop-place-preserved
loop-place-preserved c =
    let places = c.args.places.now in
    let i = c.loop-place.place-index in
    let l = c.loop-place-test.true in
    lines_more c.args.faults.now c.loop-place.lines.items c.push.new.lines.items places i (get_or places i 0) c.index-faults-place.result l (get_or_default places i 0 (get_or places i 0) l)
    (All-get_or (λ (p : ℕ). p < length c.args.faults.now) places i 0 l c.requires) c.index-faults-place.is c.in_ok-push.ensures c.loop-place.invariant

pub returns : goal.returns
returns c =
    subst (λ (ps : List ℕ). AreLines c.args.faults.now ps c.loop-place.lines.items) (take_all c.loop-place.place-index c.args.places.now c.loop-place-test.false) c.loop-place.invariant

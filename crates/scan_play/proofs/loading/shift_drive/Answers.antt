use Rattle.std.proofs.Common.{◌<◌, [], length, sym, ◌∙◌, ap, arith}
use Rattle.std.proofs.lemmas.Option.{get_or_from_slice_get}
use Rattle.scan_insert.proofs.Making.{map_step}
use Rattle.statement.specs.Tests.{held_or_zero}
use Rattle.scan_play.proofs.loading.shift_drive.Goals as goal

pub loop-k-preserved : goal.loop-k-preserved
loop-k-preserved c =
    let holds = c.args.holds.now in
    let within : c.loop-k.k < length holds = (let t = c.loop-k-test.true in let r = c.requires in omega arith) in
    map_step held_or_zero [] c.loop-k.drive.items c.push.new.self.items holds c.loop-k.k c.held.result c.idle_bit.result within c.loop-k.invariant c.in_ok-push.ensures.items
    (c.idle_bit.ensures ∙ ap held_or_zero (sym (get_or_from_slice_get holds c.loop-k.k c.held.result c.held.result c.held.ensures)))

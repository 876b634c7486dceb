use Rattle.std.proofs.Common.{◌∙◌, Bool, sym}
use Rattle.std.specs.Prelude.{Option}
use Rattle.known_tests.proofs.KnownParts.{known_none, plain_more}
use Rattle.known_tests.proofs.holding.known_holds.Goals as goal

pub loop-input-init : goal.loop-input-init
loop-input-init c = c.new-known.ensures.items ∙ sym (known_none {V = Option Bool} c.args.unknown.now)

pub loop-input-preserved : goal.loop-input-preserved
loop-input-preserved c =
    plain_more c.args.unknown.now c.args.holds.now c.loop-input.input c.held-hold.result c.loop-input.known.items c.push_unless.new.known.items c.is_unknown.result
    c.held-hold.ensures c.loop-input.invariant c.is_unknown.ensures c.in_ok-push_unless.ensures

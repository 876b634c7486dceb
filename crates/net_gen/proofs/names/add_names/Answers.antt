use Rattle.std.proofs.Common.{◌∙◌}
use Rattle.net_gen.proofs.DrawLemmas.{name_added, name_text}
use Rattle.net_gen.proofs.names.add_names.Goals as goal

pub loop-number-preserved : goal.loop-number-preserved
loop-number-preserved c =
    name_added c.args.letter c.loop-number.number c.args.names.now c.loop-number.names c.push-in-loop-number.new.self c.deref.result.now
    (name_text c.args.letter c.loop-number.number c.clear.new.self.items c.push.new.self.items c.as_bytes.result.now c.extend_from_slice.new.self.items c.deref.result.now
    c.clear.ensures.items c.in_ok-push.ensures.items (c.as_bytes.ensures.value ∙ c.format.ensures.text) c.in_ok-extend_from_slice.ensures.items c.deref.ensures.value)
    c.in_ok-push-2.ensures.ok c.loop-number.invariant

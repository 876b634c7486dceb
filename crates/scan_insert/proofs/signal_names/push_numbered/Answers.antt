use Rattle.std.proofs.Common.{◌≡◌, ◌++◌, decimal, ◌∙◌, ap}
use Rattle.scan_insert.proofs.Making.{numbers_step}
use Rattle.scan_insert.proofs.signal_names.push_numbered.Goals as goal

pub loop-c-preserved : goal.loop-c-preserved
loop-c-preserved c =
    let prefix = c.args.prefix.now in
    let text : c.as_bytes.result.now ≡ decimal c.loop-c.c = c.as_bytes.ensures.value ∙ c.format.ensures.text in
    numbers_step (λ k. prefix ++ decimal k) c.args.names.now c.loop-c.names c.push_joined.new.names c.loop-c.c (prefix ++ c.as_bytes.result.now)
    c.loop-c.invariant c.in_ok-push_joined.ensures (ap (λ r. prefix ++ r) text)

use Rattle.std.proofs.Common.{ap, ◌∙◌, map, subst, List}
use Rattle.statement.specs.Benches.{Text}
use Rattle.statement.specs.Stils.{quoted, called}
use Rattle.stil_read.specs.Tokens.{tokens}
use Rattle.stil_read.specs.inner.Items.{AreAllItems}
use Rattle.stil_read.proofs.StepLemmas.{no_items_head}
use Rattle.stil_read.proofs.pattern.pattern.Goals as goal

pub returns-in_default-expect : goal.returns-in_default-expect
returns-in_default-expect c = no_items_head c.args.chains _ _ c.in-Some.ensures c.in_default-expect.ensures.found

pub returns : goal.returns
returns c = record {
  inner = tokens c.in-Some.inner.now;
  behind = tokens c.in-Some-expect.behind.now;
  skipped = c.in-Some.ensures;
  head = c.in-Some-expect.ensures.found;
  listed = subst (λ (vectors : List Text). AreAllItems (map quoted (called c.args.chains)) vectors (tokens c.in-Some-expect.behind.now) c.in_ok-items.items (tokens c.in_ok-items.rest.now))
      (c.in_ok-vectors-2.ensures ∙ ap (map quoted) c.in_ok-vectors.ensures)
      (subst (λ (calls : List Text). AreAllItems calls c.in_ok-vectors-2.vectors (tokens c.in-Some-expect.behind.now) c.in_ok-items.items (tokens c.in_ok-items.rest.now))
      (c.in_ok-calls-2.ensures ∙ ap (map quoted) c.in_ok-calls.ensures) c.in_ok-items.ensures);
}

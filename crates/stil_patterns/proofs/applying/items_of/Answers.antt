use Rattle.std.proofs.Common.{◌++◌, length, replicate, false, ◌∙◌, ap, sym, subst, arith, List}
use Rattle.std.proofs.Math.Seq.{take-length}
use Rattle.statement.specs.Tests.{cells_of, load_items}
use Rattle.statement.specs.Patterns.{Pattern}
use Rattle.stil_patterns.specs.inner.Added.{AreBegun}
use Rattle.stil_patterns.proofs.AddLemmas.{begun_done}
use Rattle.stil_patterns.proofs.applying.items_of.Goals as goal

pub returns : goal.returns
returns c =
    let n = c.args.core.now in
    let chains = c.args.chains.now in
    let ps = c.args.patterns.now in
    let items = c.push_tests.new.items in
    let held = c.push_tests.new.held.items in
    let zeros = replicate (length (cells_of chains)) false in
    begun_done n chains ps (length ps) items c.push_zero_load.new.items held (omega arith)
    (c.in_ok-push_zero_load.ensures ∙ ap (λ x. items ++ load_items chains zeros x) c.deref.ensures.value)
    (subst (λ (qs : List Pattern). AreBegun n chains qs items held) (sym (take-length ps)) c.in_ok-push_tests.ensures)

use Rattle.std.proofs.Common.{ap, length}
use Rattle.stil_write.specs.StilFiles.{item_at}
use Rattle.stil_patterns.specs.Applied.{test_in}
use Rattle.stil_patterns.specs.inner.Reading.{item_before}
use Rattle.stil_patterns.proofs.PickLemmas.{kept_test, left_test}
use Rattle.stil_patterns.proofs.ReadLemmas.{test_at}
use Rattle.stil_patterns.proofs.reading.push_applied.Goals as goal

pub returns-in_ok-push : goal.returns-in_ok-push
returns-in_ok-push c =
    let f = c.args.file.now in
    let chains = c.args.chains.now in
    let place = c.args.place in
    let p = c.in_ok-pattern.pattern in
    kept_test c.args.netlist.now c.args.holds.now (test_in (length f.chains) chains (item_before f.items place) (item_at f.items place)) p c.args.patterns.now.items c.push.new.self.items
    (test_at chains f c.items-items.result.now (length c.chains-count.result.now) place c.saturating_sub-load.result p c.items-items.ensures (ap length c.chains-count.ensures) c.saturating_sub-load.ensures c.if-not-is_test.ensures
    c.in_ok-pattern.ensures)
    c.if-is_pattern.ensures c.in_ok-push.ensures.items

pub returns-else-is_pattern : goal.returns-else-is_pattern
returns-else-is_pattern c =
    let f = c.args.file.now in
    let chains = c.args.chains.now in
    let place = c.args.place in
    let p = c.in_ok-pattern.pattern in
    left_test c.args.netlist.now c.args.holds.now (test_in (length f.chains) chains (item_before f.items place) (item_at f.items place)) p c.args.patterns.now.items c.requires.holds
    (test_at chains f c.items-items.result.now (length c.chains-count.result.now) place c.saturating_sub-load.result p c.items-items.ensures (ap length c.chains-count.ensures) c.saturating_sub-load.ensures c.if-not-is_test.ensures
    c.in_ok-pattern.ensures)
    c.if-is_pattern.ensures

use Rattle.std.proofs.Common.{◌+◌, ◌≤◌, length, arith}
use Rattle.std.proofs.lemmas.Result.{IfOk-weaker}
use Rattle.run_files.proofs.OftenLemmas.{more_gathered}
use Rattle.run_files.proofs.repeating.with_more.Goals as goal

pub returns : goal.returns
returns c =
    let old = c.args.patterns.items in
    let more = c.args.more.items in
    let small : length old + length more + 64 ≤ 4294967296 = omega (arith, c.if-len.false, c.len.ensures, c.len-2.ensures, c.requires, c.args.patterns.ok.0, c.args.more.ok.0) in
    IfOk-weaker c.joined.result _ _ (λ v is n holds faults given obey gathered. more_gathered n holds faults given old more v.items gathered is obey small) c.joined.ensures

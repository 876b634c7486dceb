use Rattle.std.proofs.Common.{◌≤◌, ◌<◌, length, arith}
use Rattle.known_tests.proofs.Driven.{burst_alone}
use Rattle.known_tests.proofs.obeying.burst_obeys.Goals as goal

pub returns : goal.returns
returns c =
    let test = c.if-held-len.false in
    let size = c.len.ensures in
    let other = c.if-burst-eq0.false in
    let few : length c.args.held.now ≤ length c.args.burst.now.drive.items = omega (arith, test, size) in
    let some : 0 < c.args.burst.now.count = omega (arith, other) in
    burst_alone c.args.held.now c.args.burst.now few some c.deref.result.now c.is_obeyed.result c.deref.ensures.value c.is_obeyed.ensures

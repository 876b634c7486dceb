use Rattle.std.proofs.Common.{◌≡◌, ◌<◌, ◌∙◌, List, length, refl, ap, arith}
use Rattle.std.proofs.lemmas.Bool.{both_ways}
use Rattle.statement.specs.Netlists.{signals}
use Rattle.netlist.proofs.Placed.{signal_below}
use Rattle.head_lines.specs.declared.roles.Role.{Role}
use Rattle.head_lines.specs.HeadLines.{role_at}
use Rattle.head_lines.specs.inner.Binding.{unbound}
use Rattle.head_lines.proofs.Chains.{next_now, fewer_now, waits_once}
use Rattle.head_lines.proofs.room.bind_next.Goals as goal

pub returns-clause-roles : goal.returns-clause-roles
returns-clause-roles c =
    next_now c.args.fault.now c.args.netlist.now c.args.holds.now c.args.id c.args.roles.now.items c.bind.new.roles.items c.only_reader.result c.requires c.in_ok-bind.ensures.bound
    c.only_reader.ensures

pub returns-clause-fewer : goal.returns-clause-fewer
returns-clause-fewer c =
    let n = c.args.netlist.now in
    let old : List Role = c.args.roles.now.items in
    let near : c.args.id < length (signals n) = signal_below n c.sound.ensures.formed.numbered c.args.id (c.requires.next_is c.args.id refl).0 in
    let size : length old ≡ length (signals n) = c.requires.size in
    let less : unbound c.bind.new.roles.items < unbound old =
    fewer_now n c.args.id old c.bind.new.roles.items c.in_ok-bind.ensures.bound (omega arith)
    (λ e. both_ways c.is_bound.result c.if-is_bound.false (c.is_bound.ensures.1 (ap (λ (rs : List Role). role_at rs c.args.id) c.deref.ensures.value ∙ e))) in
    let once = waits_once c.only_reader.result in
    omega arith

use Rattle.std.proofs.Common.{Option, subst}
use Rattle.statement.specs.Benches.{Text}
use Rattle.commands.specs.World.{world}
use Rattle.check_command.specs.Top.{PrefixRow}
use Rattle.check_command.specs.declared.status.CheckStatus.TheVariants.{Command}
use Rattle.check_command.proofs.top.check_top.Goals as goal

pub returns-in-Some : goal.returns-in-Some
returns-in-Some g c =
    let before = world (g.S.Shelf.files c.args.shelf.now) (g.S.Shelf.failures c.args.shelf.now) (g.T.Sink.taken c.args.out.now) (g.T.Sink.failures c.args.out.now) in
    let after = world (g.S.Shelf.files c.check_prefix-ending.new.shelf) (g.S.Shelf.failures c.check_prefix-ending.new.shelf) (g.T.Sink.taken c.check_prefix-ending.new.out)
    (g.T.Sink.failures c.check_prefix-ending.new.out) in
    let found = rw c.in-Some.is at c.prefix_of.ensures in (
      Command c.check_prefix-ending.result,
      c.end.ensures.code,
      subst (λ (o : Option Text). PrefixRow o before after (Command c.check_prefix-ending.result)) found c.check_prefix-ending.ensures,
      c.end.ensures.told,
    )

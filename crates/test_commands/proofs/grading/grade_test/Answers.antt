use Rattle.std.proofs.Common.{[], ◌∷◌, ap, ap₂}
use Rattle.statement.specs.Benches.{Text}
use Rattle.commands.specs.World.{world}
use Rattle.commands.specs.Names.{file_name_of}
use Rattle.command_line.specs.CommandLine.{grade_file}
use Rattle.test_commands.specs.Grades.{grade_due}
use Rattle.command_steps.proofs.RowLemmas.{row_at}
use Rattle.test_commands.proofs.grading.grade_test.Goals as goal

pub returns : goal.returns
returns g c =
    let before = world (g.S.Shelf.files c.args.shelf.now) (g.S.Shelf.failures c.args.shelf.now) (g.T.Sink.taken c.args.out.now) (g.T.Sink.failures c.args.out.now) in
    let after = world (g.S.Shelf.files c.run_command.new.shelf) (g.S.Shelf.failures c.run_command.new.shelf) (g.T.Sink.taken c.run_command.new.out) (g.T.Sink.failures c.run_command.new.out) in
    row_at (file_name_of c.of.result ∷ file_name_of c.of-2.result ∷ []) (c.args.names.net.now ∷ c.args.names.stil.now ∷ []) (file_name_of c.grade_name.result ∷ []) (grade_file c.args.names.prefix.now ∷ [])
    (grade_due c.args.chains) before after c.run_command.result (ap₂ (λ (t u : Text). t ∷ u ∷ []) c.of.ensures c.of-2.ensures) (ap (λ (t : Text). t ∷ []) c.grade_name.ensures) c.run_command.ensures

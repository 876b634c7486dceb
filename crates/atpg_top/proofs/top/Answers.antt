use Rattle.std.proofs.Common.{◌≡◌, ◌∙◌, List, Ok, ap, subst, sym}
use Rattle.std.specs.Prelude.{Result, IfOk, map}
use Rattle.std.specs.String.{string_bytes}
use Rattle.statement.specs.Benches.{Text}
use Rattle.command_line.specs.CommandLine.{command_line, command_line_of}
use Rattle.command_line.specs.declared.WordsRefusal.{WordsRefusal}
use Rattle.command_line.specs.declared.requests.Request.{Request}
use Rattle.atpg_top.specs.Rows.{ErrRow, held_names}
use Rattle.atpg_top.specs.declared.status.Status.TheVariants.{Command}
use Rattle.atpg_top.proofs.Endings.{row_of}
use Rattle.atpg_top.proofs.top.Goals as goal

pub returns-in-Ok : goal.returns-in-Ok
returns-in-Ok g c =
    let words = map string_bytes c.args.words.now in
    let taken = subst (λ (r : Result Request WordsRefusal). IfOk r (λ q. command_line words ≡ Ok (command_line_of q))) c.in-Ok.is c.parse-parsed.ensures.request in (
      Command c.perform-ending.result,
      c.end.ensures.code,
      row_of words (command_line_of c.in-Ok.request) _ _ c.perform-ending.result taken c.perform-ending.ensures,
      subst (λ (names : List Text). ErrRow g.E.Sink.takes_memory names (Command c.perform-ending.result) (g.E.Sink.taken c.args.err.now) (g.E.Sink.failures c.args.err.now) (g.E.Sink.taken c.end.new.err)
          (g.E.Sink.failures c.end.new.err)) (c.held_in.ensures ∙ ap held_names (sym taken)) c.end.ensures.told,
    )

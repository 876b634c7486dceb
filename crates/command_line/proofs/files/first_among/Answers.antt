use Rattle.std.proofs.Common.{◌∙◌, [], sym}
use Rattle.std.specs.List.{list_any}
use Rattle.std.specs.Str.{bytes_eq}
use Rattle.commands.specs.Names.{file_names_of}
use Rattle.commands.specs.declared.names.FileName.{FileName}
use Rattle.command_line.proofs.FileLemmas.{is_first, is_later, none_left}
use Rattle.command_line.proofs.files.first_among.Goals as goal

none : FileName
none = record { given = record { ref_ptr = (0, 0); now = [] }; ending = record { ref_ptr = (0, 0); now = [] } }

pub returns-then-is_among : goal.returns-then-is_among
unfolding none
returns-then-is_among c =
    is_first (λ t. list_any (bytes_eq t) (file_names_of c.args.written.now)) c.args.names.now c.loop-name.name-index none c.loop-name-test.true _ c.loop-name.invariant
    (sym c.is_among.ensures ∙ c.if-is_among.true)

pub loop-name-preserved : goal.loop-name-preserved
unfolding none
loop-name-preserved c =
    is_later (λ t. list_any (bytes_eq t) (file_names_of c.args.written.now)) c.args.names.now c.loop-name.name-index none c.loop-name-test.true _ c.loop-name.invariant
    (sym c.is_among.ensures ∙ c.if-is_among.false)

pub returns : goal.returns
returns c =
    none_left (λ t. list_any (bytes_eq t) (file_names_of c.args.written.now)) c.args.names.now c.loop-name.name-index c.loop-name-test.false _ c.loop-name.invariant

use Rattle.std.proofs.Common.{ℕ, [], ◌∙◌, ap, subst, Vec, get_or}
use Rattle.std.specs.declared.alloc.Global.{Global}
use Rattle.outside.specs.Shelf.{GainsFile}
use Rattle.outside.specs.Told.{Both}
use Rattle.commands.specs.Names.{file_name_of, file_names_of, texts_of}
use Rattle.commands.specs.inner.Steps.{NotWritten}
use Rattle.commands.specs.declared.names.FileName.{FileName}
use Rattle.commands.proofs.WriteLemmas.{all_written, step_stopped, step_written}
use Rattle.commands.proofs.writing.write_in_order.Goals as goal
use Rattle.std.proofs.lemmas.List.{length-map}

none : FileName
none = record { given = record { ref_ptr = (0, 0); now = [] }; ending = record { ref_ptr = (0, 0); now = [] } }

pub returns-in-Err : goal.returns-in-Err
unfolding none
returns-in-Err g c =
    let start = g.S.Shelf.files c.args.shelf.now in
    let before = g.S.Shelf.files c.loop-i.shelf in
    let after = g.S.Shelf.files c.write_file.new.shelf in
    let name = file_name_of (get_or c.args.names.now c.loop-i.i none) in
    let v = c.index-texts-i.result in
    let text = c.as_slice.ensures.value ∙ ap (λ (w : Vec ℕ Global). w.items) c.index-texts-i.is in
    step_stopped c.args.names.now c.args.texts.now c.loop-i.i none v c.loop-i-test.true c.requires start before after c.loop-i.invariant.0
    _ _ (g.S.Shelf.failures c.write_file.new.shelf) c.in-Err.ending c.loop-i.invariant.1
    (subst (λ t. NotWritten name t before (g.S.Shelf.failures c.loop-i.shelf) after (g.S.Shelf.failures c.write_file.new.shelf) c.in-Err.ending) text c.in-Err.ensures)

pub loop-i-preserved : goal.loop-i-preserved
unfolding none
loop-i-preserved g c =
    let start = g.S.Shelf.files c.args.shelf.now in
    let before = g.S.Shelf.files c.loop-i.shelf in
    let after = g.S.Shelf.files c.write_file.new.shelf in
    let name = file_name_of (get_or c.args.names.now c.loop-i.i none) in
    let v = c.index-texts-i.result in
    let text = c.as_slice.ensures.value ∙ ap (λ (w : Vec ℕ Global). w.items) c.index-texts-i.is in (
      step_written c.args.names.now c.args.texts.now c.loop-i.i none v c.loop-i-test.true c.requires start before after c.loop-i.invariant.0
          (subst (λ t. Both before after (λ old new. GainsFile old name t new)) text c.in-Ok.ensures.0),
      c.in-Ok.ensures.1 ∙ c.loop-i.invariant.1,
    )

pub returns : goal.returns
returns g c = (
  all_written (file_names_of c.args.names.now) (texts_of c.args.texts.now) c.loop-i.i _ _
      (simp length-map c.loop-i-test.false) c.loop-i.invariant.0,
  c.loop-i.invariant.1,
)

use Rattle.std.proofs.Common.{◌∙◌, [], sym}
use Rattle.commands.specs.Names.{file_name_of}
use Rattle.commands.specs.declared.names.FileName.{FileName}
use Rattle.commands.proofs.NameLemmas.{found, none_is}
use Rattle.commands.proofs.names.is_among.Goals as goal

none : FileName
none = record { given = record { ref_ptr = (0, 0); now = [] }; ending = record { ref_ptr = (0, 0); now = [] } }

pub returns-then-is : goal.returns-then-is
unfolding none
returns-then-is c = found (file_name_of c.args.name.now) c.args.names.now c.loop-other.other-index none c.loop-other-test.true (sym c.if-is.true ∙ c.is.ensures)

pub returns : goal.returns
returns c = none_is (file_name_of c.args.name.now) c.args.names.now c.loop-other.other-index none c.loop-other-test.false c.loop-other.invariant

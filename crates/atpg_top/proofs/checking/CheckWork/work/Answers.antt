use Rattle.commands.specs.Names.{texts_of}
use Rattle.atpg_top.proofs.CheckLemmas.{done, refused}
use Rattle.atpg_top.proofs.checking.CheckWork.work.Goals as goal

pub returns-in-Ok : goal.returns-in-Ok
returns-in-Ok c = done (texts_of c.args.texts.items) c.in-Ok.product c.in-Ok.ensures

pub returns-in-Err-Refused : goal.returns-in-Err-Refused
returns-in-Err-Refused c =
    refused (texts_of c.args.texts.items) c.in-Err-Refused.refusal c.refusal_of.result c.refusal_of.ensures (rw c.in-Err-Refused.field-0-is at c.in-Err-Refused.ensures)

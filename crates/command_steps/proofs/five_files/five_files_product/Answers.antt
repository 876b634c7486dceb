use Rattle.std.proofs.Common.{refl}
use Rattle.command_steps.proofs.five_files.five_files_product.Goals as goal

pub returns : goal.returns
returns c = record {
  texts = c.in_ok-texts.ensures.texts;
  count = c.in_ok-texts.ensures.count;
  shown = refl;
  fine = refl;
}

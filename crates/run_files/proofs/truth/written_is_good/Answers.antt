use Rattle.run_files.proofs.RunLemmas.{good}
use Rattle.run_files.proofs.truth.written_is_good.Goals as goal

pub returns : goal.returns
returns c n a classes patterns verdicts made sound design run =
    good c.detected_alike.ensures c.texts_differ.ensures n a classes patterns verdicts made sound run c.canonical_text_is_read.ensures c.written_stands.ensures design

use Rattle.scan_insert.proofs.Soundness.{scanned_is_sound}
use Rattle.scan_insert.proofs.laws.scanned_is_sound.Goals as goal

pub returns : goal.returns
returns c n chains sound design are = scanned_is_sound n chains sound design are

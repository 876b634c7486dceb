use Rattle.std.proofs.Common.{sym, ap, ◌∙◌}
use Rattle.std.specs.FinMap as map
use Rattle.outside.proofs.FileMapLemmas.{len-file_map}
use Rattle.outside.proofs.stored.StoredFiles.file_count.Goals as goal

pub returns : goal.returns
returns c = c.len.ensures.len ∙ sym (len-file_map c.self.inside.files c.len.ensures.unique) ∙ ap map.len c.self.view_is

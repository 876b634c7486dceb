use Rattle.std.proofs.Common.{Vec, ℕ, Global, ap, option_map}
use Rattle.outside.proofs.FileMapLemmas.{get-file_map}
use Rattle.outside.proofs.stored.StoredFiles.get.Goals as goal

pub returns-in-Some : goal.returns-in-Some
returns-in-Some c = rw (← c.self.view_is, get-file_map c.self.inside.files c.args.name.now, c.as_slice.ensures.value) (ap (option_map (λ (v : Vec ℕ Global). v.items)) c.in-Some.ensures.value)

pub returns-in-None : goal.returns-in-None
returns-in-None c = rw (← c.self.view_is, get-file_map c.self.inside.files c.args.name.now) (ap (option_map (λ (v : Vec ℕ Global). v.items)) c.in-None.ensures.value)

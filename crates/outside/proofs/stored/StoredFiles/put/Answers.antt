use Rattle.outside.proofs.FileMapLemmas.{file_map-updates, get-insert_file}
use Rattle.outside.proofs.stored.StoredFiles.put.Goals as goal

pub returns-clause-ok : goal.returns-clause-ok
returns-clause-ok c = rw (← c.self.view_is, ← c.in_ok-name.ensures.ok, ← c.in_ok-bytes.ensures.items) (file_map-updates c.self.inside.files c.insert.new.self c.in_ok-name.name c.in_ok-bytes.bytes c.in_ok-insert.ensures.updates)

pub returns-clause-holds : goal.returns-clause-holds
returns-clause-holds c = rw (returns-clause-ok c) (get-insert_file c.args.self.now c.args.name.now c.args.bytes.now)

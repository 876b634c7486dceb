use Rattle.worker.proofs.running.run_all.Goals as goal

pub returns-clause-closed : goal.returns-clause-closed
returns-clause-closed g c = rw c.brief_of-brief.ensures at c.run_named.ensures.closed

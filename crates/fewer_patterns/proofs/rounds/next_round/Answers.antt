use Rattle.fewer_patterns.proofs.rounds.next_round.Goals as goal

pub returns-in-Ok : goal.returns-in-Ok
returns-in-Ok g c = c.after.ensures c.args.aim.now c.requires.enough c.in-Ok.ensures

use Rattle.std.proofs.Common.{sym}
use Rattle.std.proofs.lemmas.Nat.{div-add-mod'}
use Rattle.grade.proofs.keys.strobe_at.Goals as goal

pub returns-clause-key : goal.returns-clause-key
returns-clause-key c = sym (div-add-mod' c.args.key 4294967296)

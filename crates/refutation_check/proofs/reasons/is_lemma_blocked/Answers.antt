use Rattle.std.proofs.Common.{length, refl}
use Rattle.refutation.specs.Refutations.{clauses}
use Rattle.refutation_check.proofs.ReasonLemmas.{lemma_there, within_at}
use Rattle.refutation_check.proofs.reasons.is_lemma_blocked.Goals as goal

pub is_none_so-requires : goal.is_none_so-requires
is_none_so-requires c =
    within_at c.args.lemmas.now (length c.args.told.now) c.args.k c.index-lemmas-k.result c.clause.result.now c.requires c.if-k-lemmas.false c.index-lemmas-k.is c.clause.ensures

pub returns : goal.returns
returns c =
    lemma_there c.args.lemmas.now (clauses c.args.lemmas.now) c.args.told.now c.args.k c.index-lemmas-k.result c.clause.result.now c.is_none_so.result refl c.if-k-lemmas.false
    c.index-lemmas-k.is c.clause.ensures c.is_none_so.ensures

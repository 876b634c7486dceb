use Rattle.list_calls.proofs.ListLemmas.{line_of}
use Rattle.list_calls.proofs.searches.push_found.Goals as goal

pub push_search-requires-clause-line : goal.push_search-requires-clause-line
push_search-requires-clause-line c =
    line_of c.args.search.now.core.now c.args.classes.now.representatives c.loop-class.class c.representative.result c.requires.lines c.representative.ensures

use Rattle.std.proofs.Common.{◌∙◌, ap, sym, List}
use Rattle.statement.specs.Stils.{Call, Item}
use Rattle.stil_write.specs.StilFiles.{item_at, words_of}
use Rattle.stil_vectors.proofs.PlayLemmas.{call_count}
use Rattle.stil_vectors.proofs.VectorLemmas.{is_call}
use Rattle.stil_vectors.proofs.playing.cycles_at.Goals as goal

pub returns-in-Call : goal.returns-in-Call
returns-in-Call c =
    let f = c.args.file.now in
    let items = c.items-items.result.now in
    call_count f (item_at f.items c.args.place) (words_of (item_at items c.args.place)) c.word.result.now
    (is_call items f.items c.args.place c.kind.result c.items-items.ensures c.kind.ensures c.in-Call.is ∙ ap (λ (is : List Item). Call (words_of (item_at is c.args.place))) (sym c.items-items.ensures)) c.word.ensures

use Rattle.stil_read.proofs.ItemLemmas.{no_end}
use Rattle.stil_read.proofs.items.begun_words.Goals as goal

pub returns-in_default-expect : goal.returns-in_default-expect
returns-in_default-expect c =
    let are = rw c.in-Some-2.is at c.in_ok-after.ensures in
    no_end _ _ _ _ _ _ c.in-Some.ensures.found c.in-Some.ensures.only are c.in_default-expect.ensures.found

use Rattle.std.proofs.Common.{ℕ, List, Ok, Err, Vec, refl, subst, sym}
use Rattle.std.specs.List.{All}
use Rattle.std.specs.declared.alloc.Global.{Global}
use Rattle.statement.specs.Benches.{Text}
use Rattle.commands.specs.Names.{texts_of}
use Rattle.command_steps.specs.inner.Placed.{OrdersText}
use Rattle.command_steps.proofs.OrderLemmas.{IsShort, put_short, put_stops, put_texts}
use Rattle.command_steps.proofs.ordering.put_in_order.Goals as goal

pub returns-in-Ok-clause-ordered : goal.returns-in-Ok-clause-ordered
returns-in-Ok-clause-ordered c =
    let ordered = subst (λ (t : Text). OrdersText c.index.result.now.items t (Ok c.in-Ok.net)) c.as_slice-2.ensures.value
    (subst (λ (t : Text). OrdersText t c.as_slice-2.result.now (Ok c.in-Ok.net)) c.as_slice.ensures.value c.in-Ok.ensures.ordered) in
    put_texts c.index.result.now c.index-2.result.now c.args.texts.items c.in-Ok.net _ c.requires.count c.index.ensures c.index-2.ensures ordered refl
    c.remove.ensures.items

pub returns-in-Ok-clause-within : goal.returns-in-Ok-clause-within
returns-in-Ok-clause-within c =
    subst (λ (us : List (Vec ℕ Global)). All IsShort (texts_of us)) (sym c.remove.ensures.items)
    (put_short c.args.texts.items c.in-Ok.net.text c.requires.count c.requires.within c.in-Ok.ensures.within)

pub returns-in-Err-clause-ordered : goal.returns-in-Err-clause-ordered
returns-in-Err-clause-ordered c =
    let ordered = subst (λ (t : Text). OrdersText c.index.result.now.items t (Err c.in-Err.stop)) c.as_slice-2.ensures.value
    (subst (λ (t : Text). OrdersText t c.as_slice-2.result.now (Err c.in-Err.stop)) c.as_slice.ensures.value c.in-Err.ensures.ordered) in
    put_stops c.index.result.now c.index-2.result.now c.args.texts.items c.in-Err.stop c.requires.count c.index.ensures c.index-2.ensures ordered

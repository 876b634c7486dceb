use Rattle.std.proofs.Common.{ap, ◌∙◌, refl, inr, set, get_or, arith}
use Rattle.std.proofs.lemmas.Bool.{iff_false}
use Rattle.std.proofs.lemmas.List.{get_or_read}
use Rattle.statement.specs.Netlists.{readers_of}
use Rattle.events.proofs.Calling.{same_called}
use Rattle.events.proofs.resettling.take_value.Goals as goal

pub returns-clause-takes : goal.returns-clause-takes
returns-clause-takes g c =
    let values = c.args.values.now.items in
    let at_id = c.index.ensures in
    let low = c.requires.within in
    let size = c.requires.size in
    record {
      does = inr record {
        change = record { signal = c.args.id; before = c.index-before.result.now };
        signal = refl;
        before = λ d. get_or_read values c.index.result c.index-before.result.now (omega arith) c.index-before.ensures d ∙ ap (λ k. get_or values k d) at_id;
        differs = iff_false c.is_same.ensures c.if-is_same.false;
        values = ap (λ k. set values k c.args.value) c.index-2.ensures;
        calls = same_called (g.L.Logic.rule c.args.rule.now) c.args.netlist.now c.args.tables.now.places.items values _ c.deref.result.now (readers_of c.args.netlist.now c.args.id)
            c.args.agenda.now c.call_readers.new.agenda c.args.id c.args.value c.deref.ensures.value (ap (λ k. set values k c.args.value) c.index-2.ensures) c.call_readers.ensures;
        trail_is = c.push_reserved.ensures.items;
      };
    }

use Rattle.std.proofs.Common.{◌≡◌, ◌<◌, List, ℕ, [], length, get_or, sym, ap, ◌∙◌, subst}
use Rattle.plain_text.specs.Rows.{rows}
use Rattle.plain_text.proofs.Buffers.{rows_count}
use Rattle.events.proofs.tables.Fans.row.Goals as goal

pub row-requires-clause-within : goal.row-requires-clause-within
row-requires-clause-within c =
    subst (λ n. c.index.result < n)
    (sym (ap length c.self.view_is) ∙ (rows_count 0 c.self.inside.places.items c.self.inside.ends.items ∙ sym (ap length c.deref-2.ensures.value)))
    (subst (λ x. x < length c.args.self.now) (sym c.index.ensures) c.requires)

pub returns : goal.returns
returns c =
    let table : rows 0 c.deref.result.now c.deref-2.result.now ≡ c.args.self.now =
    ap (λ (ls : List ℕ). rows 0 ls c.deref-2.result.now) c.deref.ensures.value
    ∙ (ap (λ (es : List ℕ). rows 0 c.self.inside.places.items es) c.deref-2.ensures.value ∙ c.self.view_is) in
    sym (ap (λ k. get_or (rows 0 c.deref.result.now c.deref-2.result.now) k []) c.index.ensures ∙ ap (λ (t : List (List ℕ)). get_or t c.args.id []) table) ∙ c.row.ensures

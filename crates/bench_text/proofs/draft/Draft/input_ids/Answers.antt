use Rattle.std.proofs.Common.{◌≡◌, ap, ◌∙◌, map, subst}
use Rattle.std.specs.Prelude.{length, nat_lt, IfOk}
use Rattle.std.specs.List.{list_all, list_any}
use Rattle.std.specs.Str.{bytes_eq}
use Rattle.statement.specs.Benches.{name_at}
use Rattle.bench_text.specs.Netlists.{id_of}
use Rattle.bench_text.specs.inner.Drafted.{names_seen, signals_in}
use Rattle.bench_text.proofs.PartLemmas.{inputs-seen, inputs-defined, put_in}
use Rattle.bench_text.proofs.draft.Draft.input_ids.Goals as goal

pub ids-requires-clause-seen : goal.ids-requires-clause-seen
ids-requires-clause-seen c = let s = c.args.self.now in ap (list_all (λ n. nat_lt n (length (names_seen s)))) c.deref.ensures.value ∙ inputs-seen _ _ _ _ _ _ s.sound

pub ids-requires-clause-defined : goal.ids-requires-clause-defined
ids-requires-clause-defined c =
    let s = c.args.self.now in
    ap (list_all (λ n. list_any (bytes_eq (name_at (names_seen s) n)) (signals_in s))) c.deref.ensures.value ∙ inputs-defined _ _ _ _ _ _ s.sound

pub returns : goal.returns
returns c =
    let s = c.args.self.now in
    subst (λ l. IfOk c.ids.result (λ v. v.items ≡ l)) (ap (map (λ n. id_of (signals_in s) (name_at (names_seen s) n))) c.deref.ensures.value ∙ put_in _ _ _ _ _ _ s.sound) c.ids.ensures

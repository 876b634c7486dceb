use Rattle.std.proofs.Common.{ap, ◌∙◌, ◌++◌, map}
use Rattle.std.specs.Prelude.{length, nat_lt}
use Rattle.std.specs.List.{list_all}
use Rattle.statement.specs.Benches.{name_at}
use Rattle.bench_text.specs.inner.Drafted.{names_seen}
use Rattle.bench_text.proofs.PartLemmas.{inputs-seen, definitions-seen, table-of}
use Rattle.bench_text.proofs.draft.Draft.names.Goals as goal

pub push_names-requires : goal.push_names-requires
push_names-requires c = let s = c.args.self.now in ap (list_all (λ n. nat_lt n (length (names_seen s)))) c.deref.ensures.value ∙ inputs-seen _ _ _ _ _ _ s.sound

pub push_names-requires-2 : goal.push_names-requires-2
push_names-requires-2 c = let s = c.args.self.now in ap (list_all (λ n. nat_lt n (length (names_seen s)))) c.deref-2.ensures.value ∙ definitions-seen _ _ _ _ _ _ s.sound

pub returns : goal.returns
returns c =
    let s = c.args.self.now in
    table-of _ _ _ _ _ _ s.sound _ _ _ _ c.deref.ensures.value c.deref-2.ensures.value
    (c.in_ok-push_names.ensures ∙ ap (λ l. l ++ map (name_at (names_seen s)) c.deref.result.now) (c.in_ok-reserve.ensures ∙ c.new-names.ensures)) c.in_ok-push_names-2.ensures

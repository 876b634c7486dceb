use Rattle.std.proofs.Common.{◌++◌, ◌∷◌, [], ◌∙◌, ap, sym, map, List, Bool, ℕ}
use Rattle.statement.specs.declared.kinds.Tri.{Tri}
use Rattle.statement.specs.Values.{known}
use Rattle.events.specs.Words.{bit_of}
use Rattle.statement.specs.Tests.{capture_item, load_items}
use Rattle.stil_patterns.specs.inner.Added.{response_at}
use Rattle.stil_patterns.proofs.AddLemmas.{two_added}
use Rattle.stil_patterns.proofs.applying.push_test.Goals as goal

pub returns : goal.returns
returns c n responds =
    let chains = c.args.chains.now in
    let held = c.args.held.now.items in
    let words = c.args.words.now in
    let response = response_at c.args.place words.outputs.items words.cells.items in
    let bits : List ℕ → List Bool = map (bit_of c.args.place) in
    record {
      response = response;
      responds = responds;
      items = two_added c.args.items.now c.push_load.new.items c.push_capture.new.items (load_items chains c.args.pattern.now.cells held) (capture_item chains c.args.pattern.now response ∷ [])
          (c.in_ok-push_load.ensures ∙ (ap (λ (x : List Bool). c.args.items.now ++ load_items chains x c.deref-3.result.now) c.cells.ensures
          ∙ ap (λ (x : List Tri). c.args.items.now ++ load_items chains c.args.pattern.now.cells x) c.deref-3.ensures.value))
          (c.in_ok-push_capture.ensures response (sym (c.deref-4.ensures.value ∙ (c.in_ok-bits_at.ensures ∙ ap bits c.deref.ensures.value))));
      taken = c.in_ok-push_known.ensures ∙ (ap (λ (x : List Tri). x ++ map known c.deref-5.result.now) c.clear.ensures.items
          ∙ ap (map known) (c.deref-5.ensures.value ∙ (c.in_ok-bits_at-2.ensures ∙ ap bits c.deref-2.ensures.value)));
    }

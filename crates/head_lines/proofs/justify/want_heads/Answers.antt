use Rattle.std.proofs.Common.{◌≡◌, ◌+◌, ◌++◌, ◌<◌, ℕ, List, [], ◌∷◌, take, length, sym, ◌∙◌, ap, subst, arith}
use Rattle.std.specs.List.{All, Contains}
use Rattle.std.proofs.lemmas.Grind.{take_at_read}
use Rattle.std.proofs.lemmas.List.{take_all}
use Rattle.std.proofs.lemmas.List.Elements.{All-nil, All-cons, All-append}
use Rattle.statement.specs.Netlists.{Netlist, signals}
use Rattle.netlist.specs.Conditions.{IsSound}
use Rattle.netlist.proofs.Placed.{signal_below}
use Rattle.head_lines.specs.inner.Wanting.{IsHeadWant}
use Rattle.head_lines.proofs.Wanting.{no_head_wants, head_wants_kept}
use Rattle.head_lines.proofs.justify.want_heads.Goals as goal

pub loop-id-init : goal.loop-id-init
loop-id-init c = record {
  size = c.requires.start.size;
  heads = no_head_wants c.args.roles.now c.args.labels.now c.args.core.now c.args.wants.now.items c.args.queue.now.items c.requires.start;
  done = All-nil _;
}

pub want_head-requires-clause-within : goal.want_head-requires-clause-within
want_head-requires-clause-within c =
    subst (Contains (signals c.args.labels.now.netlist)) (sym c.id-item.is)
    ((c.trail-trail.ensures c.requires.possible).signals_are c.loop-id.id-index c.id-item.result c.loop-id-test.true)

pub loop-id-preserved : goal.loop-id-preserved
loop-id-preserved c =
    let roles = c.args.roles.now in
    let s = c.args.labels.now in
    let ids : List ℕ = c.trail-trail.result.now in
    let k : ℕ = c.loop-id.id-index in
    let x : ℕ = c.id-item.result in
    let new = c.want_head.new.wants.items in
    let more : take (k + 1) ids ≡ take k ids ++ x ∷ [] = (take_at_read ids k x c.loop-id-test.true).1 ∙ ap (λ y. take k ids ++ y ∷ []) (sym c.id-item.is) in
    record {
      size = c.in_ok-want_head.ensures.kept.size ∙ c.loop-id.invariant.size;
      heads = c.in_ok-want_head.ensures.heads;
      done = subst (All (IsHeadWant roles s new)) (sym more)
          (All-append (IsHeadWant roles s new) (take k ids) (x ∷ []) (head_wants_kept roles s c.loop-id.wants.items new (take k ids) c.in_ok-want_head.ensures.kept c.loop-id.invariant.done)
          (All-cons (IsHeadWant roles s new) x [] c.in_ok-want_head.ensures.here (All-nil _)));
    }

pub want_head-requires-clause-below : goal.want_head-requires-clause-below
want_head-requires-clause-below c =
    let n = c.args.core.now in
    let sound : IsSound n = subst IsSound c.netlist.ensures c.sound.ensures in
    let there = (c.trail-trail.ensures c.requires.possible).signals_are c.loop-id.id-index c.id-item.result c.loop-id-test.true in
    let inside : Contains (signals n) c.id-item.result =
    subst (λ (m : Netlist). Contains (signals m) c.id-item.result) c.requires.same (subst (Contains (signals c.args.labels.now.netlist)) (sym c.id-item.is) there) in
    let low = signal_below n sound.formed.numbered c.id-item.result inside in
    let e = c.requires.size in
    omega arith

pub returns-clause-all : goal.returns-clause-all
returns-clause-all c =
    let ids : List ℕ = c.trail-trail.result.now in (
      ids,
      c.trail-trail.ensures c.requires.possible,
      subst (All (IsHeadWant c.args.roles.now c.args.labels.now c.loop-id.wants.items)) (take_all c.loop-id.id-index ids (omega (arith, c.loop-id-test.false))) c.loop-id.invariant.done,
    )

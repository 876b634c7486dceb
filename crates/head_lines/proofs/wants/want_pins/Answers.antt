use Rattle.std.proofs.Common.{◌≡◌, ◌<◌, ℕ, List, [], length, get_or, refl, sym, ◌∙◌, ap, arith}
use Rattle.std.proofs.lemmas.List.{append-nil}
use Rattle.head_lines.specs.inner.Wanting.{want_at}
use Rattle.head_lines.proofs.Readers.{get_or_any}
use Rattle.head_lines.proofs.Wanting.{pins_on, pins_left, others_kept, longer_more}
use Rattle.head_lines.proofs.wants.want_pins.Goals as goal

pub loop-k-init : goal.loop-k-init
loop-k-init c = record {
  size = refl;
  pins_are = λ j l. absurd (omega arith);
  left = λ j m l. c.requires.none j l;
  others = λ x h. refl;
  queue = c.requires.queue;
  longer = ([], sym (append-nil c.args.queue.now.items));
}

pub want-requires-clause-below : goal.want-requires-clause-below
want-requires-clause-below c =
    let l = c.loop-k-test.true in
    let size = c.loop-k.invariant.size in
    let at : c.index-pins-k.result ≡ get_or c.args.pins.now c.loop-k.k 0 = c.index-pins-k.is ∙ get_or_any c.args.pins.now c.loop-k.k c.index-pins-k.result 0 l in
    let within = c.requires.below c.loop-k.k 0 l in
    omega arith

pub want-requires-clause-none : goal.want-requires-clause-none
want-requires-clause-none c =
    let l = c.loop-k-test.true in
    let at : c.index-pins-k.result ≡ get_or c.args.pins.now c.loop-k.k 0 = c.index-pins-k.is ∙ get_or_any c.args.pins.now c.loop-k.k c.index-pins-k.result 0 l in
    ap (want_at c.loop-k.wants.items) at ∙ c.loop-k.invariant.left c.loop-k.k (omega arith) l

pub loop-k-preserved : goal.loop-k-preserved
loop-k-preserved c =
    let pins : List ℕ = c.args.pins.now in
    let start = c.args.wants.now.items in
    let mid = c.loop-k.wants.items in
    let new = c.want.new.wants.items in
    let k : ℕ = c.loop-k.k in
    let x : ℕ = c.index-pins-k.result in
    let l : k < length pins = c.loop-k-test.true in
    let at : x ≡ get_or pins k 0 = c.index-pins-k.is ∙ get_or_any pins k x 0 l in
    let put = c.in_ok-want.ensures.put in
    record {
      size = put.size ∙ c.loop-k.invariant.size;
      pins_are = pins_on c.args.kind c.args.bit pins start mid new k x c.chosen.result c.requires.distinct l at c.chosen.ensures put c.loop-k.invariant.pins_are;
      left = pins_left c.args.kind c.args.bit pins start mid new k x c.chosen.result c.requires.distinct l at c.chosen.ensures put c.loop-k.invariant.left;
      others = others_kept c.args.kind c.args.bit pins start mid new k x c.chosen.result c.requires.distinct l at c.chosen.ensures put c.loop-k.invariant.others;
      queue = c.in_ok-want.ensures.queue;
      longer = longer_more c.args.queue.now.items c.loop-k.queue.items c.want.new.queue.items c.loop-k.invariant.longer c.in_ok-want.ensures.longer;
    }

use Rattle.std.proofs.Common.{◌≡◌, ℕ, ◌<◌, List, length, get_or, sym, ◌∙◌, ap, arith, Vec, Global}
use Rattle.std.proofs.lemmas.List.{get_or_default}
use Rattle.unknown_inputs.proofs.Making.{number_known, number_unknown}
use Rattle.unknown_inputs.proofs.inputs.push_numbers.Goals as goal
use Rattle.unknown_inputs.proofs.inputs.push_numbers.Goals.{then-is_unknown+in_ok-push, else-is_unknown+in_ok-push-2}

pub loop-k-preserved : goal.loop-k-preserved
loop-k-preserved c =
    let us = c.args.unknown.now in
    let xs : List ℕ = c.args.inputs.now in
    let k = c.loop-k.k in
    let d : ℕ = get_or xs k 0 in
    let l : k < length xs = c.loop-k-test.true in
    let is : get_or xs k d ≡ d = get_or_default xs k d 0 l in
    let invariant = c.loop-k.invariant in
    let few_known = invariant.few_known in
    let few_unknown = invariant.few_unknown in
    elim c.if-is_unknown.branch [
      | then-is_unknown+in_ok-push w ↦
          let p = w.next_known-is in
          let q = w.next_unknown-is in
          record {
            made = number_unknown us xs k c.loop-k.next_known c.loop-k.next_unknown c.loop-k.numbers.items c.if-is_unknown.numbers.items _ l invariant.made
                c.if-is_unknown.next_known c.if-is_unknown.next_unknown d (sym c.is_unknown.ensures ∙ w.if-is_unknown.true) is
                (ap (λ (v : Vec ℕ Global). v.items) w.numbers-is ∙ w.in_ok-push.ensures.items) p q;
            few_known = omega arith;
            few_unknown = omega arith;
          }
      | else-is_unknown+in_ok-push-2 w ↦
          let p = w.next_known-is in
          let q = w.next_unknown-is in
          record {
            made = number_known us xs k c.loop-k.next_known c.loop-k.next_unknown c.loop-k.numbers.items c.if-is_unknown.numbers.items _ l invariant.made
                c.if-is_unknown.next_known c.if-is_unknown.next_unknown d (sym c.is_unknown.ensures ∙ w.if-is_unknown.false) is
                (ap (λ (v : Vec ℕ Global). v.items) w.numbers-is ∙ w.in_ok-push-2.ensures.items) p q;
            few_known = omega arith;
            few_unknown = omega arith;
          }
    ]

use Rattle.std.proofs.Common.{◌≡◌, Bool, true, Some, sym, ◌∙◌, ap, subst}
use Rattle.head_lines.specs.HeadLines.{is_head_role, role_at}
use Rattle.head_lines.specs.inner.Wanting.{want_at, bit_of, IsWantPut}
use Rattle.head_lines.proofs.Wanting.{head_put, head_here, head_kept, not_head_want, kept_put}
use Rattle.head_lines.proofs.justify.want_head.Goals as goal

pub returns-then-not-is_head-clause-here : goal.returns-then-not-is_head-clause-here
returns-then-not-is_head-clause-here c =
    not_head_want c.args.roles.now c.args.labels.now c.args.wants.now.items c.args.id (sym c.is_head.ensures ∙ c.if-not-is_head.true)

pub returns-in_ok-want-in-None-clause-heads : goal.returns-in_ok-want-in-None-clause-heads
returns-in_ok-want-in-None-clause-heads c =
    let row = c.args.wants.now.items in
    let new = c.want.new.wants.items in
    let head : is_head_role (role_at c.args.roles.now c.args.id) ≡ true = sym c.is_head.ensures ∙ c.if-not-is_head.false in
    head_put c.args.roles.now c.args.labels.now row c.args.queue.now.items c.requires.heads c.args.id new c.want.new.queue.items c.good.result head c.good.ensures
    (subst (IsWantPut row new c.args.id) c.bit_of.ensures c.in_ok-want-in-None.ensures.put) c.in_ok-want-in-None.ensures.queue

pub returns-in_ok-want-in-None-clause-here : goal.returns-in_ok-want-in-None-clause-here
returns-in_ok-want-in-None-clause-here c =
    let row = c.args.wants.now.items in
    let new = c.want.new.wants.items in
    head_here c.args.roles.now c.args.labels.now row c.args.queue.now.items c.requires.heads c.args.id new c.good.result c.good.ensures
    (subst (IsWantPut row new c.args.id) c.bit_of.ensures c.in_ok-want-in-None.ensures.put)

pub returns-in_ok-want-in-None-clause-kept : goal.returns-in_ok-want-in-None-clause-kept
returns-in_ok-want-in-None-clause-kept c =
    let row = c.args.wants.now.items in
    let none = sym c.wanted.ensures ∙ c.in-None.is in
    kept_put row c.want.new.wants.items c.args.id c.bit_of.result (ap (λ r. want_at r c.args.id) (sym c.deref.ensures.value) ∙ none) c.in_ok-want-in-None.ensures.put

pub returns-in-Some-clause-here : goal.returns-in-Some-clause-here
returns-in-Some-clause-here c =
    let row = c.args.wants.now.items in
    let some : want_at row c.args.id ≡ Some c.in-Some.field-0 = ap (λ r. want_at r c.args.id) (sym c.deref.ensures.value) ∙ (sym c.wanted.ensures ∙ c.in-Some.is) in
    head_kept c.args.roles.now c.args.labels.now row c.args.queue.now.items c.requires.heads c.args.id c.in-Some.field-0 some

use Rattle.std.proofs.Common.{◌≡◌, ◌∙◌, List, ℕ, ap, sym, subst, length, get_or, arith}
use Rattle.std.proofs.lemmas.List.{get_or_default}
use Rattle.observed_points.specs.Points.{IsReadAt}
use Rattle.observed_points.proofs.ObservedPoints.{watched_count}
use Rattle.observed_points.proofs.PointTables.{output_inside, output_read, pin_inside, pin_read, pin_unread}
use Rattle.observed_points.proofs.points.Points.sole.Goals as goal

pub index-requires-in-Out : goal.index-requires-in-Out
index-requires-in-Out c =
    let low = output_inside c.args.netlist.now c.sound.ensures c.args.line.now c.in-Out.y c.in-Out.is c.requires.line in
    let i = c.index.ensures in
    let size = c.requires.points.first_is.size in
    let v = c.args.self.now.first.ok.0 in
    omega arith

pub index-number-requires : goal.index-number-requires
index-number-requires c =
    let low = pin_inside c.args.netlist.now c.sound.ensures c.args.self.now.numbers.items c.requires.points.numbers_are c.args.line.now c.in-Pin.z c.in-Pin.field-1 c.in-Pin.is c.requires.line in
    let i = c.index-in-Pin.ensures in
    let size = c.requires.points.numbers_are.size in
    let v = c.args.self.now.numbers.ok.0 in
    omega arith

pub returns-in-Out : goal.returns-in-Out
returns-in-Out c =
    let n = c.args.netlist.now in
    let first = c.args.self.now.first.items in
    let low = output_inside n c.sound.ensures c.args.line.now c.in-Out.y c.in-Out.is c.requires.line in
    let size = c.requires.points.first_is.size in
    let i = c.index.ensures in
    let is : c.index-in-Out.result.now ≡ get_or first c.in-Out.y 0 = c.index-in-Out.ensures ∙ (get_or_default first c.index.result c.index-in-Out.result.now 0 (omega arith) ∙ ap (λ k. get_or first k 0) c.index.ensures) in
    subst (IsReadAt n c.args.line.now) (sym is)
    (output_read n c.sound.ensures c.args.self.now.seen.items first c.args.line.now c.in-Out.y c.in-Out.is c.requires.line c.requires.points.seen_is c.requires.points.first_is)

pub returns-then-number-len : goal.returns-then-number-len
returns-then-number-len c =
    let n = c.args.netlist.now in
    let numbers = c.args.self.now.numbers.items in
    let low = pin_inside n c.sound.ensures numbers c.requires.points.numbers_are c.args.line.now c.in-Pin.z c.in-Pin.field-1 c.in-Pin.is c.requires.line in
    let size = c.requires.points.numbers_are.size in
    let i = c.index-in-Pin.ensures in
    let is : c.index-number.result.now ≡ get_or numbers c.in-Pin.z 0 = c.index-number.ensures ∙ (get_or_default numbers c.index-in-Pin.result c.index-number.result.now 0 (omega arith) ∙ ap (λ k. get_or numbers k 0) c.index-in-Pin.ensures) in
    let below = c.if-number-len.true in
    let count = c.len.ensures in
    let v = c.args.self.now.seen.ok.0 in
    let e = ap (λ (xs : List ℕ). length xs) c.requires.points.seen_is in
    let w = watched_count n c.sound.ensures in
    subst (IsReadAt n c.args.line.now) (sym is)
    (pin_read n c.sound.ensures numbers c.requires.points.numbers_are c.args.line.now c.in-Pin.z c.in-Pin.field-1 c.in-Pin.is c.requires.line (omega arith))

pub returns-else-number-len : goal.returns-else-number-len
returns-else-number-len c =
    let n = c.args.netlist.now in
    let numbers = c.args.self.now.numbers.items in
    let low = pin_inside n c.sound.ensures numbers c.requires.points.numbers_are c.args.line.now c.in-Pin.z c.in-Pin.field-1 c.in-Pin.is c.requires.line in
    let size = c.requires.points.numbers_are.size in
    let i = c.index-in-Pin.ensures in
    let is : c.index-number.result.now ≡ get_or numbers c.in-Pin.z 0 = c.index-number.ensures ∙ (get_or_default numbers c.index-in-Pin.result c.index-number.result.now 0 (omega arith) ∙ ap (λ k. get_or numbers k 0) c.index-in-Pin.ensures) in
    let high = c.if-number-len.false in
    let count = c.len.ensures in
    let v = c.args.self.now.seen.ok.0 in
    let e = ap (λ (xs : List ℕ). length xs) c.requires.points.seen_is in
    let w = watched_count n c.sound.ensures in
    pin_unread n c.sound.ensures numbers c.requires.points.numbers_are c.args.line.now c.in-Pin.z c.in-Pin.field-1 c.in-Pin.is c.requires.line (omega arith)

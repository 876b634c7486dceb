use Rattle.std.proofs.Common.{ℕ, List, length, ◌≡◌, ◌-◌, get_or, sym, ◌∙◌, ap, subst, arith}
use Rattle.std.specs.List.{Contains}
use Rattle.std.proofs.lemmas.List.{get_or_read}
use Rattle.scan_insert.specs.declared.chains.Chains.TheInside.{Inside}
use Rattle.scan_insert.specs.Chains.{chains_of}
use Rattle.statement.specs.Tests.{cells_of, IsAt}
use Rattle.scan_insert.specs.inner.Places.{AreDealt, IsPlaced}
use Rattle.scan_insert.proofs.Dealing.{IsFound, found, is_at}
use Rattle.scan_insert.proofs.chains.Chains.place.Goals as goal

here : (a : Inside) (now : List (List ℕ)) (cell : ℕ) → AreDealt a.cells.items a.count a.table.least a.table.places.items
    → chains_of a.cells.items a.count ≡ now → Contains (cells_of now) cell → IsFound a.cells.items a.table.places.items a.table.least cell
here a now cell dealt view_is c =
    found a.cells.items a.table.places.items a.count a.table.least cell dealt
    (subst (λ (v : List (List ℕ)). Contains (cells_of v) cell) (sym view_is) c)

pub overflow_sub-above : goal.overflow_sub-above
overflow_sub-above c =
    let f = here c.self.inside c.args.self.now c.args.cell c.self.invariant c.self.view_is c.requires in
    omega (arith, f.above)

pub index-requires-2 : goal.index-requires-2
index-requires-2 c =
    let f = here c.self.inside c.args.self.now c.args.cell c.self.invariant c.self.view_is c.requires in
    let same = c.index.ensures in
    rw same (omega (arith, f.in_table, c.self.inside.table.places.ok.0))

told : (a : Inside) (cell above read : ℕ) (f : IsFound a.cells.items a.table.places.items a.table.least cell) → above ≡ cell
    → read ≡ get_or a.table.places.items (above - a.table.least) read → read ≡ f.at
told a cell above read f same e =
    let e0 : read ≡ get_or a.table.places.items (cell - a.table.least) read = e ∙ ap (λ x. get_or a.table.places.items (x - a.table.least) read) same in
    get_or_read a.table.places.items (cell - a.table.least) read f.in_table e0 0 ∙ f.told

pub place_of-requires-clause-within : goal.place_of-requires-clause-within
place_of-requires-clause-within c =
    let f = here c.self.inside c.args.self.now c.args.cell c.self.invariant c.self.view_is c.requires in
    let t = told c.self.inside c.args.cell c.index.result c.index-2.result.now f c.index.ensures c.index-2.ensures in
    omega (arith, f.within, c.self.inside.cells.ok.0)

pub returns : goal.returns
returns c =
    let a = c.self.inside in
    let f = here a c.args.self.now c.args.cell c.self.invariant c.self.view_is c.requires in
    let t = told a c.args.cell c.index.result c.index-2.result.now f c.index.ensures c.index-2.ensures in
    let size : c.len.result ≡ length a.cells.items = c.len.ensures ∙ a.cells.ok.0 in
    let placed : IsPlaced (length a.cells.items) a.count c.index-2.result.now c.place_of.result.0 c.place_of.result.1 =
    subst (λ n. IsPlaced n a.count c.index-2.result.now c.place_of.result.0 c.place_of.result.1) size c.place_of.ensures in
    let same : get_or a.cells.items c.index-2.result.now 0 ≡ c.args.cell = ap (λ k. get_or a.cells.items k 0) t ∙ f.is_cell in
    subst (λ (v : List (List ℕ)). IsAt v c.args.cell c.place_of.result.0 c.place_of.result.1) c.self.view_is
    (is_at a.cells.items a.count c.index-2.result.now c.place_of.result.0 c.place_of.result.1 c.args.cell c.self.invariant.enough (omega (arith, f.within)) same placed)

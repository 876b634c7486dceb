use Rattle.std.proofs.Common.{◌≡◌, ◌≢◌, ◌<◌, ℕ, Bool, true, List, length, refl, ap, sym, ◌∙◌, subst}
use Rattle.std.specs.List.{All, AllPairs, Contains}
use Rattle.netlist.proofs.Settling.{cells_below}
use Rattle.cell_order.specs.inner.Reads.{AreMarked, IsFirstUnmarked, is_marked}
use Rattle.cell_order.proofs.NameLemmas.{order_below}
use Rattle.cell_order.proofs.WholeLemmas.{all_marked, left_out}
use Rattle.cell_order.proofs.reading.complete.Goals as goal

pub first_twice-requires : goal.first_twice-requires
first_twice-requires c =
    subst (All (λ x. x < c.args.bound)) (sym c.as_slice.ensures.value) (order_below c.args.netlist.now c.sound.ensures c.args.order.items c.args.bound c.requires.bound c.requires.cells)

pub marks_of-requires : goal.marks_of-requires
marks_of-requires c =
    subst (All (λ x. x < c.args.bound)) (sym c.as_slice-2.ensures.value) (order_below c.args.netlist.now c.sound.ensures c.args.order.items c.args.bound c.requires.bound c.requires.cells)

pub first_unmarked-requires : goal.first_unmarked-requires
first_unmarked-requires c =
    cells_below c.args.netlist.now c.sound.ensures.formed.numbered c.cells.result.now (length c.as_slice-3.result.now) c.cells.ensures
    (ap (λ (ms : List Bool). length ms) c.as_slice-3.ensures.value ∙ (c.in-Ok.ensures.size ∙ c.requires.bound))

pub returns-in-Some : goal.returns-in-Some
returns-in-Some c = (
  subst (AllPairs (λ x y. x ≢ y)) c.as_slice.ensures.value (rw c.in-Ok-None.field-0-is at c.in-Ok-None.ensures),
  left_out c.args.netlist.now c.args.order.items c.cells.result.now c.in-Ok.marks.items c.in-Some.number c.cells.ensures
      (subst (λ (done : List ℕ). AreMarked done c.in-Ok.marks.items) c.as_slice-2.ensures.value c.in-Ok.ensures.marks)
      (subst (λ (ms : List Bool). IsFirstUnmarked c.cells.result.now ms c.in-Some.number) c.as_slice-3.ensures.value c.in-Some.ensures),
)

pub returns-in-None : goal.returns-in-None
returns-in-None c = (
  refl,
  record {
    once = subst (AllPairs (λ x y. x ≢ y)) c.as_slice.ensures.value (rw c.in-Ok-None.field-0-is at c.in-Ok-None.ensures);
    all = subst (λ (xs : List ℕ). All (Contains c.args.order.items) xs) c.cells.ensures
        (all_marked c.cells.result.now c.args.order.items c.in-Ok.marks.items
        (subst (λ (done : List ℕ). AreMarked done c.in-Ok.marks.items) c.as_slice-2.ensures.value c.in-Ok.ensures.marks)
        (subst (λ (ms : List Bool). All (λ x. is_marked ms x ≡ true) c.cells.result.now) c.as_slice-3.ensures.value c.in-None.ensures));
  },
)

use Rattle.std.proofs.Common.{◌≡◌, ℕ, true, List, Bool, ap, sym, subst}
use Rattle.std.proofs.lemmas.Result.{on_ok_weaker}
use Rattle.refutation.specs.Cones.{Enters}
use Rattle.refutation_check.specs.inner.Marks.{marked, is_marked}
use Rattle.refutation_check.proofs.MarkLemmas.{cone_from, one_marked, none_marked}
use Rattle.refutation_check.proofs.cones.reach.Goals as goal
use Rattle.refutation_check.proofs.cones.reach.Goals.{in-Some+in_ok-mark, in_default}

pub returns-clause-cone : goal.returns-clause-cone
returns-clause-cone c =
    let n = c.args.netlist.now in
    let line = c.args.line.now in
    let none = marked c.args.marks.now.items c.args.list.now.items in
    let one = marked c.match-entry.marks.items c.match-entry.list.items in
    let there : ((x : ℕ) → Enters n line x → is_marked one.marks x ≡ true) × ((x : ℕ) → is_marked one.marks x ≡ true → Enters n line x) =
    elim c.match-entry.branch [
      | in-Some+in_ok-mark w ↦
          subst (λ (marks : List Bool). ((x : ℕ) → Enters n line x → is_marked marks x ≡ true) × ((x : ℕ) → is_marked marks x ≡ true → Enters n line x)) (ap (λ v. v.items) (sym w.marks-is))
          (one_marked n line w.in-Some.id none (marked w.mark.new.marks.items w.mark.new.list.items) c.requires.clear w.in-Some.ensures.0 w.in_ok-mark.ensures.here w.in_ok-mark.ensures.spreads)
      | in_default w ↦
          subst (λ (marks : List Bool). ((x : ℕ) → Enters n line x → is_marked marks x ≡ true) × ((x : ℕ) → is_marked marks x ≡ true → Enters n line x)) (ap (λ v. v.items) (sym w.marks-is))
          (none_marked n line none c.requires.clear w.in_default.ensures)
    ] in
    on_ok_weaker c.spread.result (λ passed. cone_from n line one (marked c.spread.new.marks.items c.spread.new.list.items) there.0 there.1 c.spread.ensures.kept c.spread.ensures.least
    c.spread.ensures.listed passed) c.spread.ensures.passed

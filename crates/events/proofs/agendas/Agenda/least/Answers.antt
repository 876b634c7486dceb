use Rattle.std.proofs.Common.{◌≡◌, ◌<◌, ℕ, Bool, List, sym, subst, length, get_or}
use Rattle.events.specs.Agendas.{IsFirst, AreClear}
use Rattle.events.specs.inner.Bitmaps.{IsFirstWord, IsLeastIn}
use Rattle.events.proofs.Levels.{first_is, clear_is, up_some, some_within}
use Rattle.events.proofs.agendas.Agenda.least.Goals as goal

pub least_in-word-requires-clause-within : goal.least_in-word-requires-clause-within
least_in-word-requires-clause-within c =
    let a = subst (λ (xs : List ℕ). IsLeastIn xs c.in-Some.first c.least_in-high.result) c.deref-2.ensures.value c.least_in-high.ensures in
    let m = c.self.inside.middle.items in
    let l = some_within m c.least_in-high.result (up_some c.self.inside.coarse.items m c.self.invariant.coarse_is c.least_in-high.result a.has) in
    subst (λ (xs : List ℕ). c.least_in-high.result < length xs) (sym c.deref-3.ensures.value) l

pub least_in-requires-clause-within : goal.least_in-requires-clause-within
least_in-requires-clause-within c =
    let a = subst (λ (xs : List ℕ). IsLeastIn xs c.least_in-high.result c.least_in-word.result) c.deref-3.ensures.value c.least_in-word.ensures in
    let f = c.self.inside.fine.items in
    let l = some_within f c.least_in-word.result (up_some c.self.inside.middle.items f c.self.invariant.middle_is c.least_in-word.result a.has) in
    subst (λ (xs : List ℕ). c.least_in-word.result < length xs) (sym c.deref-4.ensures.value) l

pub returns-in_default : goal.returns-in_default
returns-in_default c =
    let clear = clear_is c.self.inside.bound c.self.inside.fine.items c.self.inside.middle.items c.self.inside.coarse.items c.self.invariant
    (subst (λ (xs : List ℕ). (w : ℕ) → get_or xs w 0 ≡ 0) c.deref.ensures.value c.in_default.ensures) in
    subst AreClear c.self.view_is clear

pub returns : goal.returns
returns c =
    let first : IsFirstWord c.deref.result.now c.in-Some.first = c.in-Some.ensures in
    subst (λ (marks : List Bool). IsFirst marks c.least_in.result) c.self.view_is
    (first_is c.self.inside.bound c.self.inside.fine.items c.self.inside.middle.items c.self.inside.coarse.items c.in-Some.first c.least_in-high.result c.least_in-word.result c.least_in.result
    c.self.invariant
    (subst (λ (xs : List ℕ). IsFirstWord xs c.in-Some.first) c.deref.ensures.value first)
    (subst (λ (xs : List ℕ). IsLeastIn xs c.in-Some.first c.least_in-high.result) c.deref-2.ensures.value c.least_in-high.ensures)
    (subst (λ (xs : List ℕ). IsLeastIn xs c.least_in-high.result c.least_in-word.result) c.deref-3.ensures.value c.least_in-word.ensures)
    (subst (λ (xs : List ℕ). IsLeastIn xs c.least_in-word.result c.least_in.result) c.deref-4.ensures.value c.least_in.ensures))

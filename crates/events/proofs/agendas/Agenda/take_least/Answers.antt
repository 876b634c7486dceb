use Rattle.std.proofs.Common.{◌≡◌, ◌<◌, ◌∙◌, ℕ, Bool, List, ap, sym, subst, length, false, set, get_or}
use Rattle.events.specs.Agendas.{IsFirst, AreClear}
use Rattle.events.specs.inner.Bitmaps.{IsFirstWord, IsLeastIn}
use Rattle.events.proofs.Levels.{first_is, clear_is, taken_marks, up_some, some_within}
use Rattle.events.proofs.agendas.Agenda.take_least.Goals as goal

pub least_in-word-requires-clause-within : goal.least_in-word-requires-clause-within
least_in-word-requires-clause-within c =
    let a = subst (λ (xs : List ℕ). IsLeastIn xs c.in-Some.first c.least_in-high.result) c.deref-2.ensures.value c.least_in-high.ensures in
    let m = c.self.inside.middle.items in
    let l = some_within m c.least_in-high.result (up_some c.self.inside.coarse.items m c.self.invariant.coarse_is c.least_in-high.result a.has) in
    subst (λ (xs : List ℕ). c.least_in-high.result < length xs) (sym c.deref-3.ensures.value) l

pub least_in-place-requires-clause-within : goal.least_in-place-requires-clause-within
least_in-place-requires-clause-within c =
    let a = subst (λ (xs : List ℕ). IsLeastIn xs c.least_in-high.result c.least_in-word.result) c.deref-3.ensures.value c.least_in-word.ensures in
    let f = c.self.inside.fine.items in
    let l = some_within f c.least_in-word.result (up_some c.self.inside.middle.items f c.self.invariant.middle_is c.least_in-word.result a.has) in
    subst (λ (xs : List ℕ). c.least_in-word.result < length xs) (sym c.deref-4.ensures.value) l

pub returns-in_default-clause-least : goal.returns-in_default-clause-least
returns-in_default-clause-least c =
    let clear = clear_is c.self.inside.bound c.self.inside.fine.items c.self.inside.middle.items c.self.inside.coarse.items c.self.invariant
    (subst (λ (xs : List ℕ). (w : ℕ) → get_or xs w 0 ≡ 0) c.deref.ensures.value c.in_default.ensures) in
    subst AreClear c.self.view_is clear

pub returns-clause-least : goal.returns-clause-least
returns-clause-least c =
    let first : IsFirstWord c.deref.result.now c.in-Some.first = c.in-Some.ensures in
    subst (λ (marks : List Bool). IsFirst marks c.least_in-place.result) c.self.view_is
    (first_is c.self.inside.bound c.self.inside.fine.items c.self.inside.middle.items c.self.inside.coarse.items c.in-Some.first c.least_in-high.result c.least_in-word.result c.least_in-place.result
    c.self.invariant
    (subst (λ (xs : List ℕ). IsFirstWord xs c.in-Some.first) c.deref.ensures.value first)
    (subst (λ (xs : List ℕ). IsLeastIn xs c.in-Some.first c.least_in-high.result) c.deref-2.ensures.value c.least_in-high.ensures)
    (subst (λ (xs : List ℕ). IsLeastIn xs c.least_in-high.result c.least_in-word.result) c.deref-3.ensures.value c.least_in-word.ensures)
    (subst (λ (xs : List ℕ). IsLeastIn xs c.least_in-word.result c.least_in-place.result) c.deref-4.ensures.value c.least_in-place.ensures))

pub returns-clause-taken : goal.returns-clause-taken
returns-clause-taken c =
    let a = subst (λ (xs : List ℕ). IsLeastIn xs c.least_in-word.result c.least_in-place.result) c.deref-4.ensures.value c.least_in-place.ensures in
    taken_marks c.self.inside.fine.items c.take_out.new.words.items c.self.inside.bound c.least_in-place.result
    (c.self.invariant.within c.least_in-place.result a.has) c.take_out.ensures
    ∙ ap (λ (xs : List Bool). set xs c.least_in-place.result false) c.self.view_is

use Rattle.std.proofs.Common.{◌≡◌, ℕ, ◌<◌, Bool, List, Option, length, get_or, false, ◌∙◌, ap, subst, arith, refl, vec_len}
use Rattle.std.specs.Prelude.{IfSome}
use Rattle.std.specs.List.{All}
use Rattle.statement.specs.declared.lines.Point.{Point}
use Rattle.list_core.specs.Kept.{is_last_at}
use Rattle.list_core.proofs.FinishLemmas.{are_finished, places_of_last, kept_of_last}
use Rattle.list_core.proofs.compaction.compact.Goals as goal

pub needed-requires : goal.needed-requires
needed-requires c =
    let ls = c.args.last.now in
    let size : vec_len c.args.patterns ≡ c.len.result = omega (arith, c.len.ensures) in
    let P : ℕ → Type 0 = λ k. All (λ (l : Option (ℕ × Point)). IfSome l (λ p. p.0 < k)) ls in
    subst P size c.requires.within

pub rename-requires-clause-within : goal.rename-requires-clause-within
rename-requires-clause-within c =
    let ls = c.args.last.now in
    let size : vec_len c.args.patterns ≡ length c.deref-2.result.now =
    omega (arith, c.len.ensures, c.in_ok-marks.ensures.size, ap length c.deref.ensures.value, c.in_ok-places.ensures.size, ap length c.deref-2.ensures.value) in
    let P : ℕ → Type 0 = λ k. All (λ (l : Option (ℕ × Point)). IfSome l (λ p. p.0 < k)) ls in
    subst P size c.requires.within

pub returns : goal.returns
returns c = λ n faults are.
    let ls = c.args.last.now in
    let seen = c.deref.result.now in
    let left = c.deref-3.result.now in
    let same : (k : ℕ) → get_or seen k false ≡ is_last_at ls k = (λ k. ap (λ (ms : List Bool). get_or ms k false) c.deref.ensures.value ∙ c.in_ok-marks.ensures.marks k) in
    let same_left : (k : ℕ) → get_or left k false ≡ is_last_at ls k = (λ k. ap (λ (ms : List Bool). get_or ms k false) c.deref-3.ensures.value ∙ c.in_ok-marks.ensures.marks k) in
    let size : length seen ≡ length c.deref-2.result.now = omega (arith, c.in_ok-places.ensures.size, ap length c.deref-2.ensures.value) in
    let places = places_of_last ls seen c.deref-2.result.now (length seen) same size
    (λ k lt. ap (λ (ps : List ℕ). get_or ps k 0) c.deref-2.ensures.value ∙ c.in_ok-places.ensures.each k lt) in
    are_finished n faults c.args.patterns.items ls c.args.verdicts.items c.rename.new.verdicts.items c.in_ok-patterns.patterns.items are (omega (arith, c.requires.size, c.args.verdicts.ok.0))
    (c.rename.ensures (is_last_at ls) places)
    (kept_of_last ls left c.args.patterns.items c.args.patterns.items c.in_ok-patterns.patterns.items same_left refl c.in_ok-patterns.ensures)

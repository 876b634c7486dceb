use Rattle.std.proofs.Common.{refl, ap, ◌∙◌}
use Rattle.bench_text.specs.inner.Numbered.{with_role}
use Rattle.bench_text.proofs.SeenLemmas.{draft-seen, number-keeps, entries-kept}
use Rattle.bench_text.proofs.draft.Draft.number.Goals as goal

pub invariant_of-self-2 : goal.invariant_of-self-2
invariant_of-self-2 c =
    let roles = c.see.ensures ∙ ap (λ l. with_role l c.in_ok-number.number) c.reserve.ensures.items in
    record { sound = draft-seen _ _ _ _ _ _ _ _ _ _ c.args.self.now.sound c.in_ok-number.ensures.number c.in_ok-number.ensures.distinct roles }

pub returns-clause-keeps : goal.returns-clause-keeps
returns-clause-keeps c =
    let kept = number-keeps _ _ _ _ c.in_ok-number.ensures.number in
    record {
      said = entries-kept _ _ kept c.args.self.now.entries.items c.args.self.now.sound.below;
      lines = refl;
      names = kept;
    }

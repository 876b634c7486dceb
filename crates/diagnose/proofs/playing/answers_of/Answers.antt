use Rattle.std.proofs.Common.{◌≡◌, ◌∙◌, ap, length, drop, subst, sym, arith}
use Rattle.std.proofs.lemmas.List.{length-replicate}
use Rattle.diagnose.specs.declared.answers.Answer.TheVariants.{Open}
use Rattle.diagnose.specs.inner.Answers.{AreAnswers}
use Rattle.diagnose.specs.inner.Marked.{marked_in}
use Rattle.diagnose.proofs.Batches.{are_answers, take_front}
use Rattle.diagnose.proofs.playing.answers_of.Goals as goal

pub returns : goal.returns
returns g c =
    let d = c.args.design.now in
    let marked = marked_in c.args.marks.now in
    let cycles = c.args.vectors.now in
    let representatives = d.classes.now.representatives in
    let sites = d.scanned.now.sites in
    let new = c.play_all.new.answers in
    let made = c.in_ok-answers.answers in
    let opened = ap length c.in_ok-answers.ensures in
    let count = length-replicate c.count.result Open in
    let classes = c.count.ensures in
    let slice = ap length c.as_mut_slice.ensures.value in
    let kept = c.play_all.ensures.size in
    let stored = made.ok.0 in
    let size : length new ≡ length representatives = omega arith in
    subst (λ xs. AreAnswers marked d.core.now sites cycles representatives xs) (sym (take_front new (drop (length new) made.items) made.len (omega arith)))
    (are_answers marked d.core.now cycles sites representatives c.as_slice.result.now new size (c.as_slice.ensures.value ∙ c.in_ok-suspects.ensures) c.play_all.ensures.new)

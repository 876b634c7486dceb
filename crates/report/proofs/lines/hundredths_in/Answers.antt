use Rattle.std.proofs.Common.{◌≡◌, ◌*◌, ◌+◌, ℕ, ap, sym, subst, ◌∙◌}
use Rattle.report.specs.Texts.{hundredths}
use Rattle.report.specs.Beginnings.{IsShare}
use Rattle.report.proofs.NumberLemmas.{no_digits, no_point, no_whole, share_found}
use Rattle.report.proofs.lines.hundredths_in.Goals as goal

pub returns-in_err-front : goal.returns-in_err-front
returns-in_err-front c = rw c.from_residual.ensures (no_point c.args.text.now c.in_err-front.ensures)

pub returns-in_err-whole : goal.returns-in_err-whole
returns-in_err-whole c =
    rw c.from_residual-in_err-whole.ensures
    (no_whole c.args.text.now c.in_ok-front.front.now c.in_ok-front.digits.now c.in_ok-front.ensures.0 c.in_ok-front.ensures.1 c.in_err-whole.ensures.cases)

pub returns-in_err-part : goal.returns-in_err-part
returns-in_err-part c =
    rw c.from_residual-in_err-part.ensures
    (no_digits c.args.text.now c.in_ok-front.front.now c.in_ok-front.digits.now c.in_ok-front.ensures.0 c.in_ok-front.ensures.1 c.in_err-part.ensures)

pub returns : goal.returns
returns c =
    let same : c.from.result * 100 + c.from-2.result ≡ c.in_ok-whole.whole * 100 + c.in_ok-part.part =
    ap (λ k. k * 100 + c.from-2.result) c.from.ensures ∙ ap (λ k. c.in_ok-whole.whole * 100 + k) c.from-2.ensures in
    subst (λ (k : ℕ). IsShare k × (c.args.text.now ≡ hundredths k)) (sym same)
    (share_found c.args.text.now c.in_ok-front.front.now c.in_ok-front.digits.now c.in_ok-front.ensures.0 c.in_ok-front.ensures.1 c.in_ok-whole.whole c.in_ok-part.part
    c.in_ok-whole.ensures.within c.in_ok-part.ensures.0 c.in_ok-whole.ensures.cases c.in_ok-part.ensures.1)

use Rattle.std.proofs.Common.{◌≡◌, ◌++◌, ◌∙◌, ℕ, List, ap, sym, subst, OnOk}
use Rattle.report.specs.inner.Versions.{version_line}
use Rattle.report.proofs.VersionLemmas.{head_is}
use Rattle.report.proofs.writing.push_head.Goals as goal

pub returns : goal.returns
returns c =
    subst (λ (t : List ℕ). OnOk c.push.result (c.push.new.out.items ≡ c.args.out.now.items ++ t))
    (c.line.ensures ∙ (ap version_line c.version_of.ensures ∙ sym (head_is c.args.most c.args.unasked c.args.holds.now))) c.push.ensures

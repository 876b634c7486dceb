-- The text of a report of transition faults, part by part.
use Rattle.std.proofs.Common.{◌≡◌, ℕ, Bool, List, ◌++◌, refl, sym, ◌∙◌, ap, codes}
use Rattle.statement.specs.Reports.{Line}
use Rattle.report.specs.declared.counts.ReportCounts.{ReportCounts}
use Rattle.report.specs.Beginnings.{Begins, IsShare}
use Rattle.report.specs.Counts.{AreAllAsked}
use Rattle.report.specs.Reports.{Hold}
use Rattle.report.specs.Texts.{counts_text, share_line}
use Rattle.report.proofs.CountLemmas.{asked_told}
use Rattle.report.proofs.NumberLemmas.{share_told}
use Rattle.transition_report.specs.declared.reporting.TransitionReport.{TransitionReport}
use Rattle.transition_report.specs.Texts.{transition_report_text}
use Rattle.transition_report.specs.Reading.{IsTransitionReport}
use Rattle.transition_report.specs.inner.Tables.{AreTables, any_held, head_line, tables_text}
use Rattle.transition_report.proofs.TableTexts.{head_is, head_told, same_tables}

-- what stands behind each part
abbrev pub behind_shares : TransitionReport → List ℕ
behind_shares r = tables_text r.holds r.lines

abbrev pub behind_coverage : TransitionReport → List ℕ
behind_coverage r = share_line (codes "efficiency ") r.efficiency ++ behind_shares r

abbrev pub behind_counts : TransitionReport → List ℕ
behind_counts r = share_line (codes "coverage ") r.coverage ++ behind_coverage r

abbrev pub behind_head : TransitionReport → List ℕ
behind_head r = counts_text r.counts ++ behind_counts r

pub text_is : (r : TransitionReport) → transition_report_text r ≡ head_line (any_held r.holds) ++ behind_head r
text_is r = ap (λ h. h ++ behind_head r) (head_is r.holds)

tables_are : (r : TransitionReport) → IsTransitionReport r → AreTables (any_held r.holds) r.holds r.lines
tables_are r v = record { holds = v.holds; lines = v.lines; told = refl }

module _ (r : TransitionReport) where
  pub after_head : (bytes rest : List ℕ) (held : Bool) → bytes ≡ transition_report_text r → bytes ≡ head_line held ++ rest → (held ≡ any_held r.holds) × (rest ≡ behind_head r)
  after_head bytes rest held e is = head_told held (any_held r.holds) rest (behind_head r) (sym is ∙ (e ∙ text_is r))

  module _ (v : IsTransitionReport r) (text rest : List ℕ) where
    pub after_counts : (c : ReportCounts) → text ≡ behind_head r → Begins AreAllAsked counts_text text c rest → (c ≡ r.counts) × (rest ≡ behind_counts r)
    after_counts c e is = asked_told c r.counts rest (behind_counts r) is.0 v.counts (sym is.1 ∙ e)

    pub after_coverage : (n : ℕ) → text ≡ behind_counts r → Begins IsShare (share_line (codes "coverage ")) text n rest → (n ≡ r.coverage) × (rest ≡ behind_coverage r)
    after_coverage n e is = share_told (codes "coverage ") n r.coverage rest (behind_coverage r) is.0 v.coverage (sym is.1 ∙ e)

    pub after_efficiency : (n : ℕ) → text ≡ behind_coverage r → Begins IsShare (share_line (codes "efficiency ")) text n rest → (n ≡ r.efficiency) × (rest ≡ behind_shares r)
    after_efficiency n e is = share_told (codes "efficiency ") n r.efficiency rest (behind_shares r) is.0 v.efficiency (sym is.1 ∙ e)

-- at most one report has a given text
pub same_report : (r s : TransitionReport) → IsTransitionReport r → IsTransitionReport s → transition_report_text r ≡ transition_report_text s → r ≡ s
same_report r s v w e =
    let heads = after_head s (transition_report_text r) (behind_head r) (any_held r.holds) e (text_is r) in
    let counts = after_counts s w (behind_head r) (behind_counts r) r.counts heads.1 (v.counts, refl) in
    let coverage = after_coverage s w (behind_counts r) (behind_coverage r) r.coverage counts.1 (v.coverage, refl) in
    let efficiency = after_efficiency s w (behind_coverage r) (behind_shares r) r.efficiency coverage.1 (v.efficiency, refl) in
    let tables = same_tables (any_held r.holds) (any_held s.holds) r.holds s.holds r.lines s.lines (tables_are r v) (tables_are s w) efficiency.1 in
    ap (λ (k : ReportCounts). record { counts = k; coverage = r.coverage; efficiency = r.efficiency; holds = r.holds; lines = r.lines }) counts.0
    ∙ (ap (λ (k : ℕ). record { counts = s.counts; coverage = k; efficiency = r.efficiency; holds = r.holds; lines = r.lines }) coverage.0
    ∙ (ap (λ (k : ℕ). record { counts = s.counts; coverage = s.coverage; efficiency = k; holds = r.holds; lines = r.lines }) efficiency.0
    ∙ (ap (λ (hs : List Hold). record { counts = s.counts; coverage = s.coverage; efficiency = s.efficiency; holds = hs; lines = r.lines }) tables.0
    ∙ ap (λ (ls : List Line). record { counts = s.counts; coverage = s.coverage; efficiency = s.efficiency; holds = s.holds; lines = ls }) tables.1)))

-- what was read part by part is a report with this text
pub report_found : (bytes a b c d : List ℕ) (held : Bool) (counts : ReportCounts) (coverage efficiency : ℕ) (hs : List Hold) (ls : List Line)
    → bytes ≡ head_line held ++ a → Begins AreAllAsked counts_text a counts b → Begins IsShare (share_line (codes "coverage ")) b coverage c
    → Begins IsShare (share_line (codes "efficiency ")) c efficiency d → AreTables held hs ls × (d ≡ tables_text hs ls)
    → IsTransitionReport (record { counts = counts; coverage = coverage; efficiency = efficiency; holds = hs; lines = ls })
    × (bytes ≡ transition_report_text (record { counts = counts; coverage = coverage; efficiency = efficiency; holds = hs; lines = ls }))
report_found bytes a b c d held counts coverage efficiency hs ls head p q r t =
    let said : TransitionReport = record { counts = counts; coverage = coverage; efficiency = efficiency; holds = hs; lines = ls } in (
      record { counts = p.0; coverage = q.0; efficiency = r.0; holds = t.0.holds; lines = t.0.lines },
      head ∙ (ap (λ b. head_line b ++ a) (sym t.0.told)
          ∙ (ap (λ u. head_line (any_held hs) ++ u) (p.1 ∙ ap (λ u. counts_text counts ++ u)
          (q.1 ∙ ap (λ u. share_line (codes "coverage ") coverage ++ u) (r.1 ∙ ap (λ u. share_line (codes "efficiency ") efficiency ++ u) t.1)))
          ∙ sym (text_is said))),
    )

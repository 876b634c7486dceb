-- The text of a report, part by part.
use Rattle.std.proofs.Common.{◌≡◌, ◌≢◌, ℕ, List, [], ◌∷◌, ◌++◌, get_or, refl, sym, ◌∙◌, ap, codes, arith}
use Rattle.std.specs.List.{All, flat_map}
use Rattle.std.proofs.lemmas.List.{append_cancel_left}
use Rattle.report.specs.Beginnings.{Begins, NoneBegins, IsCount}
use Rattle.report.specs.Reports.{Hold, IsBenchWord}
use Rattle.report.specs.Texts.{hold_line}
use Rattle.report.specs.inner.Lines.{IsHold}
use Rattle.report.proofs.HoldLemmas.{hold_told}
use Rattle.report.proofs.LineLemmas.{same_lines}
use Rattle.unknown_report.specs.declared.claims.ClaimCounts.{ClaimCounts}
use Rattle.unknown_report.specs.declared.reports.UnknownReport.{UnknownReport}
use Rattle.unknown_report.specs.Reports.{AreSmallClaims, IsLine, IsUnknownReport, chains_line, counts_line, ended, unknown_line, unknown_report_text}
use Rattle.unknown_report.specs.inner.Parts.{AreRead}
use Rattle.unknown_report.proofs.CountTexts.{counts_told}
use Rattle.unknown_report.proofs.EndedLines.{same_texts}
use Rattle.unknown_report.proofs.NumberTexts.{number_told}
use Rattle.unknown_report.proofs.UnknownTexts.{unknown_told}

abbrev head_text : List ℕ
head_text = codes "atpg unknown report 1\n"

-- what stands behind each part
abbrev pub behind_counts : UnknownReport → List ℕ
behind_counts r = flat_map ended r.lines

abbrev pub behind_holds : UnknownReport → List ℕ
behind_holds r = counts_line r.counts ++ behind_counts r

abbrev pub behind_unknown : UnknownReport → List ℕ
behind_unknown r = flat_map hold_line r.holds ++ behind_holds r

abbrev pub behind_chains : UnknownReport → List ℕ
behind_chains r = flat_map unknown_line r.unknown ++ behind_unknown r

abbrev pub behind_head : UnknownReport → List ℕ
behind_head r = chains_line r.chains ++ behind_chains r

-- ---- the counts are no line of an input, and a held one is no unknown one

no_hold : (r : UnknownReport) → NoneBegins IsHold hold_line (behind_holds r)
no_hold r h rest v e = let differ : ◌≡◌ {A = ℕ} 102 104 = ap (λ zs. get_or zs 0 0) e in absurd (omega arith)

no_unknown_by : (counts : List ℕ) (hs : List Hold) → get_or counts 0 0 ≡ 102 → NoneBegins IsBenchWord unknown_line (flat_map hold_line hs ++ counts)
no_unknown_by counts [] first name rest v e = let differ : ◌≡◌ {A = ℕ} 102 117 = sym first ∙ ap (λ zs. get_or zs 0 0) e in absurd (omega arith)
no_unknown_by counts (h ∷ hs) first name rest v e = let differ : ◌≡◌ {A = ℕ} 104 117 = ap (λ zs. get_or zs 0 0) e in absurd (omega arith)

no_unknown : (r : UnknownReport) → NoneBegins IsBenchWord unknown_line (behind_unknown r)
no_unknown r = no_unknown_by (behind_holds r) r.holds refl

-- ---- what was read is what stands there

module _ (r : UnknownReport) (v : IsUnknownReport r) where
  pub after_head : (bytes rest : List ℕ) → bytes ≡ unknown_report_text r → bytes ≡ head_text ++ rest → rest ≡ behind_head r
  after_head bytes rest e is = append_cancel_left head_text rest (behind_head r) (sym is ∙ e)

  module _ (text rest : List ℕ) where
    pub after_chains : (k : ℕ) → text ≡ behind_head r → Begins IsCount chains_line text k rest → (k ≡ r.chains) × (rest ≡ behind_chains r)
    after_chains k e is = number_told 10 (omega arith) (codes "chains ") k r.chains rest (behind_chains r) is.0 v.chains (sym is.1 ∙ e)

    pub after_unknown : (names : List (List ℕ)) → text ≡ behind_chains r → AreRead IsBenchWord unknown_line text names rest → (names ≡ r.unknown) × (rest ≡ behind_unknown r)
    after_unknown names e read =
        same_lines IsBenchWord unknown_line unknown_told names r.unknown rest (behind_unknown r) read.each v.unknown read.no_more (no_unknown r) (sym read.parts ∙ e)

    pub after_holds : (hs : List Hold) → text ≡ behind_unknown r → AreRead IsHold hold_line text hs rest → (hs ≡ r.holds) × (rest ≡ behind_holds r)
    after_holds hs e read =
        same_lines IsHold hold_line hold_told hs r.holds rest (behind_holds r) read.each v.holds read.no_more (no_hold r) (sym read.parts ∙ e)

    pub after_counts : (k : ClaimCounts) → text ≡ behind_holds r → Begins AreSmallClaims counts_line text k rest → (k ≡ r.counts) × (rest ≡ behind_counts r)
    after_counts k e is = counts_told k r.counts rest (behind_counts r) is.0 v.counts (sym is.1 ∙ e)

-- at most one report has a given text
pub same_report : (r s : UnknownReport) → IsUnknownReport r → IsUnknownReport s → unknown_report_text r ≡ unknown_report_text s → r ≡ s
same_report r s v w e =
    let heads = after_head s w (unknown_report_text r) (behind_head r) e refl in
    let chains = after_chains s w (behind_head r) (behind_chains r) r.chains heads (v.chains, refl) in
    let unknown = after_unknown s w (behind_chains r) (behind_unknown r) r.unknown chains.1 (record { each = v.unknown; parts = refl; no_more = no_unknown r }) in
    let holds = after_holds s w (behind_unknown r) (behind_holds r) r.holds unknown.1 (record { each = v.holds; parts = refl; no_more = no_hold r }) in
    let counts = after_counts s w (behind_holds r) (behind_counts r) r.counts holds.1 (v.counts, refl) in
    let lines = same_texts r.lines s.lines v.lines w.lines counts.1 in
    λ i. record { chains = chains.0 i; unknown = unknown.0 i; holds = holds.0 i; counts = counts.0 i; lines = lines i }

-- a text, as far as it was read
module _ (bytes a : List ℕ) (head : bytes ≡ head_text ++ a) where
  abbrev pub IsNone : Type 0
  IsNone = (r : UnknownReport) → IsUnknownReport r → bytes ≢ unknown_report_text r

  pub no_chains : NoneBegins IsCount chains_line a → IsNone
  no_chains none r v e = none r.chains (behind_chains r) v.chains (after_head r v bytes a e head)

  module _ (b c d : List ℕ) (chains : ℕ) (names : List (List ℕ)) (hs : List Hold)
      (p : Begins IsCount chains_line a chains b) (q : AreRead IsBenchWord unknown_line b names c) (o : AreRead IsHold hold_line c hs d) where
    at_d : (r : UnknownReport) → IsUnknownReport r → bytes ≡ unknown_report_text r → d ≡ behind_holds r
    at_d r v e = (after_holds r v c d hs (after_unknown r v b c names (after_chains r v a b chains (after_head r v bytes a e head) p).1 q).1 o).1

    pub no_counts : NoneBegins AreSmallClaims counts_line d → IsNone
    no_counts none r v e = none r.counts (behind_counts r) v.counts (at_d r v e)

    module _ (f : List ℕ) (counts : ClaimCounts) (t : Begins AreSmallClaims counts_line d counts f) where
      pub no_lines : ((lines : List (List ℕ)) → All IsLine lines → f ≢ flat_map ended lines) → IsNone
      no_lines none r v e = none r.lines v.lines (after_counts r v d f counts (at_d r v e) t).1

      pub report_found : (lines : List (List ℕ)) → All IsLine lines × (f ≡ flat_map ended lines)
          → IsUnknownReport (record { chains = chains; unknown = names; holds = hs; counts = counts; lines = lines })
          × (bytes ≡ unknown_report_text (record { chains = chains; unknown = names; holds = hs; counts = counts; lines = lines }))
      report_found lines u = (
        record { chains = p.0; unknown = q.each; holds = o.each; counts = t.0; lines = u.0 },
        head ∙ ap (λ z. head_text ++ z) (p.1 ∙ ap (λ z. chains_line chains ++ z) (q.parts ∙ ap (λ z. flat_map unknown_line names ++ z)
            (o.parts ∙ ap (λ z. flat_map hold_line hs ++ z) (t.1 ∙ ap (λ z. counts_line counts ++ z) u.1)))),
      )

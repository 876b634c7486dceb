-- Whole texts of reports.
use Rattle.std.proofs.Common.{◌≡◌, ◌≢◌, ℕ, List, [], ◌∷◌, ◌++◌, get_or, refl, sym, ◌∙◌, ap, ap₂, subst, codes, append_assoc, arith}
use Rattle.std.specs.List.{All, flat_map}
use Rattle.std.proofs.lemmas.List.{append-nil}
use Rattle.std.proofs.lemmas.List.Elements.{All-head}
use Rattle.report.specs.declared.counts.ReportCounts.{ReportCounts}
use Rattle.report.specs.Reports.{Hold, AreCounted, IsFaultText, IsLine, IsLineBy, IsReport, Report, Times, at_stem, at_output, at_pin}
use Rattle.statement.specs.Reports.{Line, fault_line, outcome_text}
use Rattle.report.specs.Texts.{counts_text, hold_line, report_text, share_line, some_line, times_lines, times_text, unasked_line}
use Rattle.report.specs.declared.models.FaultModel.{FaultModel}
use Rattle.report.specs.declared.models.FaultModel.TheVariants.{StuckAt}
use Rattle.report.specs.declared.versions.Version.{Version}
use Rattle.report.specs.inner.Counts.{CountsBegin, counts_lines}
use Rattle.report.specs.Beginnings.{Begins, IsShare, NoneBegins}
use Rattle.report.specs.inner.Lines.{IsHold, TimesBegin, hold_words, fault_words}
use Rattle.report.specs.inner.Tables.{AreTables, tables_text}
use Rattle.report.specs.inner.Versions.{version_line, version_of}
use Rattle.report.proofs.HoldLemmas.{hold_lined, hold_told}
use Rattle.report.proofs.LineLemmas.{nothing_begins, same_lines}
use Rattle.report.proofs.CountLemmas.{all_counts_told}
use Rattle.report.proofs.NumberLemmas.{share_told}
use Rattle.report.proofs.OutcomeLemmas.{fault_lined, fault_told}
use Rattle.report.proofs.TimesLemmas.{says_nothing, small_most, small_times, times_told}
use Rattle.report.proofs.VersionLemmas.{head_is, version_told}

-- no line of a fault or of a held input begins with this byte, nor does the text end
abbrev IsElse : ℕ → Type 0
IsElse c = (0 ≢ c) × (104 ≢ c) × (111 ≢ c) × (112 ≢ c) × (115 ≢ c)

fault_first : (c : ℕ) (fault rest : List ℕ) → 111 ≢ c → 112 ≢ c → 115 ≢ c → IsFaultText fault → get_or (fault ++ rest) 0 0 ≢ c
fault_first c fault rest o p s (at_stem _ n) e = s (sym (ap (λ t. get_or (t ++ rest) 0 0) n.text_is) ∙ e)
fault_first c fault rest o p s (at_output _ n) e = o (sym (ap (λ t. get_or (t ++ rest) 0 0) n.text_is) ∙ e)
fault_first c fault rest o p s (at_pin _ n) e = p (sym (ap (λ t. get_or (t ++ rest) 0 0) n.text_is) ∙ e)

line_first : (c : ℕ) (l : Line) (rest : List ℕ) → 111 ≢ c → 112 ≢ c → 115 ≢ c → IsLine l → get_or (fault_line l ++ rest) 0 0 ≢ c
line_first c l rest o p s v e =
    fault_first c l.fault ((outcome_text l.outcome l.pin ++ codes "\n") ++ rest) o p s v.fault
    (ap (λ xs. get_or xs 0 0) (sym (append_assoc l.fault (outcome_text l.outcome l.pin ++ codes "\n") rest)) ∙ e)

faults_first : (c : ℕ) (ls : List Line) → IsElse c → All IsLine ls → get_or (flat_map fault_line ls) 0 0 ≢ c
faults_first c [] other v e = other.0 e
faults_first c (l ∷ ls) other v e = line_first c l (flat_map fault_line ls) other.2 other.3 other.4 (All-head IsLine l ls v) e

tables_first : (c : ℕ) (hs : List Hold) (ls : List Line) → IsElse c → All IsLine ls → get_or (flat_map hold_line hs ++ flat_map fault_line ls) 0 0 ≢ c
tables_first c [] ls other v e = faults_first c ls other v e
tables_first c (h ∷ hs) ls other v e = other.1 e

pub no_hold_begins : (ls : List Line) → All IsLine ls → NoneBegins IsHold hold_line (flat_map fault_line ls)
no_hold_begins [] v h rest w e = nothing_begins IsHold hold_words hold_line hold_lined h rest w e
no_hold_begins (l ∷ ls) v h rest w e =
    line_first 104 l (flat_map fault_line ls) (λ o. absurd (omega arith)) (λ p. absurd (omega arith)) (λ s. absurd (omega arith)) (All-head IsLine l ls v)
    (ap (λ xs. get_or xs 0 0) e)

-- lines that say how often faults are detected, with what stands behind them
pub times_begin : (ts : Times) (hs : List Hold) (ls : List Line) → AreCounted ts → All IsLine ls
    → TimesBegin (tables_text ts hs ls) ts (flat_map hold_line hs ++ flat_map fault_line ls)
times_begin ts hs ls v w =
    let behind = flat_map hold_line hs ++ flat_map fault_line ls in
    let detect : IsElse 100 = (λ e. absurd (omega arith), λ e. absurd (omega arith), λ e. absurd (omega arith), λ e. absurd (omega arith), λ e. absurd (omega arith)) in
    let times : IsElse 116 = (λ e. absurd (omega arith), λ e. absurd (omega arith), λ e. absurd (omega arith), λ e. absurd (omega arith), λ e. absurd (omega arith)) in (
      (
        (small_most ts v, append_assoc (some_line (codes "detect ") ts.most) (times_lines ts.of) behind),
        says_nothing ts behind v (λ k rest u e. tables_first 100 hs ls detect w (ap (λ xs. get_or xs 0 0) e)),
      ),
      small_times ts v,
      λ k rest u e. tables_first 116 hs ls times w (ap (λ xs. get_or xs 0 0) e),
    )

module _ (model : FaultModel) where
  no_fault_begins : NoneBegins (IsLineBy model) fault_line []
  no_fault_begins = nothing_begins (IsLineBy model) fault_words fault_line (fault_lined model)

  -- lines of faults, with what is left of them
  pub faults_told : (xs ys : List Line) (rest : List ℕ) → All (IsLineBy model) xs → All (IsLineBy model) ys → NoneBegins (IsLineBy model) fault_line rest
      → flat_map fault_line xs ++ rest ≡ flat_map fault_line ys → (xs ≡ ys) × (rest ≡ [])
  faults_told xs ys rest v w none e =
      same_lines (IsLineBy model) fault_line (fault_told model) xs ys rest [] v w none no_fault_begins (e ∙ sym (append-nil (flat_map fault_line ys)))

  pub same_faults : (xs ys : List Line) → All (IsLineBy model) xs → All (IsLineBy model) ys → flat_map fault_line xs ≡ flat_map fault_line ys → xs ≡ ys
  same_faults xs ys v w e = (faults_told xs ys [] v w no_fault_begins (append-nil (flat_map fault_line xs) ∙ e)).0

-- all of them, as far as they were read
pub tables_told : (text : List ℕ) (ts us : Times) (hs is : List Hold) (ls : List Line) (behind rest : List ℕ)
    → TimesBegin text ts behind → All IsHold hs × (behind ≡ flat_map hold_line hs ++ rest) × NoneBegins IsHold hold_line rest
    → AreCounted us → All IsHold is → All IsLine ls → text ≡ tables_text us is ls → (ts ≡ us) × (hs ≡ is) × (rest ≡ flat_map fault_line ls)
tables_told text ts us hs is ls behind rest t h u v w e =
    let said = flat_map hold_line is ++ flat_map fault_line ls in
    let times = times_told text ts us behind said t (subst (λ x. TimesBegin x us said) (sym e) (times_begin us is ls u w)) in
    let holds = same_lines IsHold hold_line hold_told hs is rest (flat_map fault_line ls) h.0 v h.2 (no_hold_begins ls w) (sym h.1 ∙ times.1) in
    (times.0, holds.0, holds.1)

pub tables_found : (version : Version) (unasked : ℕ) (text behind rest : List ℕ) (ts : Times) (hs : List Hold) (ls : List Line)
    → TimesBegin text ts behind → AreCounted ts → All IsHold hs × (behind ≡ flat_map hold_line hs ++ rest) × NoneBegins IsHold hold_line rest
    → version ≡ version_of ts.most unasked hs → All IsLine ls × (rest ≡ flat_map fault_line ls)
    → AreTables version unasked ts hs ls × (text ≡ tables_text ts hs ls)
tables_found version unasked text behind rest ts hs ls t counted h is l = (
  record { times = counted; holds = h.0; lines = l.0; version_is = is },
  t.0.0.1 ∙ (sym (append_assoc (some_line (codes "detect ") ts.most) (times_lines ts.of) behind)
      ∙ ap (λ u. times_text ts ++ u) (h.1 ∙ ap (λ u. flat_map hold_line hs ++ u) l.1)),
)

-- what stands behind each part
abbrev pub behind_shares : Report → List ℕ
behind_shares r = tables_text r.times r.holds r.lines

abbrev pub behind_coverage : Report → List ℕ
behind_coverage r = share_line (codes "efficiency ") r.efficiency ++ behind_shares r

abbrev pub behind_counts : Report → List ℕ
behind_counts r = share_line (codes "coverage ") r.coverage ++ behind_coverage r

abbrev pub behind_head : Report → List ℕ
behind_head r = counts_lines r.counts ++ behind_counts r

abbrev pub report_version : Report → Version
report_version r = version_of r.times.most r.counts.unasked r.holds

pub report_text_is : (r : Report) → report_text r ≡ version_line (report_version r) ++ behind_head r
report_text_is r =
    ap₂ (λ h t. h ++ t) (head_is r.times.most r.counts.unasked r.holds) (sym (append_assoc (counts_text r.counts) (unasked_line r.counts.unasked) (behind_counts r)))

pub after_head : (r : Report) (bytes rest : List ℕ) (version : Version) → bytes ≡ report_text r → bytes ≡ version_line version ++ rest
    → (version ≡ report_version r) × (rest ≡ behind_head r)
after_head r bytes rest version e is = version_told version (report_version r) rest (behind_head r) (sym is ∙ (e ∙ report_text_is r))

pub counts_begin : (r : Report) → IsReport r → CountsBegin (behind_head r) r.counts (behind_counts r)
counts_begin r v =
    ((v.counts, refl), λ none k rest u e. let differ : ◌≡◌ {A = ℕ} 99 117 = ap (λ xs. get_or xs 0 0) e in absurd (omega arith))

pub after_counts : (r : Report) (text rest : List ℕ) (c : ReportCounts) → IsReport r → text ≡ behind_head r → CountsBegin text c rest
    → (c ≡ r.counts) × (rest ≡ behind_counts r)
after_counts r text rest c v e is =
    all_counts_told (behind_head r) c r.counts rest (behind_counts r) (subst (λ t. CountsBegin t c rest) e is) (counts_begin r v)

pub after_coverage : (r : Report) (text rest : List ℕ) (n : ℕ) → IsReport r → text ≡ behind_counts r → Begins IsShare (share_line (codes "coverage ")) text n rest
    → (n ≡ r.coverage) × (rest ≡ behind_coverage r)
after_coverage r text rest n v e is = share_told (codes "coverage ") n r.coverage rest (behind_coverage r) is.0 v.coverage (sym is.1 ∙ e)

pub after_efficiency : (r : Report) (text rest : List ℕ) (n : ℕ) → IsReport r → text ≡ behind_coverage r → Begins IsShare (share_line (codes "efficiency ")) text n rest
    → (n ≡ r.efficiency) × (rest ≡ behind_shares r)
after_efficiency r text rest n v e is = share_told (codes "efficiency ") n r.efficiency rest (behind_shares r) is.0 v.efficiency (sym is.1 ∙ e)

-- at most one report has a given text
pub same_report : (r s : Report) → IsReport r → IsReport s → report_text r ≡ report_text s → r ≡ s
same_report r s v w e =
    let heads = after_head s (report_text r) (behind_head r) (report_version r) e (report_text_is r) in
    let counts = after_counts s (behind_head r) (behind_counts r) r.counts w heads.1 (counts_begin r v) in
    let coverage = after_coverage s (behind_counts r) (behind_coverage r) r.coverage w counts.1 (v.coverage, refl) in
    let efficiency = after_efficiency s (behind_coverage r) (behind_shares r) r.efficiency w coverage.1 (v.efficiency, refl) in
    let tables = tables_told (behind_shares r) r.times s.times r.holds s.holds s.lines (flat_map hold_line r.holds ++ flat_map fault_line r.lines)
    (flat_map fault_line r.lines) (times_begin r.times r.holds r.lines v.times v.lines) (v.holds, refl, no_hold_begins r.lines v.lines)
    w.times w.holds w.lines efficiency.1 in
    let faults = same_faults StuckAt r.lines s.lines v.lines w.lines tables.2 in
    ap (λ (k : ReportCounts). record { counts = k; coverage = r.coverage; efficiency = r.efficiency; times = r.times; holds = r.holds; lines = r.lines }) counts.0
    ∙ (ap (λ (k : ℕ). record { counts = s.counts; coverage = k; efficiency = r.efficiency; times = r.times; holds = r.holds; lines = r.lines }) coverage.0
    ∙ (ap (λ (k : ℕ). record { counts = s.counts; coverage = s.coverage; efficiency = k; times = r.times; holds = r.holds; lines = r.lines }) efficiency.0
    ∙ (ap (λ (t : Times). record { counts = s.counts; coverage = s.coverage; efficiency = s.efficiency; times = t; holds = r.holds; lines = r.lines }) tables.0
    ∙ (ap (λ (hs : List Hold). record { counts = s.counts; coverage = s.coverage; efficiency = s.efficiency; times = s.times; holds = hs; lines = r.lines }) tables.1
    ∙ ap (λ (ls : List Line). record { counts = s.counts; coverage = s.coverage; efficiency = s.efficiency; times = s.times; holds = s.holds; lines = ls }) faults))))

-- what was read part by part is a report with this text
pub whole_found : (bytes a b c d : List ℕ) (version : Version) (counts : ReportCounts) (coverage efficiency : ℕ) (ts : Times) (hs : List Hold) (ls : List Line)
    → bytes ≡ version_line version ++ a → CountsBegin a counts b → Begins IsShare (share_line (codes "coverage ")) b coverage c
    → Begins IsShare (share_line (codes "efficiency ")) c efficiency d → AreTables version counts.unasked ts hs ls × (d ≡ tables_text ts hs ls)
    → IsReport (record { counts = counts; coverage = coverage; efficiency = efficiency; times = ts; holds = hs; lines = ls })
    × (bytes ≡ report_text (record { counts = counts; coverage = coverage; efficiency = efficiency; times = ts; holds = hs; lines = ls }))
whole_found bytes a b c d version counts coverage efficiency ts hs ls v p q r t =
    let said : Report = record { counts = counts; coverage = coverage; efficiency = efficiency; times = ts; holds = hs; lines = ls } in (
      record { counts = p.0.0; coverage = q.0; efficiency = r.0; times = t.0.times; holds = t.0.holds; lines = t.0.lines },
      v ∙ (ap (λ w. version_line w ++ a) t.0.version_is
          ∙ (ap (λ u. version_line (report_version said) ++ u) (p.0.1 ∙ ap (λ u. counts_lines counts ++ u)
          (q.1 ∙ ap (λ u. share_line (codes "coverage ") coverage ++ u) (r.1 ∙ ap (λ u. share_line (codes "efficiency ") efficiency ++ u) t.1)))
          ∙ sym (report_text_is said))),
    )

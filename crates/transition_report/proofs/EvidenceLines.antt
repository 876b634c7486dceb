-- Lines of a certificate of transition faults, and the whole.
use Rattle.std.proofs.Common.{length, ◌≡◌, ◌≢◌, ◌<◌, ℕ, Bool, true, false, List, [], ◌∷◌, ◌++◌, codes, get_or, refl, sym, ◌∙◌, ap, subst, arith, append_assoc, append-nil}
use Rattle.std.specs.List.{All, flat_map}
use Rattle.std.proofs.lemmas.List.{append_cancel_left}
use Rattle.std.proofs.lemmas.List.Elements.{All-append, All-weaker}
use Rattle.statement.specs.declared.lines.Fault.{Fault}
use Rattle.statement.specs.Netlists.{Netlist, signals}
use Rattle.netlist.specs.Lines.{signal_of}
use Rattle.netlist.specs.Conditions.{IsSound}
use Rattle.netlist.specs.Netlist.{signal_count}
use Rattle.redundancy_cert.specs.declared.nodes.Node.{Node}
use Rattle.redundancy_cert.specs.declared.nodes.Node.TheVariants.{Closed, Open, Split, Forced}
use Rattle.evidence.specs.declared.kinds.Evidence.{Evidence}
use Rattle.evidence.specs.declared.kinds.Evidence.TheVariants.{Tree, Refutation}
use Rattle.certificate.specs.Certificates.{HasSignal, HasSignals, IsTextOf, IsWellFormed, NoText, evidence_text, has_refutation}
use Rattle.certificate.proofs.EvidenceTexts.{evidence_ends, evidence_has_no, same_text}
use Rattle.report.specs.Beginnings.{NoneBegins}
use Rattle.report.proofs.LineLemmas.{IsLined, IsTold, line_rest, line_told, next_read, nothing_begins, same_lines}
use Rattle.transition_frames.specs.Frames.{frames_of}
use Rattle.transition_frames.proofs.Numbered.{frames_count}
use Rattle.transition_report.specs.Texts.{IsNamedInFrames, transition_first_line, transition_line, transition_text}
use Rattle.transition_report.specs.Reading.{IsTransitionCertificate, IsTransitionEvidence, NoTransitionCertificate}
use Rattle.transition_report.specs.inner.Parts.{AreLinesIn, AreSlowLines, IsSlowFaultAt, IsSlowLine, IsWrittenIn, NoSlowFaultAt, slow_words}
use Rattle.transition_report.proofs.NameLemmas as names
use Rattle.transition_report.proofs.SlowFaultTexts.{same_slow_fault, text_has_no}

module _ (n two : Netlist) (sound : IsSound n) (framed : IsSound two) where
  -- a line begins with its fault, and its evidence comes behind it
  line_fault : (line : List ℕ) (p : Fault × Evidence) → IsSlowLine n two line p → IsSlowFaultAt n line p.0 (evidence_text two p.1)
  line_fault line p w = record { member = w.written.fault; parts = w.text; end = evidence_ends two framed p.1 }

  pub no_fault_line : (line : List ℕ) → NoSlowFaultAt n line → (p : Fault × Evidence) → IsSlowLine n two line p → ⊥
  no_fault_line line none p w = none p.0 (evidence_text two p.1) (line_fault line p w)

  line_evidence : (line : List ℕ) (p : Fault × Evidence) (f : Fault) (rest : List ℕ) → IsSlowFaultAt n line f rest → IsSlowLine n two line p → (p.0 ≡ f) × IsTextOf two rest p.1
  line_evidence line p f rest at w =
      let m = same_slow_fault n sound line p.0 f (evidence_text two p.1) rest (line_fault line p w) at in
      (m.0, record { formed = w.written.formed; is = sym m.1 })

  pub no_evidence_line : (line : List ℕ) (f : Fault) (rest : List ℕ) → IsSlowFaultAt n line f rest → NoText two rest → (p : Fault × Evidence) → IsSlowLine n two line p → ⊥
  no_evidence_line line f rest at none p w = none p.1 (line_evidence line p f rest at w).1

  pub slow_line_found : (line : List ℕ) (f : Fault) (rest : List ℕ) (e : Evidence) → IsSlowFaultAt n line f rest → IsTextOf two rest e → IsSlowLine n two line (f, e)
  slow_line_found line f rest e at w = record {
    written = record { fault = at.member; formed = w.formed };
    text = at.parts ∙ ap (λ t. transition_text n f ++ t) w.is;
  }

  same_words : (p q : Fault × Evidence) → IsWrittenIn n two p → IsWrittenIn n two q → slow_words n two p ≡ slow_words n two q → p ≡ q
  same_words p q v w e =
      let m = line_evidence (slow_words n two p) p q.0 (evidence_text two q.1) (line_fault (slow_words n two p) q (record { written = w; text = e }))
      (record { written = v; text = refl }) in
      let same = same_text two framed (evidence_text two q.1) p.1 q.1 m.1 (record { formed = w.formed; is = refl }) in
      ap (λ f. (f, p.1)) m.0 ∙ ap (λ d. (q.0, d)) same

  pub slow_lined : IsLined (IsWrittenIn n two) (slow_words n two) (transition_line n two)
  slow_lined = record {
    end = λ p. sym (append_assoc (transition_text n p.0) (evidence_text two p.1) (codes "\n"));
    whole = λ p v. All-append (λ b. b ≢ 10) (transition_text n p.0) (evidence_text two p.1) (text_has_no n sound p.0 v.fault) (evidence_has_no two framed p.1 v.formed);
  }

  slow_told : IsTold (IsWrittenIn n two) (transition_line n two)
  slow_told = line_told (IsWrittenIn n two) (slow_words n two) (transition_line n two) slow_lined same_words

  no_slow_begins : NoneBegins (IsWrittenIn n two) (transition_line n two) []
  no_slow_begins = nothing_begins (IsWrittenIn n two) (slow_words n two) (transition_line n two) slow_lined

  -- lines that were read, with what is left of them
  pub slow_lists_told : (xs ys : List (Fault × Evidence)) (rest : List ℕ) → All (IsWrittenIn n two) xs → All (IsWrittenIn n two) ys → NoneBegins (IsWrittenIn n two) (transition_line n two) rest
      → flat_map (transition_line n two) xs ++ rest ≡ flat_map (transition_line n two) ys → (xs ≡ ys) × (rest ≡ [])
  slow_lists_told xs ys rest v w none e =
      same_lines (IsWrittenIn n two) (transition_line n two) slow_told xs ys rest [] v w none no_slow_begins (e ∙ sym (append-nil (flat_map (transition_line n two) ys)))

  same_slow_lines : (text : List ℕ) (xs ys : List (Fault × Evidence)) → AreLinesIn n two text xs → AreLinesIn n two text ys → xs ≡ ys
  same_slow_lines text xs ys v w = (slow_lists_told xs ys [] v.each w.each no_slow_begins (append-nil (flat_map (transition_line n two) xs) ∙ (sym v.is ∙ w.is))).0

  -- one line more is read
  pub slow_line_read : (xs ys : List (Fault × Evidence)) (p : Fault × Evidence) (text rest line after : List ℕ) → text ≡ flat_map (transition_line n two) xs ++ rest
      → rest ≡ line ++ 10 ∷ after → IsSlowLine n two line p → ys ≡ xs ++ p ∷ [] → text ≡ flat_map (transition_line n two) ys ++ after
  slow_line_read xs ys p text rest line after read parts w new =
      next_read (transition_line n two) xs ys p text rest after read
      (parts ∙ (ap (λ t. t ++ 10 ∷ after) w.text ∙ sym (line_rest (IsWrittenIn n two) (slow_words n two) (transition_line n two) slow_lined p after))) new

-- ---- the two frames of each fault, and those of one

module _ (n : Netlist) (f g : Fault) where
  same_count : signal_count (frames_of n f) ≡ signal_count (frames_of n g)
  same_count = frames_count n f ∙ sym (frames_count n g)

  signal_kept : (node : Node) → HasSignal (frames_of n f) node → HasSignal (frames_of n g) node
  signal_kept Closed h = h
  signal_kept Open h = h
  signal_kept (Split x) h = subst (λ k. x < k) same_count h
  signal_kept (Forced x bit) h = subst (λ k. x < k) same_count h

  formed_kept : (e : Evidence) → IsWellFormed (frames_of n f) e → IsWellFormed (frames_of n g) e
  formed_kept (Tree nodes) h = (All-weaker (HasSignal (frames_of n f)) (HasSignal (frames_of n g)) signal_kept nodes h.0, h.1)
  formed_kept (Refutation steps) h = h

  pub signals_kept : (e : Evidence) → HasSignals (frames_of n f) e → HasSignals (frames_of n g) e
  signals_kept (Tree nodes) h = All-weaker (HasSignal (frames_of n f)) (HasSignal (frames_of n g)) signal_kept nodes h
  signals_kept (Refutation steps) h = h

-- evidence that is named in the frames of its own fault is so in those of one
pub all_named : (n two : Netlist) (g : Fault) → two ≡ frames_of n g → (evidence : List (Fault × Evidence)) → All (IsNamedInFrames n) evidence
    → All (λ (p : Fault × Evidence). (signal_of p.0.line < length (signals n)) × HasSignals two p.1) evidence
all_named n two g framed evidence named =
    All-weaker (IsNamedInFrames n) (λ (p : Fault × Evidence). (signal_of p.0.line < length (signals n)) × HasSignals two p.1)
    (λ p w. (w.signal, subst (λ (m : Netlist). HasSignals m p.1) (sym framed) (signals_kept n p.0 g p.1 w.signals))) evidence named

module _ (n : Netlist) (f : Fault) where
  pub by_own : (text : List ℕ) (evidence : List (Fault × Evidence)) → AreLinesIn n (frames_of n f) text evidence → AreSlowLines n text evidence
  by_own text evidence w = record {
    each = All-weaker (IsWrittenIn n (frames_of n f)) (IsTransitionEvidence n) (λ p v. record { fault = v.fault; formed = formed_kept n f p.0 p.1 v.formed }) evidence w.each;
    is = w.is ∙ names.same_lines n f evidence;
  }

  pub by_one : (text : List ℕ) (evidence : List (Fault × Evidence)) → AreSlowLines n text evidence → AreLinesIn n (frames_of n f) text evidence
  by_one text evidence w = record {
    each = All-weaker (IsTransitionEvidence n) (IsWrittenIn n (frames_of n f)) (λ p v. record { fault = v.fault; formed = formed_kept n p.0 f p.1 v.formed }) evidence w.each;
    is = w.is ∙ sym (names.same_lines n f evidence);
  }

-- the same by the names of a netlist and of frames that are these
module _ (n m two : Netlist) (f : Fault) (own : m ≡ n) (framed : two ≡ frames_of n f) (text : List ℕ) where
  pub own_lines : (evidence : List (Fault × Evidence)) → AreLinesIn m two text evidence → AreSlowLines n text evidence
  own_lines evidence w =
      by_own n f text evidence (subst (λ (k : Netlist). AreLinesIn n k text evidence) framed (subst (λ (k : Netlist). AreLinesIn k two text evidence) own w))

  pub no_own_lines : ((evidence : List (Fault × Evidence)) → AreLinesIn m two text evidence → ⊥) → (evidence : List (Fault × Evidence)) → AreSlowLines n text evidence → ⊥
  no_own_lines none evidence w =
      none evidence
      (subst (λ (k : Netlist). AreLinesIn k two text evidence) (sym own)
      (subst (λ (k : Netlist). AreLinesIn n k text evidence) (sym framed) (by_one n f text evidence w)))

-- ---- the two first lines

same_first : (b c : Bool) (r s : List ℕ) → transition_first_line b ++ r ≡ transition_first_line c ++ s → (b ≡ c) × (r ≡ s)
same_first false false r s e = (refl, append_cancel_left (codes "atpg transition certificate 1\n") r s e)
same_first true true r s e = (refl, append_cancel_left (codes "atpg transition certificate 2\n") r s e)
same_first false true r s e = let differ : ◌≡◌ {A = ℕ} 49 50 = ap (λ zs. get_or zs 28 0) e in absurd (omega arith)
same_first true false r s e = let differ : ◌≡◌ {A = ℕ} 50 49 = ap (λ zs. get_or zs 28 0) e in absurd (omega arith)

pub no_first : (bytes : List ℕ) → ((r : List ℕ) → bytes ≢ transition_first_line false ++ r) → ((r : List ℕ) → bytes ≢ transition_first_line true ++ r)
    → (refutes : Bool) (rest : List ℕ) → bytes ≢ transition_first_line refutes ++ rest
no_first bytes one two false rest e = one rest e
no_first bytes one two true rest e = two rest e

-- ---- whole certificates

abbrev pub own_line : Netlist → Fault × Evidence → List ℕ
own_line n p = transition_line n (frames_of n p.0) p

module _ (n : Netlist) (bytes : List ℕ) where
  pub no_head : ((refutes : Bool) (rest : List ℕ) → bytes ≢ transition_first_line refutes ++ rest) → NoTransitionCertificate n bytes
  no_head none evidence w = none (has_refutation evidence) (flat_map (own_line n) evidence) w.text

  -- the first line is so, and these bytes come behind it
  module _ (refutes : Bool) (lines : List ℕ) (is : bytes ≡ transition_first_line refutes ++ lines) where
    parts_of : (evidence : List (Fault × Evidence)) → IsTransitionCertificate n bytes evidence → (refutes ≡ has_refutation evidence) × AreSlowLines n lines evidence
    parts_of evidence w =
        let m = same_first refutes (has_refutation evidence) lines (flat_map (own_line n) evidence) (sym is ∙ w.text) in
        (m.0, record { each = w.each; is = m.1 })

    pub no_slow_lines : ((evidence : List (Fault × Evidence)) → AreSlowLines n lines evidence → ⊥) → NoTransitionCertificate n bytes
    no_slow_lines none evidence w = none evidence (parts_of evidence w).1

    pub certificate_found : (evidence : List (Fault × Evidence)) → AreSlowLines n lines evidence → has_refutation evidence ≡ refutes → IsTransitionCertificate n bytes evidence
    certificate_found evidence w told = record {
      each = w.each;
      text = is ∙ (ap (λ b. transition_first_line b ++ lines) (sym told) ∙ ap (λ t. transition_first_line (has_refutation evidence) ++ t) w.is);
    }

    module _ (f : Fault) (sound : IsSound n) (framed : IsSound (frames_of n f)) where
      one_of : (xs ys : List (Fault × Evidence)) → AreSlowLines n lines xs → AreSlowLines n lines ys → xs ≡ ys
      one_of xs ys v w = same_slow_lines n (frames_of n f) sound framed lines xs ys (by_one n f lines xs v) (by_one n f lines ys w)

      pub other_version : (read : List (Fault × Evidence)) → AreSlowLines n lines read → (has_refutation read ≡ refutes → ⊥) → NoTransitionCertificate n bytes
      other_version read are other evidence w =
          let parts = parts_of evidence w in
          other (ap has_refutation (one_of read evidence are parts.1) ∙ sym parts.0)

      pub one_certificate : (xs ys : List (Fault × Evidence)) → IsTransitionCertificate n bytes xs → IsTransitionCertificate n bytes ys → xs ≡ ys
      one_certificate xs ys v w = one_of xs ys (parts_of xs v).1 (parts_of ys w).1

-- Lines are told by their texts.
use Rattle.std.proofs.Common.{◌≡◌, ◌≢◌, ℕ, List, [], ◌∷◌, ◌++◌, codes, refl, sym, ◌∙◌, ap, subst, append_assoc}
use Rattle.std.specs.List.{All, flat_map}
use Rattle.std.proofs.lemmas.List.{flat_map_more}
use Rattle.std.proofs.lemmas.List.Elements.{All-append, All-head}
use Rattle.statement.specs.declared.lines.Fault.{Fault}
use Rattle.netlist.specs.Conditions.{IsSound}
use Rattle.statement.specs.Netlists.{Netlist}
use Rattle.statement.specs.Faults.{fault_text}
use Rattle.plain_text.proofs.Parts.{byte_inside, same_parts}
use Rattle.evidence.specs.declared.kinds.Evidence.{Evidence}
use Rattle.certificate.specs.Certificates.{evidence_line, evidence_text, IsEvidence, IsTextOf, NoText}
use Rattle.certificate.specs.inner.Parts.{AreLines, IsFaultAt, IsLineOf, NoFaultAt, NoLines}
use Rattle.certificate.proofs.EvidenceTexts.{evidence_ends, evidence_has_no, same_text}
use Rattle.certificate.proofs.FaultTexts.{same_fault_at, text_has_no}
use Rattle.certificate.proofs.Followers.{GoesOn, goes_on, same_list}

module _ (n : Netlist) (sound : IsSound n) where
  -- a line begins with its fault, and its evidence comes behind it
  line_fault : (line : List ℕ) (p : Fault × Evidence) → IsLineOf n line p → IsFaultAt n line p.0 (evidence_text n p.1)
  line_fault line p w = record { member = w.evidence.fault; parts = w.text; end = evidence_ends n sound p.1 }

  line_evidence : (line : List ℕ) (p : Fault × Evidence) (fault : Fault) (rest : List ℕ) → IsFaultAt n line fault rest → IsLineOf n line p → (p.0 ≡ fault) × IsTextOf n rest p.1
  line_evidence line p fault rest at w =
      let m = same_fault_at n sound line p.0 fault (evidence_text n p.1) rest (line_fault line p w) at in
      (m.0, record { formed = w.evidence.formed; is = sym m.1 })

  pub no_fault_line : (line : List ℕ) → NoFaultAt n line → (p : Fault × Evidence) → IsLineOf n line p → ⊥
  no_fault_line line none p w = none p.0 (evidence_text n p.1) (line_fault line p w)

  pub no_evidence_line : (line : List ℕ) (fault : Fault) (rest : List ℕ) → IsFaultAt n line fault rest → NoText n rest → (p : Fault × Evidence) → IsLineOf n line p → ⊥
  no_evidence_line line fault rest at none p w = none p.1 (line_evidence line p fault rest at w).1

  same_line : (line : List ℕ) (p q : Fault × Evidence) → IsLineOf n line p → IsLineOf n line q → p ≡ q
  same_line line p q v w =
      let m = line_evidence line p q.0 (evidence_text n q.1) (line_fault line q w) v in
      let same = same_text n sound (evidence_text n q.1) p.1 q.1 m.1 (record { formed = w.evidence.formed; is = refl }) in
      ap (λ f. (f, p.1)) m.0 ∙ ap (λ e. (q.0, e)) same

  -- a line without its end
  abbrev line_of : Fault × Evidence → List ℕ
  line_of p = fault_text n p.0 ++ evidence_text n p.1

  line_has_no : (p : Fault × Evidence) → IsEvidence n p → All (λ b. b ≢ 10) (line_of p)
  line_has_no p e = All-append (λ b. b ≢ 10) (fault_text n p.0) (evidence_text n p.1) (text_has_no n sound p.0 e.fault) (evidence_has_no n sound p.1 e.formed)

  with_end : (p : Fault × Evidence) (rest : List ℕ) → evidence_line n p ++ rest ≡ line_of p ++ 10 ∷ rest
  with_end p rest =
      ap (λ zs. zs ++ rest) (sym (append_assoc (fault_text n p.0) (evidence_text n p.1) (codes "\n"))) ∙ append_assoc (line_of p) (codes "\n") rest

  -- ---- lists of them

  same_pair : (p q : Fault × Evidence) (r s : List ℕ) → IsEvidence n p → IsEvidence n q → Unit {0} → Unit {0} → evidence_line n p ++ r ≡ evidence_line n q ++ s → (p ≡ q) × (r ≡ s)
  same_pair p q r s v w _ _ e =
      let m = same_parts 10 (line_of p) (line_of q) r s (line_has_no p v) (line_has_no q w) (sym (with_end p r) ∙ (e ∙ with_end q s)) in
      (same_line (line_of p) p q (record { evidence = v; text = refl }) (record { evidence = w; text = m.0 }), m.1)

  nil_has_no_byte : (xs : List ℕ) (b : ℕ) (rest : List ℕ) → xs ++ b ∷ rest ≡ [] → ⊥
  nil_has_no_byte [] b rest e = cc
  nil_has_no_byte (x ∷ xs) b rest e = cc

  line_some : (p : Fault × Evidence) (rest : List ℕ) → evidence_line n p ++ rest ≡ [] → ⊥
  line_some p rest e = nil_has_no_byte (line_of p) 10 rest (sym (with_end p rest) ∙ e)

  pub same_lines : (evidence others : List (Fault × Evidence)) → All (IsEvidence n) evidence → All (IsEvidence n) others → flat_map (evidence_line n) evidence ≡ flat_map (evidence_line n) others → evidence ≡ others
  same_lines evidence others p q e = same_list (evidence_line n) (IsEvidence n) (λ _. Unit {0}) line_some tt (λ _ _. tt) same_pair evidence others p q e

  -- what is read so far, and what all bytes stand for
  module _ (lines : List ℕ) (read : List (Fault × Evidence)) (rest : List ℕ) (are : All (IsEvidence n) read) (is : lines ≡ flat_map (evidence_line n) read ++ rest) where
    others_of : (evidence : List (Fault × Evidence)) → AreLines n lines evidence → GoesOn (evidence_line n) (IsEvidence n) read evidence rest
    others_of evidence w =
        goes_on (evidence_line n) (IsEvidence n) (λ _. Unit {0}) line_some tt (λ _ _. tt) same_pair read evidence rest are w.each tt
        (sym is ∙ w.is)

    no_end_in : (others : List (Fault × Evidence)) → rest ≡ flat_map (evidence_line n) others → All (λ b. b ≢ 10) rest → rest ≡ []
    no_end_in [] text none = text
    no_end_in (p ∷ ps) text none = absurd (byte_inside 10 (line_of p) (flat_map (evidence_line n) ps) (subst (All (λ b. b ≢ 10)) (text ∙ with_end p (flat_map (evidence_line n) ps)) none))

    pub no_line_end : rest ≢ [] → All (λ b. b ≢ 10) rest → NoLines n lines
    no_line_end some none evidence w = let g = others_of evidence w in some (no_end_in g.others g.text none)

    module _ (line after : List ℕ) (front : All (λ b. b ≢ 10) line) (parts : rest ≡ line ++ 10 ∷ after) where
      no_line_in : (others : List (Fault × Evidence)) → All (IsEvidence n) others → rest ≡ flat_map (evidence_line n) others → ((p : Fault × Evidence) → IsLineOf n line p → ⊥) → ⊥
      no_line_in [] valid text none = nil_has_no_byte line 10 after (sym parts ∙ text)
      no_line_in (p ∷ ps) valid text none =
          let e = All-head (IsEvidence n) p ps valid in
          let m = same_parts 10 line (line_of p) after (flat_map (evidence_line n) ps) front (line_has_no p e) (sym parts ∙ (text ∙ with_end p (flat_map (evidence_line n) ps))) in
          none p (record { evidence = e; text = m.0 })

      pub no_line : ((p : Fault × Evidence) → IsLineOf n line p → ⊥) → NoLines n lines
      no_line none evidence w = let g = others_of evidence w in no_line_in g.others g.valid g.text none

      one_more : (p : Fault × Evidence) → flat_map (evidence_line n) read ++ evidence_line n p ≡ flat_map (evidence_line n) (read ++ p ∷ [])
      one_more p = flat_map_more (evidence_line n) [] read p

      pub line_more : (p : Fault × Evidence) (new : List (Fault × Evidence)) → new ≡ read ++ p ∷ [] → IsLineOf n line p → lines ≡ flat_map (evidence_line n) new ++ after
      line_more p new pushed w =
          is ∙ (ap (λ zs. flat_map (evidence_line n) read ++ zs) (parts ∙ (ap (λ zs. zs ++ 10 ∷ after) w.text ∙ sym (with_end p after)))
          ∙ (sym (append_assoc (flat_map (evidence_line n) read) (evidence_line n p) after) ∙ ap (λ zs. zs ++ after) (one_more p ∙ ap (flat_map (evidence_line n)) (sym pushed))))

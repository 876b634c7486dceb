-- Certificates are told by their first line and what comes behind it.
use Rattle.std.proofs.Common.{◌≡◌, ◌≢◌, ℕ, Bool, true, false, List, [], ◌∷◌, ◌++◌, codes, get_or, refl, sym, ◌∙◌, ap, arith}
use Rattle.std.specs.Prelude.{◌||◌}
use Rattle.std.specs.List.{All, flat_map}
use Rattle.std.proofs.lemmas.List.{append_cancel_left}
use Rattle.std.proofs.lemmas.List.Elements.{All-cons, All-nil}
use Rattle.statement.specs.declared.lines.Fault.{Fault}
use Rattle.netlist.specs.Conditions.{IsSound}
use Rattle.statement.specs.Netlists.{Netlist}
use Rattle.evidence.specs.declared.kinds.Evidence.{Evidence}
use Rattle.evidence.specs.declared.kinds.Evidence.TheVariants.{Tree, Refutation}
use Rattle.evidence.specs.Evidence.{MayBe}
use Rattle.certificate.specs.Certificates.{evidence_line, first_line, has_refutation, is_refutation, IsCertificate, NoCertificate}
use Rattle.certificate.specs.Laws.{FirstLineTells, OneCertificate}
use Rattle.certificate.specs.inner.Parts.{AreLines}
use Rattle.certificate.proofs.LineTexts.{same_lines}

-- ---- the two first lines

same_first : (b c : Bool) (r s : List ℕ) → first_line b ++ r ≡ first_line c ++ s → (b ≡ c) × (r ≡ s)
same_first false false r s e = (refl, append_cancel_left (codes "atpg certificate 1\n") r s e)
same_first true true r s e = (refl, append_cancel_left (codes "atpg certificate 2\n") r s e)
same_first false true r s e = let differ : ◌≡◌ {A = ℕ} 49 50 = ap (λ zs. get_or zs 17 0) e in absurd (omega arith)
same_first true false r s e = let differ : ◌≡◌ {A = ℕ} 50 49 = ap (λ zs. get_or zs 17 0) e in absurd (omega arith)

-- ---- which evidence it is

first_none : (b c : Bool) → (b || c) ≡ false → b ≡ false
first_none false c e = refl
first_none true c e = cc

others_none : (b c : Bool) → (b || c) ≡ false → c ≡ false
others_none false c e = e
others_none true c e = cc

only_tree : (e : Evidence) → is_refutation e ≡ false → MayBe false e
only_tree (Tree nodes) is = tt
only_tree (Refutation steps) is = absurd (cc)

only_trees : (evidence : List (Fault × Evidence)) → has_refutation evidence ≡ false → All (λ (p : Fault × Evidence). MayBe false p.1) evidence
only_trees [] none = All-nil (λ (p : Fault × Evidence). MayBe false p.1)
only_trees (p ∷ ps) none =
    All-cons (λ (p : Fault × Evidence). MayBe false p.1) p ps (only_tree p.1 (first_none (is_refutation p.1) (has_refutation ps) none))
    (only_trees ps (others_none (is_refutation p.1) (has_refutation ps) none))

-- the first line is so, and these bytes come behind it
module _ (n : Netlist) (bytes : List ℕ) (refutes : Bool) (lines : List ℕ) (is : bytes ≡ first_line refutes ++ lines) where
  parts_of : (evidence : List (Fault × Evidence)) → IsCertificate n bytes evidence → (refutes ≡ has_refutation evidence) × (lines ≡ flat_map (evidence_line n) evidence)
  parts_of evidence w = same_first refutes (has_refutation evidence) lines (flat_map (evidence_line n) evidence) (sym is ∙ w.text)

  pub other_version : IsSound n → (read : List (Fault × Evidence)) → AreLines n lines read → has_refutation read ≢ refutes → NoCertificate n bytes
  other_version sound read are other evidence w =
      let parts = parts_of evidence w in
      let same = same_lines n sound read evidence are.each w.each (sym are.is ∙ parts.1) in
      other (ap has_refutation same ∙ sym parts.0)

-- ---- laws

pub one_list : OneCertificate
one_list n bytes evidence others sound v w =
    let parts = parts_of n bytes (has_refutation evidence) (flat_map (evidence_line n) evidence) v.text others w in
    same_lines n sound evidence others v.each w.each parts.1

pub first_tells : FirstLineTells
first_tells n bytes rest evidence w begins = only_trees evidence (sym (parts_of n bytes false rest begins evidence w).0)

-- The line of counts, number by number.
use Rattle.std.proofs.Common.{◌≡◌, ℕ, List, ◌++◌, refl, sym, ◌∙◌, ap, codes, append_assoc, arith}
use Rattle.report.specs.Beginnings.{Begins, NoneBegins, IsCount}
use Rattle.report.proofs.LineLemmas.{IsTold}
use Rattle.unknown_report.specs.declared.claims.ClaimCounts.{ClaimCounts}
use Rattle.unknown_report.specs.Reports.{AreSmallClaims, counts_line, numbered}
use Rattle.unknown_report.proofs.NumberTexts.{number_told}

-- the numbers, each behind its word
abbrev faults_text : ℕ → List ℕ
faults_text = numbered (codes "faults ") 32

abbrev detected_text : ℕ → List ℕ
detected_text = numbered (codes "detected ") 32

abbrev redundant_text : ℕ → List ℕ
redundant_text = numbered (codes "redundant ") 32

abbrev undetected_text : ℕ → List ℕ
undetected_text = numbered (codes "undetected ") 32

abbrev unknown_text : ℕ → List ℕ
unknown_text = numbered (codes "unknown ") 10

module _ (k : ClaimCounts) (rest : List ℕ) where
  -- what stands behind each number
  abbrev pub behind_undetected : List ℕ
  behind_undetected = unknown_text k.unknown ++ rest

  abbrev pub behind_redundant : List ℕ
  behind_redundant = undetected_text k.undetected ++ behind_undetected

  abbrev pub behind_detected : List ℕ
  behind_detected = redundant_text k.redundant ++ behind_redundant

  abbrev pub behind_faults : List ℕ
  behind_faults = detected_text k.detected ++ behind_detected

  pub line_is : counts_line k ++ rest ≡ faults_text k.faults ++ behind_faults
  line_is =
      append_assoc (faults_text k.faults) (detected_text k.detected ++ (redundant_text k.redundant ++ (undetected_text k.undetected ++ unknown_text k.unknown))) rest
      ∙ ap (λ t. faults_text k.faults ++ t)
      (append_assoc (detected_text k.detected) (redundant_text k.redundant ++ (undetected_text k.undetected ++ unknown_text k.unknown)) rest
      ∙ ap (λ t. detected_text k.detected ++ t)
      (append_assoc (redundant_text k.redundant) (undetected_text k.undetected ++ unknown_text k.unknown) rest
      ∙ ap (λ t. redundant_text k.redundant ++ t) (append_assoc (undetected_text k.undetected) (unknown_text k.unknown) rest)))

  -- what was read is what stands there
  module _ (v : AreSmallClaims k) (text after : List ℕ) (x : ℕ) where
    pub after_faults : text ≡ counts_line k ++ rest → Begins IsCount faults_text text x after → (x ≡ k.faults) × (after ≡ behind_faults)
    after_faults e is = number_told 32 (omega arith) (codes "faults ") x k.faults after behind_faults is.0 v.faults (sym is.1 ∙ (e ∙ line_is))

    pub after_detected : text ≡ behind_faults → Begins IsCount detected_text text x after → (x ≡ k.detected) × (after ≡ behind_detected)
    after_detected e is = number_told 32 (omega arith) (codes "detected ") x k.detected after behind_detected is.0 v.detected (sym is.1 ∙ e)

    pub after_redundant : text ≡ behind_detected → Begins IsCount redundant_text text x after → (x ≡ k.redundant) × (after ≡ behind_redundant)
    after_redundant e is = number_told 32 (omega arith) (codes "redundant ") x k.redundant after behind_redundant is.0 v.redundant (sym is.1 ∙ e)

    pub after_undetected : text ≡ behind_redundant → Begins IsCount undetected_text text x after → (x ≡ k.undetected) × (after ≡ behind_undetected)
    after_undetected e is = number_told 32 (omega arith) (codes "undetected ") x k.undetected after behind_undetected is.0 v.undetected (sym is.1 ∙ e)

    pub after_unknown : text ≡ behind_undetected → Begins IsCount unknown_text text x after → (x ≡ k.unknown) × (after ≡ rest)
    after_unknown e is = number_told 10 (omega arith) (codes "unknown ") x k.unknown after rest is.0 v.unknown (sym is.1 ∙ e)

-- a text, as far as its counts were read
module _ (text a : List ℕ) (faults : ℕ) (p : Begins IsCount faults_text text faults a) where
  pub no_detected : NoneBegins IsCount detected_text a → NoneBegins AreSmallClaims counts_line text
  no_detected none k rest v e = none k.detected (behind_detected k rest) v.detected (after_faults k rest v text a faults e p).1

  module _ (b : List ℕ) (detected : ℕ) (q : Begins IsCount detected_text a detected b) where
    at_b : (k : ClaimCounts) (rest : List ℕ) → AreSmallClaims k → text ≡ counts_line k ++ rest → b ≡ behind_detected k rest
    at_b k rest v e = (after_detected k rest v a b detected (after_faults k rest v text a faults e p).1 q).1

    pub no_redundant : NoneBegins IsCount redundant_text b → NoneBegins AreSmallClaims counts_line text
    no_redundant none k rest v e = none k.redundant (behind_redundant k rest) v.redundant (at_b k rest v e)

    module _ (c : List ℕ) (redundant : ℕ) (r : Begins IsCount redundant_text b redundant c) where
      at_c : (k : ClaimCounts) (rest : List ℕ) → AreSmallClaims k → text ≡ counts_line k ++ rest → c ≡ behind_redundant k rest
      at_c k rest v e = (after_redundant k rest v b c redundant (at_b k rest v e) r).1

      pub no_undetected : NoneBegins IsCount undetected_text c → NoneBegins AreSmallClaims counts_line text
      no_undetected none k rest v e = none k.undetected (behind_undetected k rest) v.undetected (at_c k rest v e)

      module _ (d : List ℕ) (undetected : ℕ) (s : Begins IsCount undetected_text c undetected d) where
        pub no_unknown : NoneBegins IsCount unknown_text d → NoneBegins AreSmallClaims counts_line text
        no_unknown none k rest v e = none k.unknown rest v.unknown (after_undetected k rest v c d undetected (at_c k rest v e) s).1

        pub counts_found : (after : List ℕ) (unknown : ℕ) → Begins IsCount unknown_text d unknown after
            → Begins AreSmallClaims counts_line text (record { faults = faults; detected = detected; redundant = redundant; undetected = undetected; unknown = unknown }) after
        counts_found after unknown t =
            let k : ClaimCounts = record { faults = faults; detected = detected; redundant = redundant; undetected = undetected; unknown = unknown } in (
              record { faults = p.0; detected = q.0; redundant = r.0; undetected = s.0; unknown = t.0 },
              p.1 ∙ (ap (λ u. faults_text faults ++ u) (q.1 ∙ ap (λ u. detected_text detected ++ u) (r.1 ∙ ap (λ u. redundant_text redundant ++ u)
                  (s.1 ∙ ap (λ u. undetected_text undetected ++ u) t.1))) ∙ sym (line_is k after)),
            )

-- counts and the rest are told by their text
pub counts_told : IsTold AreSmallClaims counts_line
counts_told k l r s v w e =
    let faults = after_faults l s w (counts_line k ++ r) (behind_faults k r) k.faults e (v.faults, line_is k r) in
    let detected = after_detected l s w (behind_faults k r) (behind_detected k r) k.detected faults.1 (v.detected, refl) in
    let redundant = after_redundant l s w (behind_detected k r) (behind_redundant k r) k.redundant detected.1 (v.redundant, refl) in
    let undetected = after_undetected l s w (behind_redundant k r) (behind_undetected k r) k.undetected redundant.1 (v.undetected, refl) in
    let unknown = after_unknown l s w (behind_undetected k r) r k.unknown undetected.1 (v.unknown, refl) in (
      λ i. record { faults = faults.0 i; detected = detected.0 i; redundant = redundant.0 i; undetected = undetected.0 i; unknown = unknown.0 i },
      unknown.1,
    )

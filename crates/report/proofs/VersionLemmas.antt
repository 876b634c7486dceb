-- The versions of a report's text, and their first lines.
use Rattle.std.proofs.Common.{◌≡◌, ◌≢◌, ℕ, zero, suc, List, [], ◌∷◌, ◌++◌, get_or, refl, ap, arith}
use Rattle.std.proofs.lemmas.List.{append_cancel_left}
use Rattle.report.specs.Reports.{Hold}
use Rattle.report.specs.Texts.{head}
use Rattle.report.specs.declared.versions.Version.{Version}
use Rattle.report.specs.declared.versions.Version.TheVariants.{First, Second, Third, Fourth}
use Rattle.report.specs.inner.Versions.{version_line, version_of}

pub version_told : (a b : Version) (r s : List ℕ) → version_line a ++ r ≡ version_line b ++ s → (a ≡ b) × (r ≡ s)
version_told First First r s e = (refl, append_cancel_left (version_line First) r s e)
version_told Second Second r s e = (refl, append_cancel_left (version_line Second) r s e)
version_told Third Third r s e = (refl, append_cancel_left (version_line Third) r s e)
version_told Fourth Fourth r s e = (refl, append_cancel_left (version_line Fourth) r s e)
version_told First Second r s e = let differ : ◌≡◌ {A = ℕ} 49 50 = ap (λ xs. get_or xs 12 0) e in absurd (omega arith)
version_told First Third r s e = let differ : ◌≡◌ {A = ℕ} 49 51 = ap (λ xs. get_or xs 12 0) e in absurd (omega arith)
version_told First Fourth r s e = let differ : ◌≡◌ {A = ℕ} 49 52 = ap (λ xs. get_or xs 12 0) e in absurd (omega arith)
version_told Second First r s e = let differ : ◌≡◌ {A = ℕ} 50 49 = ap (λ xs. get_or xs 12 0) e in absurd (omega arith)
version_told Second Third r s e = let differ : ◌≡◌ {A = ℕ} 50 51 = ap (λ xs. get_or xs 12 0) e in absurd (omega arith)
version_told Second Fourth r s e = let differ : ◌≡◌ {A = ℕ} 50 52 = ap (λ xs. get_or xs 12 0) e in absurd (omega arith)
version_told Third First r s e = let differ : ◌≡◌ {A = ℕ} 51 49 = ap (λ xs. get_or xs 12 0) e in absurd (omega arith)
version_told Third Second r s e = let differ : ◌≡◌ {A = ℕ} 51 50 = ap (λ xs. get_or xs 12 0) e in absurd (omega arith)
version_told Third Fourth r s e = let differ : ◌≡◌ {A = ℕ} 51 52 = ap (λ xs. get_or xs 12 0) e in absurd (omega arith)
version_told Fourth First r s e = let differ : ◌≡◌ {A = ℕ} 52 49 = ap (λ xs. get_or xs 12 0) e in absurd (omega arith)
version_told Fourth Second r s e = let differ : ◌≡◌ {A = ℕ} 52 50 = ap (λ xs. get_or xs 12 0) e in absurd (omega arith)
version_told Fourth Third r s e = let differ : ◌≡◌ {A = ℕ} 52 51 = ap (λ xs. get_or xs 12 0) e in absurd (omega arith)

pub no_version : (text : List ℕ) → ((r : List ℕ) → text ≢ version_line First ++ r) → ((r : List ℕ) → text ≢ version_line Second ++ r)
    → ((r : List ℕ) → text ≢ version_line Third ++ r) → ((r : List ℕ) → text ≢ version_line Fourth ++ r)
    → (version : Version) (rest : List ℕ) → text ≢ version_line version ++ rest
no_version text one two three four First rest e = one rest e
no_version text one two three four Second rest e = two rest e
no_version text one two three four Third rest e = three rest e
no_version text one two three four Fourth rest e = four rest e

-- the version that a report's text has
pub head_is : (m k : ℕ) (hs : List Hold) → head m k hs ≡ version_line (version_of m k hs)
head_is zero zero [] = refl
head_is zero zero (h ∷ hs) = refl
head_is zero (suc k) hs = refl
head_is (suc m) k hs = refl

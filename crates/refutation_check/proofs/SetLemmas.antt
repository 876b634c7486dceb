-- Tests of sets of pairs.
use Rattle.std.proofs.Common.{◌≡◌, ◌↔◌, Bool, true, false, not, ◌&&◌, ◌||◌, refl, sym, ◌∙◌, ap, inl, inr}
use Rattle.std.proofs.lemmas.Bool.{both_ways, and_cases, or_from, or_parts, not-true, not_from_false}
use Rattle.refutation.specs.declared.pairs.Pairs.{Pairs}
use Rattle.refutation.specs.Pairs.{has, AreApart, meet, others}
use Rattle.refutation.proofs.PairLemmas.{pair}
use Rattle.refutation_check.specs.inner.Images.{has_some}

and_off : (x y : Bool) → (x && y) ≡ false → x ≡ true → y ≡ false
and_off x y h one = elim (and_cases x y h) [ inl e ↦ absurd (both_ways x e one) | inr e ↦ e ]

off_and : (x y : Bool) → (x ≡ true → y ≡ false) → (x && y) ≡ false
off_and true y h = h refl
off_and false y h = refl

apart_of : (s t : Pairs) (g b : Bool) → has_some (meet s t) ≡ false → has s (pair g b) ≡ true → has t (pair g b) ≡ false
apart_of s t true true h one =
    and_off s.one t.one (or_parts (s.falls && t.falls) (s.one && t.one) (or_parts ((s.zero && t.zero) || (s.rises && t.rises)) ((s.falls && t.falls) || (s.one && t.one)) h).1).1 one
apart_of s t true false h one =
    and_off s.falls t.falls (or_parts (s.falls && t.falls) (s.one && t.one) (or_parts ((s.zero && t.zero) || (s.rises && t.rises)) ((s.falls && t.falls) || (s.one && t.one)) h).1).0 one
apart_of s t false true h one =
    and_off s.rises t.rises (or_parts (s.zero && t.zero) (s.rises && t.rises) (or_parts ((s.zero && t.zero) || (s.rises && t.rises)) ((s.falls && t.falls) || (s.one && t.one)) h).0).1 one
apart_of s t false false h one =
    and_off s.zero t.zero (or_parts (s.zero && t.zero) (s.rises && t.rises) (or_parts ((s.zero && t.zero) || (s.rises && t.rises)) ((s.falls && t.falls) || (s.one && t.one)) h).0).0 one

none_apart : (s t : Pairs) → AreApart s t → has_some (meet s t) ≡ false
none_apart s t h =
    or_from ((s.zero && t.zero) || (s.rises && t.rises)) ((s.falls && t.falls) || (s.one && t.one))
    (or_from (s.zero && t.zero) (s.rises && t.rises) (off_and s.zero t.zero (h (pair false false))) (off_and s.rises t.rises (h (pair false true))))
    (or_from (s.falls && t.falls) (s.one && t.one) (off_and s.falls t.falls (h (pair true false))) (off_and s.one t.one (h (pair true true))))

-- no pair is in both exactly where there is none in what they have in common
pub apart_none : (s t : Pairs) (common : Bool) → common ≡ has_some (meet s t) → (not common ≡ true) ↔ AreApart s t
apart_none s t common is = ((λ h p. apart_of s t p.good p.faulty (sym is ∙ not-true common h)), (λ h. not_from_false common (is ∙ none_apart s t h)))

-- ---- each pair of one set in another

abbrev pub set_of : Bool → Bool → Bool → Bool → Pairs
set_of z r f o = record { zero = z; rises = r; falls = f; one = o }

keeps_bit : (a b : Bool) → (a && not b) ≡ false → (a && b) ≡ a
keeps_bit true true h = refl
keeps_bit true false h = absurd (both_ways true h refl)
keeps_bit false b h = refl

loses_none : (a b : Bool) → (a && b) ≡ a → (a && not b) ≡ false
loses_none true true h = refl
loses_none true false h = absurd (both_ways false refl h)
loses_none false b h = refl

no_lost : (s t : Pairs) → has_some (meet s (others t)) ≡ false → meet s t ≡ s
no_lost s t h =
    let both = or_parts ((s.zero && not t.zero) || (s.rises && not t.rises)) ((s.falls && not t.falls) || (s.one && not t.one)) h in
    let low = or_parts (s.zero && not t.zero) (s.rises && not t.rises) both.0 in
    let high = or_parts (s.falls && not t.falls) (s.one && not t.one) both.1 in
    ap (λ b. set_of b (s.rises && t.rises) (s.falls && t.falls) (s.one && t.one)) (keeps_bit s.zero t.zero low.0)
    ∙ (ap (λ b. set_of s.zero b (s.falls && t.falls) (s.one && t.one)) (keeps_bit s.rises t.rises low.1)
    ∙ (ap (λ b. set_of s.zero s.rises b (s.one && t.one)) (keeps_bit s.falls t.falls high.0) ∙ ap (λ b. set_of s.zero s.rises s.falls b) (keeps_bit s.one t.one high.1)))

lost_none : (s t : Pairs) → meet s t ≡ s → has_some (meet s (others t)) ≡ false
lost_none s t e =
    or_from ((s.zero && not t.zero) || (s.rises && not t.rises)) ((s.falls && not t.falls) || (s.one && not t.one))
    (or_from (s.zero && not t.zero) (s.rises && not t.rises) (loses_none s.zero t.zero (ap (λ (p : Pairs). p.zero) e)) (loses_none s.rises t.rises (ap (λ (p : Pairs). p.rises) e)))
    (or_from (s.falls && not t.falls) (s.one && not t.one) (loses_none s.falls t.falls (ap (λ (p : Pairs). p.falls) e)) (loses_none s.one t.one (ap (λ (p : Pairs). p.one) e)))

pub within_if : (s t : Pairs) (some : Bool) → some ≡ has_some (meet s (others t)) → (not some ≡ true) ↔ (meet s t ≡ s)
within_if s t some is = ((λ h. no_lost s t (sym is ∙ not-true some h)), (λ e. not_from_false some (is ∙ lost_none s t e)))

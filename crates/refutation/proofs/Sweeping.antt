-- Sets of one pair, and what a sweep leaves.
use Rattle.std.proofs.Common.{◌≡◌, ℕ, ◌<◌, suc, zero, Bool, true, false, [], ◌∷◌, length, refl, sym, ◌∙◌, ap, arith}
use Rattle.std.proofs.lemmas.Bool.{both_ways}
use Rattle.statement.specs.declared.lines.Fault.{Fault}
use Rattle.statement.specs.Netlists.{Netlist}
use Rattle.refutation.specs.declared.pairs.Pairs.{Pairs}
use Rattle.refutation.specs.Pairs.{Pair, has, no_pair, only_pair}
use Rattle.refutation.specs.Refutations.{Told, told_of, IsSwept, LeavesNothing}
use Rattle.refutation.proofs.PairLemmas.{pair}

has_only_of : (g b : Bool) → has (only_pair (pair g b)) (pair g b) ≡ true
has_only_of true true = refl
has_only_of true false = refl
has_only_of false true = refl
has_only_of false false = refl

pub has_only : (p : Pair) → has (only_pair p) p ≡ true
has_only p = has_only_of p.good p.faulty

only_has_of : (g b h c : Bool) → has (only_pair (pair g b)) (pair h c) ≡ true → pair g b ≡ pair h c
only_has_of true true true true e = refl
only_has_of true true true false e = absurd (both_ways false refl e)
only_has_of true true false true e = absurd (both_ways false refl e)
only_has_of true true false false e = absurd (both_ways false refl e)
only_has_of true false true true e = absurd (both_ways false refl e)
only_has_of true false true false e = refl
only_has_of true false false true e = absurd (both_ways false refl e)
only_has_of true false false false e = absurd (both_ways false refl e)
only_has_of false true true true e = absurd (both_ways false refl e)
only_has_of false true true false e = absurd (both_ways false refl e)
only_has_of false true false true e = refl
only_has_of false true false false e = absurd (both_ways false refl e)
only_has_of false false true true e = absurd (both_ways false refl e)
only_has_of false false true false e = absurd (both_ways false refl e)
only_has_of false false false true e = absurd (both_ways false refl e)
only_has_of false false false false e = refl

-- it has no other
pub only_has : (p q : Pair) → has (only_pair p) q ≡ true → p ≡ q
only_has p q e = only_has_of p.good p.faulty q.good q.faulty e

no_has_of : (g b : Bool) → has no_pair (pair g b) ≡ false
no_has_of true true = refl
no_has_of true false = refl
no_has_of false true = refl
no_has_of false false = refl

pub no_has : (p : Pair) → has no_pair p ≡ false
no_has p = no_has_of p.good p.faulty

-- what has a pair is told
pub told_below : (told : Told) (x : ℕ) (p : Pair) → has (told_of told x) p ≡ true → x < length told
told_below [] x p h = absurd (both_ways (has no_pair p) (no_has p) h)
told_below (s ∷ ss) zero p h = omega arith
told_below (s ∷ ss) (suc x) p h = let l = told_below ss x p h in omega (arith, l)

-- ---- one result

same_bit : (a b : Bool) → (a ≡ true → b ≡ true) → (b ≡ true → a ≡ true) → a ≡ b
same_bit true b h k = sym (h refl)
same_bit false true h k = k refl
same_bit false false h k = refl

abbrev set_of : Bool → Bool → Bool → Bool → Pairs
set_of z r f o = record { zero = z; rises = r; falls = f; one = o }

pub same_pairs : (s t : Pairs) → ((p : Pair) → has s p ≡ true → has t p ≡ true) → ((p : Pair) → has t p ≡ true → has s p ≡ true) → s ≡ t
same_pairs s t h k =
    ap (λ b. set_of b s.rises s.falls s.one) (same_bit s.zero t.zero (h (pair false false)) (k (pair false false)))
    ∙ (ap (λ b. set_of t.zero b s.falls s.one) (same_bit s.rises t.rises (h (pair false true)) (k (pair false true)))
    ∙ (ap (λ b. set_of t.zero t.rises b s.one) (same_bit s.falls t.falls (h (pair true false)) (k (pair true false)))
    ∙ ap (λ b. set_of t.zero t.rises t.falls b) (same_bit s.one t.one (h (pair true true)) (k (pair true true)))))

same_told : (a b : Told) → length a ≡ length b → ((x : ℕ) → told_of a x ≡ told_of b x) → a ≡ b
same_told [] [] e h = refl
same_told [] (t ∷ ts) e h = absurd (omega arith)
same_told (s ∷ ss) [] e h = absurd (omega arith)
same_told (s ∷ ss) (t ∷ ts) e h =
    let head : s ≡ t = h zero in
    ap (λ (r : Pairs). r ∷ ss) head ∙ ap (λ rs. t ∷ rs) (same_told ss ts (omega arith) (λ x. h (suc x)))

pub something_left : (n : Netlist) (f : Fault) (told swept : Told) → IsSwept n f told swept → LeavesNothing n f told → ⊥
something_left n f told swept w h = h swept w.within w.allowed

pub swept_once : (n : Netlist) (f : Fault) (told one other : Told) → IsSwept n f told one → IsSwept n f told other → one ≡ other
swept_once n f told one other v w =
    same_told one other (v.allowed.size ∙ sym w.allowed.size)
    (λ x. same_pairs (told_of one x) (told_of other x) (λ p h. w.most one v.within v.allowed x p h) (λ p h. v.most other w.within w.allowed x p h))

-- What an operation makes of two sets of pairs, over all pairs from both.
use Rattle.std.proofs.Common.{◌≡◌, Bool, true, false, not, ◌&&◌, ◌||◌, cond, List, [], ◌∷◌, refl, sym, ◌∙◌, ap, subst, arith}
use Rattle.std.specs.Bool.{beq}
use Rattle.std.specs.List.{Contains, list_any}
use Rattle.std.proofs.lemmas.Bool.{and_from, and_parts}
use Rattle.netlist.proofs.Lists.{any_true, any_from, decides_beq}
use Rattle.refutation.specs.declared.pairs.Pairs.{Pairs}
use Rattle.refutation.specs.Pairs.{Pair, has}
use Rattle.refutation_check.specs.inner.Images.{both, either, odd, beside}
use Rattle.refutation.proofs.PairLemmas.{pair}

abbrev pub all_pairs : List Pair
all_pairs = pair false false ∷ pair false true ∷ pair true false ∷ pair true true ∷ []

abbrev pub is_pair : Pair → Pair → Bool
is_pair p q = beq p.good q.good && beq p.faulty q.faulty

is_itself : (p : Pair) → is_pair p p ≡ true
is_itself p = and_from (beq p.good p.good) (beq p.faulty p.faulty) ((decides_beq p.good p.good).1 refl) ((decides_beq p.faulty p.faulty).1 refl)

is_same_pair : (p q : Pair) → is_pair p q ≡ true → p ≡ q
is_same_pair p q e =
    let parts = and_parts (beq p.good q.good) (beq p.faulty q.faulty) e in
    ap (λ b. pair b p.faulty) ((decides_beq p.good q.good).0 parts.0) ∙ ap (pair q.good) ((decides_beq p.faulty q.faulty).0 parts.1)

among_of : (g b : Bool) → Contains all_pairs (pair g b)
among_of false false = (0, omega arith, refl)
among_of false true = (1, omega arith, refl)
among_of true false = (2, omega arith, refl)
among_of true true = (3, omega arith, refl)

-- a pair of the one and a pair of the other make it
abbrev pub makes : (Pair → Pair → Pair) → Pairs → Pairs → Pair → Bool
makes op s t r = list_any (λ p. has s p && list_any (λ q. has t q && is_pair (op p q) r) all_pairs) all_pairs

abbrev pub products : (Pair → Pair → Pair) → Pairs → Pairs → Pairs
products op s t = record { zero = makes op s t (pair false false); rises = makes op s t (pair false true); falls = makes op s t (pair true false); one = makes op s t (pair true true) }

has_products_of : (op : Pair → Pair → Pair) (s t : Pairs) (g b : Bool) → has (products op s t) (pair g b) ≡ makes op s t (pair g b)
has_products_of op s t true true = refl
has_products_of op s t true false = refl
has_products_of op s t false true = refl
has_products_of op s t false false = refl

-- a set-valued operation has exactly what the operation makes
pub record IsExact (times : Pairs → Pairs → Pairs) (op : Pair → Pair → Pair) : Type 0 where
  pub sound : (s t : Pairs) (p q : Pair) → has s p ≡ true → has t q ≡ true → has (times s t) (op p q) ≡ true
  pub reach : (s t : Pairs) (r : Pair) → has (times s t) r ≡ true → (p : Pair) × (q : Pair) × (has s p ≡ true) × (has t q ≡ true) × (op p q ≡ r)

made_there : (op : Pair → Pair → Pair) (s t : Pairs) (p q : Pair) → has s p ≡ true → has t q ≡ true → makes op s t (op p q) ≡ true
made_there op s t p q h k =
    any_from (λ u. has s u && list_any (λ w. has t w && is_pair (op u w) (op p q)) all_pairs) all_pairs p (among_of p.good p.faulty)
    (and_from (has s p) (list_any (λ w. has t w && is_pair (op p w) (op p q)) all_pairs) h
    (any_from (λ w. has t w && is_pair (op p w) (op p q)) all_pairs q (among_of q.good q.faulty)
    (and_from (has t q) (is_pair (op p q) (op p q)) k (is_itself (op p q)))))

has_products : (op : Pair → Pair → Pair) (s t : Pairs) (r : Pair) → has (products op s t) r ≡ makes op s t r
has_products op s t r = has_products_of op s t r.good r.faulty

pub products_exact : (op : Pair → Pair → Pair) → IsExact (products op) op
products_exact op = record {
  sound = λ s t p q h k. has_products op s t (op p q) ∙ made_there op s t p q h k;
  reach = λ s t r h.
      let one = any_true (λ p. has s p && list_any (λ q. has t q && is_pair (op p q) r) all_pairs) all_pairs (sym (has_products op s t r) ∙ h) in
      let p = one.0 in
      let parts = and_parts (has s p) (list_any (λ q. has t q && is_pair (op p q) r) all_pairs) one.2 in
      let other = any_true (λ q. has t q && is_pair (op p q) r) all_pairs parts.1 in
      let rest = and_parts (has t other.0) (is_pair (op p other.0) r) other.2 in
      (p, other.0, parts.0, rest.0, is_same_pair (op p other.0) r rest.1);
}

-- ---- by all sets

each_bit : (Bool → Bool) → Bool
each_bit test = test true && test false

each_bit_so : (test : Bool → Bool) → each_bit test ≡ true → (b : Bool) → test b ≡ true
unfolding each_bit
each_bit_so test h true = (and_parts (test true) (test false) h).0
each_bit_so test h false = (and_parts (test true) (test false) h).1

abbrev pairs : Bool → Bool → Bool → Bool → Pairs
pairs a b c d = record { zero = a; rises = b; falls = c; one = d }

abbrev alike : Pairs → Pairs → Bool
alike s t = (beq s.zero t.zero && beq s.rises t.rises) && (beq s.falls t.falls && beq s.one t.one)

alike_same : (s t : Pairs) → alike s t ≡ true → s ≡ t
alike_same s t h =
    let halves = and_parts (beq s.zero t.zero && beq s.rises t.rises) (beq s.falls t.falls && beq s.one t.one) h in
    let low = and_parts (beq s.zero t.zero) (beq s.rises t.rises) halves.0 in
    let high = and_parts (beq s.falls t.falls) (beq s.one t.one) halves.1 in
    ap (λ b. pairs b s.rises s.falls s.one) ((decides_beq s.zero t.zero).0 low.0)
    ∙ (ap (λ b. pairs t.zero b s.falls s.one) ((decides_beq s.rises t.rises).0 low.1)
    ∙ (ap (λ b. pairs t.zero t.rises b s.one) ((decides_beq s.falls t.falls).0 high.0)
    ∙ ap (pairs t.zero t.rises t.falls) ((decides_beq s.one t.one).0 high.1)))

each_set : (Pairs → Bool) → Bool
each_set test = each_bit (λ a. each_bit (λ b. each_bit (λ c. each_bit (λ d. test (pairs a b c d)))))

each_set_so : (test : Pairs → Bool) → each_set test ≡ true → (s : Pairs) → test s ≡ true
unfolding each_set
each_set_so test h s =
    each_bit_so (λ d. test (pairs s.zero s.rises s.falls d))
    (each_bit_so (λ c. each_bit (λ d. test (pairs s.zero s.rises c d)))
    (each_bit_so (λ b. each_bit (λ c. each_bit (λ d. test (pairs s.zero b c d))))
    (each_bit_so (λ a. each_bit (λ b. each_bit (λ c. each_bit (λ d. test (pairs a b c d))))) h s.zero) s.rises) s.falls) s.one

each_two : (Pairs → Pairs → Bool) → Bool
each_two test = each_set (λ s. each_set (test s))

each_two_so : (test : Pairs → Pairs → Bool) → each_two test ≡ true → (s t : Pairs) → test s t ≡ true
unfolding each_two
each_two_so test h s t = each_set_so (test s) (each_set_so (λ u. each_set (test u)) h s) t

by_tables : (times : Pairs → Pairs → Pairs) (op : Pair → Pair → Pair) → ((s t : Pairs) → alike (times s t) (products op s t) ≡ true) → IsExact times op
by_tables times op same =
    let is : (s t : Pairs) → products op s t ≡ times s t = λ s t. sym (alike_same (times s t) (products op s t) (same s t)) in
    record {
      sound = λ s t p q h k. subst (λ (u : Pairs). has u (op p q) ≡ true) (is s t) ((products_exact op).sound s t p q h k);
      reach = λ s t r h. (products_exact op).reach s t r (subst (λ (u : Pairs). has u r ≡ true) (sym (is s t)) h);
    }

abbrev pub and_pair : Pair → Pair → Pair
and_pair p q = pair (p.good && q.good) (p.faulty && q.faulty)

abbrev pub or_pair : Pair → Pair → Pair
or_pair p q = pair (p.good || q.good) (p.faulty || q.faulty)

abbrev pub xor_pair : Pair → Pair → Pair
xor_pair p q = pair (cond p.good (not q.good) q.good) (cond p.faulty (not q.faulty) q.faulty)

abbrev pub first_pair : Pair → Pair → Pair
first_pair p q = p

abbrev pub second_pair : Pair → Pair → Pair
second_pair p q = q

and_table : each_two (λ s t. alike (both s t) (products and_pair s t)) ≡ true
unfolding each_two each_set each_bit
and_table = refl

or_table : each_two (λ s t. alike (either s t) (products or_pair s t)) ≡ true
unfolding each_two each_set each_bit
or_table = refl

xor_table : each_two (λ s t. alike (odd s t) (products xor_pair s t)) ≡ true
unfolding each_two each_set each_bit
xor_table = refl

first_table : each_two (λ s t. alike (beside s t) (products first_pair s t)) ≡ true
unfolding each_two each_set each_bit
first_table = refl

second_table : each_two (λ s t. alike (beside t s) (products second_pair s t)) ≡ true
unfolding each_two each_set each_bit
second_table = refl

pub both_exact : IsExact both and_pair
both_exact = by_tables both and_pair (each_two_so (λ s t. alike (both s t) (products and_pair s t)) and_table)

pub either_exact : IsExact either or_pair
either_exact = by_tables either or_pair (each_two_so (λ s t. alike (either s t) (products or_pair s t)) or_table)

pub odd_exact : IsExact odd xor_pair
odd_exact = by_tables odd xor_pair (each_two_so (λ s t. alike (odd s t) (products xor_pair s t)) xor_table)

pub first_exact : IsExact beside first_pair
first_exact = by_tables beside first_pair (each_two_so (λ s t. alike (beside s t) (products first_pair s t)) first_table)

pub second_exact : IsExact (λ s t. beside t s) second_pair
second_exact = by_tables (λ s t. beside t s) second_pair (each_two_so (λ s t. alike (beside t s) (products second_pair s t)) second_table)

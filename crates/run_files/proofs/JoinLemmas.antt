-- Lists of patterns joined, each pattern once.
use Rattle.std.proofs.Common.{◌≡◌, ◌≢◌, inl, inr, Bool, false, true≢false, List, [], ◌∷◌, ◌++◌, sym, ◌∙◌, ap, subst, arith, length-append}
use Rattle.std.specs.Bool.{Decides}
use Rattle.std.specs.List.{All, Contains}
use Rattle.std.proofs.lemmas.List.Elements.{All-contains, All-contains_itself, All-weaker, Contains-append_cases, Contains-append_left, Contains-append_right, Contains-get_or}
use Rattle.std.proofs.lemmas.List.Quantifiers.{all_pairs_push}
use Rattle.netlist.proofs.Lists.{contains_cases, contains_nil}
use Rattle.statement.specs.Patterns.{Pattern}
use Rattle.run_files.specs.inner.Often.{AreJoined}

-- two patterns of the same inputs
pub same_inputs : (p q : Pattern) (r : Bool) → p.inputs ≡ q.inputs → Decides r (p.cells ≡ q.cells) → Decides r (p ≡ q)
same_inputs p q r same d = (
  (λ is. let cells = d.0 is in λ i. record { inputs = same i; cells = cells i }),
  (λ e. d.1 (ap (λ (x : Pattern). x.cells) e)),
)

-- and of others
pub other_inputs : (p q : Pattern) (r : Bool) → r ≡ false → Decides r (p.inputs ≡ q.inputs) → Decides r (p ≡ q)
other_inputs p q r other d = (
  (λ is. absurd (true≢false (sym is ∙ other))),
  (λ e. d.1 (ap (λ (x : Pattern). x.inputs) e)),
)

-- a pattern that stands there
pub there : (old : List Pattern) (p : Pattern) → Contains old p → AreJoined old (p ∷ []) old
there old p is = record {
  old_in = λ q c. c;
  more_in = λ q c. elim (contains_cases p q [] c) [
    | inl same ↦ subst (λ (r : Pattern). Contains old r) same is
    | inr none ↦ absurd (contains_nil q none)
  ];
  no_other = λ q c. inl c;
  differ = λ d. d;
  few = omega arith;
}

-- one that doesn't
pub pushed : (old : List Pattern) (p : Pattern) → ¬ Contains old p → AreJoined old (p ∷ []) (old ++ p ∷ [])
pushed old p none = record {
  old_in = λ q c. Contains-append_left old (p ∷ []) q c;
  more_in = λ q c. Contains-append_right old (p ∷ []) q c;
  no_other = λ q c. Contains-append_cases old (p ∷ []) q c;
  differ = λ d.
      all_pairs_push (λ (a b : Pattern). a ≢ b) old p d
      (λ k e lt same. none (subst (λ (q : Pattern). Contains old q) same (Contains-get_or old k e lt)));
  few = omega (arith, length-append old (p ∷ []));
}

pub joined_none : (old : List Pattern) → AreJoined old [] old
joined_none old = record {
  old_in = λ q c. c;
  more_in = λ q c. absurd (contains_nil q c);
  no_other = λ q c. inl c;
  differ = λ d. d;
  few = omega arith;
}

pub joined_more : (old more mid new : List Pattern) (p : Pattern) → AreJoined old more mid → AreJoined mid (p ∷ []) new → AreJoined old (more ++ p ∷ []) new
joined_more old more mid new p a b = record {
  old_in = λ q c. b.old_in q (a.old_in q c);
  more_in = λ q c. elim (Contains-append_cases more (p ∷ []) q c) [
    | inl before ↦ b.old_in q (a.more_in q before)
    | inr here ↦ b.more_in q here
  ];
  no_other = λ q c. elim (b.no_other q c) [
    | inl in_mid ↦ elim (a.no_other q in_mid) [
      | inl in_old ↦ inl in_old
      | inr in_more ↦ inr (Contains-append_left more (p ∷ []) q in_more)
    ]
    | inr here ↦ inr (Contains-append_right more (p ∷ []) q here)
  ];
  differ = λ d. b.differ (a.differ d);
  few = omega (arith, a.few, b.few, length-append more (p ∷ []));
}

-- what holds of both lists holds of all
pub all_joined : (P : Pattern → Type 0) (old more new : List Pattern) → AreJoined old more new → All P old → All P more → All P new
all_joined P old more new is a b =
    All-weaker (λ (p : Pattern). Contains new p) P
    (λ p c. elim (is.no_other p c) [ inl o ↦ All-contains P old p a o | inr m ↦ All-contains P more p b m ])
    new (All-contains_itself new)

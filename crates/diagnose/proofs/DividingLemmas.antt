-- The failures of a log at strobes, and the others.
use Rattle.std.proofs.Common.{◌≡◌, ◌≢◌, ℕ, ◌+◌, ◌<◌, Bool, List, [], ◌∷◌, ◌++◌, map, length, take, Some, slice_get, sym, ◌∙◌, ap, subst, inl, inr, arith}
use Rattle.std.specs.List.{AllPairs, Contains}
use Rattle.std.proofs.lemmas.Bool.{cases_eq}
use Rattle.std.proofs.lemmas.List.{take_all}
use Rattle.std.proofs.lemmas.List.Elements.{Contains-append_cases, Contains-append_left, Contains-append_right, Contains-get_or}
use Rattle.std.proofs.lemmas.List.Quantifiers.{all_pairs_push}
use Rattle.std.proofs.lemmas.Option.{slice_get-get_or}
use Rattle.statement.specs.Netlists.{Netlist}
use Rattle.statement.specs.Values.{known}
use Rattle.statement.specs.Runs.{Cycle, output_name, strobe_at}
use Rattle.netlist.proofs.Lists.{contains_cases, contains_head, contains_nil}
use Rattle.diagnose.specs.Failures.{Failing}
use Rattle.diagnose.specs.inner.Marks.{IsStrobed}
use Rattle.diagnose.specs.inner.Ranks.{AreDivided, IsAddedOnce}
use Rattle.diagnose.proofs.MoreMarks.{has_name, in_more, last_in, still_in}

-- ---- whether one is there

-- it is none of the first ones
abbrev pub IsNoneOf : List Failing → ℕ → Failing → Type 0
IsNoneOf lines k f = (i : ℕ) → i < k → slice_get lines i ≢ Some f

some_same : (f g : Failing) → Some f ≡ Some g → f ≡ g
some_same f g e = cc

pub none_more : (lines : List Failing) (k : ℕ) (f g : Failing) → slice_get lines k ≡ Some g → g ≢ f → IsNoneOf lines k f → IsNoneOf lines (k + 1) f
none_more lines k f g at ne h i l e = elim (cases_eq i k) [
  | inl same ↦ ne (some_same g f (sym at ∙ (ap (slice_get lines) (sym same) ∙ e)))
  | inr other ↦ h i (omega (arith, l, other)) e
]

pub none_of_all : (lines : List Failing) (k : ℕ) (f : Failing) → length lines ≡ k → IsNoneOf lines k f → Contains lines f → ⊥
none_of_all lines k f e h c = h c.0 (let l = c.1 in omega (arith, l, e)) (slice_get-get_or lines c.0 f c.1 ∙ ap (λ x. Some x) c.2)

-- ---- one more

pub added_not : (f : Failing) (lines : List Failing) → Contains lines f → IsAddedOnce f lines lines
added_not f lines c = record { exactly = λ g. (λ h. inl h, λ h. elim h [ inl old ↦ old | inr e ↦ subst (Contains lines) (sym e) c ]); once = λ h. h }

pub added : (f : Failing) (lines new : List Failing) → (Contains lines f → ⊥) → new ≡ lines ++ f ∷ [] → IsAddedOnce f lines new
added f lines new not is = record {
  exactly = λ g. (
    λ c. elim (Contains-append_cases lines (f ∷ []) g (subst (λ xs. Contains xs g) is c)) [
      | inl old ↦ inl old
      | inr last ↦ elim (contains_cases f g [] last) [ inl e ↦ inr (sym e) | inr r ↦ absurd (contains_nil g r) ]
    ],
    λ h. subst (λ xs. Contains xs g) (sym is) (elim h [
      | inl old ↦ Contains-append_left lines (f ∷ []) g old
      | inr e ↦ Contains-append_right lines (f ∷ []) g (subst (Contains (f ∷ [])) (sym e) (contains_head f []))
    ]),
  );
  once = λ h. subst (AllPairs (λ g q. g ≢ q)) (sym is) (all_pairs_push (λ g q. g ≢ q) lines f h (λ k d l e. not (subst (Contains lines) e (Contains-get_or lines k d l))));
}

-- ---- the log

pub divided_none : (s : Netlist) (cycles : List Cycle) (log strobed strangers : List Failing) → strobed ≡ [] → strangers ≡ [] → AreDivided s cycles (take 0 log) strobed strangers
divided_none s cycles log strobed strangers e h =
    subst (λ xs. AreDivided s cycles (take 0 log) xs strangers) (sym e) (subst (λ xs. AreDivided s cycles (take 0 log) [] xs) (sym h) (record {
      all = λ f c. absurd (empty log f c);
      strobed_are = λ f c. absurd (contains_nil f c);
      strangers_are = λ f c. absurd (contains_nil f c);
      once = λ i j d less l. absurd (omega (arith, l));
    }))
  where
    empty : (log : List Failing) (f : Failing) → Contains (take 0 log) f → ⊥
    empty [] f c = contains_nil f c
    empty (g ∷ log) f c = contains_nil f c

module _ (s : Netlist) (cycles : List Cycle) (log : List Failing) (k : ℕ) (f : Failing) (at : slice_get log k ≡ Some f) (strobed strangers : List Failing) (h : AreDivided s cycles (take k log) strobed strangers) where
  pub divided_strobed : (o : ℕ) (new : List Failing) → IsStrobed s cycles f o → new ≡ strobed ++ f ∷ [] → AreDivided s cycles (take (k + 1) log) new strangers
  divided_strobed o new is e = subst (λ xs. AreDivided s cycles (take (k + 1) log) xs strangers) (sym e) (record {
    all = λ g c. elim (in_more log k f g at c) [
      | inl before ↦ elim (h.all g before) [ inl one ↦ inl (Contains-append_left strobed (f ∷ []) g one) | inr two ↦ inr two ]
      | inr same ↦ inl (Contains-append_right strobed (f ∷ []) g (subst (Contains (f ∷ [])) same (contains_head f [])))
    ];
    strobed_are = λ g c. elim (Contains-append_cases strobed (f ∷ []) g c) [
      | inl old ↦ let o = h.strobed_are g old in (still_in log k f at g o.0, o.1)
      | inr last ↦ elim (contains_cases f g [] last) [
        | inl same ↦ (subst (Contains (take (k + 1) log)) same (last_in log k f at), (o, subst (λ x. IsStrobed s cycles x o) same is))
        | inr r ↦ absurd (contains_nil g r)
      ]
    ];
    strangers_are = λ g c. let o = h.strangers_are g c in (still_in log k f at g o.0, o.1);
    once = h.once;
  })

  pub divided_stranger : (new : List Failing) → ((o : ℕ) → IsStrobed s cycles f o → ⊥) → IsAddedOnce f strangers new → AreDivided s cycles (take (k + 1) log) strobed new
  divided_stranger new never more = record {
    all = λ g c. elim (in_more log k f g at c) [
      | inl before ↦ elim (h.all g before) [ inl one ↦ inl one | inr two ↦ inr ((more.exactly g).1 (inl two)) ]
      | inr same ↦ inr ((more.exactly g).1 (inr (sym same)))
    ];
    strobed_are = λ g c. let o = h.strobed_are g c in (still_in log k f at g o.0, o.1);
    strangers_are = λ g c. elim ((more.exactly g).0 c) [
      | inl old ↦ let o = h.strangers_are g old in (still_in log k f at g o.0, o.1)
      | inr same ↦ (subst (Contains (take (k + 1) log)) (sym same) (last_in log k f at), λ o is. never o (subst (λ x. IsStrobed s cycles x o) same is))
    ];
    once = more.once h.once;
  }

pub not_strobed : (s : Netlist) (cycles : List Cycle) (f : Failing) (names : List (List ℕ)) → names ≡ map (output_name s) s.outputs
    → ((o : ℕ) (b : Bool) → slice_get names o ≡ Some f.signal → strobe_at cycles f.cycle o ≢ known b) → (o : ℕ) → IsStrobed s cycles f o → ⊥
not_strobed s cycles f names are none o h = none o h.bit (has_name s names are o f.signal h.within h.named) h.strobed

pub divided_all : (s : Netlist) (cycles : List Cycle) (log : List Failing) (k : ℕ) (strobed strangers : List Failing) → length log ≡ k → AreDivided s cycles (take k log) strobed strangers → AreDivided s cycles log strobed strangers
divided_all s cycles log k strobed strangers e h = subst (λ xs. AreDivided s cycles xs strobed strangers) (take_all k log (omega (arith, e))) h

pub divided_as : (s : Netlist) (cycles : List Cycle) (log a a' b b' : List Failing) → a ≡ a' → b ≡ b' → AreDivided s cycles log a' b' → AreDivided s cycles log a b
divided_as s cycles log a a' b b' e h d = subst (λ xs. AreDivided s cycles log xs b) (sym e) (subst (λ xs. AreDivided s cycles log a' xs) (sym h) d)

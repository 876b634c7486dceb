-- Lists that apply patterns as they are made, test by test: cycles or items of a file, with one capture a pattern or with a launch before it.
use Rattle.std.proofs.Common.{◌≡◌, ℕ, zero, suc, ◌+◌, ◌<◌, ◌≤◌, List, [], ◌∷◌, ◌++◌, map, length, get_or, take, replicate, slice_get, Some, refl, sym, ◌∙◌, ap, subst}
use Rattle.std.specs.List.{AllZip, zip}
use Rattle.std.proofs.lemmas.List.{length-map, length-replicate, append_assoc, append-nil, take_all, take_more}
use Rattle.statement.specs.declared.kinds.Tri.{Tri}
use Rattle.statement.specs.declared.kinds.Tri.TheVariants.{X}
use Rattle.statement.specs.Values.{known}
use Rattle.netlist.proofs.Alike.{zip_append}
use Rattle.statement.specs.Patterns.{Pattern}
use Rattle.statement.specs.Tests.{Response}
use Rattle.scan_play.specs.inner.Applied.{AreApplied}

module _ {E : Type 0} (answers : Pattern → Response → Type 0) (on : List Tri → List (Pattern × Response) → List E) (all : List (Pattern × Response) → List E) (cells : ℕ) where
  -- behind what flushes the chains
  pub none_applied : (front made : List E) (held : List Tri) (count : ℕ) → ((rest : List (Pattern × Response)) → front ++ on (replicate cells X) rest ≡ all rest)
      → count ≡ cells → made ≡ front → held ≡ replicate count X → AreApplied answers on all cells [] made held
  none_applied front made held count law e m h = record {
    tests = [];
    respond = tt;
    whole = λ rest. ap (λ x. x ++ on held rest) m ∙ (ap (λ x. front ++ on x rest) (h ∙ ap (λ k. replicate k X) e) ∙ law rest);
    size = ap length h ∙ (length-replicate count X ∙ e);
  }

  -- one test more
  pub one_applied : (ps : List Pattern) (i : ℕ) (p : Pattern) (r : Response) (shown old new : List E) (held after : List Tri)
      → ((rest : List (Pattern × Response)) → shown ++ on (map known r.cells) rest ≡ on held ((p, r) ∷ rest))
      → i < length ps → p ≡ get_or ps i p → AreApplied answers on all cells (take i ps) old held → answers p r → length r.cells ≡ cells → new ≡ old ++ shown → after ≡ map known r.cells
      → AreApplied answers on all cells (take (i + 1) ps) new after
  one_applied ps i p r shown old new held after law l is h own size made taken =
      let test : Pattern × Response = (p, r) in
      let R : Pattern → Pattern × Response → Type 0 = λ q t. (t.0 ≡ q) × answers q t.1 in
      record {
        tests = h.tests ++ test ∷ [];
        respond = subst (λ qs. AllZip R qs (h.tests ++ test ∷ [])) (sym (take_more ps i p l ∙ ap (λ q. take i ps ++ q ∷ []) (sym is)))
            (zip_append R (take i ps) (p ∷ []) h.tests (test ∷ []) h.respond ((refl, own), tt));
        whole = λ rest.
            ap (λ x. x ++ on after rest) made
            ∙ (ap (λ x. old ++ shown ++ on x rest) taken
            ∙ (append_assoc old shown (on (map known r.cells) rest)
            ∙ (ap (λ x. old ++ x) (law rest)
            ∙ (h.whole (test ∷ rest) ∙ ap all (sym (append_assoc h.tests (test ∷ []) rest))))));
        size = ap length taken ∙ (length-map r.cells known ∙ size);
      }

  seconds : List (Pattern × Response) → List Response
  seconds tests = map (λ (t : Pattern × Response). t.1) tests

  all_answer : (ps : List Pattern) (tests : List (Pattern × Response)) → AllZip (λ q (t : Pattern × Response). (t.0 ≡ q) × answers q t.1) ps tests
      → AllZip answers ps (seconds tests) × (zip ps (seconds tests) ≡ tests)
  unfolding seconds
  all_answer [] [] h = (tt, refl)
  all_answer [] (t ∷ ts) h = absurd h
  all_answer (p ∷ ps) [] h = absurd h
  all_answer (p ∷ ps) (t ∷ ts) h =
      let rest = all_answer ps ts h.1 in
      let here : ◌≡◌ {A = Pattern × Response} (p, t.1) t = ap (λ (q : Pattern). (q, t.1)) (sym h.0.0) in
      ((h.0.1, rest.0), ap (λ x. x ∷ zip ps (seconds ts)) here ∙ ap (λ xs. t ∷ xs) rest.1)

  -- a last load
  pub all_applied : (ps : List Pattern) (i : ℕ) (old new : List E) (held : List Tri) → length ps ≤ i → new ≡ old ++ on held [] → AreApplied answers on all cells (take i ps) old held
      → (rs : List Response) × AllZip answers ps rs × (new ≡ all (zip ps rs))
  all_applied ps i old new held l made h =
      let r = all_answer ps h.tests (subst (λ qs. AllZip (λ q (t : Pattern × Response). (t.0 ≡ q) × answers q t.1) qs h.tests) (take_all i ps l) h.respond) in
      (seconds h.tests, r.0, made ∙ (h.whole [] ∙ ap all (append-nil h.tests ∙ sym r.1)))

-- two responses to a pattern of the list
pub both_at : (R S : Pattern → Response → Type 0) (ps : List Pattern) (rs owns : List Response) (p : ℕ) (pattern : Pattern) → AllZip R ps rs → AllZip S ps owns → slice_get ps p ≡ Some pattern
    → (r own : Response) × (slice_get (zip ps rs) p ≡ Some (pattern, r)) × (slice_get (zip ps owns) p ≡ Some (pattern, own)) × R pattern r × S pattern own
both_at R S [] rs owns p pattern h k e = cc
both_at R S (q ∷ ps) [] owns p pattern h k e = absurd h
both_at R S (q ∷ ps) (r ∷ rs) [] p pattern h k e = absurd k
both_at R S (q ∷ ps) (r ∷ rs) (own ∷ owns) zero pattern h k e =
    let same : q ≡ pattern = some_same q pattern e in (
      r,
      own,
      ap (λ (x : Pattern). Some (x, r)) same,
      ap (λ (x : Pattern). Some (x, own)) same,
      subst (λ (x : Pattern). R x r) same h.0,
      subst (λ (x : Pattern). S x own) same k.0,
    )
  where
    some_same : (x y : Pattern) → Some x ≡ Some y → x ≡ y
    some_same x y e = cc
both_at R S (q ∷ ps) (r ∷ rs) (own ∷ owns) (suc p) pattern h k e = both_at R S ps rs owns p pattern h.1 k.1 e

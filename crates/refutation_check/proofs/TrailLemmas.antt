-- Changes that can be taken back.
use Rattle.std.specs.Result.{OnOk, OnErr}
use Rattle.std.proofs.Common.{Result, Ok, Err, ◌≡◌, ℕ, suc, zero, List, [], ◌∷◌, ◌++◌, length, get_or, set, take, drop, refl, sym, ◌∙◌, ap, subst, append_assoc}
use Rattle.std.proofs.lemmas.List.{length-set, drop_at, take_at}
use Rattle.refutation.specs.declared.pairs.Pairs.{Pairs}
use Rattle.refutation_check.specs.declared.sets.Change.{Change}
use Rattle.refutation.specs.Pairs.{no_pair}
use Rattle.refutation.specs.Refutations.{Told, told_of}
use Rattle.refutation_check.specs.inner.Trails.{Trailed, undone, Grows, put}

pub undone-append : (cs ds : List Change) (told : Told) → undone (cs ++ ds) told ≡ undone cs (undone ds told)
undone-append [] ds told = refl
undone-append (c ∷ cs) ds told = ap (λ (t : Told). set t c.signal c.before) (undone-append cs ds told)

-- a value written back where it stood
put_back : {X : Type 0} (xs : List X) (i : ℕ) (v d : X) → set (set xs i v) i (get_or xs i d) ≡ xs
put_back [] zero v d = refl
put_back [] (suc i) v d = refl
put_back (x ∷ xs) zero v d = refl
put_back (x ∷ xs) (suc i) v d = ap (λ ys. x ∷ ys) (put_back xs i v d)

pub grows_none : (t : Trailed) → Grows t t
grows_none t = record { changes = []; trail = sym (append_nil t.trail); told = refl; size = refl } where
  append_nil : {X : Type 0} (xs : List X) → xs ++ [] ≡ xs
  append_nil [] = refl
  append_nil (x ∷ xs) = ap (λ ys. x ∷ ys) (append_nil xs)

pub grows_put : (t : Trailed) (x : ℕ) (s : Pairs) → Grows t (put t x s)
grows_put t x s = record {
  changes = record { signal = x; before = told_of t.told x } ∷ [];
  trail = refl;
  told = put_back t.told x s no_pair;
  size = length-set t.told x s;
}

pub grows_then : (a b c : Trailed) → Grows a b → Grows b c → Grows a c
grows_then a b c g h = record {
  changes = g.changes ++ h.changes;
  trail = h.trail ∙ (ap (λ ts. ts ++ h.changes) g.trail ∙ append_assoc a.trail g.changes h.changes);
  told = undone-append g.changes h.changes c.told ∙ (ap (undone g.changes) h.told ∙ g.told);
  size = h.size ∙ g.size;
}

-- what is had back
pub had_back : (was now : Trailed) (depth : ℕ) (told : Told) (trail : List Change) → length was.trail ≡ depth → Grows was now → told ≡ undone (drop depth now.trail) now.told
    → trail ≡ take depth now.trail → record { told = told; trail = trail } ≡ was
had_back was now depth told trail long g told_is trail_is =
    let rest : drop depth now.trail ≡ g.changes = ap (drop depth) g.trail ∙ drop_at was.trail g.changes depth long in
    let front : take depth now.trail ≡ was.trail = ap (take depth) g.trail ∙ take_at was.trail g.changes depth long in
    ap (λ (t : Told). record { told = t; trail = trail }) (told_is ∙ (ap (λ cs. undone cs now.told) rest ∙ g.told))
    ∙ ap (λ (ts : List Change). record { told = was.told; trail = ts }) (trail_is ∙ front)

pub grows_by : {T E : Type 0} (r : Result T E) (t new : Trailed) (x : ℕ) (s : Pairs) → OnOk r (new ≡ put t x s) → OnErr r (new ≡ t) → Grows t new
grows_by (Ok v) t new x s h k = subst (Grows t) (sym h) (grows_put t x s)
grows_by (Err e) t new x s h k = subst (Grows t) (sym k) (grows_none t)

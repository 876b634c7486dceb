-- A text has one refusal at most, and none beside a netlist.
use Rattle.std.proofs.Common.{◌≡◌, ◌∙◌, ℕ, List, [], ◌∷◌, ◌++◌, Option, Some, None, Ok, Err, sym, ap, ap₂, subst}
use Rattle.std.specs.List.{AllByRecursion}
use Rattle.statement.specs.Netlists.{Netlist}
use Rattle.netlist.specs.Netlist.{IsAcyclic}
use Rattle.bench_text.specs.Forms.{Statement, Nothing, Input, Output, Definition}
use Rattle.bench_text.specs.Said.{Said, statements_of}
use Rattle.bench_text.specs.Whole.{notes, refusal}
use Rattle.bench_text.specs.Netlists.{netlist_of}
use Rattle.bench_text.specs.Reading.{DefinesOnLoop, IsFirstOnLoop, IsRead, IsRefused}
use Rattle.bench_text.specs.declared.refusal.Names.{Names}
use Rattle.bench_text.specs.declared.refusal.BenchKind.{BenchKind}
use Rattle.bench_text.specs.declared.refusal.BenchRefusal.{BenchRefusal}
use Rattle.bench_text.specs.declared.refusal.BenchFault.TheVariants as bench

-- in a list the first of a kind is one element
first_once : {X : Type 0} (P : X → Type 0) (xs ys : List X) (x y : X) (more others : List X) → xs ++ x ∷ more ≡ ys ++ y ∷ others
    → P x → P y → AllByRecursion (λ z. ¬ P z) xs → AllByRecursion (λ z. ¬ P z) ys → x ≡ y
first_once P [] [] x y more others e p q none also = cc
first_once P [] (z ∷ ys) x y more others e p q none also = let same : x ≡ z = cc in absurd (also.0 (subst P same p))
first_once P (z ∷ xs) [] x y more others e p q none also = let same : y ≡ z = cc in absurd (none.0 (subst P same q))
first_once P (z ∷ xs) (w ∷ ys) x y more others e p q none also =
    let rest : xs ++ x ∷ more ≡ ys ++ y ∷ others = cc in first_once P xs ys x y more others rest p q none.1 also.1

one_line : (all : List Said) (l m : ℕ) → IsFirstOnLoop all l → IsFirstOnLoop all m → l ≡ m
one_line all l m a b =
    let same = first_once (λ (s : Said). DefinesOnLoop (statements_of all) s.statement) a.before b.before a.note b.note a.after b.after
    (sym a.split ∙ b.split) a.on_loop b.on_loop a.first b.first in
    sym a.here ∙ ap (λ (s : Said). s.line) same ∙ b.here

refused_once : (first : Option BenchRefusal) (all : List Said) (r s : BenchRefusal) → IsRefused first all r → IsRefused first all s → r ≡ s
refused_once (Some first) all r s a b = a ∙ sym b
refused_once None all r s a b =
    let line = one_line all r.line s.line a.1 b.1 in
    let kind : r.kind ≡ s.kind = a.0 ∙ sym b.0 in
    ap₂ (λ (l : ℕ) (k : BenchKind). let made : BenchRefusal = record { line = l; kind = k } in made) line kind

pub refusals_alike : (reading : Names) (bytes : List ℕ) (r s : BenchRefusal) → IsRead reading bytes (Err (bench.Refused r)) → IsRead reading bytes (Err (bench.Refused s)) → r ≡ s
refusals_alike reading bytes r s a b = refused_once (refusal reading bytes) (notes reading bytes) r s a b

no_loop : (ss : List Statement) (s : Statement) → IsAcyclic (netlist_of ss) → DefinesOnLoop ss s → ⊥
no_loop ss Nothing acyclic d = d
no_loop ss (Input x) acyclic d = d
no_loop ss (Output x) acyclic d = d
no_loop ss (Definition z gate pins) acyclic d = acyclic _ d

-- what is accepted is not refused
pub read_once : (reading : Names) (bytes : List ℕ) (n : Netlist) (r : BenchRefusal) → IsRead reading bytes (Ok n) → IsRead reading bytes (Err (bench.Refused r)) → ⊥
read_once reading bytes n r read refused =
    let loop : IsRefused None (notes reading bytes) r = subst (λ o. IsRefused o (notes reading bytes) r) read.1 refused in
    no_loop (statements_of (notes reading bytes)) loop.1.note.statement (subst IsAcyclic read.0 read.2) loop.1.on_loop

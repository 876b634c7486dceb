-- What the reading of a text answers.
use Rattle.std.proofs.Common.{◌≡◌, ◌<◌, ◌≤◌, ℕ, Bool, true, false, List, [], ◌∷◌, ◌++◌, length, refl, sym, ap, ◌∙◌, map, subst, arith, length-append}
use Rattle.std.specs.Prelude.{Option, Some, None, Ok, Err, fold, if◌then◌else◌}
use Rattle.std.specs.List.{list_all, list_any, AllByRecursion, Contains}
use Rattle.std.specs.Str.{bytes_eq}
use Rattle.std.proofs.lemmas.List.{length-map}
use Rattle.netlist.specs.declared.equations.Parts.{Parts}
use Rattle.netlist.specs.declared.netlists.NetRefusal.{NetRefusal}
use Rattle.netlist.specs.declared.netlists.NetRefusal.TheVariants as net
use Rattle.statement.specs.Netlists.{Netlist, signals}
use Rattle.netlist.specs.Netlist.{IsOnLoop}
use Rattle.netlist.specs.Conditions.{whole, IsWellFormed, IsSound, IsCause, HasReader as IsNeeded}
use Rattle.bench_text.specs.declared.refusal.Names.{Names}
use Rattle.bench_text.specs.declared.refusal.BenchRefusal.{BenchRefusal}
use Rattle.bench_text.specs.declared.refusal.BenchFault.{BenchFault}
use Rattle.bench_text.specs.declared.refusal.BenchFault.TheVariants.{NoMemory, Refused}
use Rattle.bench_text.specs.declared.draft.Draft.{Draft}
use Rattle.bench_text.specs.Bytes.{lines}
use Rattle.bench_text.specs.Forms.{Statement}
use Rattle.bench_text.specs.Said.{Said, statements_of}
use Rattle.bench_text.specs.Texts.{statements, inputs_of, signals_of, first_refusal}
use Rattle.bench_text.specs.Sights.{with_name, distinct}
use Rattle.bench_text.specs.inner.NewNames.{AreDistinct}
use Rattle.bench_text.specs.Whole.{outputs_of, reads_from, whole_refusal, or_else, notes, refusal}
use Rattle.bench_text.specs.inner.LinesRead.{AreLinesRead}
use Rattle.bench_text.specs.Netlists.{id_of, netlist_of}
use Rattle.bench_text.specs.inner.Drafted.{notes_in, signals_in}
use Rattle.bench_text.specs.Reading.{IsFirstOnLoop, IsRefused, IsRead}
use Rattle.bench_text.specs.inner.Loops.{IsLeft, IsLoopRefusal}
use Rattle.bench_text.proofs.Lists.{list_all-map}
use Rattle.bench_text.proofs.WholeLemmas.{whole-none, most-most}
use Rattle.bench_text.proofs.PartLemmas.{signals-distinct}
use Rattle.bench_text.proofs.FineLemmas.{IsFine, lines-fine, noted-all}
use Rattle.bench_text.proofs.FormedLemmas.{got-contains, well-formed, signal-count, signal-at, read-within}
use Rattle.bench_text.proofs.LoopLemmas.{on-loop-place}

-- names stay, as further ones are put to them
stays : (b : Bool) (ys : List (List ℕ)) (x : List ℕ) → length ys ≤ length (if b then ys else ys ++ x ∷ [])
stays true ys x = omega arith
stays false ys x = omega (arith, length-append ys (x ∷ []))

fold-length : (xs ys : List (List ℕ)) → length ys ≤ length (fold with_name ys xs)
fold-length [] ys = omega arith
fold-length (x ∷ xs) ys = omega (arith, stays (list_any (bytes_eq x) ys) ys x, fold-length xs (with_name ys x))

pub distinct-some : (xs : List (List ℕ)) → 0 < length xs → 0 < length (distinct xs)
distinct-some [] h = h
distinct-some (x ∷ xs) h = omega (arith, fold-length xs (x ∷ []))

-- a refused line
pub line-refused : (reading : Names) (text : List ℕ) (f : BenchFault) → AreLinesRead reading text (Err f) → IsRead reading text (Err f)
line-refused reading text NoMemory h = tt
line-refused reading text (Refused r) h =
    subst (λ o. IsRefused o (notes reading text) r) (sym (ap (λ o. or_else o (whole_refusal reading (notes reading text))) h)) refl

module _ (reading : Names) (text : List ℕ) (d : Draft) (said : notes_in d ≡ notes reading text) (lines-read : first_refusal reading [] (lines text) ≡ None) where
  refusal-is : refusal reading text ≡ whole_refusal reading (notes_in d)
  refusal-is = ap (λ o. or_else o (whole_refusal reading (notes reading text))) lines-read ∙ ap (whole_refusal reading) (sym said)

  pub whole-refused : (r : BenchRefusal) (o : Option BenchRefusal) → o ≡ whole_refusal reading (notes_in d) → o ≡ Some r → IsRead reading text (Err (Refused r))
  whole-refused r o e f = subst (λ p. IsRefused p (notes reading text) r) (sym (refusal-is ∙ sym e ∙ f)) refl

  module _ (fine : whole_refusal reading (notes_in d) ≡ None) where
    abbrev all : List Said
    all = notes_in d

    abbrev ss : List Statement
    ss = statements_of all

    none-refused : refusal reading text ≡ None
    none-refused = refusal-is ∙ fine

    pub reads : list_all (λ (s : Said). reads_from (signals_in d) s.statement) all ≡ true
    reads = (whole-none reading all fine).3

    pub few : length (signals_in d) ≤ 8000000
    few = let p = (whole-none reading all fine).0 in let m = most-most reading in omega (arith, p, m)

    apart : AreDistinct (signals_of ss)
    apart = signals-distinct _ _ _ _ _ _ d.sound

    all-fine : AllByRecursion IsFine ss
    all-fine = subst (λ l. AllByRecursion IsFine (statements_of l)) (sym said) (noted-all IsFine 1 (statements reading text) (lines-fine reading [] (lines text) lines-read))

    known : list_all (reads_from (signals_of ss)) ss ≡ true
    known = list_all-map (reads_from (signals_of ss)) (λ (s : Said). s.statement) all ∙ reads

    formed : IsWellFormed (netlist_of ss)
    formed = well-formed ss apart all-fine known

    module _ (parts : Parts) (made : whole parts ≡ netlist_of ss) where
      pub parts-formed : IsWellFormed (whole parts)
      parts-formed = subst IsWellFormed (sym made) formed

      pub net-read : (n : Netlist) → n ≡ whole parts → IsSound n → IsRead reading text (Ok n)
      net-read n e s = (e ∙ made ∙ ap (λ l. netlist_of (statements_of l)) said, none-refused, s.acyclic)

      pub left : (r : NetRefusal) → IsCause (whole parts) r → IsLeft all r
      left net.NoMemory h = tt
      left net.TooMany h =
          let k : 8000000 < length (signals (netlist_of ss)) = subst (λ n. 8000000 < length (signals n)) made h in
          let m = signal-count ss apart all-fine in
          absurd (omega (arith, k, m, few))
      left net.NoInput h =
          let k : length (map (id_of (signals_of ss)) (inputs_of ss)) ≡ 0 = ap (λ n. length n.inputs) (sym made) ∙ h.1 in
          let some = (whole-none reading all fine).1 in
          absurd (omega (arith, k, some, length-map (inputs_of ss) (id_of (signals_of ss))))
      left net.NoOutput h =
          let k : length (map (id_of (signals_of ss)) (distinct (outputs_of ss))) ≡ 0 = ap (λ n. length n.outputs) (sym made) ∙ h.2 in
          let some = distinct-some (outputs_of ss) (whole-none reading all fine).2 in
          absurd (omega (arith, k, some, length-map (distinct (outputs_of ss)) (id_of (signals_of ss))))
      left (net.Undefined z) h =
          let needed : IsNeeded (netlist_of ss) z = subst (λ n. IsNeeded n z) made h.1.0 in
          let within = read-within ss apart all-fine known z needed in
          let there : Contains (signals (whole parts)) z = subst (λ n. Contains (signals n) z) (sym made) (got-contains (signals (netlist_of ss)) z z (signal-at ss apart all-fine z within)) in
          absurd (h.1.1 there)
      left (net.Loop z) h =
          let on : IsOnLoop (netlist_of ss) z = subst (λ n. IsOnLoop n z) made h.2 in
          let place = on-loop-place ss apart all-fine z on in
          (on, (λ (y : ℕ) (k : y < z) (o : IsOnLoop (netlist_of ss) y). h.3 y k (subst (λ n. IsOnLoop n y) (sym made) o)), place.0, place.1)

    pub loop-refused : (f : BenchFault) → IsLoopRefusal all f → IsRead reading text (Err f)
    loop-refused NoMemory h = tt
    loop-refused (Refused r) h =
        subst (λ o. IsRefused o (notes reading text) r) (sym none-refused) (h.0, subst (λ l. IsFirstOnLoop l r.line) said h.1)

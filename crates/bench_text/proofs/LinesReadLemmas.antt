-- A text, read line by line.
use Rattle.std.proofs.Common.{◌≡◌, ◌≤◌, ◌+◌, ℕ, Bool, true, List, [], ◌∷◌, ◌++◌, length, refl, sym, ap, ◌∙◌, map, append_assoc, append-nil, arith, length-append}
use Rattle.std.specs.Prelude.{Some, None, Err, ◌==◌}
use Rattle.std.proofs.lemmas.Bool.Decides.{nat_tests}
use Rattle.std.proofs.lemmas.List.{nil_from_length, length-map}
use Rattle.bench_text.specs.declared.draft.Draft.{Draft}
use Rattle.bench_text.specs.declared.refusal.LineRefusal.{LineRefusal}
use Rattle.bench_text.specs.declared.refusal.LineRefusal.TheVariants.{NoMemory, Refused}
use Rattle.bench_text.specs.declared.refusal.Names.{Names}
use Rattle.bench_text.specs.declared.refusal.BenchKind.{BenchKind}
use Rattle.bench_text.specs.Bytes.{lines}
use Rattle.bench_text.specs.Forms.{Statement, Nothing, Input, Output, Definition}
use Rattle.bench_text.specs.Refusals.{line_refusal}
use Rattle.bench_text.specs.Said.{note_at, notes_from, statements_of}
use Rattle.bench_text.specs.Texts.{statement_on, statements, inputs_of, definitions_of, signals_of, at_line, first_refusal}
use Rattle.bench_text.specs.inner.LineRead.{IsRefusal, put_at}
use Rattle.bench_text.specs.inner.LinesRead.{AreLinesRead, IsPartRead}
use Rattle.bench_text.specs.inner.Drafted.{notes_in, signals_in}
use Rattle.bench_text.proofs.TextLemmas.{lines-none}

-- one line more
module _ (reading : Names) (earlier : List Statement) (line : List ℕ) (ls : List (List ℕ)) where
  pub first_refusal-fine : line_refusal reading (signals_of earlier) line ≡ None → first_refusal reading earlier (line ∷ ls) ≡ first_refusal reading (earlier ++ statement_on reading line ∷ []) ls
  unfolding first_refusal
  first_refusal-fine h = ap (λ o. at_line (length earlier + 1) o (first_refusal reading (earlier ++ statement_on reading line ∷ []) ls)) h

  pub first_refusal-here : (kind : BenchKind) → line_refusal reading (signals_of earlier) line ≡ Some kind → first_refusal reading earlier (line ∷ ls) ≡ Some (record { line = length earlier + 1; kind = kind })
  unfolding first_refusal
  first_refusal-here kind h = ap (λ o. at_line (length earlier + 1) o (first_refusal reading (earlier ++ statement_on reading line ∷ []) ls)) h

pub first_refusal-none : (reading : Names) (earlier : List Statement) → first_refusal reading earlier [] ≡ None
unfolding first_refusal
first_refusal-none reading earlier = refl

pub is_zero : (n : ℕ) (b : Bool) → b ≡ (n == 0) → b ≡ true → n ≡ 0
is_zero n b e t = let h : (n == 0) ≡ true = sym e ∙ t in grind (arith, nat_tests)

-- what the lines before statement_on, and then one more
pub noted-push : (n : ℕ) (ss : List Statement) (s : Statement) → notes_from n (ss ++ s ∷ []) ≡ notes_from n ss ++ note_at (n + length ss) s
noted-push n [] s = append-nil (note_at n s) ∙ ap (λ k. note_at k s) (omega arith)
noted-push n (t ∷ ss) s =
    ap (λ l. note_at n t ++ l) (noted-push (n + 1) ss s) ∙ sym (append_assoc (note_at n t) (notes_from (n + 1) ss) (note_at (n + 1 + length ss) s))
    ∙ ap (λ k. (note_at n t ++ notes_from (n + 1) ss) ++ note_at k s) (omega arith)

-- lines that say nothing define nothing
noted-inputs : (n : ℕ) (ss : List Statement) → inputs_of (statements_of (notes_from n ss)) ≡ inputs_of ss
noted-inputs n [] = refl
noted-inputs n (Nothing ∷ ss) = noted-inputs (n + 1) ss
noted-inputs n (Input x ∷ ss) = ap (λ l. x ∷ l) (noted-inputs (n + 1) ss)
noted-inputs n (Output x ∷ ss) = noted-inputs (n + 1) ss
noted-inputs n (Definition z gate pins ∷ ss) = noted-inputs (n + 1) ss

noted-definitions : (n : ℕ) (ss : List Statement) → definitions_of (statements_of (notes_from n ss)) ≡ definitions_of ss
noted-definitions n [] = refl
noted-definitions n (Nothing ∷ ss) = noted-definitions (n + 1) ss
noted-definitions n (Input x ∷ ss) = noted-definitions (n + 1) ss
noted-definitions n (Output x ∷ ss) = noted-definitions (n + 1) ss
noted-definitions n (Definition z gate pins ∷ ss) = ap (λ l. z ∷ l) (noted-definitions (n + 1) ss)

pub noted-signals : (n : ℕ) (ss : List Statement) → signals_of (statements_of (notes_from n ss)) ≡ signals_of ss
noted-signals n ss = (λ i. noted-inputs n ss i ++ noted-definitions n ss i)

pub part-start : (reading : Names) (text : List ℕ) (d : Draft) → notes_in d ≡ [] → d.lines ≡ 0 → IsPartRead reading text text d
part-start reading text d e f = record { earlier = []; all = refl; kept = e; count = f; first = refl }

module _ (reading : Names) (text rest line after : List ℕ) (d : Draft) (part : IsPartRead reading text rest d) (cut : lines rest ≡ line ∷ lines after) where
  pub room : d.lines + 1 ≤ length (lines text)
  room = omega (arith, part.count, ap length part.all, ap length cut, length-append part.earlier (map (statement_on reading) (lines rest)), length-map (lines rest) (statement_on reading), length-map (lines text) (statement_on reading))

  signals-known : signals_in d ≡ signals_of part.earlier
  signals-known = ap (λ n. signals_of (statements_of n)) part.kept ∙ noted-signals 1 part.earlier

  pub part-more : (longer : Draft) → notes_in longer ≡ notes_in d ++ note_at (d.lines + 1) (statement_on reading line) → longer.lines ≡ d.lines + 1
      → line_refusal reading (signals_in d) line ≡ None → IsPartRead reading text after longer
  part-more longer e f h = record {
    earlier = part.earlier ++ statement_on reading line ∷ [];
    all = append_assoc part.earlier (statement_on reading line ∷ []) (map (statement_on reading) (lines after)) ∙ ap (λ l. part.earlier ++ map (statement_on reading) l) (sym cut) ∙ part.all;
    kept =
        let at : d.lines + 1 ≡ 1 + length part.earlier = omega (arith, part.count) in
        e ∙ (λ i. part.kept i ++ note_at (at i) (statement_on reading line)) ∙ sym (noted-push 1 part.earlier (statement_on reading line));
    count = let n = part.count in omega (arith, f, n, length-append part.earlier (statement_on reading line ∷ []));
    first =
        sym (first_refusal-fine reading part.earlier line (lines after) (ap (λ l. line_refusal reading l line) (sym signals-known) ∙ h))
        ∙ ap (first_refusal reading part.earlier) (sym cut) ∙ part.first;
  }

  pub refusal-here : (f : LineRefusal) (n : ℕ) → n ≡ d.lines → IsRefusal {A = Draft} (line_refusal reading (signals_in d) line) (Err f) → AreLinesRead reading text (Err (put_at (n + 1) f))
  refusal-here NoMemory n e h = tt
  refusal-here (Refused kind) n e h =
      sym part.first ∙ ap (first_refusal reading part.earlier) cut
      ∙ first_refusal-here reading part.earlier line (lines after) kind (ap (λ l. line_refusal reading l line) (sym signals-known) ∙ h)
      ∙ ap (λ m. Some (record { line = m + 1; kind = kind })) (sym part.count ∙ sym e)

pub part-done : (reading : Names) (text rest : List ℕ) (d : Draft) → length rest ≡ 0 → IsPartRead reading text rest d → (notes_in d ≡ notes_from 1 (statements reading text)) × (first_refusal reading [] (lines text) ≡ None)
part-done reading text rest d h part =
    let none : lines rest ≡ [] = ap lines (nil_from_length rest h) ∙ lines-none in
    let all : part.earlier ≡ statements reading text = sym (append-nil part.earlier) ∙ ap (λ l. part.earlier ++ map (statement_on reading) l) (sym none) ∙ part.all in
    (part.kept ∙ ap (notes_from 1) all, sym part.first ∙ ap (first_refusal reading part.earlier) none ∙ first_refusal-none reading part.earlier)

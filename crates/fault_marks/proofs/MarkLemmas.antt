-- Marks, fault by fault.
use denote.Ref.{Bor}
use Rattle.std.proofs.Common.{◌≡◌, ◌↔◌, ℕ, zero, suc, ◌+◌, Bool, List, [], ◌∷◌, ◌++◌, length, take, Some, IsTrue, sym, ap, subst, ◌∙◌, add-one, append_assoc, length-append, arith}
use Rattle.std.specs.List.{All, Contains, slice_get}
use Rattle.std.proofs.lemmas.List.{append-nil}
use Rattle.std.proofs.lemmas.List.Elements.{All-push}
use Rattle.statement.specs.declared.lines.Fault.{Fault}
use Rattle.statement.specs.Netlists.{Netlist}
use Rattle.statement.specs.Faults.{fault_text}
use Rattle.netlist.proofs.Alike.{zip_append}
use Rattle.bench_text.specs.Bytes.{lines}
use Rattle.bench_text.proofs.TextLemmas.{lines-none}
use Rattle.fault_marks.specs.Marks.{NamesFault}
use Rattle.fault_marks.specs.inner.Kept.{AreKept, AreMarked, IsPartRead}

next_take : {X : Type 0} (xs : List X) (k : ℕ) (x : X) → slice_get xs k ≡ Some x → take (suc k) xs ≡ take k xs ++ x ∷ []
next_take [] k x e = cc
next_take (y ∷ ys) zero x e = let same : y ≡ x = cc in ap (λ z. z ∷ []) same
next_take (y ∷ ys) (suc k) x e = ap (λ zs. y ∷ zs) (next_take ys k x e)

-- one fault more
pub marked_more : (n : Netlist) (named : List (List ℕ)) (faults : List Fault) (k : ℕ) (f : Fault) (mark : Bool) (marks new : List Bool) → slice_get faults k ≡ Some f
    → IsTrue mark ↔ Contains named (fault_text n f) → AreMarked n named (take k faults) marks → new ≡ marks ++ mark ∷ [] → AreMarked n named (take (k + 1) faults) new
marked_more n named faults k f mark marks new at is before e =
    let more = zip_append (λ (g : Fault) m. IsTrue m ↔ Contains named (fault_text n g)) (take k faults) (f ∷ []) marks (mark ∷ []) before (is, tt) in
    subst (λ fs. AreMarked n named fs new) (sym (next_take faults k f at) ∙ ap (λ i. take i faults) (sym (add-one k)))
    (subst (λ ms. AreMarked n named (take k faults ++ f ∷ []) ms) (sym e) more)

-- ---- lines, one more

module _ (n : Netlist) (text rest after line : List ℕ) (keys : List (Bor (List ℕ))) (number : ℕ) (part : IsPartRead n text rest keys number) (first : lines rest ≡ line ∷ lines after) where
  read_to : lines text ≡ part.read ++ line ∷ lines after
  read_to = part.lines_are ∙ ap (λ ls. part.read ++ ls) first

  pub part_more : NamesFault n line → (new : List (Bor (List ℕ))) → AreKept new (part.read ++ line ∷ []) → (place : ℕ) → place ≡ number + 1 → IsPartRead n text after new place
  part_more names new kept place is = record {
    read = part.read ++ line ∷ [];
    lines_are = read_to ∙ sym (append_assoc part.read (line ∷ []) (lines after));
    number_is = is ∙ (ap (λ k. k + 1) part.number_is ∙ sym (length-append part.read (line ∷ [])));
    all = All-push (NamesFault n) part.read line part.all names;
    kept = kept;
  }

pub part_whole : (n : Netlist) (text rest : List ℕ) (keys : List (Bor (List ℕ))) (number : ℕ) → IsPartRead n text rest keys number → length rest ≡ 0
    → All (NamesFault n) (lines text) × AreKept keys (lines text)
part_whole n text [] keys number part e =
    let whole : part.read ≡ lines text = sym (append-nil part.read) ∙ (ap (λ ls. part.read ++ ls) (sym lines-none) ∙ sym part.lines_are) in
    subst (λ ls. All (NamesFault n) ls × AreKept keys ls) whole (part.all, part.kept)
part_whole n text (b ∷ bs) keys number part e = absurd (omega arith)

-- Lines and faults are told by their texts.
use Rattle.std.proofs.Common.{◌≡◌, ◌≢◌, ℕ, ◌+◌, Bool, true, false, List, ◌++◌, length, get_or, refl, sym, ◌∙◌, ap, subst, codes, decimal, arith, length-append}
use Rattle.std.specs.List.{All, Contains}
use Rattle.std.proofs.lemmas.Fmt.{decimal_injective}
use Rattle.std.proofs.lemmas.List.{append_cancel_left, append_cancel_right, get_or-append-add}
use Rattle.statement.specs.declared.lines.Line.{Line}
use Rattle.statement.specs.declared.lines.Line.TheVariants.{Stem, Pin, Out}
use Rattle.statement.specs.declared.lines.Fault.{Fault}
use Rattle.statement.specs.Netlists.{Netlist, name_of}
use Rattle.netlist.specs.Conditions.{IsSound}
use Rattle.netlist.proofs.Lists.{All-from_contains}
use Rattle.statement.specs.Faults.{fault_text, line_text, value_text, universe_of}
use Rattle.fault_universe.specs.inner.Written.{IsWritten}
use Rattle.fault_universe.specs.Universe.{all_lines}
use Rattle.fault_universe.proofs.Members.{line_written, member_line}
use Rattle.fault_universe.proofs.Names.{no_blank, same_name}
use Rattle.plain_text.proofs.Parts.{same_parts}

module _ (n : Netlist) (sound : IsSound n) where
  pub same_line : (l m : Line) → IsWritten n l → IsWritten n m → line_text n l ≡ line_text n m → l ≡ m
  same_line (Stem x) (Stem y) p q e = ap (λ z. Stem z) (same_name n sound x y p q (append_cancel_left (codes "stem ") (name_of n x) (name_of n y) e))
  same_line (Stem x) (Pin z k) p q e = let differ : ◌≡◌ {A = ℕ} 115 112 = ap (λ zs. get_or zs 0 0) e in absurd (omega arith)
  same_line (Stem x) (Out y) p q e = let differ : ◌≡◌ {A = ℕ} 115 111 = ap (λ zs. get_or zs 0 0) e in absurd (omega arith)
  same_line (Pin z k) (Stem y) p q e = let differ : ◌≡◌ {A = ℕ} 112 115 = ap (λ zs. get_or zs 0 0) e in absurd (omega arith)
  same_line (Pin z j) (Pin w k) p q e =
      let parts = same_parts 32 (name_of n z) (name_of n w) (decimal j) (decimal k) (no_blank n sound z p.0) (no_blank n sound w q.0)
      (append_cancel_left (codes "pin ") (name_of n z ++ (codes " " ++ decimal j)) (name_of n w ++ (codes " " ++ decimal k)) e) in
      let signal : z ≡ w = same_name n sound z w p.0 q.0 parts.0 in
      let place : j ≡ k = decimal_injective j k (omega (arith, p.1)) (omega (arith, q.1)) parts.1 in
      ap (λ y. Pin y j) signal ∙ ap (λ i. Pin w i) place
  same_line (Pin z k) (Out y) p q e = let differ : ◌≡◌ {A = ℕ} 112 111 = ap (λ zs. get_or zs 0 0) e in absurd (omega arith)
  same_line (Out x) (Stem y) p q e = let differ : ◌≡◌ {A = ℕ} 111 115 = ap (λ zs. get_or zs 0 0) e in absurd (omega arith)
  same_line (Out x) (Pin z k) p q e = let differ : ◌≡◌ {A = ℕ} 111 112 = ap (λ zs. get_or zs 0 0) e in absurd (omega arith)
  same_line (Out x) (Out y) p q e = ap (λ z. Out z) (same_name n sound x y p q (append_cancel_left (codes "out ") (name_of n x) (name_of n y) e))

other_ends : (xs ys : List ℕ) → xs ++ codes "/0" ≡ ys ++ codes "/1" → ⊥
other_ends xs ys e =
    let size : length xs ≡ length ys = omega (arith, length-append xs (codes "/0"), length-append ys (codes "/1"), ap length e) in
    let last : ◌≡◌ {A = ℕ} 48 49 =
    sym (get_or-append-add xs (codes "/0") 1 0) ∙ (ap (λ zs. get_or zs (length xs + 1) 0) e
    ∙ (ap (λ k. get_or (ys ++ codes "/1") (k + 1) 0) size ∙ get_or-append-add ys (codes "/1") 1 0)) in
    absurd (omega arith)

-- the parts of a fault's text
pub same_ends : (xs ys : List ℕ) (v w : Bool) → xs ++ value_text v ≡ ys ++ value_text w → (xs ≡ ys) × (v ≡ w)
same_ends xs ys false false e = (append_cancel_right xs ys (codes "/0") e, refl)
same_ends xs ys true true e = (append_cancel_right xs ys (codes "/1") e, refl)
same_ends xs ys false true e = absurd (other_ends xs ys e)
same_ends xs ys true false e = absurd (other_ends ys xs (sym e))

module _ (n : Netlist) (sound : IsSound n) where
  pub same_fault : (f g : Fault) → IsWritten n f.line → IsWritten n g.line → fault_text n f ≡ fault_text n g → f ≡ g
  same_fault f g p q e =
      let parts = same_ends (line_text n f.line) (line_text n g.line) f.value g.value e in
      let line = same_line n sound f.line g.line p q parts.0 in
      ap (λ (l : Line). record { line = l; value = f.value }) line ∙ ap (λ (v : Bool). record { line = g.line; value = v }) parts.1

pub no_value : (text : List ℕ) → ((r : List ℕ) → text ≢ r ++ codes "/0") → ((r : List ℕ) → text ≢ r ++ codes "/1") → (line : List ℕ) (v : Bool) → text ≢ line ++ value_text v
no_value text zero one line false e = zero line e
no_value text zero one line true e = one line e

-- a text whose line no written line has, and one whose line the netlist lacks
module _ (n : Netlist) (sound : IsSound n) (bytes text : List ℕ) (v : Bool) (parts : bytes ≡ text ++ value_text v) where
  pub no_fault : ((line : Line) → IsWritten n line → text ≢ line_text n line) → All (λ f. fault_text n f ≢ bytes) (universe_of n)
  no_fault none = All-from_contains (λ f. fault_text n f ≢ bytes) (universe_of n)
      (λ f c e. none f.line (line_written n sound f.line (member_line n f c)) (sym (same_ends (line_text n f.line) text f.value v (e ∙ parts)).0))

  pub no_member : (line : Line) → IsWritten n line → text ≡ line_text n line → (Contains (all_lines n) line → ⊥) → All (λ f. fault_text n f ≢ bytes) (universe_of n)
  no_member line written is none = All-from_contains (λ f. fault_text n f ≢ bytes) (universe_of n)
      (λ f c e.
      let has = member_line n f c in
      let same = same_line n sound f.line line (line_written n sound f.line has) written ((same_ends (line_text n f.line) text f.value v (e ∙ parts)).0 ∙ is) in
      none (subst (Contains (all_lines n)) same has))

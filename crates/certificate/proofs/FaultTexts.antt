-- Faults at the beginning of a line.
use Rattle.std.proofs.Common.{◌≡◌, ◌≢◌, ◌+◌, ◌<◌, ℕ, Bool, true, false, List, ◌++◌, codes, decimal, refl, sym, ◌∙◌, ap, arith, append_assoc}
use Rattle.std.specs.List.{All, Contains}
use Rattle.std.proofs.lemmas.List.Elements.{All-append, All-cons, All-contains}
use Rattle.statement.specs.declared.lines.Line.{Line}
use Rattle.statement.specs.declared.lines.Line.TheVariants.{Stem, Pin, Out}
use Rattle.statement.specs.declared.lines.Fault.{Fault}
use Rattle.netlist.specs.Conditions.{IsSound}
use Rattle.statement.specs.Netlists.{Netlist, name_of}
use Rattle.netlist.specs.Netlist.{signal_count}
use Rattle.statement.specs.Faults.{fault_text, line_text, value_text, universe_of}
use Rattle.fault_universe.specs.inner.Written.{IsWritten}
use Rattle.fault_universe.proofs.LineTexts.{same_fault}
use Rattle.fault_universe.proofs.Members.{line_written, member_line}
use Rattle.certificate.specs.inner.Parts.{IsFaultAt, NoFaultAt}
use Rattle.certificate.specs.Words.{IsCut, blanks, fault_blanks}
use Rattle.certificate.proofs.VisibleBytes.{has_no, name_has_no, number_has_no}
use Rattle.certificate.proofs.WordLemmas.{blanks_append, no_blanks, same_cut}

value_blanks : (v : Bool) → blanks (value_text v) ≡ 0
value_blanks false = refl
value_blanks true = refl

value_has_no : (v : Bool) → All (λ b. b ≢ 10) (value_text v)
value_has_no false = has_no 10 (codes "/0") refl
value_has_no true = has_no 10 (codes "/1") refl

module _ (n : Netlist) (sound : IsSound n) where
  name_blanks : (x : ℕ) → x < signal_count n → blanks (name_of n x) ≡ 0
  name_blanks x l = no_blanks (name_of n x) (name_has_no n sound 32 refl x l)

  pub line_blanks : (l : Line) → IsWritten n l → (more : List ℕ) → blanks (line_text n l) ≡ fault_blanks (line_text n l ++ more)
  line_blanks (Stem x) w more =
      let whole : blanks (line_text n (Stem x)) ≡ 0 + (0 + (0 + (0 + (1 + blanks (name_of n x))))) = refl in
      let due : fault_blanks (line_text n (Stem x) ++ more) ≡ 1 = refl in
      omega (arith, whole, due, name_blanks x w)
  line_blanks (Pin z k) w more =
      let sum : blanks (name_of n z ++ (codes " " ++ decimal k)) ≡ blanks (name_of n z) + blanks (codes " " ++ decimal k) = blanks_append (name_of n z) (codes " " ++ decimal k) in
      let number : blanks (codes " " ++ decimal k) ≡ 1 + blanks (decimal k) = refl in
      let whole : blanks (line_text n (Pin z k)) ≡ 0 + (0 + (0 + (1 + blanks (name_of n z ++ (codes " " ++ decimal k))))) = refl in
      let due : fault_blanks (line_text n (Pin z k) ++ more) ≡ 2 = refl in
      let none = no_blanks (decimal k) (number_has_no 32 k (omega arith) (omega (arith, w.1))) in
      let small = name_blanks z w.0 in
      omega (arith, sum, number, whole, due, none, small)
  line_blanks (Out y) w more =
      let whole : blanks (line_text n (Out y)) ≡ 0 + (0 + (0 + (1 + blanks (name_of n y)))) = refl in
      let due : fault_blanks (line_text n (Out y) ++ more) ≡ 1 = refl in
      omega (arith, whole, due, name_blanks y w)

  pub member_written : (f : Fault) → Contains (universe_of n) f → IsWritten n f.line
  member_written f m = line_written n sound f.line (member_line n f m)

  -- a fault's text has as many blanks as its first byte says
  text_blanks : (f : Fault) → Contains (universe_of n) f → (rest : List ℕ) → blanks (fault_text n f) ≡ fault_blanks (fault_text n f ++ rest)
  text_blanks f m rest =
      let sum : blanks (fault_text n f) ≡ blanks (line_text n f.line) + blanks (value_text f.value) = blanks_append (line_text n f.line) (value_text f.value) in
      let line = line_blanks f.line (member_written f m) (value_text f.value ++ rest) in
      let same : fault_text n f ++ rest ≡ line_text n f.line ++ (value_text f.value ++ rest) = append_assoc (line_text n f.line) (value_text f.value) rest in
      let due : fault_blanks (fault_text n f ++ rest) ≡ fault_blanks (line_text n f.line ++ (value_text f.value ++ rest)) = ap fault_blanks same in
      omega (arith, sum, line, due, value_blanks f.value)

  cut_of : (line : List ℕ) (f : Fault) (rest : List ℕ) → IsFaultAt n line f rest → IsCut line (fault_text n f) rest
  cut_of line f rest w = record { parts = w.parts; blanks = text_blanks f w.member rest ∙ ap fault_blanks (sym w.parts); end = w.end }

  pub no_cut : (line : List ℕ) → ((text rest : List ℕ) → IsCut line text rest → ⊥) → NoFaultAt n line
  no_cut line none f rest w = none (fault_text n f) rest (cut_of line f rest w)

  same_part : (line text rest : List ℕ) (f : Fault) (more : List ℕ) → IsCut line text rest → IsFaultAt n line f more → (text ≡ fault_text n f) × (rest ≡ more)
  same_part line text rest f more c w =
      let d = cut_of line f more w in
      same_cut text (fault_text n f) rest more (c.blanks ∙ sym d.blanks) c.end d.end (sym c.parts ∙ d.parts)

  pub no_member_text : (line text rest : List ℕ) → IsCut line text rest → All (λ f. fault_text n f ≢ text) (universe_of n) → NoFaultAt n line
  no_member_text line text rest c none f more w =
      All-contains (λ f. fault_text n f ≢ text) (universe_of n) f none w.member (sym (same_part line text rest f more c w).0)

  pub fault_here : (line text rest : List ℕ) (f : Fault) → IsCut line text rest → Contains (universe_of n) f → fault_text n f ≡ text → IsFaultAt n line f rest
  fault_here line text rest f c m is = record { member = m; parts = c.parts ∙ ap (λ zs. zs ++ rest) (sym is); end = c.end }

  pub same_fault_at : (line : List ℕ) (f g : Fault) (rest more : List ℕ) → IsFaultAt n line f rest → IsFaultAt n line g more → (f ≡ g) × (rest ≡ more)
  same_fault_at line f g rest more v w =
      let m = same_part line (fault_text n f) rest g more (cut_of line f rest v) w in
      (same_fault n sound f g (member_written f v.member) (member_written g w.member) m.0, m.1)

  -- no line end in it
  pub line_has_no : (l : Line) → IsWritten n l → All (λ b. b ≢ 10) (line_text n l)
  line_has_no (Stem x) w = All-append (λ b. b ≢ 10) (codes "stem ") (name_of n x) (has_no 10 (codes "stem ") refl) (name_has_no n sound 10 refl x w)
  line_has_no (Pin z k) w =
      All-append (λ b. b ≢ 10) (codes "pin ") (name_of n z ++ (codes " " ++ decimal k)) (has_no 10 (codes "pin ") refl)
      (All-append (λ b. b ≢ 10) (name_of n z) (codes " " ++ decimal k) (name_has_no n sound 10 refl z w.0)
      (All-cons (λ b. b ≢ 10) 32 (decimal k) (λ e. absurd (omega (arith, e))) (number_has_no 10 k (omega arith) (omega (arith, w.1)))))
  line_has_no (Out y) w = All-append (λ b. b ≢ 10) (codes "out ") (name_of n y) (has_no 10 (codes "out ") refl) (name_has_no n sound 10 refl y w)

  pub text_has_no : (f : Fault) → Contains (universe_of n) f → All (λ b. b ≢ 10) (fault_text n f)
  text_has_no f m = All-append (λ b. b ≢ 10) (line_text n f.line) (value_text f.value) (line_has_no f.line (member_written f m)) (value_has_no f.value)

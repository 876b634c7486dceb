-- Transition faults at the beginning of a line.
use Rattle.std.proofs.Common.{◌≡◌, ◌≢◌, ℕ, Bool, true, false, List, [], ◌∷◌, ◌++◌, codes, get_or, refl, sym, ◌∙◌, ap, arith, append_assoc}
use Rattle.std.specs.List.{All, Contains}
use Rattle.std.proofs.lemmas.List.{append_cancel_left}
use Rattle.std.proofs.lemmas.List.Elements.{All-append, All-contains}
use Rattle.statement.specs.declared.lines.Line.{Line}
use Rattle.statement.specs.declared.lines.Fault.{Fault}
use Rattle.statement.specs.Netlists.{Netlist}
use Rattle.statement.specs.Faults.{fault_text, line_text, universe_of}
use Rattle.netlist.specs.Conditions.{IsSound}
use Rattle.fault_universe.specs.Universe.{all_lines}
use Rattle.fault_universe.proofs.LineTexts.{same_ends, same_line}
use Rattle.fault_universe.proofs.Members.{fault_is_member, member_line}
use Rattle.certificate.specs.Words.{IsCut, IsEnd, IsWord, fault_blanks}
use Rattle.certificate.proofs.FaultTexts.{line_blanks, line_has_no, member_written}
use Rattle.certificate.proofs.VisibleBytes.{has_no}
use Rattle.certificate.proofs.WordLemmas.{same_cut, same_word}
use Rattle.report.specs.Reports.{slow_text}
use Rattle.report.specs.inner.Faults.{slow_word}
use Rattle.transition_report.specs.Texts.{transition_text}
use Rattle.transition_report.specs.inner.Parts.{IsSlowFaultAt, NoSlowFaultAt}

-- ---- the word of a slow line

slow_end : (v : Bool) (rest : List ℕ) → IsEnd (slow_text v ++ rest)
slow_end false rest = refl
slow_end true rest = refl

slow_ends : (v w : Bool) (r s : List ℕ) → slow_text v ++ r ≡ slow_text w ++ s → (v ≡ w) × (r ≡ s)
slow_ends false false r s e = (refl, append_cancel_left (codes " rise") r s e)
slow_ends true true r s e = (refl, append_cancel_left (codes " fall") r s e)
slow_ends false true r s e = let differ : ◌≡◌ {A = ℕ} 114 102 = ap (λ zs. get_or zs 1 0) e in absurd (omega arith)
slow_ends true false r s e = let differ : ◌≡◌ {A = ℕ} 102 114 = ap (λ zs. get_or zs 1 0) e in absurd (omega arith)

word_visible : (v : Bool) → All (λ b. b ≢ 32) (slow_word v)
word_visible false = has_no 32 (codes "rise") refl
word_visible true = has_no 32 (codes "fall") refl

slow_has_no : (v : Bool) → All (λ b. b ≢ 10) (slow_text v)
slow_has_no false = has_no 10 (codes " rise") refl
slow_has_no true = has_no 10 (codes " fall") refl

slow_blank : (v : Bool) → slow_text v ≡ 32 ∷ slow_word v
slow_blank false = refl
slow_blank true = refl

slow_is : (v : Bool) (rest : List ℕ) → slow_text v ++ rest ≡ 32 ∷ (slow_word v ++ rest)
slow_is v rest = ap (λ t. t ++ rest) (slow_blank v)

pub no_slow_blank : (text : List ℕ) → ((r : List ℕ) → text ≢ 32 ∷ r) → (v : Bool) (rest : List ℕ) → IsEnd rest → text ≢ slow_text v ++ rest
no_slow_blank text none v rest end e = none (slow_word v ++ rest) (e ∙ slow_is v rest)

pub other_slow_word : (text behind word after : List ℕ) → text ≡ 32 ∷ behind → IsWord behind word after → ((v : Bool) → word ≢ slow_word v)
    → (v : Bool) (rest : List ℕ) → IsEnd rest → text ≢ slow_text v ++ rest
other_slow_word text behind word after is w none v rest end e =
    let same : behind ≡ slow_word v ++ rest = append_cancel_left (32 ∷ []) behind (slow_word v ++ rest) (sym is ∙ (e ∙ slow_is v rest)) in
    none v (same_word behind word after (slow_word v) rest w (word_visible v) end same).0

pub slow_word_found : (text behind word after : List ℕ) (v : Bool) → text ≡ 32 ∷ behind → IsWord behind word after → word ≡ slow_word v
    → IsEnd after × (text ≡ slow_text v ++ after)
slow_word_found text behind word after v is w same =
    (w.end, is ∙ (ap (λ t. 32 ∷ t) (w.parts ∙ ap (λ t. t ++ after) same) ∙ sym (slow_is v after)))

-- ---- a line, by the text of its fault at 0

module _ (n : Netlist) (text room : List ℕ) (filled : room ≡ text ++ codes "/0") where
  pub line_found : (f : Fault) → Contains (universe_of n) f → fault_text n f ≡ room → Contains (all_lines n) f.line × (text ≡ line_text n f.line)
  line_found f m e = (member_line n f m, sym (same_ends (line_text n f.line) text f.value false (e ∙ filled)).0)

  pub no_line_found : All (λ f. fault_text n f ≢ room) (universe_of n) → (l : Line) → Contains (all_lines n) l → text ≢ line_text n l
  no_line_found none l m e =
      All-contains (λ f. fault_text n f ≢ room) (universe_of n) (record { line = l; value = false }) none (fault_is_member n l false m)
      (ap (λ t. t ++ codes "/0") (sym e) ∙ sym filled)

-- ---- a fault at the beginning of a line

module _ (n : Netlist) (sound : IsSound n) where
  cut_of : (line : List ℕ) (f : Fault) (rest : List ℕ) → IsSlowFaultAt n line f rest → IsCut line (line_text n f.line) (slow_text f.value ++ rest)
  cut_of line f rest w =
      let parts = w.parts ∙ append_assoc (line_text n f.line) (slow_text f.value) rest in
      record {
        parts = parts;
        blanks = line_blanks n sound f.line (member_written n sound f w.member) (slow_text f.value ++ rest) ∙ ap fault_blanks (sym parts);
        end = slow_end f.value rest;
      }

  pub no_slow_cut : (line : List ℕ) → ((text rest : List ℕ) → IsCut line text rest → ⊥) → NoSlowFaultAt n line
  no_slow_cut line none f rest w = none (line_text n f.line) (slow_text f.value ++ rest) (cut_of line f rest w)

  module _ (line text behind : List ℕ) (cut : IsCut line text behind) where
    cut_same : (f : Fault) (rest : List ℕ) → IsSlowFaultAt n line f rest → (text ≡ line_text n f.line) × (behind ≡ slow_text f.value ++ rest)
    cut_same f rest w =
        let d = cut_of line f rest w in
        same_cut text (line_text n f.line) behind (slow_text f.value ++ rest) (cut.blanks ∙ sym d.blanks) cut.end d.end (sym cut.parts ∙ d.parts)

    pub no_slow_word : ((v : Bool) (rest : List ℕ) → IsEnd rest → behind ≢ slow_text v ++ rest) → NoSlowFaultAt n line
    no_slow_word none f rest w = none f.value rest w.end (cut_same f rest w).1

    pub no_slow_line : ((l : Line) → Contains (all_lines n) l → text ≢ line_text n l) → NoSlowFaultAt n line
    no_slow_line none f rest w = none f.line (member_line n f w.member) (cut_same f rest w).0

    pub slow_fault_found : (l : Line) (v : Bool) (rest : List ℕ) → IsEnd rest × (behind ≡ slow_text v ++ rest) → Contains (all_lines n) l × (text ≡ line_text n l)
        → IsSlowFaultAt n line (record { line = l; value = v }) rest
    slow_fault_found l v rest slow found = record {
      member = fault_is_member n l v found.0;
      parts = cut.parts ∙ (ap (λ t. t ++ behind) found.1 ∙ (ap (λ t. line_text n l ++ t) slow.1 ∙ sym (append_assoc (line_text n l) (slow_text v) rest)));
      end = slow.0;
    }

  pub same_slow_fault : (line : List ℕ) (f g : Fault) (rest more : List ℕ) → IsSlowFaultAt n line f rest → IsSlowFaultAt n line g more → (f ≡ g) × (rest ≡ more)
  same_slow_fault line f g rest more v w =
      let m = cut_same line (line_text n f.line) (slow_text f.value ++ rest) (cut_of line f rest v) g more w in
      let lines = same_line n sound f.line g.line (member_written n sound f v.member) (member_written n sound g w.member) m.0 in
      let ends = slow_ends f.value g.value rest more m.1 in
      (ap (λ (l : Line). record { line = l; value = f.value }) lines ∙ ap (λ (b : Bool). record { line = g.line; value = b }) ends.0, ends.1)

  -- no line end in it
  pub text_has_no : (f : Fault) → Contains (universe_of n) f → All (λ b. b ≢ 10) (transition_text n f)
  text_has_no f m = All-append (λ b. b ≢ 10) (line_text n f.line) (slow_text f.value) (line_has_no n sound f.line (member_written n sound f m)) (slow_has_no f.value)

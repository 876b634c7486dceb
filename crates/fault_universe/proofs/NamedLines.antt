-- Which line a text can name.
use Rattle.std.proofs.Common.{◌≡◌, ◌≢◌, ℕ, ◌^◌, ◌<◌, List, ◌∷◌, ◌++◌, length, get_or, refl, sym, ◌∙◌, ap, subst, codes, decimal, arith}
use Rattle.std.specs.List.{All}
use Rattle.std.proofs.lemmas.List.{append_cancel_left}
use Rattle.statement.specs.declared.lines.Line.{Line}
use Rattle.statement.specs.declared.lines.Line.TheVariants.{Stem, Pin, Out}
use Rattle.statement.specs.Netlists.{Netlist, signals, name_of}
use Rattle.netlist.specs.Conditions.{IsSound}
use Rattle.statement.specs.Faults.{line_text}
use Rattle.fault_universe.specs.inner.Written.{IsWritten}
use Rattle.fault_universe.proofs.Names.{no_blank}
use Rattle.plain_text.proofs.Parts.{byte_inside, same_parts}

-- the line's text begins with the word of its kind
record IsStemText (n : Netlist) (name : List ℕ) (line : Line) : Type 0 where
  signal : ℕ
  line_is : line ≡ Stem signal
  name_is : name ≡ name_of n signal

record IsOutText (n : Netlist) (name : List ℕ) (line : Line) : Type 0 where
  signal : ℕ
  line_is : line ≡ Out signal
  name_is : name ≡ name_of n signal

record IsPinText (n : Netlist) (text : List ℕ) (line : Line) : Type 0 where
  signal : ℕ
  place : ℕ
  line_is : line ≡ Pin signal place
  text_is : text ≡ name_of n signal ++ 32 ∷ decimal place

stem_of : (n : Netlist) (name : List ℕ) (line : Line) → codes "stem " ++ name ≡ line_text n line → IsStemText n name line
stem_of n name (Stem x) e = record { signal = x; line_is = refl; name_is = append_cancel_left (codes "stem ") name (name_of n x) e }
stem_of n name (Pin z k) e = let differ : ◌≡◌ {A = ℕ} 115 112 = ap (λ zs. get_or zs 0 0) e in absurd (omega arith)
stem_of n name (Out y) e = let differ : ◌≡◌ {A = ℕ} 115 111 = ap (λ zs. get_or zs 0 0) e in absurd (omega arith)

out_of : (n : Netlist) (name : List ℕ) (line : Line) → codes "out " ++ name ≡ line_text n line → IsOutText n name line
out_of n name (Out y) e = record { signal = y; line_is = refl; name_is = append_cancel_left (codes "out ") name (name_of n y) e }
out_of n name (Stem x) e = let differ : ◌≡◌ {A = ℕ} 111 115 = ap (λ zs. get_or zs 0 0) e in absurd (omega arith)
out_of n name (Pin z k) e = let differ : ◌≡◌ {A = ℕ} 111 112 = ap (λ zs. get_or zs 0 0) e in absurd (omega arith)

pin_of : (n : Netlist) (text : List ℕ) (line : Line) → codes "pin " ++ text ≡ line_text n line → IsPinText n text line
pin_of n text (Pin z k) e = record { signal = z; place = k; line_is = refl; text_is = append_cancel_left (codes "pin ") text (name_of n z ++ 32 ∷ decimal k) e }
pin_of n text (Stem x) e = let differ : ◌≡◌ {A = ℕ} 112 115 = ap (λ zs. get_or zs 0 0) e in absurd (omega arith)
pin_of n text (Out y) e = let differ : ◌≡◌ {A = ℕ} 112 111 = ap (λ zs. get_or zs 0 0) e in absurd (omega arith)

-- no line has another word
pub other_word : (n : Netlist) (text : List ℕ) (line : Line) → ((r : List ℕ) → text ≢ codes "stem " ++ r) → ((r : List ℕ) → text ≢ codes "out " ++ r) → ((r : List ℕ) → text ≢ codes "pin " ++ r) → text ≢ line_text n line
other_word n text (Stem x) stem out pin e = stem (name_of n x) e
other_word n text (Pin z k) stem out pin e = pin (name_of n z ++ 32 ∷ decimal k) e
other_word n text (Out y) stem out pin e = out (name_of n y) e

module _ (n : Netlist) (sound : IsSound n) where
  pub no_stem : (name : List ℕ) → ((x : ℕ) → x < length (signals n) → name_of n x ≢ name) → (line : Line) → IsWritten n line → codes "stem " ++ name ≢ line_text n line
  no_stem name none line w e =
      let s = stem_of n name line e in
      let inside : s.signal < length (signals n) = subst (IsWritten n) s.line_is w in
      none s.signal inside (sym s.name_is)

  pub no_out : (name : List ℕ) → ((x : ℕ) → x < length (signals n) → name_of n x ≢ name) → (line : Line) → IsWritten n line → codes "out " ++ name ≢ line_text n line
  no_out name none line w e =
      let s = out_of n name line e in
      let inside : s.signal < length (signals n) = subst (IsWritten n) s.line_is w in
      none s.signal inside (sym s.name_is)

  pub no_pin_blank : (text : List ℕ) → All (λ b. b ≢ 32) text → (line : Line) → IsWritten n line → codes "pin " ++ text ≢ line_text n line
  no_pin_blank text none line w e =
      let p = pin_of n text line e in
      byte_inside 32 (name_of n p.signal) (decimal p.place) (subst (All (λ b. b ≢ 32)) p.text_is none)

  -- the text in two parts at its first blank
  module _ (text name digits : List ℕ) (front : All (λ b. b ≢ 32) name) (parts : text ≡ name ++ 32 ∷ digits) where
    pin_parts : (line : Line) → IsWritten n line → codes "pin " ++ text ≡ line_text n line
        → (z : ℕ) × (k : ℕ) × (z < length (signals n)) × (k < 2 ^ 32) × (name ≡ name_of n z) × (digits ≡ decimal k)
    pin_parts line w e =
        let p = pin_of n text line e in
        let inside : (p.signal < length (signals n)) × (p.place < 2 ^ 32) = subst (IsWritten n) p.line_is w in
        let same = same_parts 32 name (name_of n p.signal) digits (decimal p.place) front (no_blank n sound p.signal inside.0) (sym parts ∙ p.text_is) in
        (p.signal, p.place, inside.0, inside.1, same.0, same.1)

    pub no_pin_name : ((x : ℕ) → x < length (signals n) → name_of n x ≢ name) → (line : Line) → IsWritten n line → codes "pin " ++ text ≢ line_text n line
    no_pin_name none line w e = let p = pin_parts line w e in none p.0 p.2 (sym p.4)

    pub no_pin_number : ((k : ℕ) → k < 2 ^ 32 → digits ≢ decimal k) → (line : Line) → IsWritten n line → codes "pin " ++ text ≢ line_text n line
    no_pin_number none line w e = let p = pin_parts line w e in none p.1 p.3 p.5

pub pin_text : (n : Netlist) (text name digits : List ℕ) (z k : ℕ) → text ≡ name ++ 32 ∷ digits → name_of n z ≡ name → digits ≡ decimal k
    → codes "pin " ++ text ≡ codes "pin " ++ (name_of n z ++ 32 ∷ decimal k)
pin_text n text name digits z k parts is d =
    ap (λ zs. codes "pin " ++ zs) (parts ∙ (ap (λ zs. zs ++ 32 ∷ digits) (sym is) ∙ ap (λ zs. name_of n z ++ 32 ∷ zs) d))

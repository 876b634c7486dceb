-- Names and numbers have neither blanks nor line ends.
use Rattle.std.proofs.Common.{◌≡◌, ◌≢◌, ◌<◌, ◌^◌, ℕ, Bool, true, false, if◌then◌else◌, nat_eq, inl, inr, List, [], ◌∷◌, decimal, ap, ◌∙◌, sym, arith}
use Rattle.std.specs.List.{All}
use Rattle.std.specs.Str.Parse.{AllDigits}
use Rattle.std.proofs.lemmas.Bool.{both_ways}
use Rattle.std.proofs.lemmas.Bool.Decides.{eqb_tells}
use Rattle.std.proofs.lemmas.Fmt.{decimal_is_IsNumeral}
use Rattle.std.proofs.lemmas.List.Elements.{All-cons, All-get_or, All-nil, All-weaker}
use Rattle.std.proofs.lemmas.Str.Parse.{digit_from_value}
use Rattle.netlist.specs.Conditions.{IsSound}
use Rattle.statement.specs.Netlists.{IsName, is_name_byte, Netlist, name_of}
use Rattle.netlist.specs.Netlist.{signal_count}
use Rattle.netlist.proofs.WellFormed.{names_counted}

-- whether a text lacks a byte
abbrev pub lacks : ℕ → List ℕ → Bool
lacks c [] = true
lacks c (b ∷ bs) = if nat_eq b c then false else lacks c bs

pub has_no : (c : ℕ) (bs : List ℕ) → lacks c bs ≡ true → All (λ b. b ≢ c) bs
has_no c [] e = All-nil (λ b. b ≢ c)
has_no c (b ∷ bs) e = elim (eqb_tells b c) [
  | inl w ↦ absurd (both_ways (lacks c (b ∷ bs)) (ap (λ t. if t then false else lacks c bs) w.0) e)
  | inr w ↦ All-cons (λ b. b ≢ c) b bs w.1 (has_no c bs (sym (ap (λ t. if t then false else lacks c bs) w.0) ∙ e))
]

module _ (n : Netlist) (sound : IsSound n) where
  names_bytes : (x : ℕ) → x < signal_count n → IsName (name_of n x)
  names_bytes x l = let counted = names_counted n sound in All-get_or IsName n.names x [] (omega (arith, counted, l)) sound.formed.names

  pub name_has_no : (c : ℕ) → ◌≡◌ (is_name_byte c) false → (x : ℕ) → x < signal_count n → All (λ b. b ≢ c) (name_of n x)
  name_has_no c none x l =
      All-weaker (λ b. is_name_byte b ≡ true) (λ b. b ≢ c) (λ b h e. both_ways (is_name_byte b) (ap is_name_byte e ∙ none) h) (name_of n x) (names_bytes x l).bytes

digits_have_no : (c : ℕ) → c < 48 → (ds : List ℕ) → AllDigits 10 ds → All (λ b. b ≢ c) ds
digits_have_no c low [] h = All-nil (λ b. b ≢ c)
digits_have_no c low (d ∷ ds) h =
    let r = digit_from_value d h.0 in
    All-cons (λ b. b ≢ c) d ds (λ e. absurd (omega (arith, r, low, e))) (digits_have_no c low ds h.1)

pub number_has_no : (c k : ℕ) → c < 48 → k < 2 ^ 64 → All (λ b. b ≢ c) (decimal k)
number_has_no c k low l = digits_have_no c low (decimal k) (decimal_is_IsNumeral k l).0.1

-- Nodes by the words that they are written in.
use Rattle.std.proofs.Common.{◌≡◌, ◌≢◌, ◌<◌, ℕ, Bool, true, false, List, [], ◌∷◌, ◌++◌, codes, get_or, refl, sym, ◌∙◌, ap, arith}
use Rattle.std.specs.List.{All}
use Rattle.std.proofs.lemmas.List.{append_cancel_left}
use Rattle.netlist.specs.Conditions.{IsSound}
use Rattle.statement.specs.Netlists.{Netlist, name_of}
use Rattle.netlist.specs.Netlist.{signal_count}
use Rattle.redundancy_cert.specs.declared.nodes.Node.{Node}
use Rattle.redundancy_cert.specs.declared.nodes.Node.TheVariants.{Closed, Open, Split, Forced}
use Rattle.certificate.specs.declared.node.Letter.{Letter}
use Rattle.certificate.specs.declared.node.Letter.TheVariants as Letters
use Rattle.certificate.specs.Certificates.{node_text}
use Rattle.certificate.specs.inner.Parts.{IsNodeAt, NoNodeAt, bit_word, letter_word}
use Rattle.certificate.specs.Words.{IsEnd, IsWord}
use Rattle.certificate.proofs.NodeTexts.{forced_text, no_blank_name}
use Rattle.certificate.proofs.VisibleBytes.{has_no}
use Rattle.certificate.proofs.WordLemmas.{same_word}

abbrev letter : Node → Letter
letter Closed = Letters.Closed
letter Open = Letters.Open
letter (Split x) = Letters.Split
letter (Forced x bit) = Letters.Forced

-- a node's first word
abbrev first_word : Node → List ℕ
first_word node = letter_word (letter node)

first_visible : (node : Node) → All (λ b. b ≢ 32) (first_word node)
first_visible Closed = has_no 32 (33 ∷ []) refl
first_visible Open = has_no 32 (63 ∷ []) refl
first_visible (Split x) = has_no 32 (83 ∷ []) refl
first_visible (Forced x bit) = has_no 32 (70 ∷ []) refl

-- what comes behind it
abbrev behind_first : Netlist → Node → List ℕ → List ℕ
behind_first n Closed rest = rest
behind_first n Open rest = rest
behind_first n (Split x) rest = 32 ∷ (name_of n x ++ rest)
behind_first n (Forced x bit) rest = 32 ∷ (name_of n x ++ 32 ∷ (bit_word bit ++ rest))

behind_ends : (n : Netlist) (node : Node) (rest : List ℕ) → IsEnd rest → IsEnd (behind_first n node rest)
behind_ends n Closed rest end = end
behind_ends n Open rest end = end
behind_ends n (Split x) rest end = refl
behind_ends n (Forced x bit) rest end = refl

in_words : (n : Netlist) (node : Node) (rest : List ℕ) → node_text n node ++ rest ≡ 32 ∷ (first_word node ++ behind_first n node rest)
in_words n Closed rest = refl
in_words n Open rest = refl
in_words n (Split x) rest = refl
in_words n (Forced x bit) rest = forced_text n x bit rest

tail_of : (r s : List ℕ) → 32 ∷ r ≡ 32 ∷ s → r ≡ s
tail_of r s e = append_cancel_left (codes " ") r s e

-- a text that begins with no blank begins with no node
pub no_first : (n : Netlist) (text : List ℕ) → ((r : List ℕ) → text ≢ 32 ∷ r) → NoNodeAt n text
no_first n text none node rest w = none (first_word node ++ behind_first n node rest) (w.parts ∙ in_words n node rest)

-- a text with a first word, and a node that it begins with
module _ (n : Netlist) (text r word more : List ℕ) (begins : text ≡ 32 ∷ r) (first : IsWord r word more) where
  first_is : (node : Node) (rest : List ℕ) → IsNodeAt n text node rest → (word ≡ first_word node) × (more ≡ behind_first n node rest)
  first_is node rest w =
      same_word r word more (first_word node) (behind_first n node rest) first (first_visible node) (behind_ends n node rest w.end)
      (tail_of r (first_word node ++ behind_first n node rest) (sym begins ∙ (w.parts ∙ in_words n node rest)))

  is_first : (node : Node) → word ≡ first_word node → text ≡ 32 ∷ (first_word node ++ more)
  is_first node is = begins ∙ (ap (λ zs. 32 ∷ zs) first.parts ∙ ap (λ zs. 32 ∷ (zs ++ more)) is)

  pub other_word : ((l : Letter) → word ≢ letter_word l) → NoNodeAt n text
  other_word none node rest w = none (letter node) (first_is node rest w).0

second_byte : (n : Netlist) (letter : ℕ) (text : List ℕ) (node : Node) (rest : List ℕ) → IsNodeAt n (32 ∷ letter ∷ text) node rest → letter ∷ text ≡ first_word node ++ behind_first n node rest
second_byte n letter text node rest w = tail_of (letter ∷ text) (first_word node ++ behind_first n node rest) (w.parts ∙ in_words n node rest)

-- behind the word of a Split
split_of : (n : Netlist) (text : List ℕ) (node : Node) (rest : List ℕ) → IsNodeAt n (codes " S" ++ text) node rest → (x : ℕ) × (x < signal_count n) × (text ≡ 32 ∷ (name_of n x ++ rest))
split_of n text Closed rest w = let differ : ◌≡◌ {A = ℕ} 83 33 = ap (λ zs. get_or zs 0 0) (second_byte n 83 text Closed rest w) in absurd (omega arith)
split_of n text Open rest w = let differ : ◌≡◌ {A = ℕ} 83 63 = ap (λ zs. get_or zs 0 0) (second_byte n 83 text Open rest w) in absurd (omega arith)
split_of n text (Split x) rest w = (x, w.signal, append_cancel_left (codes "S") text (32 ∷ (name_of n x ++ rest)) (second_byte n 83 text (Split x) rest w))
split_of n text (Forced x bit) rest w = let differ : ◌≡◌ {A = ℕ} 83 70 = ap (λ zs. get_or zs 0 0) (second_byte n 83 text (Forced x bit) rest w) in absurd (omega arith)

-- behind the word of a Forced
forced_of : (n : Netlist) (text : List ℕ) (node : Node) (rest : List ℕ) → IsNodeAt n (codes " F" ++ text) node rest
    → (x : ℕ) × (bit : Bool) × (x < signal_count n) × (text ≡ 32 ∷ (name_of n x ++ 32 ∷ (bit_word bit ++ rest)))
forced_of n text Closed rest w = let differ : ◌≡◌ {A = ℕ} 70 33 = ap (λ zs. get_or zs 0 0) (second_byte n 70 text Closed rest w) in absurd (omega arith)
forced_of n text Open rest w = let differ : ◌≡◌ {A = ℕ} 70 63 = ap (λ zs. get_or zs 0 0) (second_byte n 70 text Open rest w) in absurd (omega arith)
forced_of n text (Split x) rest w = let differ : ◌≡◌ {A = ℕ} 70 83 = ap (λ zs. get_or zs 0 0) (second_byte n 70 text (Split x) rest w) in absurd (omega arith)
forced_of n text (Forced x bit) rest w =
    (x, bit, w.signal, append_cancel_left (codes "F") text (32 ∷ (name_of n x ++ 32 ∷ (bit_word bit ++ rest))) (second_byte n 70 text (Forced x bit) rest w))

bit_visible : (bit : Bool) → All (λ b. b ≢ 32) (bit_word bit)
bit_visible false = has_no 32 (48 ∷ []) refl
bit_visible true = has_no 32 (49 ∷ []) refl

module _ (n : Netlist) (sound : IsSound n) (text : List ℕ) where
  pub no_split_blank : ((r : List ℕ) → text ≢ 32 ∷ r) → NoNodeAt n (codes " S" ++ text)
  no_split_blank none node rest w = let s = split_of n text node rest w in none (name_of n s.0 ++ rest) s.2

  pub no_forced_blank : ((r : List ℕ) → text ≢ 32 ∷ r) → NoNodeAt n (codes " F" ++ text)
  no_forced_blank none node rest w = let s = forced_of n text node rest w in none (name_of n s.0 ++ 32 ∷ (bit_word s.1 ++ rest)) s.3

  -- the name behind it
  module _ (r name more : List ℕ) (begins : text ≡ 32 ∷ r) (named : IsWord r name more) where
    pub no_split_name : ((x : ℕ) → x < signal_count n → name_of n x ≢ name) → NoNodeAt n (codes " S" ++ text)
    no_split_name none node rest w =
        let s = split_of n text node rest w in
        let m = same_word r name more (name_of n s.0) rest named (no_blank_name n sound s.0 s.1) w.end (tail_of r (name_of n s.0 ++ rest) (sym begins ∙ s.2)) in
        none s.0 s.1 (sym m.0)

    pub split_here : (x : ℕ) → x < signal_count n → name_of n x ≡ name → IsNodeAt n (codes " S" ++ text) (Split x) more
    split_here x l is = record {
      signal = l;
      parts = ap (λ zs. codes " S" ++ zs) (begins ∙ (ap (λ zs. 32 ∷ zs) named.parts ∙ ap (λ zs. 32 ∷ (zs ++ more)) (sym is)));
      end = named.end;
    }

    forced_parts : (node : Node) (rest : List ℕ) → IsNodeAt n (codes " F" ++ text) node rest
        → (x : ℕ) × (bit : Bool) × (x < signal_count n) × (name ≡ name_of n x) × (more ≡ 32 ∷ (bit_word bit ++ rest))
    forced_parts node rest w =
        let s = forced_of n text node rest w in
        let m = same_word r name more (name_of n s.0) (32 ∷ (bit_word s.1 ++ rest)) named (no_blank_name n sound s.0 s.2) refl
        (tail_of r (name_of n s.0 ++ 32 ∷ (bit_word s.1 ++ rest)) (sym begins ∙ s.3)) in
        (s.0, s.1, s.2, m.0, m.1)

    pub no_bit_blank : ((q : List ℕ) → more ≢ 32 ∷ q) → NoNodeAt n (codes " F" ++ text)
    no_bit_blank none node rest w = let s = forced_parts node rest w in none (bit_word s.1 ++ rest) s.4

    pub no_forced_name : ((x : ℕ) → x < signal_count n → name_of n x ≢ name) → NoNodeAt n (codes " F" ++ text)
    no_forced_name none node rest w = let s = forced_parts node rest w in none s.0 s.2 (sym s.3)

    module _ (q word last : List ℕ) (next : more ≡ 32 ∷ q) (bits : IsWord q word last) where
      pub no_bit : ((bit : Bool) → word ≢ bit_word bit) → NoNodeAt n (codes " F" ++ text)
      no_bit none node rest w =
          let s = forced_parts node rest w in
          let m = same_word q word last (bit_word s.1) rest bits (bit_visible s.1) w.end (tail_of q (bit_word s.1 ++ rest) (sym next ∙ s.4)) in
          none s.1 m.0

      pub forced_here : (x : ℕ) (bit : Bool) → x < signal_count n → name_of n x ≡ name → word ≡ bit_word bit → IsNodeAt n (codes " F" ++ text) (Forced x bit) last
      forced_here x bit l is value = record {
        signal = l;
        parts = ap (λ zs. codes " F" ++ zs) (begins ∙ (ap (λ zs. 32 ∷ zs) named.parts ∙ (ap (λ zs. 32 ∷ (zs ++ more)) (sym is)
            ∙ ap (λ zs. 32 ∷ (name_of n x ++ zs)) (next ∙ (ap (λ zs. 32 ∷ zs) bits.parts ∙ ap (λ zs. 32 ∷ (zs ++ last)) value)))))
            ∙ sym (forced_text n x bit last);
        end = bits.end;
      }

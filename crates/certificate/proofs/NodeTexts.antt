-- Nodes are told by their texts.
use Rattle.std.proofs.Common.{◌≡◌, ◌≢◌, ◌<◌, ℕ, Bool, true, false, List, [], ◌∷◌, ◌++◌, codes, get_or, refl, sym, ◌∙◌, ap, arith, append_assoc}
use Rattle.std.specs.List.{All}
use Rattle.std.proofs.lemmas.List.{append_cancel_left}
use Rattle.netlist.specs.Conditions.{IsSound}
use Rattle.statement.specs.Netlists.{Netlist, name_of}
use Rattle.netlist.specs.Netlist.{signal_count}
use Rattle.fault_universe.proofs.Names.{same_name}
use Rattle.redundancy_cert.specs.declared.nodes.Node.{Node}
use Rattle.redundancy_cert.specs.declared.nodes.Node.TheVariants.{Closed, Open, Split, Forced}
use Rattle.certificate.specs.Certificates.{node_text, HasSignal}
use Rattle.certificate.specs.inner.Parts.{bit_word}
use Rattle.certificate.specs.Words.{IsEnd}
use Rattle.certificate.proofs.VisibleBytes.{name_has_no}
use Rattle.certificate.proofs.WordLemmas.{no_blanks, same_cut}

pub node_ends : (n : Netlist) (node : Node) (rest : List ℕ) → IsEnd (node_text n node ++ rest)
node_ends n Closed rest = refl
node_ends n Open rest = refl
node_ends n (Split x) rest = refl
node_ends n (Forced x bit) rest = refl

pub node_some : (n : Netlist) (node : Node) (rest : List ℕ) → node_text n node ++ rest ≡ [] → ⊥
node_some n Closed rest e = cc
node_some n Open rest e = cc
node_some n (Split x) rest e = cc
node_some n (Forced x bit) rest e = cc

-- the byte behind the blank says which node it is
abbrev pub kind : Node → ℕ
kind Closed = 33
kind Open = 63
kind (Split x) = 83
kind (Forced x bit) = 70

pub kind_byte : (n : Netlist) (node : Node) (rest : List ℕ) → get_or (node_text n node ++ rest) 1 0 ≡ kind node
kind_byte n Closed rest = refl
kind_byte n Open rest = refl
kind_byte n (Split x) rest = refl
kind_byte n (Forced x bit) rest = refl

pub forced_text : (n : Netlist) (x : ℕ) (bit : Bool) (rest : List ℕ) → node_text n (Forced x bit) ++ rest ≡ codes " F " ++ (name_of n x ++ 32 ∷ (bit_word bit ++ rest))
forced_text n x false rest = ap (λ zs. codes " F " ++ zs) (append_assoc (name_of n x) (codes " 0") rest)
forced_text n x true rest = ap (λ zs. codes " F " ++ zs) (append_assoc (name_of n x) (codes " 1") rest)

same_bit : (b c : Bool) (r s : List ℕ) → bit_word b ++ r ≡ bit_word c ++ s → (b ≡ c) × (r ≡ s)
same_bit false false r s e = (refl, append_cancel_left (codes "0") r s e)
same_bit true true r s e = (refl, append_cancel_left (codes "1") r s e)
same_bit false true r s e = let differ : ◌≡◌ {A = ℕ} 48 49 = ap (λ zs. get_or zs 0 0) e in absurd (omega arith)
same_bit true false r s e = let differ : ◌≡◌ {A = ℕ} 49 48 = ap (λ zs. get_or zs 0 0) e in absurd (omega arith)

module _ (n : Netlist) (sound : IsSound n) where
  pub no_blank_name : (x : ℕ) → x < signal_count n → All (λ b. b ≢ 32) (name_of n x)
  no_blank_name = name_has_no n sound 32 refl

  same_signal : (x y : ℕ) (r s : List ℕ) → x < signal_count n → y < signal_count n → IsEnd r → IsEnd s → name_of n x ++ r ≡ name_of n y ++ s → (x ≡ y) × (r ≡ s)
  same_signal x y r s p q h k e =
      let m = same_cut (name_of n x) (name_of n y) r s (no_blanks (name_of n x) (no_blank_name x p) ∙ sym (no_blanks (name_of n y) (no_blank_name y q))) h k e in
      (same_name n sound x y p q m.0, m.1)

  same_of_kind : (a b : Node) (r s : List ℕ) → HasSignal n a → HasSignal n b → IsEnd r → IsEnd s → kind a ≡ kind b → node_text n a ++ r ≡ node_text n b ++ s → (a ≡ b) × (r ≡ s)
  same_of_kind Closed Closed r s p q h k same e = (refl, append_cancel_left (codes " !") r s e)
  same_of_kind Open Open r s p q h k same e = (refl, append_cancel_left (codes " ?") r s e)
  same_of_kind (Split x) (Split y) r s p q h k same e =
      let m = same_signal x y r s p q h k (append_cancel_left (codes " S ") (name_of n x ++ r) (name_of n y ++ s) e) in
      (ap (λ z. Split z) m.0, m.1)
  same_of_kind (Forced x b) (Forced y c) r s p q h k same e =
      let m = same_signal x y (32 ∷ (bit_word b ++ r)) (32 ∷ (bit_word c ++ s)) p q refl refl
      (append_cancel_left (codes " F ") (name_of n x ++ 32 ∷ (bit_word b ++ r)) (name_of n y ++ 32 ∷ (bit_word c ++ s)) (sym (forced_text n x b r) ∙ (e ∙ forced_text n y c s))) in
      let t = same_bit b c r s (append_cancel_left (codes " ") (bit_word b ++ r) (bit_word c ++ s) m.1) in
      (ap (λ z. Forced z b) m.0 ∙ ap (λ v. Forced y v) t.0, t.1)
  same_of_kind Closed Open r s p q h k same e = absurd (omega (arith, same))
  same_of_kind Closed (Split y) r s p q h k same e = absurd (omega (arith, same))
  same_of_kind Closed (Forced y c) r s p q h k same e = absurd (omega (arith, same))
  same_of_kind Open Closed r s p q h k same e = absurd (omega (arith, same))
  same_of_kind Open (Split y) r s p q h k same e = absurd (omega (arith, same))
  same_of_kind Open (Forced y c) r s p q h k same e = absurd (omega (arith, same))
  same_of_kind (Split x) Closed r s p q h k same e = absurd (omega (arith, same))
  same_of_kind (Split x) Open r s p q h k same e = absurd (omega (arith, same))
  same_of_kind (Split x) (Forced y c) r s p q h k same e = absurd (omega (arith, same))
  same_of_kind (Forced x b) Closed r s p q h k same e = absurd (omega (arith, same))
  same_of_kind (Forced x b) Open r s p q h k same e = absurd (omega (arith, same))
  same_of_kind (Forced x b) (Split y) r s p q h k same e = absurd (omega (arith, same))

  pub same_node : (a b : Node) (r s : List ℕ) → HasSignal n a → HasSignal n b → IsEnd r → IsEnd s → node_text n a ++ r ≡ node_text n b ++ s → (a ≡ b) × (r ≡ s)
  same_node a b r s p q h k e = same_of_kind a b r s p q h k (sym (kind_byte n a r) ∙ (ap (λ zs. get_or zs 1 0) e ∙ kind_byte n b s)) e

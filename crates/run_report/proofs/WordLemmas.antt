-- Names of pins are words of a report.
use Rattle.std.proofs.Common.{◌≡◌, ℕ, ◌<◌, true, false, Bool, cond, List, [], ◌∷◌, ◌++◌, length, map, codes, refl, sym, subst, arith, IsTrue, length-append, ◌==◌}
use Rattle.std.specs.List.{All, Contains, list_any}
use Rattle.std.proofs.lemmas.List.Elements.{All-nil, All-cons, All-contains, All-get_or, All-head, All-tail}
use Rattle.statement.specs.Netlists.{Netlist, name_of, signals, IsName, is_name_byte}
use Rattle.netlist.specs.Conditions.{IsSound}
use Rattle.netlist.proofs.Lists.{All-from_contains, contains_map}
use Rattle.report.specs.Reports.{IsBenchWord}
use Rattle.statement.specs.Runs.{output_name}

both : {X : Type 0} (P : X → Type 0) (xs ys : List X) → All P xs → All P ys → All P (xs ++ ys)
both P [] ys h k = k
both P (x ∷ xs) ys h k = All-cons P x (xs ++ ys) (All-head P x xs h) (both P xs ys (All-tail P x xs h) k)

-- a name of a netlist is a word
pub name_word : (n : Netlist) → IsSound n → (x : ℕ) → x < length n.names → IsBenchWord (name_of n x)
name_word n sound x lt =
    let name = All-get_or IsName n.names x [] lt sound.formed.names in
    record { some = name.some; bytes = name.bytes }

byte : (b : ℕ) (bs : List ℕ) → IsTrue (is_name_byte b) → All (λ b. IsTrue (is_name_byte b)) bs → All (λ b. IsTrue (is_name_byte b)) (b ∷ bs)
byte b bs p ps = All-cons (λ b. IsTrue (is_name_byte b)) b bs p ps

prefix : All (λ b. IsTrue (is_name_byte b)) (codes "SC__o_")
prefix = byte 83 (codes "C__o_") refl (byte 67 (codes "__o_") refl (byte 95 (codes "_o_") refl (byte 95 (codes "o_") refl (byte 111 (codes "_") refl (byte 95 [] refl (All-nil (λ b. IsTrue (is_name_byte b))))))))

prefixed : (name : List ℕ) → IsBenchWord name → IsBenchWord (codes "SC__o_" ++ name)
prefixed name w = record {
  some = omega (arith, w.some, length-append (codes "SC__o_") name);
  bytes = both (λ b. IsTrue (is_name_byte b)) (codes "SC__o_") name prefix w.bytes;
}

pin_word : (n : Netlist) → IsSound n → (x : ℕ) → x < length n.names → IsBenchWord (output_name n x)
pin_word n sound x lt = elim (list_any (λ y. y == x) n.inputs) as (λ (b : Bool). IsBenchWord (cond b (codes "SC__o_" ++ name_of n x) (name_of n x))) [
  | true ↦ prefixed (name_of n x) (name_word n sound x lt)
  | false ↦ name_word n sound x lt
]

pub pin_words : (n : Netlist) → IsSound n → (pins : List (List ℕ)) → pins ≡ map (output_name n) n.outputs → All IsBenchWord pins
pin_words n sound pins are =
    let P : List (List ℕ) → Type 0 = λ ps. All IsBenchWord ps in
    subst P (sym are) (All-from_contains IsBenchWord (map (output_name n) n.outputs) (λ pin here.
    let w = contains_map (output_name n) n.outputs pin here in
    subst IsBenchWord w.2 (pin_word n sound w.0 (sound.formed.named w.0 (All-contains (Contains (signals n)) n.outputs w.0 sound.closed.outputs w.1)))))

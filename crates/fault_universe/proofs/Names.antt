-- The names of a netlist.
use Rattle.std.proofs.Common.{◌≡◌, ◌≢◌, ℕ, ◌<◌, true, List, [], length, sym, ◌∙◌, ap, Some, inl, inr, arith}
use Rattle.std.specs.List.{All, Contains, slice_get}
use Rattle.std.proofs.lemmas.Bool.{cases_order, both_ways}
use Rattle.std.proofs.lemmas.List.{get_or_default}
use Rattle.std.proofs.lemmas.List.Elements.{All-contains, All-get_or, All-weaker}
use Rattle.std.proofs.lemmas.Option.{get_or_from_slice_get}
use Rattle.statement.specs.Netlists.{Definition, Netlist, signals, IsName, is_name_byte, name_of}
use Rattle.netlist.specs.Conditions.{IsNumbered, HasReader, IsSound}
use Rattle.netlist.proofs.Placed.{signal_below}

pub is_signal : (n : Netlist) → IsNumbered n → (x : ℕ) → x < length (signals n) → Contains (signals n) x
is_signal n numbered x l = (x, l, get_or_default (signals n) x x 0 l ∙ numbered x l)

module _ (n : Netlist) (sound : IsSound n) where
  read_is_signal : (x : ℕ) → HasReader n x → Contains (signals n) x
  read_is_signal x r = elim r [
    | inl p ↦ All-contains (Contains (signals n)) p.0.pins x (All-contains (λ (d : Definition). All (Contains (signals n)) d.pins) n.definitions p.0 sound.closed.pins p.1) p.2
    | inr o ↦ All-contains (Contains (signals n)) n.outputs x sound.closed.outputs o
  ]

  named_is_signal : (x : ℕ) → x < length n.names → Contains (signals n) x
  named_is_signal x l = elim (sound.formed.used x l) [ inl c ↦ c | inr r ↦ read_is_signal x r ]

  -- each signal has a name, and there are no others
  pub name_count : length n.names ≡ length (signals n)
  name_count = elim (cases_order (length n.names) (length (signals n))) [
    | inl e ↦ e
    | inr o ↦ elim o [
      | inl fewer ↦ let high = sound.formed.named (length n.names) (is_signal n sound.formed.numbered (length n.names) fewer) in absurd (omega arith)
      | inr more ↦ let below = signal_below n sound.formed.numbered (length (signals n)) (named_is_signal (length (signals n)) more) in absurd (omega arith)
    ]
  ]

  named : (x : ℕ) → x < length (signals n) → x < length n.names
  named x l = let e = name_count in omega arith

  pub same_name : (x y : ℕ) → x < length (signals n) → y < length (signals n) → name_of n x ≡ name_of n y → x ≡ y
  same_name x y l m e = elim (cases_order x y) [
    | inl same ↦ same
    | inr o ↦ elim o [
      | inl less ↦ absurd (sound.formed.distinct x y [] less (named y m) e)
      | inr more ↦ absurd (sound.formed.distinct y x [] more (named x l) (sym e))
    ]
  ]

  is_name : (x : ℕ) → x < length (signals n) → IsName (name_of n x)
  is_name x l = All-get_or IsName n.names x [] (named x l) sound.formed.names

  blank_is_no_name_byte : (b : ℕ) → is_name_byte b ≡ true → b ≢ 32
  blank_is_no_name_byte b h e = absurd (both_ways (is_name_byte b) (ap is_name_byte e) h)

  pub no_blank : (x : ℕ) → x < length (signals n) → All (λ b. b ≢ 32) (name_of n x)
  no_blank x l = All-weaker (λ b. is_name_byte b ≡ true) (λ b. b ≢ 32) blank_is_no_name_byte (name_of n x) (is_name x l).bytes

  pub name_found : (x : ℕ) (name : List ℕ) → slice_get n.names x ≡ Some name → name_of n x ≡ name
  name_found x name e = get_or_from_slice_get n.names x name [] e

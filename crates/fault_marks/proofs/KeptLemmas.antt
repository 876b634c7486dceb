-- Lines that are kept, each once, and found again.
use denote.Ref.{Bor}
use Rattle.std.proofs.Common.{◌≡◌, ◌↔◌, ℕ, Bool, true, false, List, [], ◌∷◌, ◌++◌, map, refl, sym, ap, subst, ◌∙◌, inl, inr, IsTrue, if◌then◌else◌}
use Rattle.std.specs.List.{Contains, list_any}
use Rattle.std.specs.Str.{bytes_eq}
use Rattle.std.proofs.lemmas.List.{map_push}
use Rattle.std.proofs.lemmas.List.Elements.{Contains-append_cases, Contains-append_left, Contains-append_right}
use Rattle.std.proofs.lemmas.Slice.Eq.{bytes_eq-Decides}
use Rattle.netlist.proofs.Lists.{any_from, any_true, contains_cases, contains_head, contains_map, contains_nil, contains_tail}
use Rattle.fault_marks.specs.inner.Kept.{AreKept}

abbrev bytes_of : Bor (List ℕ) → List ℕ
bytes_of key = key.now

contains_bytes : (keys : List (Bor (List ℕ))) (key : Bor (List ℕ)) → Contains keys key → Contains (map bytes_of keys) key.now
contains_bytes [] key c = absurd (contains_nil key c)
contains_bytes (k ∷ ks) key c = elim (contains_cases k key ks c) [
  | inl same ↦ subst (λ (x : List ℕ). Contains (k.now ∷ map bytes_of ks) x) (ap bytes_of same) (contains_head k.now (map bytes_of ks))
  | inr later ↦ contains_tail k.now key.now (map bytes_of ks) (contains_bytes ks key later)
]

-- a line is found exactly where it is kept
found_kept : (keys : List (Bor (List ℕ))) (line : List ℕ) → (list_any (λ (key : Bor (List ℕ)). bytes_eq line key.now) keys ≡ true) ↔ Contains (map bytes_of keys) line
found_kept keys line = (
  (λ e.
      let w = any_true (λ (key : Bor (List ℕ)). bytes_eq line key.now) keys e in
      subst (Contains (map bytes_of keys)) (sym ((bytes_eq-Decides line w.0.now).0 w.2)) (contains_bytes keys w.0 w.1)),
  (λ c.
      let w = contains_map bytes_of keys line c in
      any_from (λ (key : Bor (List ℕ)). bytes_eq line key.now) keys w.0 w.1 ((bytes_eq-Decides line w.0.now).1 (sym w.2))),
)

-- and so by a text of its own
pub named_by : (keys : List (Bor (List ℕ))) (named : List (List ℕ)) (line text : List ℕ) (found : Bool) → text ≡ line
    → found ≡ list_any (λ (key : Bor (List ℕ)). bytes_eq text key.now) keys → AreKept keys named → IsTrue found ↔ Contains named line
named_by keys named line text found same is kept = (
  (λ t. (kept line).0 (subst (Contains (map bytes_of keys)) same ((found_kept keys text).0 (sym is ∙ t)))),
  (λ c. is ∙ (found_kept keys text).1 (subst (Contains (map bytes_of keys)) (sym same) ((kept line).1 c))),
)

-- one line more
module _ (keys : List (Bor (List ℕ))) (read : List (List ℕ)) (line : Bor (List ℕ)) (before : AreKept keys read) where
  kept_push : AreKept (keys ++ line ∷ []) (read ++ line.now ∷ [])
  kept_push other = (
    (λ c. elim (Contains-append_cases (map bytes_of keys) (line.now ∷ []) other (subst (λ xs. Contains xs other) (map_push bytes_of keys line) c)) [
      | inl old ↦ Contains-append_left read (line.now ∷ []) other ((before other).0 old)
      | inr new ↦ Contains-append_right read (line.now ∷ []) other new
    ]),
    (λ c. subst (λ xs. Contains xs other) (sym (map_push bytes_of keys line)) (elim (Contains-append_cases read (line.now ∷ []) other c) [
      | inl old ↦ Contains-append_left (map bytes_of keys) (line.now ∷ []) other ((before other).1 old)
      | inr new ↦ Contains-append_right (map bytes_of keys) (line.now ∷ []) other new
    ])),
  )

  kept_again : Contains (map bytes_of keys) line.now → AreKept keys (read ++ line.now ∷ [])
  kept_again has other = (
    (λ c. Contains-append_left read (line.now ∷ []) other ((before other).0 c)),
    (λ c. elim (Contains-append_cases read (line.now ∷ []) other c) [
      | inl old ↦ (before other).1 old
      | inr new ↦ elim (contains_cases line.now other [] new) [
        | inl same ↦ subst (Contains (map bytes_of keys)) same has
        | inr none ↦ absurd (contains_nil other none)
      ]
    ]),
  )

  kept_by : (b : Bool) → list_any (λ (key : Bor (List ℕ)). bytes_eq line.now key.now) keys ≡ b
      → AreKept (if b then keys else keys ++ line ∷ []) (read ++ line.now ∷ [])
  kept_by true e = kept_again ((found_kept keys line.now).0 e)
  kept_by false e = kept_push

  pub kept_more : (new : List (Bor (List ℕ))) → new ≡ (if list_any (λ (key : Bor (List ℕ)). bytes_eq line.now key.now) keys then keys else keys ++ line ∷ [])
      → AreKept new (read ++ line.now ∷ [])
  kept_more new is = subst (λ ks. AreKept ks (read ++ line.now ∷ [])) (sym is) (kept_by (list_any (λ (key : Bor (List ℕ)). bytes_eq line.now key.now) keys) refl)

-- A name against those of files.
use Rattle.std.proofs.Common.{◌≡◌, ◌∙◌, ◌<◌, ◌≤◌, ℕ, Bool, true, false, List, [], ◌∷◌, ◌++◌, ap, ap₂, append_assoc, get_or, length, refl, sym, take}
use Rattle.std.specs.Prelude.{◌||◌, ◌≢◌}
use Rattle.std.specs.List.{list_any}
use Rattle.std.specs.Str.{bytes_eq}
use Rattle.std.proofs.lemmas.Bool.{false_from_ne_true}
use Rattle.std.proofs.lemmas.List.{take_all}
use Rattle.std.proofs.lemmas.List.Folds.{list_any_at}
use Rattle.std.proofs.lemmas.Slice.Eq.{bytes_eq-Decides}
use Rattle.statement.specs.Benches.{Text}
use Rattle.commands.specs.Names.{file_name_of, file_names_of}
use Rattle.commands.specs.declared.names.FileName.{FileName}

same_true : (a b : Bool) → (a ≡ true → b ≡ true) → (b ≡ true → a ≡ true) → a ≡ b
same_true true true p q = refl
same_true true false p q = sym (p refl)
same_true false true p q = q refl
same_true false false p q = refl

tail_same : (given rest ending : Text) → given ++ rest ≡ given ++ ending → rest ≡ ending
tail_same [] rest ending e = e
tail_same (x ∷ given) rest ending e = tail_same given rest ending (let k : given ++ rest ≡ given ++ ending = cc in k)

-- behind the same text, names are the same where what follows is
pub same_behind : (name given rest ending : Text) → name ≡ given ++ rest → bytes_eq rest ending ≡ bytes_eq name (given ++ ending)
same_behind name given rest ending is =
    let whole = bytes_eq-Decides name (given ++ ending) in
    let part = bytes_eq-Decides rest ending in
    same_true (bytes_eq rest ending) (bytes_eq name (given ++ ending)) (λ h. whole.1 (is ∙ ap (λ t. given ++ t) (part.0 h)))
    (λ h. part.1 (tail_same given rest ending (sym is ∙ whole.0 h)))

swapped : (a b : Text) → bytes_eq a b ≡ bytes_eq b a
swapped a b =
    same_true (bytes_eq a b) (bytes_eq b a) (λ h. (bytes_eq-Decides b a).1 (sym ((bytes_eq-Decides a b).0 h))) (λ h. (bytes_eq-Decides a b).1 (sym ((bytes_eq-Decides b a).0 h)))

-- the name is parted behind where the other one is
pub parted_later : (given rest ending front other : Text) → front ≡ given ++ rest → bytes_eq other (rest ++ ending) ≡ bytes_eq (front ++ ending) (given ++ other)
parted_later given rest ending front other is =
    swapped other (rest ++ ending) ∙ same_behind (front ++ ending) given (rest ++ ending) other (ap (λ t. t ++ ending) is ∙ append_assoc given rest ending)

-- and before it
pub parted_earlier : (given rest ending front other : Text) → front ≡ given ++ rest → bytes_eq other (rest ++ ending) ≡ bytes_eq (given ++ other) (front ++ ending)
parted_earlier given rest ending front other is = parted_later given rest ending front other is ∙ swapped (front ++ ending) (given ++ other)

-- of two fronts of one text one begins the other
one_begins : (a b x y : Text) → a ++ x ≡ b ++ y → ((rest : Text) → a ≢ b ++ rest) → ((rest : Text) → b ≢ a ++ rest) → ⊥
one_begins [] b x y e longer shorter = shorter b refl
one_begins (c ∷ a) [] x y e longer shorter = longer (c ∷ a) refl
one_begins (c ∷ a) (d ∷ b) x y e longer shorter =
    let head : c ≡ d = cc in
    let tail : a ++ x ≡ b ++ y = cc in
    one_begins a b x y tail (λ rest h. longer rest (ap₂ (λ k t. k ∷ t) head h)) (λ rest h. shorter rest (ap₂ (λ k t. k ∷ t) (sym head) h))

-- neither begins the other
pub apart : (a b x y : Text) → ((rest : Text) → a ≢ b ++ rest) → ((rest : Text) → b ≢ a ++ rest) → false ≡ bytes_eq (a ++ x) (b ++ y)
apart a b x y longer shorter = sym (false_from_ne_true _ (λ h. one_begins a b x y ((bytes_eq-Decides (a ++ x) (b ++ y)).0 h) longer shorter))

-- a name that begins otherwise is another
pub other_front : (name given ending : Text) → ((rest : Text) → name ≢ given ++ rest) → false ≡ bytes_eq name (given ++ ending)
other_front name given ending lacks = sym (false_from_ne_true _ (λ h. lacks ending ((bytes_eq-Decides name (given ++ ending)).0 h)))

-- the name is that of the file
abbrev pub is_name_of : Text → FileName → Bool
is_name_of name n = bytes_eq name (file_name_of n)

-- one of the names of files
pub any_named : (name : Text) (names : List FileName) → list_any (is_name_of name) names ≡ list_any (bytes_eq name) (file_names_of names)
any_named name [] = refl
any_named name (n ∷ names) = ap (λ b. is_name_of name n || b) (any_named name names)

module _ (name : Text) (names : List FileName) (i : ℕ) (d : FileName) where
  -- it is this one
  pub found : i < length names → true ≡ is_name_of name (get_or names i d) → true ≡ list_any (bytes_eq name) (file_names_of names)
  found h is = sym (list_any_at (is_name_of name) names i d h (sym is)) ∙ any_named name names

  -- none of all
  pub none_is : length names ≤ i → list_any (is_name_of name) (take i names) ≡ false → false ≡ list_any (bytes_eq name) (file_names_of names)
  none_is h before = sym (ap (list_any (is_name_of name)) (sym (take_all i names h)) ∙ before) ∙ any_named name names

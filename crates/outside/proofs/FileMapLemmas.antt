-- The files of a shelf in memory, as a finite map from names to bytes.
use Rattle.std.proofs.Common.{◌≡◌, ℕ, ◌+◌, List, [], ◌∷◌, Bool, true, false, Option, Some, None, Vec, Global, option_map, map, length, add-one, ap, sym, ◌∙◌, refl, cond}
use Rattle.std.specs.Prelude.{if◌then◌else◌, String, is_some}
use Rattle.std.specs.String.{string_bytes, string_eq}
use Rattle.std.specs.Str.{bytes_eq}
use Rattle.std.specs.Ordering.{nat_cmp}
use Rattle.std.specs.Cmp.{eq_by_cmp_equiv}
use Rattle.std.specs.Cmp.Lexicographic.{slice_cmp, nat_list_cmp_total}
use Rattle.std.specs.Map.{lookup, keys_of}
use Rattle.std.specs.List.{AllByRecursion, IsDistinct}
use Rattle.std.proofs.lemmas.Map.Keys.{IsDistinct-head, IsDistinct-tail}
use Rattle.std.specs.HashMap.{HashMap, IsUnique, Updates, get_by_text, hash_map_len}
use Rattle.std.specs.FinMap as finite
use Rattle.std.proofs.lemmas.Map.Text.{hash_map_updates_text, is_eq-slice_cmp}
use Rattle.outside.specs.FileMap.{FileMap, file_map}

-- the first entry of a name, whether its bytes are taken before or after the look-up
find-files : (name : List ℕ) (es : List (String Global × Vec ℕ Global))
    → finite.find (slice_cmp nat_cmp) name (map (λ e. (string_bytes e.0, e.1.items)) es)
    ≡ option_map (λ (v : Vec ℕ Global). v.items) (lookup (λ k. bytes_eq name (string_bytes k)) es)
find-files name [] = refl
find-files name (e ∷ es) =
    rw (is_eq-slice_cmp name (string_bytes e.0), find-files name es)
    (pushed (bytes_eq name (string_bytes e.0)) e.1 (lookup (λ k. bytes_eq name (string_bytes k)) es))
  where
    pushed : (b : Bool) (v : Vec ℕ Global) (o : Option (Vec ℕ Global))
        → cond b (Some v.items) (option_map (λ (x : Vec ℕ Global). x.items) o) ≡ option_map (λ (x : Vec ℕ Global). x.items) (cond b (Some v) o)
    pushed true v o = refl
    pushed false v o = refl

-- the file of a name is the program's entry of that name
pub get-file_map : {S : Type 0} (m : HashMap (String Global) (Vec ℕ Global) S) (name : List ℕ)
    → finite.get (file_map m.entries) name ≡ option_map (λ (v : Vec ℕ Global). v.items) (get_by_text m name)
get-file_map m name = finite.get-from_entries nat_list_cmp_total _ name ∙ find-files name m.entries

-- what a write makes of the files, read by name
pub get-insert_file : (files : FileMap) (name bytes other : List ℕ)
    → finite.get (finite.insert files name bytes) other ≡ (if bytes_eq name other then Some bytes else finite.get files other)
get-insert_file files name bytes other =
    finite.get-insert nat_list_cmp_total files name bytes other
    ∙ ap (λ b. cond b (Some bytes) (finite.get files other)) ((eq_by_cmp_equiv nat_list_cmp_total).symm other name ∙ is_eq-slice_cmp name other)

-- an insertion into the program's map is one into the files
pub file_map-updates : {S : Type 0} (m n : HashMap (String Global) (Vec ℕ Global) S) (key : String Global) (v : Vec ℕ Global)
    → Updates string_eq m n key (Some v) → file_map n.entries ≡ finite.insert (file_map m.entries) (string_bytes key) v.items
file_map-updates m n key v h =
    finite.same_map nat_list_cmp_total (finite.slice_cmp-IsAntisymmetric finite.nat_cmp-IsAntisymmetric) _ _ (λ other.
    get-file_map n other
    ∙ ap (option_map (λ (x : Vec ℕ Global). x.items)) (hash_map_updates_text (string_bytes key) m n (Some v) h other)
    ∙ moved (bytes_eq (string_bytes key) other) (get_by_text m other)
    ∙ ap (λ o. if bytes_eq (string_bytes key) other then Some v.items else o) (sym (get-file_map m other))
    ∙ sym (get-insert_file (file_map m.entries) (string_bytes key) v.items other))
  where
    moved : (b : Bool) (o : Option (Vec ℕ Global))
        → option_map (λ (x : Vec ℕ Global). x.items) (cond b (Some v) o) ≡ (if b then Some v.items else option_map (λ (x : Vec ℕ Global). x.items) o)
    moved true o = refl
    moved false o = refl

-- no file has a name that is unlike each of these keys
no_file : (key : String Global) (es : List (String Global × Vec ℕ Global))
    → AllByRecursion (λ k. string_eq key k ≡ false) (keys_of es)
    → finite.get (file_map es) (string_bytes key) ≡ None
no_file key [] h = finite.get-empty _ _
no_file key (e ∷ es) h =
    finite.get-insert nat_list_cmp_total (file_map es) (string_bytes e.0) e.1.items (string_bytes key)
    ∙ ap (λ b. cond b (Some e.1.items) (finite.get (file_map es) (string_bytes key))) (is_eq-slice_cmp (string_bytes key) (string_bytes e.0) ∙ h.0)
    ∙ no_file key es h.1

-- there are as many files as the program's map has entries
len-entries : (es : List (String Global × Vec ℕ Global)) → IsDistinct string_eq (keys_of es) → finite.len (file_map es) ≡ length es
len-entries [] h = finite.len-empty _ _
len-entries (e ∷ es) h =
    finite.len-insert nat_list_cmp_total (file_map es) (string_bytes e.0) e.1.items
    ∙ ap (λ o. cond (is_some o) (finite.len (file_map es)) (finite.len (file_map es) + 1)) (no_file e.0 es (IsDistinct-head string_eq e.0 (keys_of es) h))
    ∙ ap (λ n. n + 1) (len-entries es (IsDistinct-tail string_eq e.0 (keys_of es) h))
    ∙ add-one (length es)

pub len-file_map : {S : Type 0} (m : HashMap (String Global) (Vec ℕ Global) S) → IsUnique string_eq m → finite.len (file_map m.entries) ≡ hash_map_len m
len-file_map m h = len-entries m.entries h

-- The statements so far, with numbers in place of names.
use Rattle.std.proofs.Common.{◌≡◌, ◌≢◌, ◌<◌, ◌⊎◌, inl, inr, ℕ, zero, suc, Bool, true, false, List, [], ◌∷◌, ◌++◌, length, set, get_or, refl, sym, ap, ◌∙◌, map, append-nil, arith}
use Rattle.std.specs.Prelude.{Some, slice_get, nat_lt, fold, ◌||◌}
use Rattle.std.specs.List.{list_any, list_all}
use Rattle.std.specs.Str.{bytes_eq}
use Rattle.std.proofs.lemmas.List.{map-append, length-set}
use Rattle.std.proofs.lemmas.Option.{slice_get-get_or, slice_get_within, slice_get_read}
use Rattle.std.proofs.lemmas.Bool.{false≢true}
use Rattle.std.proofs.lemmas.Bool.Decides.{nat_tests}
use Rattle.smallvec.specs.SmallVec.{SmallVec}
use Rattle.statement.specs.declared.kinds.Kind.{Kind}
use Rattle.bench_text.specs.declared.numbered.Role.{Role}
use Rattle.bench_text.specs.declared.numbered.Role.TheVariants as role
use Rattle.bench_text.specs.declared.numbered.Numbered.{Numbered}
use Rattle.bench_text.specs.declared.numbered.Numbered.TheVariants.{Input, Output, Definition}
use Rattle.bench_text.specs.declared.numbered.Entry.{Entry}
use Rattle.bench_text.specs.Said.{statements_of}
use Rattle.bench_text.specs.Texts.{input, output, defined, inputs_of, definitions_of, signals_of}
use Rattle.bench_text.specs.Whole.{outputs_of}
use Rattle.statement.specs.Benches.{name_at}
use Rattle.bench_text.specs.inner.Numbered.{spelling_of, spelling_of_entry, input_number, definition_number, output_number, input_numbers, definition_numbers, output_numbers, are_below, with_number, IsDraft}
use Rattle.bench_text.proofs.Lists.{list_any-append, list_any-map, all_append, flat_map-push, none-any, some-any, some_same, same_name, name_same, or_right, or_left, false_if}
use Rattle.bench_text.proofs.RoleLemmas.{roles-defined, places-defined, roles-other, places-other}

-- a name that has a number
pub at_name : (names : List (List ℕ)) (n : ℕ) → n < length names → slice_get names n ≡ Some (name_at names n)
at_name [] n h = absurd (omega arith)
at_name (x ∷ names) zero h = refl
at_name (x ∷ names) (suc n) h = at_name names n (omega arith)

-- the signals that numbered statements define
input-spelled : (names : List (List ℕ)) (s : Numbered) → input (spelling_of names s) ≡ map (name_at names) (input_number s)
input-spelled names (Input n) = refl
input-spelled names (Output n) = refl
input-spelled names (Definition n kind pins) = refl

defined-spelled : (names : List (List ℕ)) (s : Numbered) → defined (spelling_of names s) ≡ map (name_at names) (definition_number s)
defined-spelled names (Input n) = refl
defined-spelled names (Output n) = refl
defined-spelled names (Definition n kind pins) = refl

pub inputs-spelled : (names : List (List ℕ)) (es : List Entry) → inputs_of (statements_of (map (spelling_of_entry names) es)) ≡ map (name_at names) (input_numbers es)
inputs-spelled names [] = refl
inputs-spelled names (e ∷ es) = (λ i. input-spelled names e.statement i ++ inputs-spelled names es i) ∙ sym (map-append (name_at names) (input_number e.statement) (input_numbers es))

pub definitions-spelled : (names : List (List ℕ)) (es : List Entry) → definitions_of (statements_of (map (spelling_of_entry names) es)) ≡ map (name_at names) (definition_numbers es)
definitions-spelled names [] = refl
definitions-spelled names (e ∷ es) = (λ i. defined-spelled names e.statement i ++ definitions-spelled names es i) ∙ sym (map-append (name_at names) (definition_number e.statement) (definition_numbers es))

output-spelled : (names : List (List ℕ)) (s : Numbered) → output (spelling_of names s) ≡ map (name_at names) (output_number s)
output-spelled names (Input n) = refl
output-spelled names (Output n) = refl
output-spelled names (Definition n kind pins) = refl

pub outputs-spelled : (names : List (List ℕ)) (es : List Entry) → outputs_of (statements_of (map (spelling_of_entry names) es)) ≡ map (name_at names) (output_numbers es)
outputs-spelled names [] = refl
outputs-spelled names (e ∷ es) = (λ i. output-spelled names e.statement i ++ outputs-spelled names es i) ∙ sym (map-append (name_at names) (output_number e.statement) (output_numbers es))

module _ (names : List (List ℕ)) (roles : List Role) (es : List Entry) (ins defs outs : List ℕ) (d : IsDraft names roles es ins defs outs) where
  pub signals-spelled : signals_of (statements_of (map (spelling_of_entry names) es)) ≡ map (name_at names) ins ++ map (name_at names) defs
  signals-spelled =
      (λ i. inputs-spelled names es i ++ definitions-spelled names es i)
      ∙ (λ i. map (name_at names) (sym d.inputs i) ++ map (name_at names) (sym d.definitions i))

  -- a number with a role is that of a name
  pub seen_role : (n : ℕ) (r : Role) → slice_get roles n ≡ Some r → slice_get names n ≡ Some (name_at names n)
  seen_role n r e = at_name names n (omega (arith, slice_get_within roles n r e, d.paired))

  differ : (n m : ℕ) (r s : Role) → slice_get roles n ≡ Some r → slice_get roles m ≡ Some s → n ≢ m → bytes_eq (name_at names n) (name_at names m) ≡ false
  differ n m r s e f apart = false_if _ (λ (t : bytes_eq (name_at names n) (name_at names m) ≡ true).
      apart (d.distinct n m (name_at names n) (seen_role n r e) (seen_role m s f ∙ ap Some (sym (same_name _ _ t)))))

  is_other : (n m : ℕ) (r s : Role) → slice_get roles n ≡ Some r → slice_get roles m ≡ Some s → r ≢ s → n ≢ m
  is_other n m r s e f apart g = apart (some_same (slice_get roles n) r s e (ap (slice_get roles) g ∙ f))

  -- whether a line defines the name of a number
  module _ (n : ℕ) where
    abbrev defines : Bool
    defines = list_any (bytes_eq (name_at names n)) (signals_of (statements_of (map (spelling_of_entry names) es)))

    split : defines ≡ (list_any (λ m. bytes_eq (name_at names n) (name_at names m)) ins || list_any (λ m. bytes_eq (name_at names n) (name_at names m)) defs)
    split =
        ap (list_any (bytes_eq (name_at names n))) signals-spelled ∙ list_any-append (bytes_eq (name_at names n)) (map (name_at names) ins) (map (name_at names) defs)
        ∙ (λ i. list_any-map (bytes_eq (name_at names n)) (name_at names) ins i || list_any-map (bytes_eq (name_at names n)) (name_at names) defs i)

    pub defines-read : slice_get roles n ≡ Some role.Read → defines ≡ false
    defines-read e =
        let no_input = none-any (λ m. bytes_eq (name_at names n) (name_at names m)) ins
        (λ (k m : ℕ) (f : slice_get ins k ≡ Some m). differ n m _ _ e (d.input k m f) (is_other n m _ _ e (d.input k m f) (λ (g : role.Read ≡ role.Input k). cc))) in
        let no_definition = none-any (λ m. bytes_eq (name_at names n) (name_at names m)) defs
        (λ (k m : ℕ) (f : slice_get defs k ≡ Some m). differ n m _ _ e (d.definition k m f) (is_other n m _ _ e (d.definition k m f) (λ (g : role.Read ≡ role.Definition k). cc))) in
        split ∙ (λ i. no_input i || no_definition i)

    pub defines-input : (k : ℕ) → slice_get roles n ≡ Some (role.Input k) → defines ≡ true
    defines-input k e = split ∙ or_left _ _ (some-any _ ins k n (d.as_input n k e) (name_same (name_at names n)))

    pub defines-definition : (k : ℕ) → slice_get roles n ≡ Some (role.Definition k) → defines ≡ true
    defines-definition k e = split ∙ or_right _ _ (some-any _ defs k n (d.as_definition n k e) (name_same (name_at names n)))

    pub is_read : n < length names → defines ≡ false → slice_get roles n ≡ Some role.Read
    is_read h f = by (get_or roles n role.Read) (slice_get-get_or roles n role.Read (omega (arith, d.paired)))
      where
        by : (r : Role) → slice_get roles n ≡ Some r → slice_get roles n ≡ Some role.Read
        by role.Read e = e
        by (role.Input k) e = absurd (false≢true (sym f ∙ defines-input k e))
        by (role.Definition k) e = absurd (false≢true (sym f ∙ defines-definition k e))

  below_push : (e : Entry) → are_below (length names) e.statement ≡ true → list_all (λ (x : Entry). are_below (length names) x.statement) (es ++ e ∷ []) ≡ true
  below_push e h = all_append (λ (x : Entry). are_below (length names) x.statement) es (e ∷ []) d.below (rw h refl)

  less : (n : ℕ) → n < length names → nat_lt n (length names) ≡ true
  less n h = grind (arith, nat_tests)

  module _ (line n : ℕ) (seen : n < length names) (free : defines n ≡ false) where
    read : slice_get roles n ≡ Some role.Read
    read = is_read n seen free

    pub draft-input : IsDraft names (set roles n (role.Input (length ins))) (es ++ record { line = line; statement = Input n } ∷ []) (ins ++ n ∷ []) defs outs
    draft-input = record {
      distinct = d.distinct;
      paired = length-set roles n (role.Input (length ins)) ∙ d.paired;
      below = below_push (record { line = line; statement = Input n }) (rw (less n seen) refl);
      inputs = ap (λ l. l ++ n ∷ []) d.inputs ∙ sym (flat_map-push (λ (e : Entry). input_number e.statement) es (record { line = line; statement = Input n }));
      definitions = d.definitions ∙ sym (flat_map-push (λ (e : Entry). definition_number e.statement) es (record { line = line; statement = Input n }) ∙ append-nil (definition_numbers es));
      outputs = d.outputs ∙ ap (fold with_number []) (sym (flat_map-push (λ (e : Entry). output_number e.statement) es (record { line = line; statement = Input n }) ∙ append-nil (output_numbers es)));
      input = roles-defined role.Input (λ (k : ℕ) (g : role.Input k ≡ role.Read). cc) ins roles n read d.input;
      as_input = places-defined role.Input (λ (k : ℕ) (g : role.Input k ≡ role.Read). cc) ins roles n read (λ (i j : ℕ) (g : role.Input i ≡ role.Input j). cc) d.as_input;
      definition = roles-other role.Definition (λ (k : ℕ) (g : role.Definition k ≡ role.Read). cc) defs roles n read (role.Input (length ins)) d.definition;
      as_definition = places-other role.Definition (λ (k : ℕ) (g : role.Definition k ≡ role.Read). cc) defs roles n read (role.Input (length ins)) (λ (k : ℕ) (g : role.Input (length ins) ≡ role.Definition k). cc) d.as_definition;
    }

    pub draft-definition : (kind : Kind) (pins : SmallVec ℕ) → list_all (λ m. nat_lt m (length names)) pins.items ≡ true
        → IsDraft names (set roles n (role.Definition (length defs))) (es ++ record { line = line; statement = Definition n kind pins } ∷ []) ins (defs ++ n ∷ []) outs
    draft-definition kind pins h = record {
      distinct = d.distinct;
      paired = length-set roles n (role.Definition (length defs)) ∙ d.paired;
      below = below_push (record { line = line; statement = Definition n kind pins }) (rw (less n seen) h);
      inputs = d.inputs ∙ sym (flat_map-push (λ (e : Entry). input_number e.statement) es (record { line = line; statement = Definition n kind pins }) ∙ append-nil (input_numbers es));
      definitions = ap (λ l. l ++ n ∷ []) d.definitions ∙ sym (flat_map-push (λ (e : Entry). definition_number e.statement) es (record { line = line; statement = Definition n kind pins }));
      outputs = d.outputs ∙ ap (fold with_number []) (sym (flat_map-push (λ (e : Entry). output_number e.statement) es (record { line = line; statement = Definition n kind pins }) ∙ append-nil (output_numbers es)));
      definition = roles-defined role.Definition (λ (k : ℕ) (g : role.Definition k ≡ role.Read). cc) defs roles n read d.definition;
      as_definition = places-defined role.Definition (λ (k : ℕ) (g : role.Definition k ≡ role.Read). cc) defs roles n read (λ (i j : ℕ) (g : role.Definition i ≡ role.Definition j). cc) d.as_definition;
      input = roles-other role.Input (λ (k : ℕ) (g : role.Input k ≡ role.Read). cc) ins roles n read (role.Definition (length defs)) d.input;
      as_input = places-other role.Input (λ (k : ℕ) (g : role.Input k ≡ role.Read). cc) ins roles n read (role.Definition (length defs)) (λ (k : ℕ) (g : role.Definition (length defs) ≡ role.Input k). cc) d.as_input;
    }

  -- what the code reads of a role
  pub role_at : (n : ℕ) (r : Role) → n < length names → r ≡ get_or roles n r → slice_get roles n ≡ Some r
  role_at n r h e = slice_get_read roles (length roles) n r refl (omega (arith, d.paired)) e

  pub defines-other : (n : ℕ) (r : Role) → slice_get roles n ≡ Some r → ((k : ℕ) × (r ≡ role.Input k)) ⊎ ((k : ℕ) × (r ≡ role.Definition k)) → defines n ≡ true
  defines-other n r e (inl p) = defines-input n p.0 (e ∙ ap Some p.1)
  defines-other n r e (inr p) = defines-definition n p.0 (e ∙ ap Some p.1)

-- one more entry, by its names
pub notes-pushed : (names : List (List ℕ)) (es es' : List Entry) (e : Entry) → es' ≡ es ++ e ∷ []
    → map (spelling_of_entry names) es' ≡ map (spelling_of_entry names) es ++ spelling_of_entry names e ∷ []
notes-pushed names es es' e h = ap (map (spelling_of_entry names)) h ∙ map-append (spelling_of_entry names) es (e ∷ [])

-- the same in the words of the code
pub input-pushed : (names : List (List ℕ)) (roles : List Role) (es es' : List Entry) (ins ins' defs outs : List ℕ) → IsDraft names roles es ins defs outs → (line n k : ℕ) → n < length names
    → list_any (bytes_eq (name_at names n)) (signals_of (statements_of (map (spelling_of_entry names) es))) ≡ false
    → k ≡ length ins → es' ≡ es ++ record { line = line; statement = Input n } ∷ [] → ins' ≡ ins ++ n ∷ [] → IsDraft names (set roles n (role.Input k)) es' ins' defs outs
input-pushed names roles es es' ins ins' defs outs d line n k seen free e f g = rw (e, f, g) (draft-input names roles es ins defs outs d line n seen free)

pub definition-pushed : (names : List (List ℕ)) (roles : List Role) (es es' : List Entry) (ins defs defs' outs : List ℕ) → IsDraft names roles es ins defs outs → (line n k : ℕ) (kind : Kind) (pins : SmallVec ℕ) → n < length names
    → list_any (bytes_eq (name_at names n)) (signals_of (statements_of (map (spelling_of_entry names) es))) ≡ false → list_all (λ m. nat_lt m (length names)) pins.items ≡ true
    → k ≡ length defs → es' ≡ es ++ record { line = line; statement = Definition n kind pins } ∷ [] → defs' ≡ defs ++ n ∷ [] → IsDraft names (set roles n (role.Definition k)) es' ins defs' outs
definition-pushed names roles es es' ins defs defs' outs d line n k kind pins seen free h e f g = rw (e, f, g) (draft-definition names roles es ins defs outs d line n seen free kind pins h)

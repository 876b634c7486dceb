-- The places of the gates that read a signal, and these marked.
use Rattle.std.proofs.Common.{◌≡◌, ℕ, zero, suc, ◌+◌, ◌<◌, ◌||◌, Bool, true, false, cond, List, [], ◌∷◌, ◌++◌, length, get_or, set, take, refl, sym, ◌∙◌, ap, subst, inl, inr, eqb, ltb, arith}
use Rattle.std.specs.List.{All, list_any}
use Rattle.std.proofs.lemmas.Bool.{cases_eq, cases_Bool, both_ways, ne_eqb, lt-ltb, ltb-true}
use Rattle.std.proofs.lemmas.List.{length-set, length_push, get_or_append_left, get_or_push, take_more, append_assoc}
use Rattle.std.proofs.lemmas.List.Folds.{list_any_more}
use Rattle.statement.specs.declared.lines.Line.{Line}
use Rattle.statement.specs.declared.lines.Line.TheVariants.{Stem, Pin, Out}
use Rattle.statement.specs.Netlists.{Netlist, signals, readers_of}
use Rattle.plain_text.specs.Rows.{rows}
use Rattle.plain_text.proofs.Buffers.{rows_count, pushed_rows, pushed_ends}
use Rattle.events.specs.Agendas.{marked}
use Rattle.events.specs.inner.Placing.{is_pin_at, called, AreFans, AreFansUpTo, Calls, Marks}
use Rattle.events.proofs.Placing.{marked_set}

no_more : (b : Bool) → b ≡ (b || false)
no_more true = refl
no_more false = refl

-- a test of a choice
any_of_cond : (p : ℕ → Bool) (b : Bool) (x : ℕ) (xs : List ℕ) → list_any p (cond b (x ∷ xs) xs) ≡ cond b (p x || list_any p xs) (list_any p xs)
any_of_cond p true x xs = refl
any_of_cond p false x xs = refl

-- a place below the bound is called exactly where a line is a pin there
pub called_any : (places : List ℕ) (bound q : ℕ) → q < bound → (lines : List Line) → list_any (λ p. eqb p q) (called places bound lines) ≡ list_any (is_pin_at places q) lines
called_any places bound q l [] = refl
called_any places bound q l (Stem z ∷ lines) = called_any places bound q l lines
called_any places bound q l (Out z ∷ lines) = called_any places bound q l lines
called_any places bound q l (Pin z k ∷ lines) =
    any_of_cond (λ p. eqb p q) (ltb (get_or places z 0) bound) (get_or places z 0) (called places bound lines)
    ∙ elim (cases_Bool (ltb (get_or places z 0) bound)) [
      | inl low ↦ ap (λ b. cond b (eqb (get_or places z 0) q || list_any (λ p. eqb p q) (called places bound lines)) (list_any (λ p. eqb p q) (called places bound lines))) low
          ∙ ap (λ b. eqb (get_or places z 0) q || b) (called_any places bound q l lines)
      | inr high ↦ ap (λ b. cond b (eqb (get_or places z 0) q || list_any (λ p. eqb p q) (called places bound lines)) (list_any (λ p. eqb p q) (called places bound lines))) high
          ∙ (called_any places bound q l lines
          ∙ ap (λ b. b || list_any (is_pin_at places q) lines) (sym (ne_eqb (get_or places z 0) q (λ e. both_ways (ltb (get_or places z 0) bound) high (lt-ltb (get_or places z 0) bound (omega arith))))))
    ]

all_of_cond : (bound : ℕ) (b : Bool) (x : ℕ) (xs : List ℕ) → (b ≡ true → x < bound) → All (λ p. p < bound) xs → All (λ p. p < bound) (cond b (x ∷ xs) xs)
all_of_cond bound true x xs h all = λ k d l. all_cons bound x xs (h refl) all k d l where
  all_cons : (bound x : ℕ) (xs : List ℕ) → x < bound → All (λ p. p < bound) xs → All (λ p. p < bound) (x ∷ xs)
  all_cons bound x xs l all zero d m = l
  all_cons bound x xs l all (suc k) d m = all k d (omega arith)
all_of_cond bound false x xs h all = all

pub called_low : (places : List ℕ) (bound : ℕ) (lines : List Line) → All (λ p. p < bound) (called places bound lines)
called_low places bound [] = λ k d l. absurd (omega (arith, l))
called_low places bound (Stem z ∷ lines) = called_low places bound lines
called_low places bound (Out z ∷ lines) = called_low places bound lines
called_low places bound (Pin z k ∷ lines) =
    all_of_cond bound (ltb (get_or places z 0) bound) (get_or places z 0) (called places bound lines) (ltb-true (get_or places z 0) bound) (called_low places bound lines)

-- what a row of the table marks is what the readers call
pub row_calls : (n : Netlist) (places : List ℕ) (bound : ℕ) (fans : List (List ℕ)) (x : ℕ) (row : List ℕ) (old new : List Bool) → AreFans n places bound fans → x < length (signals n)
    → get_or fans x [] ≡ row → length old ≡ bound → Marks row old new → Calls (readers_of n x) places old new
row_calls n places bound fans x row old new h l is size m = record {
  size = m.size;
  each = λ q k. m.each q k ∙ ap (λ b. marked old q || b)
      (ap (list_any (λ p. eqb p q)) (sym is ∙ h.each x l) ∙ called_any places bound q (subst (λ s. q < s) size k) (readers_of n x));
}

pub row_low : (n : Netlist) (places : List ℕ) (bound : ℕ) (fans : List (List ℕ)) (x : ℕ) (row : List ℕ) → AreFans n places bound fans → x < length (signals n)
    → get_or fans x [] ≡ row → All (λ p. p < bound) row
row_low n places bound fans x row h l is = subst (All (λ p. p < bound)) (sym (h.each x l) ∙ is) (called_low places bound (readers_of n x))

-- nothing is marked, and one place more
pub marks_nothing : (marks : List Bool) → Marks [] marks marks
marks_nothing marks = record { size = refl; each = λ q l. no_more (marked marks q) }

or_assoc : (a b c : Bool) → ((a || b) || c) ≡ (a || (b || c))
or_assoc true b c = refl
or_assoc false b c = refl

pub marks_more : (row : List ℕ) (k p : ℕ) (first old new : List Bool) → k < length row → p ≡ get_or row k 0 → p < length old → new ≡ set old p true
    → Marks (take k row) first old → Marks (take (k + 1) row) first new
marks_more row k p first old new l is low made h = record {
  size = ap length made ∙ (length-set old p true ∙ h.size);
  each = λ q m.
      ap (λ (ms : List Bool). marked ms q) made ∙ (marked_set old p q low
      ∙ (ap (λ b. b || eqb p q) (h.each q m)
      ∙ (or_assoc (marked first q) (list_any (λ x. eqb x q) (take k row)) (eqb p q)
      ∙ ap (λ b. marked first q || b) (ap (λ y. list_any (λ x. eqb x q) (take k row) || eqb y q) is ∙ sym (list_any_more (λ x. eqb x q) row k 0 l)))));
}

-- ---- the table

cond_append : (b : Bool) (x : ℕ) (xs ys : List ℕ) → cond b (x ∷ (xs ++ ys)) (xs ++ ys) ≡ cond b (x ∷ xs) xs ++ ys
cond_append true x xs ys = refl
cond_append false x xs ys = refl

pub called-append : (places : List ℕ) (bound : ℕ) (xs ys : List Line) → called places bound (xs ++ ys) ≡ called places bound xs ++ called places bound ys
called-append places bound [] ys = refl
called-append places bound (Stem z ∷ xs) ys = called-append places bound xs ys
called-append places bound (Out z ∷ xs) ys = called-append places bound xs ys
called-append places bound (Pin z k ∷ xs) ys =
    ap (λ zs. cond (ltb (get_or places z 0) bound) (get_or places z 0 ∷ zs) zs) (called-append places bound xs ys)
    ∙ cond_append (ltb (get_or places z 0) bound) (get_or places z 0) (called places bound xs) (called places bound ys)

pub fan_more : (n : Netlist) (places : List ℕ) (bound : ℕ) (items ends items' ends' : List ℕ) (m end : ℕ) → AreFansUpTo n places bound items ends m
    → items' ≡ items ++ called places bound (readers_of n m) → ends' ≡ ends ++ end ∷ [] → end ≡ length items' → AreFansUpTo n places bound items' ends' (m + 1)
fan_more n places bound items ends items' ends' m end h b e l =
    let row = called places bound (readers_of n m) in
    let all : rows 0 items' ends' ≡ rows 0 items ends ++ row ∷ [] = pushed_rows items ends row items' ends' end h.ends_are b e l in
    let count : length (rows 0 items ends) ≡ m = rows_count 0 items ends ∙ h.size in
    record {
      ends_are = pushed_ends items ends row items' ends' end h.ends_are b e l;
      size = ap length e ∙ (length_push ends end ∙ ap (λ k. k + 1) h.size);
      each = λ x k. ap (λ (rs : List (List ℕ)). get_or rs x []) all ∙ elim (cases_eq x m) [
        | inl last ↦ get_or_push (rows 0 items ends) row [] x (count ∙ sym last) ∙ ap (λ y. called places bound (readers_of n y)) (sym last)
        | inr old ↦ get_or_append_left (rows 0 items ends) (row ∷ []) [] x (omega arith) ∙ h.each x (omega arith)
      ];
    }

pub are_fans : (n : Netlist) (places : List ℕ) (bound : ℕ) (items ends : List ℕ) (m : ℕ) → AreFansUpTo n places bound items ends m → m ≡ length (signals n)
    → AreFans n places bound (rows 0 items ends)
are_fans n places bound items ends m h e = record {
  size = rows_count 0 items ends ∙ (h.size ∙ e);
  each = λ x l. h.each x (subst (λ k. x < k) (sym e) l);
}

pub called_more : (places : List ℕ) (bound : ℕ) (lines : List Line) (k : ℕ) (line : Line) (first old new : List ℕ) → k < length lines → line ≡ get_or lines k line
    → old ≡ first ++ called places bound (take k lines) → new ≡ old ++ called places bound (line ∷ []) → new ≡ first ++ called places bound (take (k + 1) lines)
called_more places bound lines k line first old new l is h made =
    made ∙ (ap (λ xs. xs ++ called places bound (line ∷ [])) h
    ∙ (append_assoc first (called places bound (take k lines)) (called places bound (line ∷ []))
    ∙ ap (λ xs. first ++ xs) (sym (called-append places bound (take k lines) (line ∷ [])) ∙ ap (called places bound) (ap (λ (y : Line). take k lines ++ y ∷ []) is ∙ sym (take_more lines k line l)))))

-- Lines that begin with a fault.
use Rattle.std.proofs.Common.{◌≡◌, ◌≢◌, ◌<◌, ◌^◌, ℕ, Bool, true, false, List, ◌∷◌, ◌++◌, get_or, refl, sym, ◌∙◌, ap, subst, codes, decimal, append_assoc, arith}
use Rattle.std.specs.List.{All}
use Rattle.std.proofs.lemmas.List.{append_cancel_left, append_cancel_right}
use Rattle.std.proofs.lemmas.List.Elements.{All-append}
use Rattle.netlist.proofs.Lists.{all_left}
use Rattle.plain_text.proofs.Parts.{byte_inside, same_parts}
use Rattle.statement.specs.Faults.{value_text}
use Rattle.fault_universe.proofs.LineTexts.{same_ends}
use Rattle.report.specs.declared.models.FaultModel.{FaultModel}
use Rattle.report.specs.declared.models.FaultModel.TheVariants.{StuckAt, Transition}
use Rattle.report.specs.Reports.{IsFaultTextBy, IsNamedFault, IsPinFault, IsBenchWord, at_stem, at_output, at_pin, fault_end, slow_text}
use Rattle.report.specs.inner.Faults.{EndsAt, FaultBegins, NamedBegins, PinBegins, begins_stem, begins_output, begins_pin, slow_word}
use Rattle.report.proofs.ByteLemmas.{Above, above_append, above_by_test, above_lacks, above_less, number_above, value_above, word_above}

word_lacks : (text : List ℕ) → IsBenchWord text → All (λ b. b ≢ 32) text
word_lacks text w = above_lacks 32 32 text (omega arith) (word_above text w)

place_lacks : (k : ℕ) → k < 2 ^ 64 → All (λ b. b ≢ 32) (decimal k)
place_lacks k small = above_lacks 47 32 (decimal k) (omega arith) (number_above k small)

-- ---- the end of a fault's text: of a line that is stuck

value_whole : (value : Bool) → All (λ b. b ≢ 32) (value_text value)
value_whole value = above_lacks 32 32 (value_text value) (omega arith) (value_above value)

stuck_parts : (text word behind front rest : List ℕ) → All (λ b. b ≢ 32) word → text ≡ word ++ 32 ∷ behind → (e : EndsAt StuckAt text front rest)
    → (word ≡ front ++ value_text e.value) × (behind ≡ rest)
stuck_parts text word behind front rest lacks is e =
    same_parts 32 word (front ++ value_text e.value) behind rest lacks (All-append (λ b. b ≢ 32) front (value_text e.value) e.whole (value_whole e.value))
    (sym is ∙ (e.text_is ∙ sym (append_assoc front (value_text e.value) (32 ∷ rest))))

pub no_stuck_blank : (text : List ℕ) → All (λ b. b ≢ 32) text → (front rest : List ℕ) → EndsAt StuckAt text front rest → ⊥
no_stuck_blank text none front rest e =
    byte_inside 32 (front ++ value_text e.value) rest (subst (All (λ b. b ≢ 32)) (e.text_is ∙ sym (append_assoc front (value_text e.value) (32 ∷ rest))) none)

pub other_stuck : (text word behind : List ℕ) → All (λ b. b ≢ 32) word → text ≡ word ++ 32 ∷ behind → ((front : List ℕ) (value : Bool) → word ≢ front ++ value_text value)
    → (front rest : List ℕ) → EndsAt StuckAt text front rest → ⊥
other_stuck text word behind lacks is none front rest e = none front e.value (stuck_parts text word behind front rest lacks is e).0

pub stuck_found : (text word front rest : List ℕ) → All (λ b. b ≢ 32) word → text ≡ word ++ 32 ∷ rest → ((value : Bool) × (word ≡ front ++ value_text value))
    → EndsAt StuckAt text front rest
stuck_found text word front rest lacks is v = record {
  value = v.0;
  whole = all_left (λ b. b ≢ 32) front (value_text v.0) (subst (All (λ b. b ≢ 32)) v.1 lacks);
  text_is = is ∙ (ap (λ t. t ++ 32 ∷ rest) v.1 ∙ append_assoc front (value_text v.0) (32 ∷ rest));
}

-- ---- and of one that is slow

slow_blank : (value : Bool) → slow_text value ≡ 32 ∷ slow_word value
slow_blank false = refl
slow_blank true = refl

slow_is : (text front rest : List ℕ) (e : EndsAt Transition text front rest) → text ≡ front ++ 32 ∷ (slow_word e.value ++ 32 ∷ rest)
slow_is text front rest e = e.text_is ∙ ap (λ t. front ++ (t ++ 32 ∷ rest)) (slow_blank e.value)

slow_same : (v w : Bool) (r s : List ℕ) → slow_word v ++ 32 ∷ r ≡ slow_word w ++ 32 ∷ s → r ≡ s
slow_same false false r s e = append_cancel_left (codes "rise ") r s e
slow_same true true r s e = append_cancel_left (codes "fall ") r s e
slow_same false true r s e = let differ : ◌≡◌ {A = ℕ} 114 102 = ap (λ xs. get_or xs 0 0) e in absurd (omega arith)
slow_same true false r s e = let differ : ◌≡◌ {A = ℕ} 102 114 = ap (λ xs. get_or xs 0 0) e in absurd (omega arith)

pub no_slow_blank : (text : List ℕ) → All (λ b. b ≢ 32) text → (front rest : List ℕ) → EndsAt Transition text front rest → ⊥
no_slow_blank text none front rest e = byte_inside 32 front (slow_word e.value ++ 32 ∷ rest) (subst (All (λ b. b ≢ 32)) (slow_is text front rest e) none)

pub other_slow : (text word after : List ℕ) → All (λ b. b ≢ 32) word → text ≡ word ++ 32 ∷ after → ((value : Bool) (rest : List ℕ) → after ≢ slow_word value ++ 32 ∷ rest)
    → (front rest : List ℕ) → EndsAt Transition text front rest → ⊥
other_slow text word after lacks is none front rest e =
    none e.value rest (same_parts 32 word front after (slow_word e.value ++ 32 ∷ rest) lacks e.whole (sym is ∙ slow_is text front rest e)).1

pub slow_found : (text front after rest : List ℕ) → All (λ b. b ≢ 32) front → text ≡ front ++ 32 ∷ after → ((value : Bool) × (after ≡ slow_word value ++ 32 ∷ rest))
    → EndsAt Transition text front rest
slow_found text front after rest lacks is v = record {
  value = v.0;
  whole = lacks;
  text_is = is ∙ (ap (λ t. front ++ 32 ∷ t) v.1 ∙ ap (λ t. front ++ (t ++ 32 ∷ rest)) (sym (slow_blank v.0)));
}

pub no_slow : (text : List ℕ) → ((rest : List ℕ) → text ≢ codes "rise " ++ rest) → ((rest : List ℕ) → text ≢ codes "fall " ++ rest)
    → (value : Bool) (rest : List ℕ) → text ≢ slow_word value ++ 32 ∷ rest
no_slow text rise fall false rest e = rise rest e
no_slow text rise fall true rest e = fall rest e

-- ---- of either

ends_once : (model : FaultModel) (text f g r s : List ℕ) → EndsAt model text f r → EndsAt model text g s → (f ≡ g) × (r ≡ s)
ends_once StuckAt text f g r s d e =
    let parts = stuck_parts text (f ++ value_text d.value) r g s (All-append (λ b. b ≢ 32) f (value_text d.value) d.whole (value_whole d.value))
    (d.text_is ∙ sym (append_assoc f (value_text d.value) (32 ∷ r))) e in
    ((same_ends f g d.value e.value parts.0).0, parts.1)
ends_once Transition text f g r s d e =
    let parts = same_parts 32 f g (slow_word d.value ++ 32 ∷ r) (slow_word e.value ++ 32 ∷ s) d.whole e.whole (sym (slow_is text f r d) ∙ slow_is text g s e) in
    (parts.0, slow_same d.value e.value r s parts.1)

end_above : (model : FaultModel) (value : Bool) → Above 31 (fault_end model value)
end_above StuckAt value = above_less 32 31 (value_text value) (omega arith) (value_above value)
end_above Transition false = above_by_test 31 (codes " rise") refl
end_above Transition true = above_by_test 31 (codes " fall") refl

module _ (model : FaultModel) where
  -- ---- whether a text is a name, or a name and a place, and then the end

  pub no_named : (text : List ℕ) → ((front rest : List ℕ) → EndsAt model text front rest → ⊥) → (rest : List ℕ) → NamedBegins model text rest → ⊥
  no_named text none rest b = none b.name rest b.ends

  pub other_named : (text name rest : List ℕ) → EndsAt model text name rest → (IsBenchWord name → ⊥) → (more : List ℕ) → NamedBegins model text more → ⊥
  other_named text name rest e none more b = none (subst IsBenchWord (ends_once model text b.name name more rest b.ends e).0 b.word)

  pub no_pin_blank : (text : List ℕ) → All (λ b. b ≢ 32) text → (rest : List ℕ) → PinBegins model text rest → ⊥
  no_pin_blank text none rest b = byte_inside 32 b.name b.after (subst (All (λ b. b ≢ 32)) b.text_is none)

  -- a text in two parts at its first blank
  module _ (text name after : List ℕ) (lacks : All (λ b. b ≢ 32) name) (is : text ≡ name ++ 32 ∷ after) where
    pin_parts : (more : List ℕ) (b : PinBegins model text more) → (name ≡ b.name) × (after ≡ b.after)
    pin_parts more b = same_parts 32 name b.name after b.after lacks (word_lacks b.name b.word) (sym is ∙ b.text_is)

    pin_ends : (more : List ℕ) (b : PinBegins model text more) → EndsAt model after (decimal b.place) more
    pin_ends more b = subst (λ t. EndsAt model t (decimal b.place) more) (sym (pin_parts more b).1) b.ends

    pub other_pin_name : (IsBenchWord name → ⊥) → (more : List ℕ) → PinBegins model text more → ⊥
    other_pin_name none more b = none (subst IsBenchWord (sym (pin_parts more b).0) b.word)

    pub no_pin_end : ((front rest : List ℕ) → EndsAt model after front rest → ⊥) → (more : List ℕ) → PinBegins model text more → ⊥
    no_pin_end none more b = none (decimal b.place) more (pin_ends more b)

    pub no_pin_place : (digits rest : List ℕ) → EndsAt model after digits rest → ((k : ℕ) → k < 2 ^ 64 → digits ≢ decimal k) → (more : List ℕ) → PinBegins model text more → ⊥
    no_pin_place digits rest e none more b = none b.place b.small (ends_once model after digits (decimal b.place) rest more e (pin_ends more b)).0

    pub pin_found : (digits rest : List ℕ) (place : ℕ) → IsBenchWord name → EndsAt model after digits rest → place < 2 ^ 64 → digits ≡ decimal place → PinBegins model text rest
    pin_found digits rest place word e small d =
        record { name = name; after = after; place = place; word = word; small = small; text_is = is; ends = subst (λ t. EndsAt model after t rest) d e }

  named_once : (text r s : List ℕ) → NamedBegins model text r → NamedBegins model text s → r ≡ s
  named_once text r s b c = (ends_once model text b.name c.name r s b.ends c.ends).1

  pin_once : (text r s : List ℕ) → PinBegins model text r → PinBegins model text s → r ≡ s
  pin_once text r s b c =
      (ends_once model b.after (decimal b.place) (decimal c.place) r s b.ends (pin_ends text b.name b.after (word_lacks b.name b.word) b.text_is s c)).1

  -- which word a line begins with
  stem_only : (line text rest : List ℕ) → line ≡ codes "stem " ++ text → FaultBegins model line rest → NamedBegins model text rest
  stem_only line text rest e (begins_stem _ t _ b f) = subst (λ u. NamedBegins model u rest) (append_cancel_left (codes "stem ") t text (sym f ∙ e)) b
  stem_only line text rest e (begins_output _ t _ b f) = let differ : ◌≡◌ {A = ℕ} 115 111 = ap (λ xs. get_or xs 0 0) (sym e ∙ f) in absurd (omega arith)
  stem_only line text rest e (begins_pin _ t _ b f) = let differ : ◌≡◌ {A = ℕ} 115 112 = ap (λ xs. get_or xs 0 0) (sym e ∙ f) in absurd (omega arith)

  output_only : (line text rest : List ℕ) → line ≡ codes "out " ++ text → FaultBegins model line rest → NamedBegins model text rest
  output_only line text rest e (begins_output _ t _ b f) = subst (λ u. NamedBegins model u rest) (append_cancel_left (codes "out ") t text (sym f ∙ e)) b
  output_only line text rest e (begins_stem _ t _ b f) = let differ : ◌≡◌ {A = ℕ} 111 115 = ap (λ xs. get_or xs 0 0) (sym e ∙ f) in absurd (omega arith)
  output_only line text rest e (begins_pin _ t _ b f) = let differ : ◌≡◌ {A = ℕ} 111 112 = ap (λ xs. get_or xs 0 0) (sym e ∙ f) in absurd (omega arith)

  pin_only : (line text rest : List ℕ) → line ≡ codes "pin " ++ text → FaultBegins model line rest → PinBegins model text rest
  pin_only line text rest e (begins_pin _ t _ b f) = subst (λ u. PinBegins model u rest) (append_cancel_left (codes "pin ") t text (sym f ∙ e)) b
  pin_only line text rest e (begins_stem _ t _ b f) = let differ : ◌≡◌ {A = ℕ} 112 115 = ap (λ xs. get_or xs 0 0) (sym e ∙ f) in absurd (omega arith)
  pin_only line text rest e (begins_output _ t _ b f) = let differ : ◌≡◌ {A = ℕ} 112 111 = ap (λ xs. get_or xs 0 0) (sym e ∙ f) in absurd (omega arith)

  pub no_stem : (line text : List ℕ) → line ≡ codes "stem " ++ text → ((rest : List ℕ) → NamedBegins model text rest → ⊥) → (rest : List ℕ) → FaultBegins model line rest → ⊥
  no_stem line text e none rest b = none rest (stem_only line text rest e b)

  pub no_output : (line text : List ℕ) → line ≡ codes "out " ++ text → ((rest : List ℕ) → NamedBegins model text rest → ⊥) → (rest : List ℕ) → FaultBegins model line rest → ⊥
  no_output line text e none rest b = none rest (output_only line text rest e b)

  pub no_pin : (line text : List ℕ) → line ≡ codes "pin " ++ text → ((rest : List ℕ) → PinBegins model text rest → ⊥) → (rest : List ℕ) → FaultBegins model line rest → ⊥
  no_pin line text e none rest b = none rest (pin_only line text rest e b)

  pub no_fault : (line : List ℕ) → ((t : List ℕ) → line ≢ codes "stem " ++ t) → ((t : List ℕ) → line ≢ codes "out " ++ t) → ((t : List ℕ) → line ≢ codes "pin " ++ t)
      → (rest : List ℕ) → FaultBegins model line rest → ⊥
  no_fault line stem out pin rest (begins_stem _ t _ b f) = stem t f
  no_fault line stem out pin rest (begins_output _ t _ b f) = out t f
  no_fault line stem out pin rest (begins_pin _ t _ b f) = pin t f

  pub fault_once : (line r s : List ℕ) → FaultBegins model line r → FaultBegins model line s → r ≡ s
  fault_once line r s (begins_stem _ t _ b f) c = named_once t r s b (stem_only line t s f c)
  fault_once line r s (begins_output _ t _ b f) c = named_once t r s b (output_only line t s f c)
  fault_once line r s (begins_pin _ t _ b f) c = pin_once t r s b (pin_only line t s f c)

  -- ---- the same by the fault's text

  named_begins : (kind fault line rest : List ℕ) (n : IsNamedFault model kind fault) → line ≡ fault ++ 32 ∷ rest
      → line ≡ kind ++ (n.name ++ (fault_end model n.value ++ 32 ∷ rest))
  named_begins kind fault line rest n e =
      e ∙ (ap (λ t. t ++ 32 ∷ rest) n.text_is ∙ (append_assoc kind (n.name ++ fault_end model n.value) (32 ∷ rest)
      ∙ ap (λ t. kind ++ t) (append_assoc n.name (fault_end model n.value) (32 ∷ rest))))

  named_record : (kind fault rest : List ℕ) (n : IsNamedFault model kind fault) → NamedBegins model (n.name ++ (fault_end model n.value ++ 32 ∷ rest)) rest
  named_record kind fault rest n =
      record { name = n.name; word = n.word; ends = record { value = n.value; whole = word_lacks n.name n.word; text_is = refl } }

  pin_record : (fault rest : List ℕ) (n : IsPinFault model fault) → PinBegins model (n.name ++ 32 ∷ (decimal n.place ++ (fault_end model n.value ++ 32 ∷ rest))) rest
  pin_record fault rest n =
      record {
        name = n.name;
        after = decimal n.place ++ (fault_end model n.value ++ 32 ∷ rest);
        place = n.place;
        word = n.word;
        small = n.small;
        text_is = refl;
        ends = record { value = n.value; whole = place_lacks n.place n.small; text_is = refl };
      }

  pin_begins : (fault line rest : List ℕ) (n : IsPinFault model fault) → line ≡ fault ++ 32 ∷ rest
      → line ≡ codes "pin " ++ (n.name ++ 32 ∷ (decimal n.place ++ (fault_end model n.value ++ 32 ∷ rest)))
  pin_begins fault line rest n e =
      e ∙ (ap (λ t. t ++ 32 ∷ rest) n.text_is
      ∙ ap (λ t. codes "pin " ++ t) (append_assoc n.name (32 ∷ (decimal n.place ++ fault_end model n.value)) (32 ∷ rest)
      ∙ ap (λ t. n.name ++ 32 ∷ t) (append_assoc (decimal n.place) (fault_end model n.value) (32 ∷ rest))))

  pub fault_begins : (fault line rest : List ℕ) → IsFaultTextBy model fault → line ≡ fault ++ 32 ∷ rest → FaultBegins model line rest
  fault_begins fault line rest (at_stem _ n) e = begins_stem line _ rest (named_record (codes "stem ") fault rest n) (named_begins (codes "stem ") fault line rest n e)
  fault_begins fault line rest (at_output _ n) e = begins_output line _ rest (named_record (codes "out ") fault rest n) (named_begins (codes "out ") fault line rest n e)
  fault_begins fault line rest (at_pin _ n) e = begins_pin line _ rest (pin_record fault rest n) (pin_begins fault line rest n e)

  -- what stands before the rest is a fault's text
  pub record IsBefore (line rest : List ℕ) : Type 0 where
    pub fault : List ℕ
    pub is_fault : IsFaultTextBy model fault
    pub line_is : line ≡ fault ++ 32 ∷ rest

  named_before : (kind line text rest : List ℕ) → ((f : List ℕ) → IsNamedFault model kind f → IsFaultTextBy model f) → NamedBegins model text rest → line ≡ kind ++ text → IsBefore line rest
  named_before kind line text rest make b f =
      let own = kind ++ (b.name ++ fault_end model b.ends.value) in
      record {
        fault = own;
        is_fault = make own (record { name = b.name; value = b.ends.value; word = b.word; text_is = refl });
        line_is = f ∙ (ap (λ t. kind ++ t) (b.ends.text_is ∙ sym (append_assoc b.name (fault_end model b.ends.value) (32 ∷ rest)))
            ∙ sym (append_assoc kind (b.name ++ fault_end model b.ends.value) (32 ∷ rest)));
      }

  pin_before : (line text rest : List ℕ) → PinBegins model text rest → line ≡ codes "pin " ++ text → IsBefore line rest
  pin_before line text rest b f =
      let placed = decimal b.place ++ fault_end model b.ends.value in
      let own = codes "pin " ++ (b.name ++ 32 ∷ placed) in
      record {
        fault = own;
        is_fault = at_pin own (record { name = b.name; place = b.place; value = b.ends.value; word = b.word; small = b.small; text_is = refl });
        line_is = f ∙ ap (λ t. codes "pin " ++ t)
            (b.text_is ∙ (ap (λ t. b.name ++ 32 ∷ t) (b.ends.text_is ∙ sym (append_assoc (decimal b.place) (fault_end model b.ends.value) (32 ∷ rest)))
            ∙ sym (append_assoc b.name (32 ∷ placed) (32 ∷ rest))));
      }

  pub fault_before : (line rest : List ℕ) → FaultBegins model line rest → IsBefore line rest
  fault_before line rest (begins_stem _ t _ b f) = named_before (codes "stem ") line t rest (λ g h. at_stem g h) b f
  fault_before line rest (begins_output _ t _ b f) = named_before (codes "out ") line t rest (λ g h. at_output g h) b f
  fault_before line rest (begins_pin _ t _ b f) = pin_before line t rest b f

  pub same_fault : (f g r s : List ℕ) → IsFaultTextBy model f → IsFaultTextBy model g → f ++ 32 ∷ r ≡ g ++ 32 ∷ s → (f ≡ g) × (r ≡ s)
  same_fault f g r s p q e =
      let rests = fault_once (f ++ 32 ∷ r) r s (fault_begins f (f ++ 32 ∷ r) r p refl) (fault_begins g (f ++ 32 ∷ r) s q e) in
      (append_cancel_right f g (32 ∷ s) (ap (λ t. f ++ 32 ∷ t) (sym rests) ∙ e), rests)

  -- no line ends within a fault
  named_above : (kind fault : List ℕ) → Above 31 kind → IsNamedFault model kind fault → Above 31 fault
  named_above kind fault h n =
      subst (Above 31) (sym n.text_is)
      (above_append 31 kind (n.name ++ fault_end model n.value) h
      (above_append 31 n.name (fault_end model n.value) (above_less 32 31 n.name (omega arith) (word_above n.name n.word)) (end_above model n.value)))

  pub fault_above : (fault : List ℕ) → IsFaultTextBy model fault → Above 31 fault
  fault_above fault (at_stem _ n) = named_above (codes "stem ") fault (above_by_test 31 (codes "stem ") refl) n
  fault_above fault (at_output _ n) = named_above (codes "out ") fault (above_by_test 31 (codes "out ") refl) n
  fault_above fault (at_pin _ n) =
      subst (Above 31) (sym n.text_is)
      (above_append 31 (codes "pin ") (n.name ++ (codes " " ++ (decimal n.place ++ fault_end model n.value))) (above_by_test 31 (codes "pin ") refl)
      (above_append 31 n.name (codes " " ++ (decimal n.place ++ fault_end model n.value)) (above_less 32 31 n.name (omega arith) (word_above n.name n.word))
      (above_append 31 (codes " ") (decimal n.place ++ fault_end model n.value) (above_by_test 31 (codes " ") refl)
      (above_append 31 (decimal n.place) (fault_end model n.value) (above_less 47 31 (decimal n.place) (omega arith) (number_above n.place n.small))
      (end_above model n.value)))))

-- Which definition reads a line.
use Rattle.std.proofs.Common.{◌≡◌, ◌≢◌, ℕ, ◌<◌, ◌≤◌, Bool, true, false, cond, leb, List, [], ◌∷◌, length, refl, sym, ◌∙◌, ap, subst, Option, None, Some, MatchOption, inl, inr, arith}
use Rattle.std.specs.List.{Contains, slice_get}
use Rattle.std.proofs.lemmas.Bool.{le-leb, leb-true, cases_lt}
use Rattle.statement.specs.declared.lines.Line.{Line}
use Rattle.statement.specs.declared.lines.Line.TheVariants.{Stem, Pin}
use Rattle.statement.specs.Netlists.{Definition, Netlist, readers_of}
use Rattle.netlist.specs.Conditions.{IsSound}
use Rattle.netlist.proofs.Placed.{same_definition}
use Rattle.netlist.proofs.Lists.{contains_cases, contains_head, contains_nil}
use Rattle.fault_universe.specs.Universe.{all_lines}
use Rattle.fault_universe.proofs.Members.{line_pin}
use Rattle.fault_universe.proofs.Readers.{IsPinOf, pin_reads, reader_cases}
use Rattle.fault_collapse.specs.Joined.{line_at_pin}
use Rattle.fault_collapse.specs.inner.Merging.{IsReadBy}

few_step : (n : Netlist) (x z k : ℕ) (b : Bool) → leb 2 (length (readers_of n x)) ≡ b → length (readers_of n x) < 2 → cond b (Pin z k) (Stem x) ≡ Stem x
few_step n x z k true e l = let h : 2 ≤ length (readers_of n x) = leb-true 2 (length (readers_of n x)) e in absurd (omega arith)
few_step n x z k false e l = refl

pub stem_at : (n : Netlist) (x z k : ℕ) → length (readers_of n x) < 2 → line_at_pin n x z k ≡ Stem x
stem_at n x z k l = few_step n x z k (leb 2 (length (readers_of n x))) refl l

pub branch_at : (n : Netlist) (x z k : ℕ) → 2 ≤ length (readers_of n x) → line_at_pin n x z k ≡ Pin z k
branch_at n x z k l = ap (λ b. cond b (Pin z k) (Stem x)) (le-leb 2 (length (readers_of n x)) l)

-- what a pin reads, from the definition that has it
pub to_pin : (n : Netlist) (d : Definition) (k x : ℕ) → Contains n.definitions d → slice_get d.pins k ≡ Some x → IsPinOf n d.id k x
to_pin n d k x c p = record { definition = d; member = c; id = refl; pin = p }

pub only_one : (rs : List Line) (l : Line) → Contains rs l → length rs < 2 → rs ≡ l ∷ []
only_one [] l c few = absurd (contains_nil l c)
only_one (m ∷ []) l c few = elim (contains_cases m l [] c) [ inl e ↦ ap (λ y. y ∷ []) e | inr r ↦ absurd (contains_nil l r) ]
only_one (m ∷ k ∷ rs) l c few = absurd (omega arith)

module _ (n : Netlist) (sound : IsSound n) where
  -- a stem with one reader stands for the pin that reads it
  pub stem_read : (x z k : ℕ) → readers_of n x ≡ Pin z k ∷ [] → (d : Definition) × (d.id ≡ z) × IsReadBy n (Stem x) d
  stem_read x z k is =
      let reads : Contains (readers_of n x) (Pin z k) = subst (λ rs. Contains rs (Pin z k)) (sym is) (contains_head (Pin z k) []) in
      let few : length (readers_of n x) < 2 = let size = ap length is in omega arith in
      elim (reader_cases n x (Pin z k) reads) [
        | inl p ↦
            let id : p.0 ≡ z = cc in
            (p.3.definition, p.3.id ∙ id, record { member = p.3.member; place = p.1; signal = x; pin = p.3.pin; input = sym (stem_at n x p.3.definition.id p.1 few) })
        | inr o ↦ absurd (cc)
      ]

  pub stem_unread : (x : ℕ) → ((z k : ℕ) → readers_of n x ≢ Pin z k ∷ []) → (d : Definition) → IsReadBy n (Stem x) d → ⊥
  stem_unread x none d r = elim (cases_lt (length (readers_of n r.signal)) 2) [
    | inl few ↦
        let stem = r.input ∙ stem_at n r.signal d.id r.place few in
        let same : x ≡ r.signal = cc in
        let read = subst (λ y. Contains (readers_of n y) (Pin d.id r.place)) (sym same) (pin_reads n r.signal d.id r.place (to_pin n d r.place r.signal r.member r.pin)) in
        none d.id r.place (only_one (readers_of n x) (Pin d.id r.place) read (subst (λ y. length (readers_of n y) < 2) (sym same) few))
    | inr many ↦ let branch = r.input ∙ branch_at n r.signal d.id r.place many in absurd (cc)
  ]

  pub pin_read : (z k : ℕ) → Contains (all_lines n) (Pin z k) → (d : Definition) × (d.id ≡ z) × IsReadBy n (Pin z k) d
  pin_read z k c =
      let p = line_pin n sound z k c in
      (p.1.definition, p.1.id, record { member = p.1.member; place = k; signal = p.0; pin = p.1.pin; input = sym (branch_at n p.0 p.1.definition.id k p.2 ∙ ap (λ w. Pin w k) p.1.id) })

  pub stem_read_cases : (x : ℕ) (l : Line) → l ≡ Stem x → (o : Option ℕ)
      → MatchOption o ((z k : ℕ) → readers_of n x ≢ Pin z k ∷ []) (λ z. (k : ℕ) × (readers_of n x ≡ Pin z k ∷ []))
      → MatchOption o ((d : Definition) → IsReadBy n l d → ⊥) (λ z. (d : Definition) × (d.id ≡ z) × IsReadBy n l d)
  stem_read_cases x l is None none = λ d r. stem_unread x none d (subst (λ m. IsReadBy n m d) is r)
  stem_read_cases x l is (Some z) one = let m = stem_read x z one.0 one.1 in (m.0, m.1, subst (λ k. IsReadBy n k m.0) (sym is) m.2)

  -- one definition at most
  pub one_reader : (l : Line) (d e : Definition) → IsReadBy n l d → IsReadBy n l e → d ≡ e
  one_reader l d e r s = same_definition n sound.formed.numbered d e r.member s.member (elim (cases_lt (length (readers_of n r.signal)) 2) [
    | inl few ↦ elim (cases_lt (length (readers_of n s.signal)) 2) [
      | inl scant ↦
          let stems : Stem r.signal ≡ Stem s.signal = sym (r.input ∙ stem_at n r.signal d.id r.place few) ∙ (s.input ∙ stem_at n s.signal e.id s.place scant) in
          let same : r.signal ≡ s.signal = cc in
          let here = only_one (readers_of n r.signal) (Pin d.id r.place) (pin_reads n r.signal d.id r.place (to_pin n d r.place r.signal r.member r.pin)) few in
          let there = only_one (readers_of n s.signal) (Pin e.id s.place) (pin_reads n s.signal e.id s.place (to_pin n e s.place s.signal s.member s.pin)) scant in
          let lists : Pin d.id r.place ∷ [] ≡ Pin e.id s.place ∷ [] = sym here ∙ (ap (readers_of n) same ∙ there) in
          cc
      | inr many ↦ let differ : Stem r.signal ≡ Pin e.id s.place = sym (r.input ∙ stem_at n r.signal d.id r.place few) ∙ (s.input ∙ branch_at n s.signal e.id s.place many) in absurd (cc)
    ]
    | inr many ↦ elim (cases_lt (length (readers_of n s.signal)) 2) [
      | inl few ↦ let differ : Pin d.id r.place ≡ Stem s.signal = sym (r.input ∙ branch_at n r.signal d.id r.place many) ∙ (s.input ∙ stem_at n s.signal e.id s.place few) in absurd (cc)
      | inr also ↦
          let pins : Pin d.id r.place ≡ Pin e.id s.place = sym (r.input ∙ branch_at n r.signal d.id r.place many) ∙ (s.input ∙ branch_at n s.signal e.id s.place also) in
          cc
    ]
  ])

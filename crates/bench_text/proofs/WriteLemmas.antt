-- What is written of a netlist.
use Rattle.std.proofs.Common.{◌≡◌, ◌<◌, ◌+◌, ℕ, List, [], ◌∷◌, ◌++◌, length, get_or, sym, ap, ◌∙◌, map, subst, arith}
use Rattle.std.specs.Prelude.{Some, slice_get}
use Rattle.std.specs.List.{All, Contains}
use Rattle.std.proofs.lemmas.List.Concat.{flat_map-append}
use Rattle.std.proofs.lemmas.Option.{slice_get-get_or, slice_get_within, get_or_from_slice_get}
use Rattle.statement.specs.Netlists.{Netlist, Definition, signals}
use Rattle.netlist.specs.Conditions.{IsSound, IsNumbered}
use Rattle.bench_text.specs.Canonical.{ended}
use Rattle.bench_text.specs.Written.{AreSignals, IsWritable}
use Rattle.bench_text.proofs.Lists.{get_map, get_back}
use Rattle.bench_text.proofs.FormedLemmas.{contains-got, got-contains}

-- a signal is its own place
pub signal-below : (n : Netlist) → IsNumbered n → (x : ℕ) → Contains (signals n) x → x < length (signals n)
signal-below n numbered x c =
    let at = contains-got (signals n) x c in
    let within = slice_get_within (signals n) at.0 x at.1 in
    let same : x ≡ at.0 = sym (get_or_from_slice_get (signals n) at.0 x 0 at.1) ∙ numbered at.0 within in
    omega (arith, same, within)

pub outputs-writable : (n : Netlist) (ids : List ℕ) → IsSound n → ids ≡ n.outputs → AreSignals n ids
outputs-writable n ids s e k d h =
    let c = s.closed.outputs k d (omega (arith, h, ap length e)) in
    signal-below n s.formed.numbered (get_or ids k d) (subst (λ l. Contains (signals n) (get_or l k d)) (sym e) c)

definition-signal : (n : Netlist) (k : ℕ) (d : Definition) → slice_get n.definitions k ≡ Some d → Contains (signals n) d.id
definition-signal n k d e =
    got-contains (signals n) d.id (length n.inputs + k)
    (get_back n.inputs (map (λ (x : Definition). x.id) n.definitions) k d.id (get_map (λ (x : Definition). x.id) n.definitions k d e))

pub definition-writable : (n : Netlist) → IsSound n → (k : ℕ) (d : Definition) → k < length n.definitions → IsWritable n (get_or n.definitions k d)
definition-writable n s k d h = record {
  id = signal-below n s.formed.numbered (get_or n.definitions k d).id (definition-signal n k (get_or n.definitions k d) (slice_get-get_or n.definitions k d h));
  pins = λ i x b. signal-below n s.formed.numbered (get_or (get_or n.definitions k d).pins i x) (s.closed.pins k d h i x b);
}

pub definitions-writable : (n : Netlist) (ds : List Definition) → IsSound n → ds ≡ n.definitions → All (IsWritable n) ds
definitions-writable n ds s e k d h = subst (λ l. IsWritable n (get_or l k d)) (sym e) (definition-writable n s k d (omega (arith, h, ap length e)))

-- three blocks of lines
pub blocks : (start one two three : List ℕ) (ins outs defs : List (List ℕ)) → start ≡ [] → one ≡ start ++ ended ins → two ≡ one ++ ended outs → three ≡ two ++ ended defs → three ≡ ended (ins ++ outs ++ defs)
blocks start one two three ins outs defs e f g h =
    h ∙ ap (λ l. l ++ ended defs) (g ∙ ap (λ l. l ++ ended outs) (f ∙ ap (λ l. l ++ ended ins) e))
    ∙ ap (λ l. l ++ ended defs) (sym (flat_map-append (λ l. l ++ 10 ∷ []) ins outs)) ∙ sym (flat_map-append (λ l. l ++ 10 ∷ []) (ins ++ outs) defs)

-- A design is read from its canonical text.
use Rattle.std.proofs.Common.{◌≡◌, ℕ, Bool, not, false, List, Ok, sym, ap, subst, IsTrue}
use Rattle.std.proofs.lemmas.List.Elements.{All-weaker}
use Rattle.statement.specs.Netlists.{Netlist}
use Rattle.statement.specs.Benches.{canonical}
use Rattle.netlist.specs.Conditions.{IsSound}
use Rattle.netlist.specs.Designs.{IsDesign, is_reserved}
use Rattle.bench_text.specs.declared.refusal.Names.TheVariants.{Design}
use Rattle.bench_text.specs.Laws.{CanonicalTextIsRead, IsReadable, is_free}
use Rattle.bench_text.specs.Reading.{IsRead}

unreserved : (b : Bool) → b ≡ false → IsTrue (not b)
unreserved b e = ap not e

design_fits : (n : Netlist) → IsDesign n → IsReadable Design n
design_fits n design = record {
  short = design.short;
  free = All-weaker (λ (x : List ℕ). is_reserved x ≡ false) (λ (x : List ℕ). IsTrue (is_free Design x)) (λ x e. unreserved (is_reserved x) e) n.names design.unreserved;
  few = design.small;
}

pub read_back : CanonicalTextIsRead → (n : Netlist) → IsSound n → IsDesign n → (net : List ℕ) → net ≡ canonical n → IsRead Design net (Ok n)
read_back law n sound design net is =
    let w = law Design n sound (design_fits n design) in
    subst (λ (t : List ℕ). IsRead Design t (Ok n)) (sym is) (sym w.1, w.0, sound.acyclic)

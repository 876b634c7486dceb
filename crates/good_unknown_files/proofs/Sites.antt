-- Where a line of the netlist stands in the scanned netlist, by names, and that both have the names that they need.
use Rattle.std.proofs.Common.{◌≡◌, ℕ, Bool, true, false, not, cond, List, ◌++◌, refl, sym, ◌∙◌, ap, codes}
use Rattle.std.specs.List.{Contains}
use Rattle.std.proofs.lemmas.List.Elements.{All-contains}
use Rattle.statement.specs.declared.lines.Line.{Line}
use Rattle.statement.specs.declared.lines.Line.TheVariants.{Stem, Pin, Out}
use Rattle.statement.specs.Netlists.{Definition, Netlist, is_cell, name_of, signals}
use Rattle.statement.specs.Statement.{IsNamed, IsSite}
use Rattle.netlist.specs.Netlist.{is_gate}
use Rattle.netlist.specs.Conditions.{IsSound}
use Rattle.netlist.specs.Lines.{IsLineOf}
use Rattle.netlist.proofs.Lists.{filter_contains}
use Rattle.netlist.proofs.WellFormed.{names_counted}
use Rattle.scan_insert.specs.Named.{HasSiteNames}
use Rattle.scan_insert.specs.Scanned.{line_at, scanned_of, site, sites_of}

pub named : (n : Netlist) → IsSound n → IsNamed n
named n sound = record {
  numbered = sound.formed.numbered;
  counted = names_counted n sound;
  names = sound.formed.names;
  distinct = sound.formed.distinct;
  pins = sound.closed.pins;
  outputs = sound.closed.outputs;
}

module _ (n : Netlist) (chains : List (List ℕ)) (names : HasSiteNames n chains) where
  pins_named : (d : Definition) → Contains n.definitions d → (b : Bool) → is_cell d ≡ b
      → name_of (scanned_of n chains) (site (sites_of n chains) d.id).pins ≡ cond b (codes "SC__a_" ++ name_of n d.id) (name_of n d.id)
  pins_named d here true is = names.cell_pins d (filter_contains is_cell n.definitions d here is)
  pins_named d here false is = names.gate_pins d (filter_contains is_gate n.definitions d here (ap not is))

  pub stands_there : IsSound n → (l : Line) → IsLineOf n l → IsSite n (scanned_of n chains) l (line_at (sites_of n chains) l)
  stands_there sound (Stem x) here = names.stems x here
  stands_there sound (Pin z k) here = (
    here.0,
    here.1,
    here.2,
    ap (λ y. name_of (scanned_of n chains) (site (sites_of n chains) y).pins) (sym here.2) ∙ pins_named here.0 here.1 (is_cell here.0) refl,
    refl,
  )
  stands_there sound (Out x) here = names.stems x (All-contains (Contains (signals n)) n.outputs x sound.closed.outputs here)

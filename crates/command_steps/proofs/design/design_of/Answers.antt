use Rattle.std.proofs.Common.{◌≡◌, ◌≤◌, ℕ, List, [], ◌∷◌, Vec, length, get_or, ap, sym, subst, arith}
use Rattle.std.specs.List.{All}
use Rattle.std.specs.declared.alloc.Global.{Global}
use Rattle.std.proofs.lemmas.List.Elements.{All-head}
use Rattle.commands.specs.Names.{texts_of}
use Rattle.commands.specs.Contents.{most_bytes}
use Rattle.command_steps.proofs.design.design_of.Goals as goal

first_short : (vs : List (Vec ℕ Global)) (v d : Vec ℕ Global) → length vs ≡ 1 → v ≡ get_or vs 0 d → All (λ text. length text ≤ most_bytes) (texts_of vs) → length v.items ≤ most_bytes
first_short [] v d one is all = absurd (omega (arith, one))
first_short (x ∷ xs) v d one is all =
    subst (λ (w : Vec ℕ Global). length w.items ≤ most_bytes) (sym is) (All-head (λ text. length text ≤ most_bytes) x.items (texts_of xs) all)

pub netlist_of-requires : goal.netlist_of-requires
netlist_of-requires c =
    let same = ap length c.as_slice.ensures.value in
    let short = first_short c.args.texts.items c.index.result.now c.index.result.now c.requires.count c.index.ensures c.requires.within in
    omega arith

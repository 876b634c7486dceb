-- All cells, each once, or why not.
use Rattle.std.proofs.Common.{◌≡◌, ℕ, Bool, true, List, Result, Ok, Err, MatchResult, Vec, get_or, sym, ◌∙◌, subst}
use Rattle.std.specs.declared.alloc.Global.{Global}
use Rattle.std.specs.List.{All, Contains}
use Rattle.std.proofs.lemmas.Bool.{both_ways}
use Rattle.std.proofs.lemmas.List.Elements.{All-contains}
use Rattle.statement.specs.Benches.{Text}
use Rattle.statement.specs.Netlists.{Netlist}
use Rattle.scan_insert.specs.Scanned.{cell_ids}
use Rattle.cell_order.specs.Orders.{AreAllCells, AreCells, AreRefused, IsLeftOut, IsRefused, IsRefusedBy, is_order_text, names_in}
use Rattle.cell_order.specs.inner.Reads.{AreMarked, IsFirstUnmarked, is_marked}
use Rattle.cell_order.specs.inner.Refusing.{IsComplete, IsIncomplete}
use Rattle.cell_order.specs.declared.refusal.OrderRefusal.{OrderRefusal}
use Rattle.cell_order.specs.declared.refusal.OrderRefusal.TheVariants.{NotOrder, NotCell, Twice, LeftOut, TooMany, Uneven}
use Rattle.cell_order.specs.declared.refusal.OrderFault.{OrderFault}
use Rattle.cell_order.specs.declared.refusal.OrderFault.TheVariants.{Refused, NoMemory}

pub all_marked : (xs order : List ℕ) (marks : List Bool) → AreMarked order marks → All (λ x. is_marked marks x ≡ true) xs → All (Contains order) xs
all_marked xs order marks m h k d l = m.only (get_or xs k d) (h k d l)

pub left_out : (n : Netlist) (order xs : List ℕ) (marks : List Bool) (number : ℕ) → xs ≡ cell_ids n → AreMarked order marks → IsFirstUnmarked xs marks number → IsLeftOut n order number
left_out n order xs marks number e m u = record {
  before = u.before;
  cell = u.x;
  behind = u.behind;
  cells_are = sym e ∙ u.xs_are;
  placed = all_marked u.before order marks m u.each;
  left = λ c. both_ways (is_marked marks u.x) u.unmarked (All-contains (λ y. is_marked marks y ≡ true) order u.x m.each c);
  number_is = u.number_is;
}

pub all_of : (n : Netlist) (names : List Text) (order : Vec ℕ Global) → AreCells n names order.items → (r : Result (Vec ℕ Global) OrderFault)
    → MatchResult r (λ (whole : Vec ℕ Global). (whole ≡ order) × IsComplete n order.items) (IsRefusedBy (IsIncomplete n order.items))
    → MatchResult r (λ (whole : Vec ℕ Global). AreAllCells n names whole.items) (IsRefusedBy (AreRefused n names))
all_of n names order are (Ok whole) h =
    subst (λ (o : Vec ℕ Global). AreAllCells n names o.items) (sym h.0) (record { are = are; once = h.1.once; all = h.1.all })
all_of n names order are (Err (Refused NotOrder)) h = absurd h
all_of n names order are (Err (Refused (NotCell number))) h = absurd h
all_of n names order are (Err (Refused (Twice number))) h = (order.items, are, h)
all_of n names order are (Err (Refused (LeftOut number))) h = (order.items, are, h.0, h.1)
all_of n names order are (Err (Refused TooMany)) h = absurd h
all_of n names order are (Err (Refused Uneven)) h = absurd h
all_of n names order are (Err NoMemory) h = tt

pub refused : (n : Netlist) (text : Text) (f : OrderFault) → is_order_text text ≡ true → IsRefusedBy (AreRefused n (names_in text)) f → IsRefusedBy (IsRefused n text) f
refused n text (Refused NotOrder) form h = absurd h
refused n text (Refused (NotCell number)) form h = (form, h)
refused n text (Refused (Twice number)) form h = (form, h)
refused n text (Refused (LeftOut number)) form h = (form, h)
refused n text (Refused TooMany) form h = absurd h
refused n text (Refused Uneven) form h = absurd h
refused n text NoMemory form h = tt

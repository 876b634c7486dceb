-- What is due of texts with an order, step by step.
use Rattle.std.proofs.Common.{◌≡◌, ◌∙◌, ◌≤◌, ◌+◌, inl, inr, ℕ, List, [], ◌∷◌, Option, Some, None, Result, Ok, Err, Vec, refl, sym, subst, ap, arith, get_or, length, set}
use Rattle.std.specs.Prelude.{max}
use Rattle.std.specs.List.{All, remove}
use Rattle.std.specs.Option.{option_to_list}
use Rattle.std.specs.declared.alloc.Global.{Global}
use Rattle.std.proofs.lemmas.List.Elements.{All-cons, All-head, All-tail}
use Rattle.statement.specs.Benches.{Text}
use Rattle.statement.specs.Netlists.{Netlist}
use Rattle.netlist.specs.Conditions.{IsSound}
use Rattle.bench_text.specs.declared.refusal.Names.TheVariants.{Design}
use Rattle.cell_order.specs.Orders.{IsOrder, chains_in}
use Rattle.cell_order.specs.Ordered.{ordered_text}
use Rattle.cell_order.specs.declared.reading.Order.{Order}
use Rattle.cell_order.specs.declared.refusal.OrderRefusal.{OrderRefusal}
use Rattle.cell_order.proofs.OneOrder.{one_cause, one_order, order_or_cause}
use Rattle.commands.specs.Contents.{most_bytes}
use Rattle.commands.specs.Due.{Due}
use Rattle.commands.specs.Laws.{IsExclusive}
use Rattle.commands.specs.Names.{texts_of}
use Rattle.commands.specs.Worked.{IsWorked}
use Rattle.commands.specs.declared.product.Product.{Product}
use Rattle.commands.specs.declared.product.Stop.{Stop}
use Rattle.commands.specs.declared.product.Stop.TheVariants as stop
use Rattle.command_steps.specs.Answers.{Answers}
use Rattle.command_steps.specs.inner.Placed.{OrdersNetlist, OrdersText, ReadsOrder}
use Rattle.command_steps.specs.declared.ordering.OrderedNet.{OrderedNet}
use Rattle.command_steps.specs.Ordering.{IsOrdered, IsPutInOrder, cell_order, chains_asked, ordered_due}
use Rattle.command_steps.specs.Steps.{◌>>=◌, netlist}
use Rattle.command_steps.specs.declared.ordering.Ordered.{Ordered}
use Rattle.command_steps.specs.declared.refusal.Refusal.{Refusal}
use Rattle.command_steps.specs.declared.refusal.Refusal.TheVariants as refusal
use Rattle.command_steps.proofs.Single.{IsSingle, netlist_single, then_one, then_one_where}
use Rattle.command_steps.proofs.StepLemmas.{then_worked}

-- a text is one order, or is refused for one cause
pub order_single : (n : Netlist) → IsSound n → (text : Text) → IsSingle (cell_order n text)
order_single n sound text = record {
  value = λ a b p q. one_order n sound text a b (length (chains_in text)) (length (chains_in text)) p q;
  refusal = λ r s p q. p.2 ∙ (ap (λ (c : OrderRefusal). refusal.Order c) (one_cause n sound text p.0 q.0 p.1 q.1) ∙ sym q.2);
  apart = λ a r p q. order_or_cause n sound text a (length (chains_in text)) q.0 p q.1;
}

module _ (due : ℕ → List Text → Due Refusal → Type 0) where
  -- what is due behind the netlist
  abbrev behind : Text → List Text → Netlist → Due Refusal → Type 0
  behind text texts n = cell_order n text >>= λ order. due (chains_asked text) (ordered_text n order ∷ texts)

  pub ordered_exclusive : ((chains : ℕ) → IsExclusive (due chains)) → (order : Option Text) (chains : ℕ) → IsExclusive (ordered_due due order chains)
  ordered_exclusive each None chains texts c d p q = each chains texts c d p q
  ordered_exclusive each (Some name) chains [] c d p q = absurd p
  ordered_exclusive each (Some name) chains (net ∷ []) c d p q = absurd p
  ordered_exclusive each (Some name) chains (net ∷ text ∷ texts) c d p q =
      then_one_where (netlist Design net) (behind text texts) (netlist_single Design net)
      (λ n is. then_one (cell_order n text) (λ order. due (chains_asked text) (ordered_text n order ∷ texts)) (order_single n is.1 text)
      (λ order. each (chains_asked text) (ordered_text n order ∷ texts))) c d p q

  module _ (count : ℕ) where
    same_worked : (i j : ℕ) (these those : List Text) (r : Result Product (Stop Refusal)) → i ≡ j → these ≡ those → IsWorked (due i these) count r → IsWorked (due j those) count r
    same_worked i j these those r e is w = subst (λ (ts : List Text). IsWorked (due j ts) count r) is (subst (λ k. IsWorked (due k these) count r) e w)

    -- of texts that were put in order, what is due of the texts
    pub ordered_worked : (order : Option Text) (chains : ℕ) (texts : List Text) (o : Ordered) (r : Result Product (Stop Refusal)) → IsOrdered order chains texts (Ok o)
        → IsWorked (due o.chains (texts_of o.texts.items)) count r → IsWorked (ordered_due due order chains texts) count r
    ordered_worked None chains texts o r is w = same_worked o.chains chains (texts_of o.texts.items) texts r is.0 is.1 w
    ordered_worked (Some name) chains [] o r is w = absurd is
    ordered_worked (Some name) chains (net ∷ []) o r is w = absurd is
    ordered_worked (Some name) chains (net ∷ text ∷ texts) o r is w =
        then_worked (netlist Design net) (behind text texts) count is.0 r is.1
        (then_worked (cell_order is.0 text) (λ order. due (chains_asked text) (ordered_text is.0 order ∷ texts)) count is.2 r is.3
        (same_worked o.chains (chains_asked text) (texts_of o.texts.items) (ordered_text is.0 is.2 ∷ texts) r is.4 is.5 w))

    -- none were
    pub ordered_stopped : (order : Option Text) (chains : ℕ) (texts : List Text) (s : Stop Refusal) → IsOrdered order chains texts (Err s)
        → IsWorked (ordered_due due order chains texts) count (Err s)
    ordered_stopped None chains texts (stop.Refused r) is = absurd is
    ordered_stopped None chains texts stop.NoMemory is = tt
    ordered_stopped (Some name) chains [] (stop.Refused r) is = absurd is
    ordered_stopped (Some name) chains (net ∷ []) (stop.Refused r) is = absurd is
    ordered_stopped (Some name) chains (net ∷ text ∷ texts) (stop.Refused r) is = elim is as (λ _. IsWorked (ordered_due due (Some name) chains (net ∷ text ∷ texts)) count (Err (stop.Refused r))) [
      | inl none ↦ inr (r, none, refl)
      | inr some ↦ inl (some.0, some.1, inr (r, some.2, refl))
    ]
    ordered_stopped (Some name) chains texts stop.NoMemory is = tt

-- ---- how many texts there are

-- where an order is given its text is left out
pub ordered_length : (order : Option Text) (chains : ℕ) (texts : List Text) (o : Ordered) → IsOrdered order chains texts (Ok o)
    → length texts ≡ length (texts_of o.texts.items) + length (option_to_list order)
ordered_length None chains texts o is = let same = ap (λ (ts : List Text). length ts) is.1 in omega arith
ordered_length (Some name) chains [] o is = absurd is
ordered_length (Some name) chains (net ∷ []) o is = absurd is
ordered_length (Some name) chains (net ∷ text ∷ texts) o is = let same = ap (λ (ts : List Text). length ts) is.5 in omega arith

-- ---- what the code of the steps answers

pub reads_order : (n : Netlist) (text : Text) (o : Order) → IsOrder n text o.cells.items o.chains → ReadsOrder n text (Ok o)
reads_order n text o is = (record { form = is.form; are = is.are; few = is.few; even = is.even; count = refl }, is.count)

-- what was read is written in order
pub orders_netlist : (n : Netlist) (text : Text) (order : Order) (o : OrderedNet) → ReadsOrder n text (Ok order) → o.text.items ≡ ordered_text n order.cells.items → o.chains ≡ max order.chains 1
    → OrdersNetlist n text (Ok o)
orders_netlist n text order o read text_is chains_is = (order.cells.items, read.0, (let count = read.1 in omega arith), text_is)

pub orders_text : (net text : Text) (n : Netlist) (r : Result OrderedNet (Stop Refusal)) → netlist Design net (Ok n) → OrdersNetlist n text r → OrdersText net text r
orders_text net text n (Ok o) read is = (n, read, is)
orders_text net text n (Err (stop.Refused r)) read is = inr (n, read, is)
orders_text net text n (Err stop.NoMemory) read is = tt

pub no_netlist : (net text : Text) (s : Stop Refusal) → Answers (netlist Design net) (Err s) → OrdersText net text (Err s)
no_netlist net text (stop.Refused r) is = inl is
no_netlist net text stop.NoMemory is = tt

-- ---- the first two of some texts, and what they make

abbrev pub IsShort : Text → Type 0
IsShort text = length text ≤ most_bytes

pub first_short : (vs : List (Vec ℕ Global)) (v : Vec ℕ Global) → 2 ≤ length vs → v ≡ get_or vs 0 v → All IsShort (texts_of vs) → IsShort v.items
first_short [] v few is h = absurd (omega (arith, few))
first_short (x ∷ xs) v few is h = subst (λ (u : Vec ℕ Global). IsShort u.items) (sym is) (All-head IsShort x.items (texts_of xs) h)

module _ (v w : Vec ℕ Global) where
  pub put_texts : (vs : List (Vec ℕ Global)) (made : OrderedNet) (o : Ordered) → 2 ≤ length vs → v ≡ get_or vs 0 v → w ≡ get_or vs 1 w → OrdersText v.items w.items (Ok made)
      → o.chains ≡ made.chains → o.texts.items ≡ remove (set vs 1 made.text) 0 → IsPutInOrder (texts_of vs) (Ok o)
  put_texts [] made o few first second is chains_are texts_are = absurd (omega (arith, few))
  put_texts (x ∷ []) made o few first second is chains_are texts_are = absurd (omega (arith, few))
  put_texts (x ∷ y ∷ rest) made o few first second is chains_are texts_are =
      let here : OrdersText x.items y.items (Ok made) =
      subst (λ (u : Vec ℕ Global). OrdersText x.items u.items (Ok made)) second (subst (λ (u : Vec ℕ Global). OrdersText u.items w.items (Ok made)) first is) in
      (here.0, here.1, here.2.0, here.2.1, chains_are ∙ here.2.2, ap (λ (us : List (Vec ℕ Global)). texts_of us) texts_are ∙ ap (λ (t : Text). t ∷ texts_of rest) here.2.3)

  pub put_stops : (vs : List (Vec ℕ Global)) (s : Stop Refusal) → 2 ≤ length vs → v ≡ get_or vs 0 v → w ≡ get_or vs 1 w → OrdersText v.items w.items (Err s) → IsPutInOrder (texts_of vs) (Err s)
  put_stops vs stop.NoMemory few first second is = tt
  put_stops [] (stop.Refused r) few first second is = absurd (omega (arith, few))
  put_stops (x ∷ []) (stop.Refused r) few first second is = absurd (omega (arith, few))
  put_stops (x ∷ y ∷ rest) (stop.Refused r) few first second is =
      subst (λ (u : Vec ℕ Global). OrdersText x.items u.items (Err (stop.Refused r))) second (subst (λ (u : Vec ℕ Global). OrdersText u.items w.items (Err (stop.Refused r))) first is)

pub put_short : (vs : List (Vec ℕ Global)) (made : Vec ℕ Global) → 2 ≤ length vs → All IsShort (texts_of vs) → IsShort made.items → All IsShort (texts_of (remove (set vs 1 made) 0))
put_short [] made few all short = absurd (omega (arith, few))
put_short (x ∷ []) made few all short = absurd (omega (arith, few))
put_short (x ∷ y ∷ rest) made few all short =
    All-cons IsShort made.items (texts_of rest) short (All-tail IsShort y.items (texts_of rest) (All-tail IsShort x.items (y.items ∷ texts_of rest) all))

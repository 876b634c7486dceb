use Rattle.stil_read.proofs.StepLemmas.{no_chains, no_items, no_shift, no_signals, spelt_here}
use Rattle.stil_read.proofs.finding.find.Goals as goal

pub returns-in_default : goal.returns-in_default
returns-in_default c = no_signals _ (rw c.in_default.is at c.in_ok-found.ensures)

pub returns-in_default-2 : goal.returns-in_default-2
returns-in_default-2 c =
    let signals = rw c.in-Some.is at c.in_ok-found.ensures in
    no_chains _ _ _ _ _ signals (rw c.in_default-2.is at c.in_ok-chains.ensures)

pub returns-in_default-3 : goal.returns-in_default-3
returns-in_default-3 c =
    let signals = rw c.in-Some.is at c.in_ok-found.ensures in
    let chains = rw c.in-Some-2.is at c.in_ok-chains.ensures in
    no_shift _ _ _ _ _ _ _ signals chains (rw c.in_default-3.is at c.in_ok-shift_word.ensures)

pub returns-in_default-4 : goal.returns-in_default-4
returns-in_default-4 c =
    let signals = rw c.in-Some.is at c.in_ok-found.ensures in
    let chains = rw c.in-Some-2.is at c.in_ok-chains.ensures in
    let shift = rw c.in-Some-3.is at c.in_ok-shift_word.ensures in
    no_items _ _ _ _ _ _ _ _ _ signals chains shift (rw c.in_default-4.is at c.in_ok-items.ensures)

pub returns : goal.returns
returns c =
    let signals = rw c.in-Some.is at c.in_ok-found.ensures in
    let chains = rw c.in-Some-2.is at c.in_ok-chains.ensures in
    let shift = rw c.in-Some-3.is at c.in_ok-shift_word.ensures in
    let pattern = rw c.in-Some-4.is at c.in_ok-items.ensures in
    spelt_here _ _ _ _ _ _ _ signals chains shift pattern

use Rattle.std.proofs.Common.{◌∙◌, [], sym, false}
use Rattle.command_line.specs.declared.holds.Held.{Held}
use Rattle.command_line.proofs.HoldLemmas.{is_new, stands_twice}
use Rattle.command_line.proofs.holds.are_new.Goals as goal

none : Held
none = record { name = record { ref_ptr = (0, 0); now = [] }; bit = false }

pub returns-then-not-added : goal.returns-then-not-added
unfolding none
returns-then-not-added c =
    stands_twice c.args.holds.now c.loop-hold.hold-index none c.loop-hold-test.true c.loop-hold.seen.keys _ c.loop-hold.invariant
    (sym c.in_ok-added.ensures.added ∙ c.if-not-added.true)

pub loop-hold-preserved : goal.loop-hold-preserved
unfolding none
loop-hold-preserved c =
    is_new c.args.holds.now c.loop-hold.hold-index none c.loop-hold-test.true c.loop-hold.seen.keys _ c.insert_full.new.self.keys c.loop-hold.invariant
    (sym c.in_ok-added.ensures.added ∙ c.if-not-added.false) c.in_ok-added.ensures.keys

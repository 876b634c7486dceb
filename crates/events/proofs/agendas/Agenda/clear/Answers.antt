use Rattle.std.proofs.Common.{ap, sym, ◌∙◌, length, replicate}
use Rattle.events.proofs.Levels.{bits_length, levels_none, clear_is, zeros_at}
use Rattle.events.proofs.agendas.Agenda.clear.Goals as goal

pub invariant_of-self : goal.invariant_of-self
invariant_of-self c =
    let i = c.self.inside in
    levels_none i.bound i.fine.items i.middle.items i.coarse.items c.fill.new.self.items c.fill-2.new.self.items c.fill-3.new.self.items
    c.self.invariant (c.fill.ensures.items (λ y e. e) ∙ ap (λ n. replicate n 0) i.fine.ok.0) (c.fill-2.ensures.items (λ y e. e) ∙ ap (λ n. replicate n 0) i.middle.ok.0)
    (c.fill-3.ensures.items (λ y e. e) ∙ ap (λ n. replicate n 0) i.coarse.ok.0)

pub returns-clause-size : goal.returns-clause-size
returns-clause-size c = bits_length c.fill.new.self.items 0 c.self.inside.bound ∙ (sym (bits_length c.self.inside.fine.items 0 c.self.inside.bound) ∙ ap length c.self.view_is)

pub returns-clause-clear : goal.returns-clause-clear
returns-clause-clear c =
    let i = c.self.inside in
    let levels = levels_none i.bound i.fine.items i.middle.items i.coarse.items c.fill.new.self.items c.fill-2.new.self.items c.fill-3.new.self.items
    c.self.invariant (c.fill.ensures.items (λ y e. e) ∙ ap (λ n. replicate n 0) i.fine.ok.0) (c.fill-2.ensures.items (λ y e. e) ∙ ap (λ n. replicate n 0) i.middle.ok.0)
    (c.fill-3.ensures.items (λ y e. e) ∙ ap (λ n. replicate n 0) i.coarse.ok.0) in
    clear_is i.bound c.fill.new.self.items c.fill-2.new.self.items c.fill-3.new.self.items levels (zeros_at (length i.coarse.items) c.fill-3.new.self.items (c.fill-3.ensures.items (λ y e. e) ∙ ap (λ n. replicate n 0) i.coarse.ok.0))

use Rattle.stil_write.specs.Pieces.{chain_end, chain_head}
use Rattle.statement.specs.Stils.{joined}
use Rattle.std.proofs.Common.{codes, length, ◌++◌, ◌∙◌, ap}
use Rattle.stil_write.proofs.LoopLemmas.{behind}
use Rattle.stil_write.proofs.pieces.push_chain.Goals as goal

pub returns : goal.returns
returns c =
    let cells = c.args.cells.now in
    behind c.args.out.now.items c.push_chain_head.new.out.items c.extend_from_slice.new.self.items (chain_head c.args.chain (length cells)) (joined (codes " ") cells ++ chain_end)
    (c.in_ok-push_chain_head.ensures ∙ ap (λ n. c.args.out.now.items ++ chain_head c.args.chain n) c.len.ensures)
    (behind c.push_chain_head.new.out.items c.push_joined.new.out.items c.extend_from_slice.new.self.items (joined (codes " ") cells) chain_end c.in_ok-push_joined.ensures c.in_ok-extend_from_slice.ensures.items)

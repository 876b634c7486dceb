use Rattle.std.proofs.Common.{ap, length, ◌∙◌}
use Rattle.test_commands.proofs.ChainTestLemmas.{zip_length}
use Rattle.test_commands.proofs.chain_testing.text_of.Goals as goal

pub chain_test_text-requires-clause-size : goal.chain_test_text-requires-clause-size
chain_test_text-requires-clause-size g c = ap length c.deref.ensures.value ∙ zip_length _ c.args.faults.now c.in_ok-told.told.items c.in_ok-told.ensures.told

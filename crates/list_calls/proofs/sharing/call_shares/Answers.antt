use Rattle.std.proofs.Common.{◌≡◌, List, sym, subst}
use Rattle.std.specs.List.{All}
use Rattle.shared_list.specs.Tally.{Tally}
use Rattle.list_calls.proofs.sharing.call_shares.Goals as goal

pub call_all-requires : goal.call_all-requires
call_all-requires g c =
    let P : List Tally → Type 0 = λ ts. All (λ (t : Tally). t.table ≡ c.args.shared.now.word.shared.table_id) ts in
    subst P (sym c.in_ok-hands.ensures.hands) c.requires.tables

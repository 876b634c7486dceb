use Rattle.list_calls.proofs.sharing.play_shares.Given as goal

abbrev pub ghosts-play_named-T-Ledger : goal.ghosts-play_named-T-Ledger
ghosts-play_named-T-Ledger g a = record { name = a.blanks.takes.name; parts = a.blanks.takes.parts }

abbrev pub ghosts-play_named-S-Ledger : goal.ghosts-play_named-S-Ledger
ghosts-play_named-S-Ledger g a = record { name = a.blanks.settles.name; parts = a.blanks.settles.parts }

abbrev pub ghosts-play_named-P-Ledger : goal.ghosts-play_named-P-Ledger
ghosts-play_named-P-Ledger g a = record { name = a.blanks.publishes.name; parts = a.blanks.publishes.parts }

abbrev pub ghosts-play_named-U-Ledger : goal.ghosts-play_named-U-Ledger
ghosts-play_named-U-Ledger g a = record { name = a.blanks.unspent.name; parts = a.blanks.unspent.parts }

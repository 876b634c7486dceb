-- A command's row, put together of its reads, its work and what became of it.
use Rattle.std.proofs.Common.{◌≡◌, inl, inr, ℕ, List, [], Option, Some, None, Result, Ok, Err, ap₂, refl, sym, subst, arith}
use Rattle.statement.specs.Benches.{Text}
use Rattle.outside.specs.Shelf.{Files}
use Rattle.commands.specs.World.{World, world}
use Rattle.commands.specs.Contents.{FilesHold}
use Rattle.commands.specs.Names.{texts_of}
use Rattle.commands.specs.Due.{Due, Deliver}
use Rattle.commands.specs.Delivered.{DeliveryRow, ProductRow}
use Rattle.commands.specs.Reads.{NoFiles}
use Rattle.commands.specs.Rows.{CommandRow}
use Rattle.commands.specs.Worked.{IsWorked}
use Rattle.commands.specs.declared.ending.Finding.{Finding}
use Rattle.commands.specs.declared.ending.Ending.{Ending}
use Rattle.commands.specs.declared.ending.Ending.TheVariants as ending
use Rattle.commands.specs.declared.product.Product.{Product}
use Rattle.commands.specs.declared.product.Stop.{Stop}
use Rattle.commands.specs.declared.product.Stop.TheVariants as stop

-- a command that reads nothing has read it
pub nothing_read : (files : Option Files) → FilesHold files [] []
nothing_read None = record { count = refl; within = λ k d below. absurd (omega arith); told = tt }
nothing_read (Some c) = record { count = refl; within = λ k d below. absurd (omega arith); told = refl }

module _ {R : Type 0} (reads writes : List Text) (due : List Text → Due R → Type 0) where
  -- the files could not be read
  pub unread_row : (files : Option Files) (f : ℕ) (now : Option Files) (g : ℕ) (taken : Option Text) (h : ℕ) (e : Ending R)
      → NoFiles reads files f g e → now ≡ files → CommandRow reads writes due (world files f taken h) (world now g taken h) e
  unread_row files f now g taken h (ending.Ended finding) why same = absurd why
  unread_row files f now g taken h (ending.Refused r) why same = absurd why
  unread_row files f now g taken h (ending.WriteFailed failure) why same = absurd why
  unread_row files f now g taken h (ending.ReadFailed n) why same = (why.0, (same, refl), (why.1, refl))
  unread_row files f now g taken h (ending.Missing n) why same = (why.0, why.1, ((same, refl), (why.2, refl)))
  unread_row files f now g taken h (ending.TooLong n) why same = (why.0, why.1, ((same, refl), (why.2, refl)))
  unread_row files f now g taken h ending.Memory why same = inl ((same, refl), (why, refl))

  module _ (a b : World) (texts : List Text) (read : FilesHold a.files reads texts) where
    product_row : (p : Product) → due texts (Deliver (texts_of p.texts.items) p.shown.items p.finding) → (e : Ending R) → ProductRow writes p a b e
        → CommandRow reads writes due a b e
    product_row p is (ending.Ended finding) row =
        (texts_of p.texts.items, p.shown.items, (texts, read, subst (λ (d : Finding). due texts (Deliver (texts_of p.texts.items) p.shown.items d)) (sym row.0) is), row.1)
    product_row p is (ending.WriteFailed failure) row = (texts_of p.texts.items, p.shown.items, p.finding, (texts, read, is), row)
    product_row p is ending.Memory row = inr (texts_of p.texts.items, p.shown.items, p.finding, (texts, read, is), row)
    product_row p is (ending.Refused r) row = absurd row
    product_row p is (ending.ReadFailed n) row = absurd row
    product_row p is (ending.Missing n) row = absurd row
    product_row p is (ending.TooLong n) row = absurd row

    here : (e : Ending R) → CommandRow reads writes due a a e → b ≡ a → CommandRow reads writes due a b e
    here e row same = subst (λ (w : World). CommandRow reads writes due a w e) (sym same) row

    -- the files were read, and the work's answer was delivered
    pub worked_row : (count : ℕ) (worked : Result Product (Stop R)) (e : Ending R) → IsWorked (due texts) count worked → DeliveryRow writes worked a b e
        → CommandRow reads writes due a b e
    worked_row count (Ok p) e is row = product_row p is.0 e row
    worked_row count (Err (stop.Refused r)) e is row =
        subst (λ (x : Ending R). CommandRow reads writes due a b x) (sym row.0) (here (ending.Refused r) ((texts, read, is), ((refl, refl), (refl, refl))) row.1)
    worked_row count (Err stop.NoMemory) e is row =
        subst (λ (x : Ending R). CommandRow reads writes due a b x) (sym row.0) (here ending.Memory (inl ((refl, refl), (refl, refl))) row.1)

  -- the same, the shelf being as it was before the reads
  pub command_row : (files : Option Files) (f : ℕ) (now : Option Files) (g : ℕ) (taken : Option Text) (h : ℕ) (b : World) (texts : List Text)
      (count : ℕ) (worked : Result Product (Stop R)) (e : Ending R) → FilesHold files reads texts → now ≡ files → g ≡ f
      → IsWorked (due texts) count worked → DeliveryRow writes worked (world now g taken h) b e → CommandRow reads writes due (world files f taken h) b e
  command_row files f now g taken h b texts count worked e read same none is row =
      let before : world now g taken h ≡ world files f taken h = ap₂ (λ (x : Option Files) (k : ℕ). world x k taken h) same none in
      worked_row (world files f taken h) b texts read count worked e is (subst (λ (w : World). DeliveryRow writes worked w b e) before row)

use Rattle.std.{proofs.Common.◌≡◌, proofs.Common.◌++◌, proofs.Common.ℕ, proofs.Common.List, proofs.Common.Option, proofs.Common.length, specs.List.flat_map, specs.Prelude.vec_capacity, specs.Io.KnownBytes.Appends}
use Rattle.rds_rows.specs.Sheets.{size_of}
use Rattle.rds_sync.specs.declared.{item.Item.Item, totals.Totals.Totals}
use Rattle.rds_tool.specs.{Inside.OnePass.HasCounted, Inside.OnePass.HasRoom, Listing.item_row}
use Rattle.rds_tool.proofs.one_pass.OnePass.write_items.Given as goal

-- of these items some are done: they were counted, and their rows written
pub record HasDone (all left : List Item) (totals : Totals) (old new : Option (List ℕ)) : Type 0 where
  pub done : List Item
  pub parted : all ≡ done ++ left
  pub written : Appends old new (flat_map item_row done)
  pub counted : HasCounted done totals

abbrev pub invariant-parts : goal.invariant-parts
invariant-parts g l = record {
  done : HasDone l.fn.decoder.items l.decoder.items l.self.totals (g.K.Sink.contents l.fn.writer) (g.K.Sink.contents l.writer);
  end : l.decoder.end ≡ l.fn.decoder.end;
  room : HasRoom (vec_capacity l.self.items) (size_of l.self.sheet);
  count : g.K.Sink.failed l.writer ≡ g.K.Sink.failed l.fn.writer;
}

abbrev pub decreases-parts : goal.decreases-parts
decreases-parts g l = length l.decoder.items

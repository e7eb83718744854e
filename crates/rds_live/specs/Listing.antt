-- A decoder of a stream that keeps a row of each item. `StreamLister` cites it. This project's rule.
use Rattle.std.specs.{Prelude.◌≡◌, Prelude.◌*◌, Prelude.◌++◌, Prelude.ℕ, Prelude.List, Prelude.[], Prelude.length, List.flat_map}
use Rattle.rds_sync.specs.declared.item.Item.{Item}
use Rattle.rds_live.specs.{Next.IsWithin, Next.completed, Next.live_next, StreamDecoder.LiveOf}

-- the decoder, and the rows so far
pub record ListerOf : Type 0 where
  pub live : LiveOf
  pub rows : List ℕ

-- no row yet
abbrev pub lister_of : LiveOf → ListerOf
lister_of live = record { live = live; rows = [] }

-- after these bytes
abbrev pub lister_next : (Item → List ℕ) → ListerOf → List ℕ → ListerOf
lister_next row lister bytes = record {
  live = live_next lister.live bytes;
  rows = lister.rows ++ flat_map row (completed lister.live bytes);
}

-- it took these bytes, and counted no more than they may give
pub record IsListed (row : Item → List ℕ) (before : ListerOf) (bytes : List ℕ) (after : ListerOf) : Type 0 where
  pub next : after ≡ lister_next row before bytes
  pub small : IsWithin (8 * length bytes) before.live.totals after.live.totals

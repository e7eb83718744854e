-- The numbers that a decoder of a stream keeps beside its terms, so that it can go back to them.
-- `StreamDecoder::take_all` does so if memory is refused midway, and no caller sees it. This project's rule.
use Rattle.std.specs.Prelude.{◌≡◌, ◌≤◌, take}
use Rattle.rds_live.specs.{StreamDecoder.LiveOf, StreamDecoder.Terms, StreamDecoder.most_kept, declared.kept.Kept.Kept}

-- the decoder that knows this
abbrev pub live_kept : Terms → Kept → LiveOf
live_kept terms kept = record {
  terms = terms;
  tail = take kept.count kept.tail;
  place = kept.place;
  state = kept.state;
  totals = kept.totals;
}

-- these are the numbers of the decoder
pub record IsKept (kept : Kept) (live : LiveOf) : Type 0 where
  pub within : kept.count ≤ most_kept
  pub same : live_kept live.terms kept ≡ live

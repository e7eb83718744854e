use Rattle.rds_abi.proofs.Shared.{length, ◌-◌, ◌≡◌, ◌<◌, ◌≤◌, map, take, vec_capacity, IsStreamDecoder, completed, live_next, IsFilled, stream_in_c, stream_of, item_in_c}
use Rattle.rds_abi.proofs.stream.take_fitting.Given as goal

abbrev pub invariant-loop-fit : goal.invariant-loop-fit
invariant-loop-fit l = record {
  within : l.fit.taken ≤ length l.bytes;
  some : 0 < length l.bytes → 0 < l.fit.taken;
  after : l.live ≡ live_next l.fn.live (take l.fit.taken l.bytes);
  laid : l.stream ≡ stream_in_c l.live;
  says : stream_of l.fn.live.terms l.stream ≡ l.live;
  live : IsStreamDecoder l.live;
  rules : l.live.terms.rules ≡ l.rules;
  filled : IsFilled (map item_in_c (completed l.fn.live (take l.fit.taken l.bytes))) l.fn.room l.room;
  count : l.fit.count ≡ length (completed l.fn.live (take l.fit.taken l.bytes));
  room : l.fit.count ≤ length l.fn.room;
  same : length l.room ≡ length l.fn.room;
  capacity : 16 ≤ vec_capacity l.some;
}

abbrev pub decreases-loop-fit : goal.decreases-loop-fit
decreases-loop-fit l = length l.bytes - l.fit.taken

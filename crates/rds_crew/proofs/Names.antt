-- The names that proofs share: of std, of the crates below, and of the definitions.
pub use Rattle.std.proofs.Common.{All, Bool, Contains, IfSome, IsSome, List, None, Option, Some, [], ap, append-nil, append_assoc, ap₂, arith, cond, eqb, get_or, get_or-set_other, get_or-set_same, inl, inr, le-ltb, length, length-append, length-set, lt-ltb, lt_of_not-le, map, min, mod-eq_of_lt, ne_eqb, option_map, option_to_list, refl, replicate, rules, set, slice_get, subst, suc, sum_by, sym, vec_capacity, vec_items, vec_len, zero, ℕ, ⊎_elim, ◌%◌, ◌*◌, ◌++◌, ◌+◌, ◌-◌, ◌/◌, ◌<◌, ◌^◌, ◌∙◌, ◌∷◌, ◌≡◌, ◌≢◌, ◌≤◌, ◌⊎◌}
pub use Rattle.std.{proofs.lemmas.List.Elements.All-cons, proofs.lemmas.List.Elements.All-contains, proofs.lemmas.List.Elements.All-contains_itself, proofs.lemmas.List.Elements.All-head, proofs.lemmas.List.Elements.All-map, proofs.lemmas.List.Elements.All-nil, proofs.lemmas.List.Elements.All-pop, proofs.lemmas.List.Elements.All-push, proofs.lemmas.List.Elements.All-replicate, proofs.lemmas.List.Elements.All-rest, proofs.lemmas.List.Elements.All-same, proofs.lemmas.List.Elements.All-tail, proofs.lemmas.Bool.cases_eq, proofs.lemmas.Bool.cases_lt, proofs.lemmas.Grind.common_steps, proofs.lemmas.List.length-map, proofs.lemmas.List.length-replicate, proofs.lemmas.List.map-append, proofs.lemmas.List.replicate_more, proofs.lemmas.List.FromFn.fill_by_all, proofs.lemmas.List.Sums.sum_by-append, proofs.lemmas.List.Sums.sum_by-cons, proofs.lemmas.List.Sums.sum_by_push, proofs.lemmas.Option.get_or_from_slice_get, proofs.lemmas.Option.slice_get-get_or, proofs.lemmas.Option.slice_get-map, proofs.lemmas.Option.slice_get_past, specs.List.range_with_len, specs.Prelude.IfOk, specs.Vec.Iter.into_iter_items, specs.Vec.Iter.into_iter_len, proofs.Crossing.crosses}
pub use denote.Param.Send.{IsSend, IsSync, sendable}
pub use lib.ListN.{get_elem?}
pub use mathlib.Core.{Option.some, Option.some-injective, Option.some-ne-none, Logic.dite}
pub use Rattle.rds_stream.specs.Recording.{Signal, length_of}
pub use Rattle.rds_pieces.specs.{RunOf.FollowEachOther, RunOf.RunOf, RunOf.run_over, Joining.AreNeighbours}
pub use Rattle.rds_crew.specs.Deal.{Dealt, EndsIn, Fits, HasRun, Holds, drawn_of, ended_of, finished_of, first, fresh, held_count, once_below, share_of, times, times_of}
pub use Rattle.rds_crew.specs.Steps.{Drew, Finished, IsEvent, Told, after_draw, kept_shares, one_share, pooled, spent_view, with_end, with_number, with_told, without_held}
pub use Rattle.rds_crew.specs.{Seats.DealerName, Seats.DealerValue, Seats.DidWholeRun, Seats.DrewAllOnce, Seats.HasRested, Seats.IsFresh, Seats.IsOf, Seats.SeatValue, Seats.fresh_seat, Seats.log_of_seat, Seats.seat_after, Seats.times_drawn, Core.Counts, Core.Leads, Core.Runs, Core.counts, Core.number_of_ticket, Inside.Drawn.IsDrawn, Inside.Numbered.HasOne, Inside.Numbered.IsNumber, Inside.Tree.join_at, Inside.Tree.joins_of, Inside.Tree.level_above, declared.deal.Event.Event, declared.deal.Event.TheVariants.Draw, declared.deal.Event.TheVariants.Finish, declared.deal.Event.TheVariants.Progress, declared.deal.Terms.Terms, declared.deal.View.View}
pub use Rattle.atomic_table.{specs.Table.Allows, specs.Table.Final, specs.Table.Joins, specs.Table.Me, specs.Table.Seen, specs.Table.Splits, specs.Table.keeps, specs.Table.opening, specs.Table.step, proofs.Lists.at_set, proofs.Lists.at_snoc, specs.Seated.TableId}
pub use native.Mathlib.Decide.{dec_le}
pub use Rattle.rds_sync.specs.Rules.{RuleNumbers}

use Rattle.rds_abi.proofs.{Shared.ap, Shared.◌∙◌, Shared.totals_in_c, Streams.laid_out}
use Rattle.rds_abi.proofs.stream.stream_in_c.Goals as goal

pub returns-clause-says : goal.returns-clause-says
returns-clause-says c =
    let live = c.args.live.now in
    laid_out live 0x31534452 1 c.rules_in_c.result c.place.result c.state_in_c.result c.totals_in_c.result c.tail_in_c.result
    c.place.ensures.value
    (c.state_in_c.ensures.says live.terms.rules live.place c.state.ensures.lawful ∙ c.state.ensures.value)
    (c.totals_in_c.ensures ∙ ap totals_in_c c.totals.ensures)
    (rw c.tail.ensures.value at c.tail_in_c.ensures.says)
    (rw c.tail.ensures.value at c.tail.ensures.count)

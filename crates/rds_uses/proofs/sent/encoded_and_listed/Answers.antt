use Rattle.rds_uses.proofs.Names.{IfSome_then, ◌≡◌}
use Rattle.rds_uses.proofs.Outcomes.{sent-text}
use Rattle.rds_uses.proofs.sent.encoded_and_listed.Goals as goal

pub returns : goal.returns
returns g c =
    let held : c.as_slice.result.now ≡ c.in_ok-bytes.bytes.items = cc in
    IfSome_then c.written-2.result c.written-2.ensures (λ listing listed. sent-text c.encoded_groups_are_listed.ensures.listed c.requires.0 c.requires.1 c.args.encode.now c.args.list.now
    c.args.lines.now c.in_ok-bytes.bytes.items c.as_slice.result.now listing.items c.requires.2 c.requires.3 held c.in_ok-bytes.ensures listed)

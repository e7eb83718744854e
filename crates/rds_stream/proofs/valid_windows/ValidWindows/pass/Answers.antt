use Rattle.rds_stream.proofs.Names.{◌≤◌, ap, arith, WindowsLeft}
use Rattle.rds_stream.proofs.valid_windows.ValidWindows.pass.Goals as goal

pub invariant_of-self : goal.invariant_of-self
invariant_of-self c =
    let inside = c.self.inside in
    let old = c.self.invariant in
    let after = c.from_on-self-inside in
    let ahead = after.ensures.ahead in
    let end = ap (λ (w : WindowsLeft). w.end) c.self.view_is in
    let low : inside.places.ahead ≤ after.result.ahead = omega (arith, ahead) in (
      after.ensures.places inside.recording.now old.0,
      λ more. omega (arith, low, old.1 (omega (arith, low, more))),
      omega (arith, ahead, old.2, c.requires.end, end),
      old.3,
      old.4,
    )

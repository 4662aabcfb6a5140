use Rattle.std.proofs.Common.{arith}
use Rattle.certificate_check.specs.Failures.{HasTilings}
use Rattle.certificate_check.proofs.checking.check_behind.Goals as goal

pub check_locals-requires : goal.check_locals-requires
check_locals-requires g c =
    let tiled : HasTilings c.args.given.now c.deref.result.now = rw c.deref.ensures.value (record { len = c.in_ok-tiled.ensures.len; tilings = c.in_ok-tiled.ensures.tiled }) in
    (omega arith, (c.requires.order, (c.requires.nodes, (c.requires.points, (c.requires.multipoles, (c.requires.entries, tiled))))))

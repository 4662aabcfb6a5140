use Rattle.std.proofs.Common.{◌≡◌, ◌-◌, drop, take, length, arith, length-take, length-drop}
use Rattle.std.proofs.lemmas.Grind.{common_steps}
use Rattle.io_ports.proofs.Transfers.{Appends-next}
use Rattle.io_ports.proofs.transfer.put.Goals as goal

pub loop-done-preserved : goal.loop-done-preserved
loop-done-preserved g c =
    let taken = simp (length-take, length-drop) at c.in-Ok.ensures.bound.0 in
    let piece : take (length c.args.bytes.now - c.loop-done.done) (drop c.loop-done.done c.args.bytes.now) ≡ drop c.loop-done.done c.args.bytes.now = grind (arith, common_steps) in
    record {
      within = omega (arith, taken);
      put = Appends-next _ _ _ c.loop-done.done c.in-Ok.count c.args.bytes.now c.loop-done.invariant.put (rw piece at c.in-Ok.ensures.bytes);
      faults = omega (arith, c.loop-done.invariant.faults, c.in-Ok.ensures.cause.passed);
    }

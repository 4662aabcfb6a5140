use Rattle.std.proofs.Common.{◌≡◌, ◌+◌, ◌≤◌, ◌<◌, ◌++◌, take, length, refl, arith, vec_len}
use Rattle.std.proofs.KnownBytes.{Consumes-trans}
use Rattle.io_ports.proofs.Transfers.{length-came}
use Rattle.io_ports.specs.declared.transfer.TheConstants.{READ_SIZE}
use Rattle.io_ports.proofs.transfer.read_all.Goals as goal

pub returns-then-count-room-clause-came : goal.returns-then-count-room-clause-came
returns-then-count-room-clause-came g c =
    let came = c.loop-count.bytes.items ++ take c.in-Ok.count c.read.new.into in
    let size : length came ≡ vec_len c.loop-count.bytes + c.in-Ok.count = length-came c.loop-count.bytes.items c.read.new.into _ _ c.loop-count.bytes.ok.0 c.in-Ok.ensures.bound.0 in
    let few : length came ≤ c.args.limit + READ_SIZE = omega (arith, size, c.in-Ok.ensures.bound.0, c.loop-count.invariant.chunk, c.loop-count.invariant.within) in
    let long : c.args.limit < length came = omega (arith, size, c.if-count-room.true, c.len.ensures) in
    (came, Consumes-trans _ _ _ _ _ c.loop-count.invariant.came c.in-Ok.ensures.bytes.0, few, (λ _. long, λ _. refl))

pub returns-then-is_err-clause-came : goal.returns-then-is_err-clause-came
returns-then-is_err-clause-came g c =
    let came = c.loop-count.bytes.items ++ take c.in-Ok.count c.read.new.into in
    let size : length came ≡ vec_len c.loop-count.bytes + c.in-Ok.count = length-came c.loop-count.bytes.items c.read.new.into _ _ c.loop-count.bytes.ok.0 c.in-Ok.ensures.bound.0 in
    let within : length came ≤ c.args.limit = omega (arith, size, c.if-count-room.false, c.len.ensures, c.loop-count.invariant.within) in
    let few : length came ≤ c.args.limit + READ_SIZE = omega (arith, within) in
    (came, Consumes-trans _ _ _ _ _ c.loop-count.invariant.came c.in-Ok.ensures.bytes.0, few, (λ e. absurd (cc), λ h. absurd (omega (arith, h, within))))

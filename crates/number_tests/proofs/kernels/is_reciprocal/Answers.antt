use Rattle.std.proofs.Common.{◌+◌, ◌^◌, lit≤}
use Rattle.complex_box.specs.Box.{box_ends, number}
use Rattle.complex_box.proofs.Sizes.{gscale_fits}
use Rattle.number_tests.proofs.kernels.is_reciprocal.Goals as goal

pub gscale-one-requires : goal.gscale-one-requires
gscale-one-requires g c = gscale_fits (2 ^ 39 + 1) 3 (box_ends c.entry.result) (number c.args.e) c.entry.ensures.size c.requires.near.re c.requires.near.im (lit≤ tt)

-- States and points from the seed 0, computed from the definitions and compared with ones that were worked out elsewhere.
use Rattle.std.proofs.Common.{◌≡◌, refl, pos, negsuc, [], ◌∷◌, map}
use Rattle.std.specs.List.{range_with_len}
use Rattle.points.specs.declared.Kind.TheVariants.{Charge}
use Rattle.point_sample.specs.Generator.{state_after}
use Rattle.point_sample.specs.Sample.{next_point, sample}

states : map (state_after 0) (range_with_len 1 9)
    ≡ 0x3C6EF35F ∷ 0x47502932 ∷ 0xD1CCF6E9 ∷ 0xAAF95334 ∷ 0x6252E503 ∷ 0x9F2EC686 ∷ 0x57FE6C2D ∷ 0xA3D95FA8 ∷ 0x81FDBEE7 ∷ []
unfolding state_after
states = refl

points : (sample 0 2).list
    ≡ record { x = negsuc 32526; y = negsuc 32482; kind = Charge (pos 748) }
    ∷ record { x = negsuc 30221; y = negsuc 31360; kind = Charge (pos 261) } ∷ []
unfolding state_after next_point
points = refl

-- The rules can be met: one charge 1 at (0, 0) and a target at (1, 0) in one leaf, at order 4.
use Rattle.std.proofs.Common.{◌≡◌, refl, sym, ◌∙◌, ℕ, zero, suc, ◌<◌, ◌≤◌, arith, true, [], ◌∷◌}
use Rattle.std.specs.Prelude.{pos, All}
use Rattle.std.specs.List.{count_by}
use Rattle.std.proofs.lemmas.Bool.{true≢false}
use Rattle.std.proofs.lemmas.Int.{ints}
use Rattle.exact_math.specs.Ends.{BoxEnds, zero_box, BoxEndsInside}
use Rattle.exact_math.specs.Gaussian.{gaussian}
use Rattle.cell_name.specs.Square.{Square}
use Rattle.letters.specs.declared.Entry.{Entry}
use Rattle.letters.specs.declared.Letter.TheVariants.{U}
use Rattle.points.specs.declared.Kind.TheVariants.{Charge}
use Rattle.row_recursions.proofs.Worked.{box}
use Rattle.row_recursions.specs.Rows.{source_moment, local_value, local_round, powers}
use Rattle.soundness.specs.Accounts.{LeafSource, LeafTarget, Accounting, under, is_leaf, accounts}
use Rattle.soundness.specs.Computed.{computed_leaf_row, computed_local_row, computed_local_radius, computed_target_box}
use Rattle.soundness.specs.Rules.{RowInside, SourceStands, TargetStands, Apart, IsTiled, LocalHolds, BoxHolds, Rules}
use Rattle.soundness.specs.Soundness.{BoxesContain}
use Rattle.soundness.proofs.Inside.{BoxEndsInside-same}
use Rattle.soundness.proofs.Targets.{boxes_contain}

abbrev whole_grid : Square
whole_grid = record { grid = 16; level = 0; i = 0; j = 0 }

abbrev charge : LeafSource
charge = record { point = record { x = pos 0; y = pos 0; kind = Charge (pos 1) }; leaf = 0 }

-- 1 in units of 2^-40
abbrev target : LeafTarget
target = record { place = gaussian (pos 1) (pos 0); leaf = 0; box = box (pos 1099511627776) (pos 1099511627776) (pos 0) (pos 0) }

abbrev near : Entry
near = record { letter = U; b = 0; c = 0 }

abbrev given_row : ℕ → BoxEnds
given_row zero = box (pos 1099511627776) (pos 1099511627776) (pos 0) (pos 0)
given_row (suc k) = zero_box

abbrev presented : Accounting
presented = record {
  nodes = 1;
  parent = λ n. 0;
  cell = λ n. whole_grid;
  sources = charge ∷ [];
  targets = target ∷ [];
  entries = near ∷ [];
  multipole = λ n. given_row;
  local = λ n k. zero_box;
  radius = λ n. 0;
}

-- a fact of the only member
pub only : {X : Type 0} (P : X → Type 0) (x : X) → P x → All P (x ∷ [])
only P x h zero d l = h
only P x h (suc k) d l = absurd (omega arith)

at_zero : (P : ℕ → Type 0) → P 0 → (n : ℕ) → n < 1 → P n
at_zero P h zero l = h
at_zero P h (suc n) l = absurd (omega arith)

below_four : (P : ℕ → Type 0) → P 0 → P 1 → P 2 → P 3 → (k : ℕ) → k < 4 → P k
below_four P a b c d zero l = a
below_four P a b c d (suc zero) l = b
below_four P a b c d (suc (suc zero)) l = c
below_four P a b c d (suc (suc (suc zero))) l = d
below_four P a b c d (suc (suc (suc (suc k)))) l = absurd (omega arith)

leaf_row_inside : RowInside 4 (computed_leaf_row presented 0) given_row
unfolding under source_moment powers
leaf_row_inside = below_four (λ k. BoxEndsInside (computed_leaf_row presented 0 k) (given_row k)) (BoxEndsInside-same refl) (BoxEndsInside-same refl) (BoxEndsInside-same refl) (BoxEndsInside-same refl)

local_row_inside : RowInside 4 (computed_local_row 4 presented 0) (λ k. zero_box)
local_row_inside k l = BoxEndsInside-same refl

radius_at_least : computed_local_radius 4 presented 0 ≤ 0
radius_at_least = omega arith

box_inside : BoxEndsInside (computed_target_box 4 presented target) target.box
unfolding under local_value local_round
box_inside = BoxEndsInside-same refl

accounted_once : count_by (accounts presented 0 charge) presented.entries ≡ 1
unfolding under
accounted_once = refl

source_stands : SourceStands presented charge
source_stands = record {
  in_range = omega arith;
  leaf = refl;
  held = record { re = record { above = omega (arith, ints); below = omega (arith, ints) }; im = record { above = omega (arith, ints); below = omega (arith, ints) } };
}

target_stands : TargetStands presented target
target_stands = record {
  in_range = omega arith;
  held = record { re = record { above = omega (arith, ints); below = omega (arith, ints) }; im = record { above = omega (arith, ints); below = omega (arith, ints) } };
}

rules_met : Rules 4 presented
rules_met = record {
  root = refl;
  parents = λ n h. h;
  quarters = λ n h l. absurd (omega arith);
  sources = only (SourceStands presented) charge source_stands;
  targets = only (TargetStands presented) target target_stands;
  in_range = only (λ e. e.c < 1) near (omega arith);
  apart = only (λ e. Apart presented e.letter e.b e.c) near tt;
  tiled = only (λ t. IsTiled presented t.leaf) target (only (λ x. count_by (accounts presented 0 x) presented.entries ≡ 1) charge accounted_once);
  multipoles = λ n l. record {
    of_leaf = λ e. at_zero (λ n. RowInside 4 (computed_leaf_row presented n) given_row) leaf_row_inside n l;
    of_inner = λ e. absurd (true≢false (sym (at_zero (λ n. is_leaf presented n ≡ true) refl n l) ∙ e));
  };
  locals = λ n l u. at_zero (λ n. LocalHolds 4 presented n) (record { row = local_row_inside; radius = radius_at_least }) n l;
  boxes = only (BoxHolds 4 presented) target box_inside;
}

-- so the box contains the direct sum, which is 1
sum_contained : BoxesContain presented
sum_contained = boxes_contain 4 presented (omega arith) rules_met

-- Rows of zeros.
use Rattle.std.proofs.Common.{◌≡◌, ap, ◌∙◌, subst, sym, ℕ, replicate}
use Rattle.std.proofs.lemmas.List.{get_or-replicate}
use Rattle.exact_math.specs.Ends.{BoxEndsWithin, zero_box}
use Rattle.complex_box.specs.Box.{box_ends}
use Rattle.complex_box.specs.Rows.{zero_cbox}
use Rattle.complex_box.specs.declared.CBox.{CBox}
use Rattle.complex_box.proofs.Sizes.{zero_within}
use Rattle.row_recursions.specs.Rows.{row_of}
use Rattle.row_recursions.specs.Sizes.{RowWithin}

-- at any order
pub zero_row : (P n : ℕ) (z : CBox) → box_ends z ≡ zero_box → RowWithin P n (row_of (replicate P z))
zero_row P n z e k h = subst (BoxEndsWithin n) (sym (ap box_ends (get_or-replicate P k z zero_cbox h) ∙ e)) (zero_within n)

pub zeros_within : (n : ℕ) (z : CBox) → box_ends z ≡ zero_box → RowWithin 4 n (row_of (replicate 4 z))
zeros_within = zero_row 4

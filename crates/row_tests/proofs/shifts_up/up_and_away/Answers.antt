use Rattle.std.proofs.Common.{rules, ◌∙◌, ap, arith, replicate, lit<}
use Rattle.std.proofs.lemmas.List.{get_or-replicate}
use mathlib.Core.Logic.{inl}
use mathlib.Core.Path.{refl}
use Rattle.complex_box.specs.Box.{box_ends}
use Rattle.complex_box.specs.Rows.{zero_cbox}
use Rattle.row_recursions.specs.Rows.{row_of}
use Rattle.row_recursions.proofs.RowWrites.{has_all}
use Rattle.row_tests.proofs.shifts_up.up_and_away.Goals as goal

pub take_up-requires : goal.take_up-requires
take_up-requires g c = (
  lit< tt,
  (
    inl refl,
    (
      c.shift_up.ensures.len,
      (
        λ k h. search rules,
        (
          has_all 4 (row_of (replicate 4 c.zero-row.result)) _ _ c.shift_up.ensures.adds (λ k h. ap box_ends (get_or-replicate 4 k c.zero-row.result zero_cbox h) ∙ c.zero-row.ensures.ends),
          omega (arith, c.shift_up.ensures.work.translations, c.new-work.ensures.translations),
        ),
      ),
    ),
  ),
)

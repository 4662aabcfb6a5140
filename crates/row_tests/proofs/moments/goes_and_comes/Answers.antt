use Rattle.std.proofs.Common.{◌∙◌, ap, replicate}
use Rattle.std.proofs.lemmas.List.{get_or-replicate}
use Rattle.complex_box.specs.Box.{box_ends}
use Rattle.complex_box.specs.Rows.{zero_cbox}
use Rattle.row_recursions.specs.Rows.{row_of}
use Rattle.row_recursions.proofs.RowWrites.{has_all}
use Rattle.row_tests.proofs.moments.goes_and_comes.Goals as goal

pub take_source-requires-clause-part : goal.take_source-requires-clause-part
take_source-requires-clause-part g c = has_all 4 (row_of (replicate 4 c.zero-row.result)) _ _ c.add_source.ensures.adds (λ k h. ap box_ends (get_or-replicate 4 k c.zero-row.result zero_cbox h) ∙ c.zero-row.ensures.ends)

-- One more radius and one more row.
use Rattle.std.proofs.Common.{◌≡◌, ◌++◌, [], ◌∷◌, to_z, of_z, ap, ap₂, ◌∙◌, arith}
use Rattle.std.proofs.lemmas.Int.{ints}
use Rattle.std.specs.Int.{w128}
use Rattle.cert_text.specs.Rows.{local_numbers, local_rows}
use Rattle.cert_text.proofs.StoredRows.{local_push}
use Rattle.cert_text.proofs.local_rows.LocalRows.push_row.Goals as goal

pub returns-clause-pushed : goal.returns-clause-pushed
returns-clause-pushed c =
    let held : to_z w128 (of_z w128 c.args.radius) ≡ c.args.radius = omega (arith, ints) in
    let radii : c.push_reserved.new.self.items ≡ c.self.inside.radii.items ++ c.args.radius ∷ [] = c.push_reserved.ensures.items ∙ ap₂ (λ l x. l ++ x ∷ []) c.reserve.ensures.items held in
    ap₂ local_rows radii c.in_ok-push.ensures.pushed ∙ local_push c.self.inside.radii.items c.self.inside.rows c.args.radius c.args.ends.now c.self.invariant ∙ ap (λ l. l ++ local_numbers c.args.radius c.args.ends.now ∷ []) c.self.view_is

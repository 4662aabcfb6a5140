-- Each part is a run, and each place lies in one.
use Rattle.std.proofs.Common.{rules, ℕ, ◌≡◌, ◌+◌, subst, arith, lit<}
use Rattle.field_basis.specs.MadePlaces.{IsMadeUp}
use Rattle.field_basis.specs.Place.{PlaceModel, no_place, place_at}
use Rattle.row_phases.proofs.up.run_by_crew.Goals as goal

pub for_each_chunk_mut-requires-clause-accepts : goal.for_each_chunk_mut-requires-clause-accepts
for_each_chunk_mut-requires-clause-accepts g c κs within start p chunk = (
  lit< tt,
  (
    search rules,
    (
      (
        record {
          in_range = omega (arith, chunk.in_bounds, c.requires.run.in_range);
          quarters = λ n from before. c.requires.run.quarters n (omega (arith, from)) (omega (arith, before, chunk.in_bounds));
        },
        omega (arith, chunk.in_bounds, chunk.nonempty, c.requires.few),
        omega (arith, chunk.nonempty, chunk.at_most_size),
      ),
      search rules,
    ),
  ),
)

pub returns : goal.returns
returns g c k lt =
    let here = (c.for_each_chunk_mut.ensures.by_index k no_place lt).1 in
    let made : ℕ → PlaceModel → Type 0 = IsMadeUp g.row.P c.args.basis.now.points c.args.basis.now.tree in
    let e : c.args.first + here.start + here.offset ≡ c.args.first + k = omega (arith, here.start_plus_offset) in
    subst (made (c.args.first + k)) {y = place_at c.for_each_chunk_mut.new.s k} here.new_element (subst (λ n. made n (place_at here.after_call.now here.offset)) e (here.call here.offset here.offset_in_chunk))

-- Each part is a run of its own, and each place lies in one.
use Rattle.std.proofs.Common.{rules, length, arith, lit<}
use Rattle.exact_math.proofs.Orders.{order_bounds}
use Rattle.field_basis.specs.MadePlaces.{IsMadeLocal}
use Rattle.field_basis.specs.Place.{no_place, place_at}
use Rattle.row_phases.proofs.DownLevels.{few_cells, part_of_run, place_in_run}
use Rattle.row_phases.proofs.down.run_by_crew.Goals as goal

pub for_each_chunk_mut-requires-clause-accepts : goal.for_each_chunk_mut-requires-clause-accepts
for_each_chunk_mut-requires-clause-accepts g c κs within start p chunk =
    let run = c.requires.run in
    let bounds = order_bounds g.row.P run.basis.order in
    let few = few_cells g.row.P c.args.basis.now run.basis in (
      lit< tt,
      (
        omega (arith, bounds),
        (
          (
            part_of_run g.row.P c.args.basis.now c.args.up.now c.args.above.now c.args.first (length c.args.run.now) start (length p.now) run chunk.in_bounds,
            omega (arith, few, run.in_range, chunk.in_bounds),
            omega (arith, chunk.nonempty, chunk.at_most_size),
          ),
          search rules,
        ),
      ),
    )

pub returns-clause-made : goal.returns-clause-made
returns-clause-made g c k h =
    let at = (c.for_each_chunk_mut.ensures.by_index k no_place h).1 in
    place_in_run (IsMadeLocal g.row.P c.args.basis.now) c.args.first at.start at.offset k (place_at at.after_call.now at.offset) (place_at c.for_each_chunk_mut.new.s k) at.start_plus_offset at.new_element (at.call at.offset at.offset_in_chunk)

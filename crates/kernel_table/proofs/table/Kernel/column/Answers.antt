use Rattle.std.proofs.Common.{◌∙◌, sym}
use Rattle.complex_box.specs.Box.{number}
use Rattle.kernel_table.proofs.Lookups.{found_column}
use Rattle.kernel_table.proofs.table.Kernel.column.Goals as goal

pub returns : goal.returns
returns g c =
    let kernel = c.args.self.now in
    found_column g.row.P c.distance_index.result c.args.l kernel.entries.items c.deref.result.now (number c.args.e) kernel.table (sym kernel.entries.ok.0 ∙ kernel.len)
    c.distance_index.ensures.index c.distance_index.ensures.value c.requires.index c.deref.ensures.value

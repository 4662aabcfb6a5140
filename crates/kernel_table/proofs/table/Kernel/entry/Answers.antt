use Rattle.std.proofs.Common.{◌∙◌, ap, sym, subst, arith, pos, ◌+◌, ◌^◌}
use Rattle.exact_math.specs.Ends.{BoxEndsContain, BoxEndsNarrow, BoxEndsWithin}
use Rattle.complex_box.specs.Box.{box_ends, number}
use Rattle.kernel_table.specs.Kernel.{KernelEntryHolds, kernel_fraction}
use Rattle.kernel_table.proofs.Entries.{kernel_entries}
use Rattle.kernel_table.proofs.Lookups.{found}
use Rattle.kernel_table.proofs.table.Kernel.entry.Goals as goal
use Rattle.kernel_table.proofs.table.Kernel.entry.Given.{Over}

pub returns-clause-ends : goal.returns-clause-ends
returns-clause-ends g c =
    let kernel = c.args.self.now in
    ap box_ends c.index.ensures ∙ found g.row.P c.distance_index.result c.args.k c.args.l kernel.entries.items (number c.args.e) kernel.table (sym kernel.entries.ok.0 ∙ kernel.len)
    c.distance_index.ensures.index c.distance_index.ensures.value c.requires.first c.requires.second _

-- what the entry keeps
holds : (g : Over) (c : goal.After-result-1 g) → KernelEntryHolds (number c.args.e) c.args.k c.args.l
holds g c = kernel_entries (number c.args.e) c.args.k c.args.l c.requires.distance (omega (arith, c.requires.first, c.requires.second, c.args.self.now.order))

pub returns-clause-contains : goal.returns-clause-contains
returns-clause-contains g c = subst (λ b. BoxEndsContain (pos (2 ^ 40)) b (kernel_fraction (number c.args.e) c.args.k c.args.l)) (sym (returns-clause-ends g c)) (holds g c).contains

pub returns-clause-narrow : goal.returns-clause-narrow
returns-clause-narrow g c = subst (BoxEndsNarrow 2) (sym (returns-clause-ends g c)) (holds g c).narrow

pub returns-clause-size : goal.returns-clause-size
returns-clause-size g c = subst (BoxEndsWithin (2 ^ 39 + 1)) (sym (returns-clause-ends g c)) (holds g c).size

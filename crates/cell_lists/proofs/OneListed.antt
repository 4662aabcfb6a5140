-- Exactly one entry of the lists accounts for each pair of a target and a source.
use Rattle.std.proofs.Common.{◌<◌, sym, ◌∙◌, subst}
use Rattle.std.proofs.lemmas.List.Elements.{All-contains}
use Rattle.limits.proofs.Grids.{grid_positive}
use Rattle.cell_name.specs.Square.{Square}
use Rattle.quadtree.specs.TreeModel.{TreeModel, size, square_of}
use Rattle.cell_lists.specs.Entries.{IsEntry, Accounts}
use Rattle.cell_lists.specs.EntryLists.{lists_of, EntryListsModel}
use Rattle.cell_lists.specs.Lists.{AreLists, EachPairHasOneListed}
use Rattle.cell_lists.specs.ListAt.{list_at}
use Rattle.cell_lists.proofs.CellNumbers.{number_listed, same_number}
use Rattle.cell_lists.proofs.OneEntry.{in_tree_of, each_pair_has_one_entry}

pub each_pair_has_one_listed : (tree : TreeModel) (lists : EntryListsModel) → AreLists tree lists → EachPairHasOneListed tree lists
each_pair_has_one_listed tree lists are points cap inside h target source given =
    let o = each_pair_has_one_entry tree.grid points cap target source (grid_positive tree.grid h.known_grid) inside given in
    let cells = in_tree_of tree.grid points cap o.letter o.b o.c o.entry.pair in
    let nb = number_listed tree o.b (h.cells_are.whole o.b cells.0) in
    let nc = number_listed tree o.c (h.cells_are.whole o.c cells.1) in
    let P : Square → Type 0 = λ s. IsEntry tree.grid points cap o.letter s o.c in
    let Q : Square → Type 0 = λ s. IsEntry tree.grid points cap o.letter (square_of tree nb.0) s in
    let R : Square → Type 0 = λ s. Accounts s o.c target source in
    let S : Square → Type 0 = λ s. Accounts (square_of tree nb.0) s target source in
    record {
      letter = o.letter;
      b = nb.0;
      c = nc.0;
      in_range = nb.1;
      listed = ((are.each points cap inside h o.letter nb.0 nb.1).exact nc.0 nc.1).1 (subst Q (sym nc.2) (subst P (sym nb.2) o.entry));
      accounts = subst S (sym nc.2) (subst R (sym nb.2) o.accounts);
      no_other = λ letter' b' c' lt listed accounts.
          let is = are.each points cap inside h letter' b' lt in
          let lc : c' < size tree = All-contains (λ c. c < size tree) (list_at (lists_of lists letter') b') c' is.numbers listed in
          let same = o.no_other letter' (square_of tree b') (square_of tree c') ((is.exact c' lc).0 listed) accounts in
          (same.0, same_number tree h.cells_are.ascending b' nb.0 lt nb.1 (same.1 ∙ sym nb.2), same_number tree h.cells_are.ascending c' nc.0 lc nc.1 (same.2 ∙ sym nc.2));
    }

-- The entries of a field are few enough to be counted.
use Rattle.std.proofs.Common.{ℕ, ◌≡◌, ◌*◌, ◌<◌, ◌≤◌, List, [], length, sym, subst, arith}
use Rattle.std.proofs.Math.Nat.{mul-le-mul}
use Rattle.std.proofs.lemmas.List.Elements.{All-from_get_or}
use Rattle.std.proofs.lemmas.List.Sums.{sum_by-le}
use Rattle.std.proofs.lemmas.Map.Keys.{sorted_from_strictly_increasing}
use Rattle.std.proofs.lemmas.Map.Views.{length-le_from_below}
use Rattle.std.specs.Prelude.{All}
use Rattle.cell_lists.specs.EntryLists.{EntryListsModel, lists_of}
use Rattle.cell_lists.specs.ListAt.{list_at}
use Rattle.cell_lists.specs.Lists.{AreLists}
use Rattle.field_solve.specs.Field.{IsSolved}
use Rattle.field_solve.specs.Parts.{FieldParts}
use Rattle.letters.specs.declared.Letter.{Letter}
use Rattle.limits.proofs.Grids.{within_widest}
use Rattle.limits.specs.Limits.{grid_of, most_cells, widest_grid}
use Rattle.points.specs.Limits.{WithinLimits}
use Rattle.points.specs.declared.Point.{Point}
use Rattle.points.specs.declared.Points.{Points}
use Rattle.quadtree.proofs.Limits.{in_grid}
use Rattle.quadtree.specs.Tree.{AreInGrid}
use Rattle.quadtree.specs.TreeModel.{TreeModel, size, IsTreeOf}
use Rattle.field_certificate.specs.ProgramLines.{FewEntries, total_of}

-- each cell lists each cell of the tree at most once
module _ (tree : TreeModel) (lists : EntryListsModel) (points : List Point) (cap : ℕ) (inside : AreInGrid tree.grid points) (is : IsTreeOf tree points cap) (are : AreLists tree lists) where
  few_cells : size tree ≤ most_cells widest_grid
  few_cells = omega (arith, is.few, (within_widest tree.grid is.known_grid).cells)

  short_list : (letter : Letter) (b : ℕ) → b < length (lists_of lists letter) → length (list_at (lists_of lists letter) b) ≤ size tree
  short_list letter b lt =
      let list = are.each points cap inside is letter b (omega (arith, lt, are.as_many letter)) in
      length-le_from_below (size tree) (list_at (lists_of lists letter) b) (sorted_from_strictly_increasing (list_at (lists_of lists letter) b) list.ascending) list.numbers

  pub few_listed : FewEntries lists
  few_listed letter =
      let short : All (λ (list : List ℕ). length list ≤ size tree) (lists_of lists letter) = All-from_get_or (λ (list : List ℕ). length list ≤ size tree) (lists_of lists letter) [] (short_list letter) in
      let total : total_of lists letter ≤ length (lists_of lists letter) * size tree = sum_by-le (λ (list : List ℕ). length list) (size tree) (lists_of lists letter) short in
      let many : length (lists_of lists letter) ≤ most_cells widest_grid = omega (arith, are.as_many letter, few_cells) in
      let square : length (lists_of lists letter) * size tree ≤ most_cells widest_grid * most_cells widest_grid = mul-le-mul many few_cells in
      omega (arith, total, square)

-- those of a field whose points are within their limits
pub few_entries : (points : Points) (cap P : ℕ) (f : FieldParts) → WithinLimits points → IsSolved points.list cap P f → f.basis.tree.grid ≡ grid_of points.version → FewEntries f.basis.lists
few_entries points cap P f limits solved e =
    few_listed f.basis.tree f.basis.lists points.list cap (subst (λ g. AreInGrid g points.list) (sym e) (in_grid (grid_of points.version) points.list limits.within.range)) solved.is_tree solved.lists_are

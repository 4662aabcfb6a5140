-- The field of a list of points, as a solve keeps it.
use Rattle.std.specs.Prelude.{ℕ, ◌≡◌, ◌+◌, ◌*◌, ◌≤◌, List, length, map, sum_by}
use Rattle.exact_math.specs.Orders.{IsOrder}
use Rattle.cell_lists.specs.Lists.{AreLists}
use Rattle.complex_box.specs.Box.{box_ends}
use Rattle.field_basis.specs.FieldPlaces.{AreAllMultipolePlaces, AreAllLocalPlaces}
use Rattle.letters.specs.declared.Letter.TheVariants.{V}
use Rattle.points.specs.declared.Point.{Point}
use Rattle.quadtree.specs.TreeModel.{IsTreeOf}
use Rattle.tree_field.specs.Field.{target_boxes}
use Rattle.tree_field.specs.Lists.{TreeLists, OfTreeLists}
use Rattle.tree_field.specs.Work.{translations, pairs}
use Rattle.field_solve.specs.Parts.{FieldParts}

-- Boxes of the targets and counts are those of the field over these lists. So the translations are at most the V entries and twice the cells.
pub record IsFieldOver (points : List Point) (cap P : ℕ) (lists : TreeLists) (f : FieldParts) : Type 0 where
  pub values_are : map box_ends f.values ≡ target_boxes points cap P lists
  pub translations_are : f.translations ≡ translations points lists
  pub few : f.translations ≤ sum_by (λ b. length (lists.entries V b)) lists.cells + 2 * length lists.cells
  pub pairs_are : f.pairs ≡ pairs points lists

-- the field of the points with a leaf capacity at an order:
-- the tree is theirs, all rows and radii are those of the field, and so are boxes and counts over the lists of the tree
pub record IsSolved (points : List Point) (cap P : ℕ) (f : FieldParts) : Type 0 where
  pub order : IsOrder P
  pub points_are : f.basis.points ≡ points
  pub cap_is : f.basis.cap ≡ cap
  pub is_tree : IsTreeOf f.basis.tree points cap
  pub lists_are : AreLists f.basis.tree f.basis.lists
  pub up_are : AreAllMultipolePlaces P f.basis.points f.basis.tree f.up
  pub local_are : AreAllLocalPlaces P f.basis f.local
  pub over : OfTreeLists f.basis.tree.grid points cap (λ lists. IsFieldOver points cap P lists f)

-- Each line of the certificate of a field is of its form and in its range.
use Rattle.std.proofs.Common.{ℕ, zero, suc, ◌≡◌, ◌+◌, ◌*◌, ◌^◌, ◌<◌, ◌≤◌, inl, inr, Bool, true, false, not, cond, List, length, get_or, map, refl, sym, ap, ◌∙◌, subst, arith}
use Rattle.std.specs.Prelude.{pos, All}
use Rattle.std.proofs.lemmas.Bool.{cases_lt}
use Rattle.std.proofs.lemmas.Int.{ints}
use Rattle.std.proofs.lemmas.List.{length-map}
use Rattle.std.proofs.lemmas.List.Elements.{All-map, Contains-get_or}
use Rattle.std.proofs.lemmas.List.FromFn.{length-map-range_with_len}
use Rattle.std.proofs.lemmas.List.Sums.{length-filter, count_by-le-length}
use Rattle.exact_math.specs.Ends.{BoxEnds, zero_box}
use Rattle.exact_math.proofs.Orders.{order_bounds}
use Rattle.cell_lists.proofs.OneEntry.{in_tree_of}
use Rattle.cell_name.specs.Square.{Square}
use Rattle.cell_name.proofs.Cells.{IsCellName, square_at-name}
use Rattle.cert_text.specs.declared.section.Section.TheVariants.{Node, At, Multipole, Entry, Local, Target}
use Rattle.cert_text.specs.Certificate.{Certificate, IsCertificate, lines_of}
use Rattle.cert_text.specs.Sections.{IsNumberBelow, IsParentOf, IsHead, AreLinesFrom}
use Rattle.cert_text.proofs.Places.{lines_append}
use Rattle.limits.specs.Limits.{IsGrid, grid_of, most_weight, most_points, most_cells, most_entries, most_multipole, most_local, most_box, most_given_multipole, most_given_local, most_given_target}
use Rattle.limits.proofs.Grids.{version_has_grid, grid_cases, grid_positive}
use Rattle.points.specs.Limits.{total_weight}
use Rattle.points.specs.Points.{is_source, place}
use Rattle.points.specs.declared.Point.{Point}
use Rattle.points.specs.declared.Points.{Points}
use Rattle.quadtree.specs.Tree.{AreInGrid, IsTreeCell, has_target}
use Rattle.quadtree.proofs.Ascending.{ascending_differ}
use Rattle.quadtree.proofs.Distinct.{All-flat_map}
use Rattle.quadtree.proofs.Limits.{in_grid}
use Rattle.quadtree.proofs.Parents.{cell_of_point}
use Rattle.soundness.specs.Accounts.{Accounting, LeafTarget}
use Rattle.tree_field.specs.Accounting.{cell_at, above, of_cell, leaf_number, leaf_source, leaf_target, accounting}
use Rattle.tree_field.specs.Field.{targets, multipole_row, local_row, local_radius, target_box}
use Rattle.tree_field.specs.Lists.{TreeLists, AreTreeLists}
use Rattle.tree_field.specs.Sizes.{IsLimited}
use Rattle.tree_field.proofs.Accounts.{All-of_cell}
use Rattle.tree_field.proofs.Bounds.{rows_within, radii_within, boxes_within}
use Rattle.tree_field.proofs.Leaves.{leaf_number_below}
use Rattle.tree_field.proofs.LocalContents.{local_rows_held}
use Rattle.tree_field.proofs.MultipoleContents.{multipole_rows_held}
use Rattle.tree_field.proofs.Numbers.{tree_cell, number_below, above_root, above_first}
use Rattle.tree_field.proofs.Whole.{field_contains}
use Rattle.accounting_text.specs.Written.{node_line, at_line, multipole_line, entry_line, local_line, given_target_line, has_source_under}
use Rattle.soundness.specs.Accounts.{has_target_under}
use Rattle.letters.specs.declared.Entry as E
use Rattle.field_certificate.specs.FieldCertificate.{field_certificate}
use Rattle.field_certificate.specs.Laws.{CanBeCertified, FieldCertificateIsOne, FieldTextSpells}
use Rattle.field_certificate.proofs.BoxNumbers.{IsGiven, box_ordered, box_weaker, zero_given, numbers_of_target, numbers_of_row, count_of_row}
use Rattle.field_certificate.proofs.FieldLines.{leaves_are_numbers, entries_are_few}
use Rattle.field_certificate.proofs.SectionLines.{IsLineOf, whole_section, numbered_section}

-- ---- the limits of each grid are within what a certificate may give
by_grids : (Q : ℕ → Type 0) (grid : ℕ) → IsGrid grid → Q 16 → Q 20 → Q grid
by_grids Q grid is first widest = elim (grid_cases grid is) [ inl e ↦ subst Q (sym e) first | inr e ↦ subst Q (sym e) widest ]

multipole_fits : (grid : ℕ) → IsGrid grid → most_multipole grid ≤ most_given_multipole
multipole_fits grid is = by_grids (λ g. most_multipole g ≤ most_given_multipole) grid is (omega arith) (omega arith)

local_fits : (grid : ℕ) → IsGrid grid → most_local grid ≤ most_given_local
local_fits grid is = by_grids (λ g. most_local g ≤ most_given_local) grid is (omega arith) (omega arith)

radius_fits : (grid : ℕ) → IsGrid grid → 2 ^ 48 * most_weight grid ≤ most_given_local
radius_fits grid is = by_grids (λ g. 2 ^ 48 * most_weight g ≤ most_given_local) grid is (omega arith) (omega arith)

box_fits : (grid : ℕ) → IsGrid grid → most_box grid ≤ most_given_target grid
box_fits grid is = by_grids (λ g. most_box g ≤ most_given_target g) grid is (omega arith) (omega arith)

-- ---- numbers in range
below_is : (n m : ℕ) → m < n → IsNumberBelow n (pos m)
below_is n m lt = record { least = omega (arith, ints); most = omega (arith, ints, lt) }

module _ (points : Points) (cap P : ℕ) (lists : TreeLists) (given : CanBeCertified points cap P lists) where
  abbrev grid : ℕ
  grid = grid_of points.version

  abbrev ps : List Point
  ps = points.list

  abbrev A : Accounting
  A = accounting grid ps cap P lists

  abbrev C : Certificate
  C = field_certificate points cap P lists

  abbrev count : ℕ
  count = length lists.cells

  abbrev cell : ℕ → Square
  cell n = cell_at lists.cells n

  known : IsGrid grid
  known = version_has_grid points.version

  positive : 0 < grid
  positive = grid_positive grid known

  inside : AreInGrid grid ps
  inside = in_grid grid ps given.limits.within.range

  -- the same of the grid of the lists
  of_lists : (Q : ℕ → Type 0) → Q grid → Q lists.grid
  of_lists Q = subst Q (sym given.lists_are.of_grid)

  limited : IsLimited ps cap lists
  limited = record {
    known_grid = of_lists IsGrid known;
    in_grid = of_lists (λ g. AreInGrid g ps) inside;
    light = of_lists (λ g. total_weight ps ≤ most_weight g) given.limits.within.weight;
    lists_are = of_lists (λ g. AreTreeLists g ps cap lists) given.lists_are;
  }

  in_tree : (n : ℕ) → n < count → IsTreeCell grid ps cap (cell n)
  in_tree = tree_cell grid ps cap lists.cells positive inside given.lists_are.cells_are

  tree_of_lists : (c : Square) → IsTreeCell grid ps cap c → IsTreeCell lists.grid ps cap c
  tree_of_lists c h = of_lists (λ g. IsTreeCell g ps cap c) h

  -- ---- rows, radii and boxes
  multipole_given : (c : Square) → IsTreeCell grid ps cap c → (k : ℕ) → k < P → IsGiven most_given_multipole (multipole_row ps cap c k)
  multipole_given c h k lt = record {
    within = box_weaker (most_multipole lists.grid) most_given_multipole (multipole_row ps cap c k) (of_lists (λ g. most_multipole g ≤ most_given_multipole) (multipole_fits grid known))
        ((rows_within ps cap P lists given.order.is_order limited c (tree_of_lists c h)).multipole k lt);
    ordered = box_ordered (multipole_row ps cap c k) _ ((multipole_rows_held grid ps cap P c positive inside h).contains k lt);
  }

  local_given : (b : Square) → IsTreeCell grid ps cap b → (k : ℕ) → k < P → IsGiven most_given_local (local_row ps cap P lists b k)
  local_given b h k lt = record {
    within = box_weaker (most_local lists.grid) most_given_local (local_row ps cap P lists b k) (of_lists (λ g. most_local g ≤ most_given_local) (local_fits grid known))
        ((rows_within ps cap P lists given.order.is_order limited b (tree_of_lists b h)).local k lt);
    ordered = box_ordered (local_row ps cap P lists b k) _ ((local_rows_held grid ps cap P lists b positive inside given.lists_are h).contains k lt);
  }

  row_given : (b : Square) (some : Bool) → IsTreeCell grid ps cap b → (k : ℕ) → k < P → IsGiven most_given_local (cond some (local_row ps cap P lists b) (λ k. zero_box) k)
  row_given b true h k lt = local_given b h k lt
  row_given b false h k lt = zero_given most_given_local

  radius_given : (b : Square) (some : Bool) → IsTreeCell grid ps cap b → cond some (local_radius ps cap P lists b) 0 ≤ most_given_local
  radius_given b true h =
      let fits : 2 ^ 48 * most_weight lists.grid ≤ most_given_local = of_lists (λ g. 2 ^ 48 * most_weight g ≤ most_given_local) (radius_fits grid known) in
      omega (arith, fits, radii_within ps cap P lists given.order.is_order limited b (tree_of_lists b h))
  radius_given b false h = omega arith

  boxes_given : All (λ t. IsGiven (most_given_target grid) (target_box ps cap P lists (place t))) (targets ps)
  boxes_given k d lt = record {
    within = box_weaker (most_box lists.grid) (most_given_target grid) _ (of_lists (λ g. most_box g ≤ most_given_target grid) (box_fits grid known))
        (boxes_within ps cap P lists given.order.is_order limited k d lt);
    ordered = box_ordered _ _ (field_contains grid ps cap P lists positive (order_bounds P given.order.is_order).0 inside given.lists_are k d lt);
  }

  -- ---- nodes
  parent_in : (n : ℕ) → IsParentOf n (pos (above lists.cells n))
  parent_in zero = ap pos (above_root grid ps cap lists.cells positive inside given.lists_are.cells_are)
  parent_in (suc n) = below_is (suc n) _ (above_first grid ps cap lists.cells positive inside given.lists_are.cells_are (suc n) (omega arith))

  name_in : (c : Square) → IsTreeCell grid ps cap c → IsCellName c
  name_in c h =
      let found = cell_of_point grid ps c h.of_grid inside h.occupied in
      subst IsCellName (sym found.is_cell) (square_at-name grid c.level found.point.x found.point.y positive h.level_in_grid found.given.in_grid)

  node_in : (n : ℕ) → n < count → IsLineOf C.head Node n (node_line (above lists.cells n) (cell n))
  node_in n lt =
      let h = in_tree n lt in
      let name = name_in (cell n) h in
      (record { word_is = refl; count_is = refl }, (parent_in n, below_is (suc grid) _ (omega (arith, h.level_in_grid)), below_is _ _ name.column, below_is _ _ name.row))

  nodes_in : AreLinesFrom C.head 0 C.nodes
  nodes_in = numbered_section C.head Node 0 count (λ n. node_line (above lists.cells n) (cell n)) refl refl node_in

  -- ---- points
  ats_are : C.ats ≡ map at_line (map (leaf_number grid ps cap lists) ps)
  ats_are = ap (map at_line) (leaves_are_numbers (leaf_source grid ps cap lists) (leaf_target grid ps cap P lists) (leaf_number grid ps cap lists) (λ p. refl) (λ p. refl) ps)

  leaf_in : All (λ n. n < count) (map (leaf_number grid ps cap lists) ps)
  leaf_in = All-map (λ n. n < count) (leaf_number grid ps cap lists) ps (λ k d lt. leaf_number_below grid ps cap lists.cells positive inside given.lists_are.cells_are (get_or ps k d) (Contains-get_or ps k d lt))

  at_in : (ns : List ℕ) → All (λ n. n < count) ns → All (λ l. (n : ℕ) → IsLineOf C.head At n l) (map at_line ns)
  at_in ns h = All-map (λ l. (n : ℕ) → IsLineOf C.head At n l) at_line ns (λ k d lt n. (record { word_is = refl; count_is = refl }, below_is count _ (h k d lt)))

  ats_count : length C.ats ≡ length ps
  ats_count = ap length ats_are ∙ length-map (map (leaf_number grid ps cap lists) ps) at_line ∙ length-map ps (leaf_number grid ps cap lists)

  ats_all : All (λ l. (n : ℕ) → IsLineOf C.head At n l) C.ats
  ats_all = subst (All (λ l. (n : ℕ) → IsLineOf C.head At n l)) (sym ats_are) (at_in _ leaf_in)

  ats_in : AreLinesFrom C.head count C.ats
  ats_in = whole_section C.head At count C.ats refl ats_count (λ n lt. ats_all n _ lt n)

  -- ---- multipole rows
  multipole_in : (n : ℕ) (some : Bool) → n < count → IsLineOf C.head Multipole n (multipole_line P some (multipole_row ps cap (cell n)))
  multipole_in n true lt =
      (inr (record { word_is = refl; count_is = count_of_row P (multipole_row ps cap (cell n)) }), numbers_of_row most_given_multipole P (multipole_row ps cap (cell n)) (multipole_given (cell n) (in_tree n lt)))
  multipole_in n false lt = (inl (record { word_is = refl; count_is = refl }), tt)

  multipoles_in : AreLinesFrom C.head (count + length ps) C.multipoles
  multipoles_in =
      numbered_section C.head Multipole (count + length ps) count (λ n. multipole_line P (has_source_under A n) (A.multipole n)) refl refl
      (λ n lt. multipole_in n (has_source_under A n) lt)

  -- ---- entries
  abbrev IsEntryIn : E.Entry → Type 0
  IsEntryIn e = (e.b < count) × (e.c < count)

  entries_of_cell : (b : Square) → IsTreeCell grid ps cap b → All IsEntryIn (of_cell lists b)
  entries_of_cell b h = All-of_cell lists IsEntryIn b (λ letter k d lt.
      let is = (given.lists_are.entries_are letter b h).each k d lt in
      let both = in_tree_of grid ps cap letter b _ is.pair in
      (number_below grid ps cap lists.cells positive inside given.lists_are.cells_are _ both.0, number_below grid ps cap lists.cells positive inside given.lists_are.cells_are _ both.1))

  all_entries : All IsEntryIn A.entries
  all_entries = All-flat_map IsEntryIn (of_cell lists) lists.cells (λ b h. entries_of_cell b (subst (IsTreeCell grid ps cap) h.2 (given.lists_are.cells_are.each h.0 _ h.1)))

  entry_in : All (λ l. (n : ℕ) → IsLineOf C.head Entry n l) C.entries
  entry_in = All-map (λ l. (n : ℕ) → IsLineOf C.head Entry n l) entry_line A.entries (λ k d lt n.
      let h = all_entries k d lt in
      ((_, record { word_is = refl; count_is = refl }), (below_is count _ h.0, below_is count _ h.1)))

  entries_in : AreLinesFrom C.head (count + length ps + count) C.entries
  entries_in = whole_section C.head Entry (count + length ps + count) C.entries refl (length-map A.entries entry_line) (λ n lt. entry_in n _ lt n)

  -- ---- local rows
  local_in : (n : ℕ) (some : Bool) (radius : ℕ) (row : ℕ → BoxEnds) → radius ≤ most_given_local → ((k : ℕ) → k < P → IsGiven most_given_local (row k))
      → IsLineOf C.head Local n (local_line P some radius row)
  local_in n true radius row small h =
      (inr (record { word_is = refl; count_is = ap suc (count_of_row P row) }), (below_is (suc most_given_local) radius (omega (arith, small)), numbers_of_row most_given_local P row h))
  local_in n false radius row small h = (inl (record { word_is = refl; count_is = refl }), tt)

  locals_in : AreLinesFrom C.head (count + length ps + count + length A.entries) C.locals
  locals_in =
      numbered_section C.head Local (count + length ps + count + length A.entries) count (λ n. local_line P (has_target_under A n) (A.radius n) (A.local n)) refl refl
      (λ n lt. local_in n (has_target_under A n) (A.radius n) (A.local n) (radius_given (cell n) (has_target ps (cell n)) (in_tree n lt)) (row_given (cell n) (has_target ps (cell n)) (in_tree n lt)))

  -- ---- targets
  target_in : All (λ l. (n : ℕ) → IsLineOf C.head Target n l) C.targets
  target_in =
      All-map (λ l. (n : ℕ) → IsLineOf C.head Target n l) (λ (t : LeafTarget). given_target_line t.box) A.targets
      (All-map (λ (t : LeafTarget). (n : ℕ) → IsLineOf C.head Target n (given_target_line t.box)) (leaf_target grid ps cap P lists) (targets ps)
      (λ k d lt n. (record { word_is = refl; count_is = refl }, numbers_of_target (most_given_target grid) _ (boxes_given k d lt))))

  targets_in : AreLinesFrom C.head (count + length ps + count + length A.entries + count) C.targets
  targets_in =
      whole_section C.head Target (count + length ps + count + length A.entries + count) C.targets refl (length-map A.targets (λ (t : LeafTarget). given_target_line t.box))
      (λ n lt. target_in n _ lt n)

  -- ---- all lines
  nodes_count : length C.nodes ≡ count
  nodes_count = length-map-range_with_len (λ n. node_line (above lists.cells n) (cell n)) 0 count

  multipoles_count : length C.multipoles ≡ count
  multipoles_count = length-map-range_with_len (λ n. multipole_line P (has_source_under A n) (A.multipole n)) 0 count

  entries_count : length C.entries ≡ length A.entries
  entries_count = length-map A.entries entry_line

  locals_count : length C.locals ≡ count
  locals_count = length-map-range_with_len (λ n. local_line P (has_target_under A n) (A.radius n) (A.local n)) 0 count

  lines_in_order : AreLinesFrom C.head 0 (lines_of C)
  lines_in_order =
      lines_append C.head 0 count C.nodes _ (omega (arith, nodes_count)) nodes_in
      (lines_append C.head count (count + length ps) C.ats _ (omega (arith, ats_count)) ats_in
      (lines_append C.head (count + length ps) (count + length ps + count) C.multipoles _ (omega (arith, multipoles_count)) multipoles_in
      (lines_append C.head (count + length ps + count) (count + length ps + count + length A.entries) C.entries _ (omega (arith, entries_count)) entries_in
      (lines_append C.head (count + length ps + count + length A.entries) (count + length ps + count + length A.entries + count) C.locals C.targets
      (omega (arith, locals_count)) locals_in targets_in))))

  -- ---- line 1
  cells_are_few : count ≤ most_cells grid
  cells_are_few =
      elim (cases_lt (most_cells grid) count) [
        | inl more ↦ absurd (given.tree.no_more (record { cells = lists.cells; in_tree = given.lists_are.cells_are.each; different = ascending_differ lists.cells given.lists_are.cells_are.ascending; more = more }))
        | inr few ↦ few
      ]

  targets_are_few : length A.targets ≤ length ps
  targets_are_few =
      omega (
        arith,
        length-map (targets ps) (leaf_target grid ps cap P lists),
        length-filter (λ (p : Point). not (is_source p.kind)) ps,
        count_by-le-length (λ (p : Point). not (is_source p.kind)) ps,
      )

  head_in : IsHead C.head
  head_in = record {
    version = given.limits.version;
    order = given.order;
    counts = (
      below_is (suc (most_points grid)) (length ps) (omega (arith, given.limits.within.count)),
      below_is (suc (most_points grid)) (length A.targets) (omega (arith, targets_are_few, given.limits.within.count)),
      below_is (suc (most_cells grid)) count (omega (arith, cells_are_few)),
      below_is (suc (most_entries grid)) (length A.entries) (omega (arith, entries_are_few C A.entries grid known refl given.short)),
    );
  }

  is_one : IsCertificate C
  is_one = record {
    head_is = head_in;
    nodes_are = nodes_count;
    ats_are = ats_count;
    multipoles_are = multipoles_count;
    entries_are = entries_count;
    locals_are = locals_count;
    targets_are = length-map A.targets (λ (t : LeafTarget). given_target_line t.box);
    lines_are = lines_in_order;
  }

pub field_certificate_one : FieldCertificateIsOne
field_certificate_one = is_one

pub field_text_spells : FieldTextSpells
field_text_spells points cap P lists given = record { is_certificate = is_one points cap P lists given; text = refl }

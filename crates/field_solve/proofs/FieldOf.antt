-- The field that finished places make.
use Rattle.std.proofs.Common.{ℕ, ◌≡◌, ◌+◌, ◌*◌, ◌^◌, ◌≤◌, ◌<◌, List, length, refl, sym, ap, ap₂, ◌∙◌, subst, arith}
use Rattle.std.specs.Prelude.{All, sum_by, nat_lt, ◌&&◌, count_by}
use Rattle.std.specs.List.{range_with_len}
use Rattle.std.proofs.lemmas.List.{length-map}
use Rattle.std.proofs.lemmas.List.FromFn.{length-range_with_len}
use Rattle.std.proofs.lemmas.List.Sums.{sum_by-le, count_by-le-length}
use Rattle.cell_name.specs.Cell.{square}
use Rattle.complex_box.specs.Box.{BoxWithin}
use Rattle.downward_rows.specs.Translations.{all_translations_into}
use Rattle.field_basis.specs.Basis.{BasisModel, IsBasis}
use Rattle.field_basis.specs.FieldPlaces.{AreAllMultipolePlaces, AreAllLocalPlaces, AreTargetBoxes, AreAllPairs}
use Rattle.field_basis.proofs.Positions.{few_positions}
use Rattle.field_basis.proofs.Sizes.{inside}
use Rattle.letters.specs.declared.Letter.TheVariants.{V}
use Rattle.limits.proofs.Grids.{within_widest}
use Rattle.limits.specs.Limits.{most_box, most_cells, most_points, widest_grid}
use Rattle.field_basis.specs.Place.{PlaceModel, all_translations}
use Rattle.field_basis.specs.Target.{TargetModel, all_pairs, values_of}
use Rattle.points.specs.declared.Point.{Point}
use Rattle.quadtree.specs.TreeModel.{squares, size, node_of}
use Rattle.tree_field.proofs.Work.{sources_counted, work_of_tree, translations_are_few}
use Rattle.tree_field.specs.Work.{translations}
use Rattle.upward_rows.specs.Shifted.{is_shifted}
use Rattle.field_solve.specs.Field.{IsSolved}
use Rattle.field_solve.specs.Parts.{FieldParts, FitTogether}

module _ (P : ℕ) (b : BasisModel) (is : IsBasis P b) where
  -- ---- how many translations and pairs there are at most
  pub few_up : (n : ℕ) → n ≡ count_by (is_shifted b.points) (squares b.tree) → n ≤ most_cells widest_grid
  few_up n e =
      let c = count_by-le-length (is_shifted b.points) (squares b.tree) in
      omega (arith, e, c, length-map b.tree.cells square, is.is_tree.few, (within_widest b.tree.grid is.is_tree.known_grid).cells)

  pub few_local : (n : ℕ) → n ≡ all_translations_into b → n ≤ most_cells widest_grid * 28
  few_local n e =
      let v = sum_by-le (λ list. length list) 27 b.lists.v is.short in
      let t = count_by-le-length (λ n. nat_lt 0 n && (node_of b.tree n).has_target) (range_with_len 0 (size b.tree)) in
      omega (arith, e, v, t, is.lists_are.as_many V, length-range_with_len 0 (size b.tree), is.is_tree.few, (within_widest b.tree.grid is.is_tree.known_grid).cells)

  pub few_pairs : (n : ℕ) → n ≤ length b.targets * length b.points → n < 2 ^ 64
  few_pairs n le =
      let points : length b.points ≤ most_points widest_grid = omega (arith, is.within.count, (within_widest b.tree.grid is.is_tree.known_grid).points) in
      let targets : length b.targets ≤ most_points widest_grid = omega (arith, ap length is.targets_are, few_positions b.points, points) in
      omega (arith, le, product (length b.targets) (length b.points) (most_points widest_grid) targets points)
    where
      product : (m n k : ℕ) → m ≤ k → n ≤ k → m * n ≤ k * k
      product m n k a b = grind arith

  -- ---- the field
  module _ (up local : List PlaceModel) (values : List TargetModel) where
    abbrev pub made : FieldParts
    made = record { basis = b; up = up; local = local; values = values_of values; translations = all_translations up + all_translations local; pairs = all_pairs values }

    module _ (up_are : AreAllMultipolePlaces P b.points b.tree up) (local_are : AreAllLocalPlaces P b local) where
      pub fit : length values ≡ length b.targets → All (BoxWithin (most_box b.tree.grid)) (values_of values) → FitTogether P made
      fit each small = record { basis_is = is; up_are = up_are; local_are = local_are; value_each = length-map values (λ (p : TargetModel). p.value) ∙ each; small = small }

      pub solved : all_translations up ≡ count_by (is_shifted b.points) (squares b.tree) → all_translations local ≡ all_translations_into b → AreTargetBoxes P b (values_of values) → AreAllPairs b (all_pairs values)
          → IsSolved b.points b.cap P made
      solved ups locals boxes pairs = record {
        order = is.order;
        points_are = refl;
        cap_is = refl;
        is_tree = is.is_tree;
        lists_are = is.lists_are;
        up_are = up_are;
        local_are = local_are;
        over = λ lists are.
            let work = work_of_tree b.tree b.lists b.points b.cap lists (inside P b is) is.is_tree is.lists_are are in
            let total : all_translations up + all_translations local ≡ translations b.points lists =
            ap₂ (λ m n. m + n) (ups ∙ sources_counted b.tree b.points b.cap (inside P b is) is.is_tree) locals ∙ sym work.translations_are in
            record {
              values_are = boxes lists are;
              translations_are = total;
              few = subst (λ n. n ≤ sum_by (λ b. length (lists.entries V b)) lists.cells + 2 * length lists.cells) (sym total) (translations_are_few b.points lists);
              pairs_are = pairs lists are;
            };
      }

-- the same of parts that are equal to these
module _ (P : ℕ) (b : BasisModel) (up up' local local' : List PlaceModel) (values values' : List TargetModel) (m n p : ℕ) (eu : up' ≡ up) (el : local' ≡ local) (ev : values' ≡ values)
    (em : m ≡ all_translations up) (en : n ≡ all_translations local) (ep : p ≡ all_pairs values) where
  abbrev pub parts : FieldParts
  parts = record { basis = b; up = up'; local = local'; values = values_of values'; translations = m + n; pairs = p }

  pub parts_fit : (is : IsBasis P b) → FitTogether P (made P b is up local values) → FitTogether P parts
  parts_fit is h = rw (eu, el, ev, em, en, ep) h

  pub parts_solved : (is : IsBasis P b) (points : List Point) (cap : ℕ) → b.points ≡ points → b.cap ≡ cap → IsSolved b.points b.cap P (made P b is up local values) → IsSolved points cap P parts
  parts_solved is points cap es ec h = rw (sym es, sym ec, eu, el, ev, em, en, ep) h

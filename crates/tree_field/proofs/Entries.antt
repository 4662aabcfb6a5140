-- The entries of the field as an accounting has them: their places are apart, and each source is accounted for once.
use Rattle.std.proofs.Common.{ℕ, ◌≡◌, ◌≢◌, ◌<◌, ◌≤◌, List, ◌++◌, length, Bool, true, false, refl, sym, ap, ◌∙◌, subst, arith}
use Rattle.std.specs.Prelude.{◌==◌, All, AllPairs, Contains, count_by}
use Rattle.std.proofs.lemmas.Bool.{true≢false, and_parts, and_from, eqb-true, eq-eqb}
use Rattle.std.proofs.lemmas.List.Elements.{All-append, All-map, All-contains, Contains-append_left, Contains-append_right}
use Rattle.cell_name.specs.Order.{IsBefore}
use Rattle.cell_name.specs.Square.{Square, Holds, Touches}
use Rattle.cell_name.proofs.Cells.{Touches-sym}
use Rattle.cell_name.proofs.HoldsTest.{Holds-from_test, test-from_Holds}
use Rattle.cell_name.proofs.Order.{IsBefore-irrefl}
use Rattle.cell_lists.specs.Entries.{IsPair, IsEntry}
use Rattle.cell_lists.proofs.OneEntry.{in_tree_of, each_pair_has_one_entry}
use Rattle.letters.specs.declared.Entry.{Entry}
use Rattle.letters.specs.declared.Letter.{Letter}
use Rattle.letters.specs.declared.Letter.TheVariants.{U, V, W, X}
use Rattle.points.specs.Points.{place}
use Rattle.points.specs.declared.Point.{Point}
use Rattle.quadtree.specs.Tree.{AreInGrid, IsTreeCell}
use Rattle.quadtree.proofs.Distinct.{AllPairs-append, All-flat_map, Contains-flat_map, Contains-filter, different-flat_map}
use Rattle.row_recursions.proofs.Geometry.{far_places, pairs_of_cells}
use Rattle.soundness.specs.Accounts.{LeafSource, LeafTarget, Accounting, under, is_letter, reaches, accounts}
use Rattle.soundness.specs.Rules.{Apart}
use Rattle.soundness.specs.Squares.{IsFarFrom, CellsAreApart}
use Rattle.tree_field.specs.Lists.{TreeLists, AreTreeLists}
use Rattle.tree_field.specs.Field.{targets}
use Rattle.tree_field.proofs.Accounts.{leaf_number, leaf_source, leaf_target, sources, entry, entries_from, of_cell, accounting, All-of_cell}
use Rattle.quadtree.proofs.Ascending.{ascending_differ}
use Rattle.tree_field.proofs.Leaves.{leaf_holds, only_leaf, cell_of_leaf, under_is_holding}
use Rattle.exact_math.proofs.Lists.{All-from_members, Contains-into_map, AllPairs-map, AllPairs-both}
use Rattle.tree_field.proofs.Members.{count_one}
use Rattle.tree_field.proofs.Numbers.{number_among, cell_at, above, number_below, cell_of_number}

letter_itself : (l : Letter) → is_letter l l ≡ true
letter_itself U = refl
letter_itself V = refl
letter_itself W = refl
letter_itself X = refl

module _ (grid : ℕ) (points : List Point) (cap P : ℕ) (lists : TreeLists) (positive : 0 < grid) (inside : AreInGrid grid points) (are : AreTreeLists grid points cap lists) where
  abbrev given : Accounting
  given = accounting grid points cap P lists

  abbrev cell : ℕ → Square
  cell n = cell_at lists.cells n

  below : (c : Square) → IsTreeCell grid points cap c → number_among lists.cells c < length lists.cells
  below c h = number_below grid points cap lists.cells positive inside are.cells_are c h

  is : (c : Square) → IsTreeCell grid points cap c → cell (number_among lists.cells c) ≡ c
  is c h = cell_of_number grid points cap lists.cells positive inside are.cells_are c h

  -- a fact of all entries of the lists
  pub All-entries : (Q : Entry → Type 0) → ((letter : Letter) (b c : Square) → IsTreeCell grid points cap b → IsTreeCell grid points cap c → IsEntry grid points cap letter b c → Q (entry lists letter b c)) → All Q given.entries
  All-entries Q h = All-flat_map Q (of_cell lists) lists.cells (λ b hb.
      let tb = All-contains (IsTreeCell grid points cap) lists.cells b are.cells_are.each hb in
      All-of_cell lists Q b (λ letter. All-from_members (λ c. Q (entry lists letter b c)) (lists.entries letter b) (λ c hc.
      let e = All-contains (IsEntry grid points cap letter b) (lists.entries letter b) c (are.entries_are letter b tb).each hc in
      h letter b c tb (in_tree_of grid points cap letter b c e.pair).1 e)))

  pub entries_in_range : All (λ e. e.c < length lists.cells) given.entries
  entries_in_range = All-entries (λ e. e.c < length lists.cells) (λ letter b c tb tc e. below c tc)

  -- a node above a point's leaf has it in its cell
  held_under : (p : Point) → Contains points p → (c : Square) → IsTreeCell grid points cap c → under (above lists.cells) (leaf_number grid points cap lists p) (number_among lists.cells c) ≡ true → Holds c p.x p.y
  held_under p h c tc u =
      subst (λ s. Holds s p.x p.y) (is c tc) (Holds-from_test (cell (number_among lists.cells c)) p.x p.y (sym (under_is_holding grid points cap lists.cells positive inside are.cells_are p h (number_among lists.cells c) (below c tc)) ∙ u))

  under_held : (p : Point) → Contains points p → (c : Square) → IsTreeCell grid points cap c → Holds c p.x p.y → under (above lists.cells) (leaf_number grid points cap lists p) (number_among lists.cells c) ≡ true
  under_held p h c tc held =
      under_is_holding grid points cap lists.cells positive inside are.cells_are p h (number_among lists.cells c) (below c tc)
      ∙ test-from_Holds (cell (number_among lists.cells c)) p.x p.y (subst (λ s. Holds s p.x p.y) (sym (is c tc)) held)

  -- ---- their places are apart
  far_at : (b c : Square) → IsTreeCell grid points cap b → IsTreeCell grid points cap c → b.level ≤ c.level → (Touches b c → ⊥) → (p : Point) → Contains points p
      → under (above lists.cells) (leaf_number grid points cap lists p) (number_among lists.cells b) ≡ true → IsFarFrom (cell (number_among lists.cells c)) (place p)
  far_at b c tb tc le apart p h u =
      subst (λ s. IsFarFrom s (place p)) (sym (is c tc)) (far_places b c p.x p.y (tb.of_grid ∙ sym tc.of_grid) le (omega (arith, tc.level_in_grid, tc.of_grid)) apart (held_under p h b tb u))

  apart_of : (letter : Letter) (b c : Square) → IsTreeCell grid points cap b → IsTreeCell grid points cap c → IsPair grid points cap letter b c → Apart given letter (number_among lists.cells b) (number_among lists.cells c)
  apart_of U b c tb tc e = tt
  apart_of V b c tb tc e =
      let grids : b.grid ≡ c.grid = tb.of_grid ∙ sym tc.of_grid in
      let a = e.2 in
      subst (λ s. CellsAreApart s (cell (number_among lists.cells c))) (sym (is b tb)) (subst (λ s. CellsAreApart b s) (sym (is c tc))
      (record { grid = grids; level = a.same_level; apart = (pairs_of_cells b c grids a.same_level a.apart a.parents_touch).kernel.apart }))
  apart_of W b c tb tc e =
      let a = e.2 in
      All-map (λ (t : LeafTarget). under (above lists.cells) t.leaf (number_among lists.cells b) ≡ true → IsFarFrom (cell (number_among lists.cells c)) t.place) (leaf_target grid points cap P lists) (targets points)
      (All-from_members (λ t. under (above lists.cells) (leaf_number grid points cap lists t) (number_among lists.cells b) ≡ true → IsFarFrom (cell (number_among lists.cells c)) (place t)) (targets points)
      (λ t h u. far_at b c tb tc (omega (arith, a.deeper)) (λ w. a.apart (Touches-sym b c w)) t (Contains-filter _ points t h).0 u))
  apart_of X b c tb tc e =
      let a = e.2 in
      All-map (λ (x : LeafSource). under (above lists.cells) x.leaf (number_among lists.cells c) ≡ true → IsFarFrom (cell (number_among lists.cells b)) (place x.point)) (leaf_source grid points cap lists) (sources points)
      (All-from_members (λ p. under (above lists.cells) (leaf_number grid points cap lists p) (number_among lists.cells c) ≡ true → IsFarFrom (cell (number_among lists.cells b)) (place p)) (sources points)
      (λ p h u. far_at c b tc tb (omega (arith, a.deeper)) (λ w. a.apart (Touches-sym c b w)) p (Contains-filter _ points p h).0 u))

  pub entries_apart : All (λ e. Apart given e.letter e.b e.c) given.entries
  entries_apart = All-entries (λ e. Apart given e.letter e.b e.c) (λ letter b c tb tc e. apart_of letter b c tb tc e.pair)

  -- ---- no entry stands twice
  same_cells : (b c : Square) → IsTreeCell grid points cap b → IsTreeCell grid points cap c → number_among lists.cells b ≡ number_among lists.cells c → b ≡ c
  same_cells b c tb tc e = sym (is b tb) ∙ ap cell e ∙ is c tc

  letters_differ : (l m : Letter) (x y : Entry) → is_letter l m ≡ false → x.letter ≡ l → y.letter ≡ m → x ≢ y
  letters_differ l m x y other p q e = true≢false (sym (letter_itself l) ∙ ap (is_letter l) (sym p ∙ ap (λ (z : Entry). z.letter) e ∙ q) ∙ other)

  others : (l m : Letter) (b : Square) (x : Entry) → is_letter l m ≡ false → x.letter ≡ l → All (λ y. x ≢ y) (entries_from lists m b)
  others l m b x other p = All-map (λ y. x ≢ y) (entry lists m b) (lists.entries m b) (λ k d lt. letters_differ l m x _ other p refl)

  letter_of : (l : Letter) (b : Square) (x : Entry) → Contains (entries_from lists l b) x → x.letter ≡ l
  letter_of l b x h = All-contains (λ (y : Entry). y.letter ≡ l) (entries_from lists l b) x (All-map (λ (y : Entry). y.letter ≡ l) (entry lists l b) (lists.entries l b) (λ k d lt. refl)) h

  of_letter_differ : (l : Letter) (b : Square) → IsTreeCell grid points cap b → AllPairs (λ x y. x ≢ y) (entries_from lists l b)
  of_letter_differ l b tb =
      let es = are.entries_are l b tb in
      AllPairs-map (λ x y. x ≢ y) (entry lists l b) (lists.entries l b)
      (AllPairs-both (IsEntry grid points cap l b) IsBefore (λ c d. entry lists l b c ≢ entry lists l b d) (lists.entries l b) es.each es.ascending
      (λ c d ec ed before e. IsBefore-irrefl c d (same_cells c d (in_tree_of grid points cap l b c ec.pair).1 (in_tree_of grid points cap l b d ed.pair).1 (ap (λ (z : Entry). z.c) e)) before))

  of_cell_differ : (b : Square) → IsTreeCell grid points cap b → AllPairs (λ x y. x ≢ y) (of_cell lists b)
  of_cell_differ b tb =
      AllPairs-append (λ x y. x ≢ y) (entries_from lists U b) (entries_from lists V b ++ (entries_from lists W b ++ entries_from lists X b)) (of_letter_differ U b tb)
      (AllPairs-append (λ x y. x ≢ y) (entries_from lists V b) (entries_from lists W b ++ entries_from lists X b) (of_letter_differ V b tb)
      (AllPairs-append (λ x y. x ≢ y) (entries_from lists W b) (entries_from lists X b) (of_letter_differ W b tb) (of_letter_differ X b tb)
      (λ x h. others W X b x refl (letter_of W b x h)))
      (λ x h. let l = letter_of V b x h in All-append (λ y. x ≢ y) (entries_from lists W b) (entries_from lists X b) (others V W b x refl l) (others V X b x refl l)))
      (λ x h. let l = letter_of U b x h in All-append (λ y. x ≢ y) (entries_from lists V b) (entries_from lists W b ++ entries_from lists X b) (others U V b x refl l)
      (All-append (λ y. x ≢ y) (entries_from lists W b) (entries_from lists X b) (others U W b x refl l) (others U X b x refl l)))

  pub entries_differ : AllPairs (λ x y. x ≢ y) given.entries
  entries_differ = different-flat_map (of_cell lists) (λ (e : Entry). cell e.b) lists.cells (ascending_differ lists.cells are.cells_are.ascending)
      (λ b h. of_cell_differ b (tree b h))
      (λ b e h m. All-contains (λ (e : Entry). cell e.b ≡ b) (of_cell lists b) e (All-of_cell lists (λ e. cell e.b ≡ b) b (λ l k d lt. is b (tree b h))) m)
    where
      tree : (b : Square) → Contains lists.cells b → IsTreeCell grid points cap b
      tree b h = All-contains (IsTreeCell grid points cap) lists.cells b are.cells_are.each h

  -- each entry of the definition stands there
  pub has_entry : (letter : Letter) (b c : Square) → IsEntry grid points cap letter b c → Contains given.entries (entry lists letter b c)
  has_entry letter b c e =
      let tb = (in_tree_of grid points cap letter b c e.pair).0 in
      Contains-flat_map (of_cell lists) lists.cells b (entry lists letter b c) (are.cells_are.whole b tb)
      (at letter (entry lists letter b c) (Contains-into_map (entry lists letter b) (lists.entries letter b) c ((are.entries_are letter b tb).whole c e)))
    where
      at : (l : Letter) (x : Entry) → Contains (entries_from lists l b) x → Contains (of_cell lists b) x
      at U x h = Contains-append_left _ _ x h
      at V x h = Contains-append_right (entries_from lists U b) _ x (Contains-append_left (entries_from lists V b) _ x h)
      at W x h = Contains-append_right (entries_from lists U b) _ x (Contains-append_right (entries_from lists V b) _ x (Contains-append_left (entries_from lists W b) _ x h))
      at X x h = Contains-append_right (entries_from lists U b) _ x (Contains-append_right (entries_from lists V b) _ x (Contains-append_right (entries_from lists W b) _ x h))

  -- ---- an entry reaches the targets that its cell holds
  at_leaf : (t : Point) → Contains points t → (b : Square) → IsTreeCell grid points cap b → (leaf_number grid points cap lists t == number_among lists.cells b) ≡ true → Holds b t.x t.y
  at_leaf t h b tb e =
      subst (λ s. Holds s t.x t.y) (sym (cell_of_leaf grid points cap lists.cells positive inside are.cells_are t h) ∙ ap cell (eqb-true (leaf_number grid points cap lists t) (number_among lists.cells b) e) ∙ is b tb) (leaf_holds grid points cap lists.cells positive inside are.cells_are t h)

  holds_from_reaches : (letter : Letter) (t : Point) → Contains points t → (b : Square) → IsTreeCell grid points cap b → reaches given letter (number_among lists.cells b) (leaf_number grid points cap lists t) ≡ true → Holds b t.x t.y
  holds_from_reaches U t h b tb e = at_leaf t h b tb e
  holds_from_reaches V t h b tb e = held_under t h b tb e
  holds_from_reaches W t h b tb e = at_leaf t h b tb e
  holds_from_reaches X t h b tb e = held_under t h b tb e

  reaches_from_holds : (letter : Letter) (t : Point) → Contains points t → (b c : Square) → IsPair grid points cap letter b c → Holds b t.x t.y → reaches given letter (number_among lists.cells b) (leaf_number grid points cap lists t) ≡ true
  reaches_from_holds U t h b c e held = eq-eqb _ _ (ap (number_among lists.cells) (sym (only_leaf grid points cap lists.cells positive inside are.cells_are t h b e.0 held)))
  reaches_from_holds V t h b c e held = under_held t h b e.0 held
  reaches_from_holds W t h b c e held = eq-eqb _ _ (ap (number_among lists.cells) (sym (only_leaf grid points cap lists.cells positive inside are.cells_are t h b e.0 held)))
  reaches_from_holds X t h b c e held = under_held t h b e.1 held

  -- ---- exactly one accounts for a target and a source
  pub accounted_once : (t p : Point) → Contains (targets points) t → Contains (sources points) p → count_by (accounts given (leaf_number grid points cap lists t) (leaf_source grid points cap lists p)) given.entries ≡ 1
  accounted_once t p ht hp =
      let kt = Contains-filter _ points t ht in
      let kp = Contains-filter _ points p hp in
      let o = each_pair_has_one_entry grid points cap t p positive inside (record { target_listed = kt.0; is_target = kt.1; source_listed = kp.0; is_source = kp.1 }) in
      let tc = (in_tree_of grid points cap o.letter o.b o.c o.entry.pair).1 in
      let test : Entry → Bool = accounts given (leaf_number grid points cap lists t) (leaf_source grid points cap lists p) in
      let the : Entry = entry lists o.letter o.b o.c in
      count_one test given.entries the entries_differ (has_entry o.letter o.b o.c o.entry)
      (and_from (reaches given o.letter (number_among lists.cells o.b) (leaf_number grid points cap lists t)) (under (above lists.cells) (leaf_number grid points cap lists p) (number_among lists.cells o.c))
      (reaches_from_holds o.letter t kt.0 o.b o.c o.entry.pair o.accounts.target_held) (under_held p kp.0 o.c tc o.accounts.source_held))
      (λ y h. All-contains (λ y. test y ≡ true → y ≡ the) given.entries y (All-entries (λ y. test y ≡ true → y ≡ the) (λ letter b c tb tc e passes.
      let parts = and_parts (reaches given letter (number_among lists.cells b) (leaf_number grid points cap lists t)) (under (above lists.cells) (leaf_number grid points cap lists p) (number_among lists.cells c)) passes in
      let one = o.no_other letter b c e (record { target_held = holds_from_reaches letter t kt.0 b tb parts.0; source_held = held_under p kp.0 c tc parts.1 }) in
      λ i. entry lists (one.0 i) (one.1 i) (one.2 i))) h)

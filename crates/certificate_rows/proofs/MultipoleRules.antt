-- The rule of a multipole row, and what the rows of a leaf and of another node rest on.
use Rattle.std.proofs.Common.{ℕ, zero, suc, ◌≡◌, ◌<◌, ◌≤◌, Bool, true, false, cond, List, length, get_or, refl, sym, ap, ap₂, ◌∙◌, subst, arith}
use Rattle.std.specs.Prelude.{All, ◌↔◌, ◌==◌}
use Rattle.std.specs.List.{range_with_len}
use Rattle.std.proofs.lemmas.Bool.{true≢false, and_parts, ltb-true}
use Rattle.std.proofs.lemmas.List.Elements.{All-filter, All-weaker, filter_passes}
use Rattle.std.proofs.lemmas.List.FromFn.{get_or-range_with_len, length-range_with_len}
use Rattle.exact_math.specs.Ends.{BoxEnds, BoxEndsInside}
use Rattle.cell_name.specs.Square.{Square, Holds}
use Rattle.limits.proofs.Grids.{version_has_grid}
use Rattle.limits.specs.Limits.{grid_of, most_cells, most_weight, widest_grid}
use Rattle.points.proofs.Ranges.{range_in_widest}
use Rattle.points.specs.Limits.{InRange, total_weight}
use Rattle.points.specs.declared.Point.{Point}
use Rattle.row_recursions.specs.Cells.{moments_in}
use Rattle.row_recursions.specs.Rows.{AreSameRows}
use Rattle.soundness.specs.Accounts.{Accounting, is_leaf, names_parent, children}
use Rattle.soundness.specs.Computed.{point_of, computed_leaf_row, shifted_rows}
use Rattle.soundness.specs.Rules.{RowInside, MultipoleHolds}
use Rattle.soundness.specs.Steps.{moments_of}
use Rattle.soundness.proofs.Sums.{total_box-map}
use Rattle.certificate_nodes.proofs.Counts.{few_cells}
use Rattle.certificate_nodes.specs.AtNodes.{sources_at}
use Rattle.certificate_nodes.specs.Presented.{PresentedModel, accounting_of, NodesHold, PointsHold}
use Rattle.certificate_rows.specs.Given.{IsOverList, cell_at}
use Rattle.certificate_rows.specs.Computed.{computed_multipole}
use Rattle.certificate_rows.proofs.Standing.{fewer, in_node, kept_light, in_leaf, held_in}

-- ---- the rule
module _ (P : ℕ) (A : Accounting) (n : ℕ) where
  abbrev pub BothHold : Type 0
  BothHold = (is_leaf A n ≡ true → MultipoleHolds P A n) × (is_leaf A n ≡ false → MultipoleHolds P A n)

  holds : (b : Bool) → is_leaf A n ≡ b → RowInside P (cond b (computed_leaf_row A n) (shifted_rows A n)) (A.multipole n) → MultipoleHolds P A n
  holds true e h = record { of_leaf = λ t. h; of_inner = λ f. absurd (true≢false (sym e ∙ f)) }
  holds false e h = record { of_leaf = λ t. absurd (true≢false (sym t ∙ e)); of_inner = λ f. h }

  lies : (b : Bool) → is_leaf A n ≡ b → BothHold → RowInside P (cond b (computed_leaf_row A n) (shifted_rows A n)) (A.multipole n)
  lies true e h = (h.0 e).of_leaf e
  lies false e h = (h.1 e).of_inner e

  pub rule_is : RowInside P (computed_multipole A n) (A.multipole n) ↔ BothHold
  rule_is = (λ h. let m = holds (is_leaf A n) refl h in ((λ e. m), (λ e. m)), λ h. lies (is_leaf A n) refl h)

-- rows that are the same lie in the same rows
pub inside_same : (P : ℕ) (m n outer : ℕ → BoxEnds) → AreSameRows P m n → RowInside P n outer ↔ RowInside P m outer
inside_same P m n outer h = (λ i k l. subst (λ b. BoxEndsInside b (outer k)) (sym (h k l)) (i k l), λ i k l. subst (λ b. BoxEndsInside b (outer k)) (h k l) (i k l))

-- the cell of a node but node 0 is below level 0
pub below_root : (g : PresentedModel) → NodesHold g → (n : ℕ) → n < g.certificate.head.cells → 0 < n → 0 < (cell_at g.certificate n).level
below_root g nodes zero lt positive = absurd (omega (arith, positive))
below_root g nodes (suc n) lt positive = (nodes (suc n) lt).below_root

pub sources_in_range : (g : PresentedModel) (sources : List Point) → All (InRange (grid_of g.points.version)) sources → All (InRange widest_grid) sources
sources_in_range g sources = All-weaker (InRange (grid_of g.points.version)) (InRange widest_grid) (λ p h. range_in_widest (grid_of g.points.version) p (version_has_grid g.points.version) h) sources

module _ (g : PresentedModel) (over : IsOverList g) (n : ℕ) where
  abbrev A : Accounting
  A = accounting_of g

  -- ---- a leaf
  pub sources_light : (sources : List Point) → sources ≡ sources_at A n → total_weight sources ≤ most_weight widest_grid
  sources_light sources e = omega (arith, ap total_weight e, kept_light g.points g.certificate over.is_certificate over.within over.head (λ x. x.leaf == n))

  pub sources_held : PointsHold g → (sources : List Point) (cell : Square) → sources ≡ sources_at A n → cell ≡ cell_at g.certificate n → All (λ p. Holds cell p.x p.y) sources
  sources_held points sources cell e d =
      let Q : Square → Type 0 = λ q. All (λ p. Holds q p.x p.y) sources in
      let R : List Point → Type 0 = λ l. All (λ p. Holds (A.cell n) p.x p.y) l in
      subst Q (sym d) (subst R (sym e) (held_in g.points g.certificate over.is_certificate over.within over.head points n))

  pub leaf_row_is : PointsHold g → is_leaf A n ≡ true → (sources : List Point) (cell : Square) → sources ≡ sources_at A n → cell ≡ cell_at g.certificate n
      → (k : ℕ) → computed_leaf_row A n k ≡ moments_of (λ p. p) cell sources k
  leaf_row_is points leaf sources cell e d k =
      ap (λ xs. moments_of point_of (A.cell n) xs k) (in_leaf g.points g.certificate over.is_certificate over.within over.head points n leaf)
      ∙ sym (total_box-map (λ p. moments_in (A.cell n) p k) point_of (in_node A n))
      ∙ ap₂ (λ q l. moments_of (λ p. p) q l k) (sym d) (sym e)

  -- ---- another node
  child_is : (k d : ℕ) → k < length (children A n) → (get_or (children A n) k d < A.nodes) × (0 < get_or (children A n) k d)
  child_is k d lt =
      let R : List ℕ = range_with_len 0 A.nodes in
      let below = All-filter (names_parent A n) (λ m. m < A.nodes) R (λ i e less.
      let inside : i < A.nodes = omega (arith, less, length-range_with_len 0 A.nodes) in omega (arith, get_or-range_with_len 0 A.nodes i e inside, inside)) in
      let named = filter_passes (names_parent A n) R k d lt in
      (below k d lt, ltb-true _ _ (and_parts _ _ named).0)

  pub children_in_range : (xs : List ℕ) → xs ≡ children A n → All (λ d. d < g.certificate.head.cells) xs
  children_in_range xs e = subst (All (λ d. d < g.certificate.head.cells)) (sym e) (λ k d lt. (child_is k d lt).0)

  pub children_below : NodesHold g → (xs : List ℕ) → xs ≡ children A n → All (λ d. 0 < (cell_at g.certificate d).level) xs
  children_below nodes xs e = subst (All (λ d. 0 < (cell_at g.certificate d).level)) (sym e) (λ k d lt. let h = child_is k d lt in below_root g nodes (get_or (children A n) k d) h.0 h.1)

  pub children_few : (xs : List ℕ) → xs ≡ children A n → length xs ≤ most_cells widest_grid
  children_few xs e = omega (arith, ap (λ l. length l) e, fewer (names_parent A n) (range_with_len 0 A.nodes), length-range_with_len 0 A.nodes, few_cells g.certificate over.is_certificate)

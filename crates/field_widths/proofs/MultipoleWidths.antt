-- How wide the multipole rows of the field are: by the number of sources in the cell, the order and the levels below the cell.
use Rattle.std.proofs.Common.{ℕ, ◌≡◌, ◌+◌, ◌-◌, ◌*◌, ◌<◌, ◌≤◌, zero, suc, List, [], ◌∷◌, Bool, true, false, cond, filter, get_or, map, length, ap, ◌∙◌, arith}
use Rattle.std.specs.Prelude.{pos, sum_by}
use Rattle.std.proofs.Math.Nat.{mul-le-mul, mul-le-mul_left, mul-le-mul_right}
use Rattle.std.proofs.lemmas.List.Elements.{All-weaker, All-filter, filter_passes}
use Rattle.std.proofs.lemmas.List.Sums.{sum_by-cons, sum_by-le}
use Rattle.exact_math.specs.Ends.{BoxEnds}
use Rattle.exact_math.proofs.Lists.{filter-filter, filter-map}
use Rattle.exact_math.proofs.Widths.{narrow-box}
use Rattle.cell_name.specs.Square.{Square, side}
use Rattle.cell_name.specs.Quarters.{quarters}
use Rattle.cell_name.proofs.Quarters.{IsQuarter, quarters_are}
use Rattle.points.specs.Limits.{weight64}
use Rattle.points.specs.Points.{is_source, place, pole, dipole}
use Rattle.points.specs.declared.Kind.TheVariants.{Charge}
use Rattle.points.specs.declared.Point.{Point}
use Rattle.quadtree.specs.Tree.{is_over, is_source_in, has_source}
use Rattle.row_recursions.specs.Cells.{moments_in}
use Rattle.row_recursions.specs.Rows.{shifted_up}
use Rattle.row_recursions.specs.Widths.{RowNarrow}
use Rattle.row_recursions.proofs.Geometry.{held_places}
use Rattle.row_recursions.proofs.RowSizes.{power_positive}
use Rattle.row_recursions.proofs.RowWidths.{source_moment_narrow, shifted_up_narrow}
use Rattle.soundness.specs.Computed.{total_row}
use Rattle.soundness.specs.Squares.{offset, quadrant}
use Rattle.soundness.proofs.RowTotals.{sum_by-times}
use Rattle.tree_field.specs.Accounting.{sources}
use Rattle.tree_field.specs.Field.{sources_in, leaf_row, multipole_above, multipole_row}
use Rattle.tree_field.proofs.CellSources.{IsHeld, sources_held, sum_by-filter}
use Rattle.tree_field.proofs.CellWeights.{weight64_in, quarters_weight}
use Rattle.tree_field.proofs.MultipoleSizes.{unit_square}
use Rattle.field_widths.specs.Laws.{source_count, MultipoleRowsNarrow}
use Rattle.field_widths.proofs.SourceSums.{some_source}
use Rattle.field_widths.proofs.NarrowTotals.{total_row-narrow, row-narrower}

-- ---- how many sources the quarters have
-- a charge of 1 at the place of a point, which weighs 1
abbrev charge_at : Point → Point
charge_at p = record { x = p.x; y = p.y; kind = Charge (pos 1) }

charges_weigh : (xs : List Point) → sum_by weight64 (map charge_at xs) ≡ length xs
charges_weigh [] = omega arith
charges_weigh (x ∷ xs) = omega (arith, sum_by-cons weight64 (charge_at x) (map charge_at xs), charges_weigh xs)

-- with charges of 1 for all sources, a cell weighs as much as it has sources
count_is : (points : List Point) (c : Square) → weight64_in (map charge_at (sources points)) c ≡ source_count points c
count_is points c =
    ap (sum_by weight64) (filter-map (is_source_in c) charge_at (sources points) ∙ ap (map charge_at) (filter-filter (λ p. is_source_in c (charge_at p)) (λ p. is_source p.kind) points))
    ∙ charges_weigh (sources_in points c)

-- the quarters have no more together than the cell
pub quarters_count : (c : Square) → c.level < c.grid → (points : List Point) → sum_by (source_count points) (quarters c) ≤ source_count points c
quarters_count c lt points =
    let h = quarters_weight c lt (map charge_at (sources points)) in
    let e = counts_are (quarters c) in
    omega (arith, h, e, count_is points c)
  where
    counts_are : (cs : List Square) → sum_by (weight64_in (map charge_at (sources points))) cs ≡ sum_by (source_count points) cs
    counts_are [] = omega arith
    counts_are (d ∷ ds) = omega (arith, sum_by-cons (weight64_in (map charge_at (sources points))) d ds, sum_by-cons (source_count points) d ds, counts_are ds, count_is points d)

-- ---- rows
-- the moments of a point in the cell
moments_narrow : (P : ℕ) (c : Square) (p : Point) → IsHeld c p → RowNarrow P (2 * (P * P)) (moments_in c p)
moments_narrow P c p h k lt =
    let m : k * k ≤ P * P = mul-le-mul (omega (arith, lt)) (omega (arith, lt)) in
    narrow-box (omega (arith, m)) (source_moment_narrow (side c) (pole p.kind) (dipole p.kind) (offset c (place p)) k (power_positive (c.grid - c.level)) (held_places c p.x p.y h))

-- what each source of a cell with n levels below it may add
abbrev each_width : ℕ → ℕ → ℕ
each_width P n = 2 * (P * P) + 2 * n * P

leaf_narrow : (P n : ℕ) (points : List Point) (c : Square) → RowNarrow P (each_width P n * source_count points c) (leaf_row points c)
leaf_narrow P n points c =
    let xs : List Point = sources_in points c in
    row-narrower P (sum_by (λ p. 2 * (P * P)) xs) (each_width P n * length xs) (leaf_row points c) (enough (length xs) _ (sum_by-le (λ p. 2 * (P * P)) (2 * (P * P)) xs (λ i d lt. omega arith)))
    (total_row-narrow P (moments_in c) (λ p. 2 * (P * P)) xs (All-weaker (IsHeld c) (λ p. RowNarrow P (2 * (P * P)) (moments_in c p)) (λ p held. moments_narrow P c p held) xs (sources_held points c)))
  where
    enough : (l s : ℕ) → s ≤ l * (2 * (P * P)) → s ≤ each_width P n * l
    enough l s h = omega (arith, h)

-- a row shifted up
shifted_narrow : (P w : ℕ) (m : ℕ → BoxEnds) (q : Square) → RowNarrow P w m → RowNarrow P (w + 2 * P) (shifted_up m (quadrant q))
shifted_narrow P w m q h k lt = narrow-box (omega (arith, lt)) (shifted_up_narrow w k (quadrant q) m (unit_square q) (λ i l. h i (omega (arith, lt, l))))

-- that of a quarter with a source
quarter_narrow : (P n N : ℕ) (m : ℕ → BoxEnds) (q : Square) → 1 ≤ N → RowNarrow P (each_width P n * N) m → RowNarrow P (each_width P (suc n) * N) (shifted_up m (quadrant q))
quarter_narrow P n N m q one h = row-narrower P (each_width P n * N + 2 * P) (each_width P (suc n) * N) (shifted_up m (quadrant q)) enough (shifted_narrow P (each_width P n * N) m q h)
  where
    enough : each_width P n * N + 2 * P ≤ each_width P (suc n) * N
    enough = let m : P * 1 ≤ P * N = mul-le-mul_left P one in omega (arith, m)

-- of a cell whose quarters' rows are as wide as they have sources
split_narrow : (P n : ℕ) (points : List Point) (c : Square) (rows : Square → ℕ → BoxEnds) → c.level < c.grid
    → ((q : Square) → IsQuarter c q → RowNarrow P (each_width P n * source_count points q) (rows q))
    → RowNarrow P (each_width P (suc n) * source_count points c) (total_row (λ q. shifted_up (rows q) (quadrant q)) (filter (has_source points) (quarters c)))
split_narrow P n points c rows lt h =
    row-narrower P (sum_by w some) (each_width P (suc n) * source_count points c) _ less
    (total_row-narrow P (λ q. shifted_up (rows q) (quadrant q)) w some
    (λ i d l. of_quarter (get_or some i d) (filter_passes (has_source points) (quarters c) i d l) (All-filter (has_source points) (IsQuarter c) (quarters c) (quarters_are c) i d l)))
  where
    some : List Square
    some = filter (has_source points) (quarters c)

    w : Square → ℕ
    w q = each_width P (suc n) * source_count points q

    of_quarter : (q : Square) → has_source points q ≡ true → IsQuarter c q → RowNarrow P (w q) (shifted_up (rows q) (quadrant q))
    of_quarter q e is = quarter_narrow P n (source_count points q) (rows q) q (some_source points q e) (h q is)

    less : sum_by w some ≤ each_width P (suc n) * source_count points c
    less =
        let a = sum_by-filter w (has_source points) (quarters c) in
        let b = sum_by-times (each_width P (suc n)) (source_count points) (quarters c) in
        let d = mul-le-mul_left (each_width P (suc n)) (quarters_count c lt points) in
        omega (arith, a, b, d)

one_of : (P n : ℕ) (b : Bool) (f g : ℕ → BoxEnds) → RowNarrow P n f → RowNarrow P n g → RowNarrow P n (cond b f g)
one_of P n true f g h k = h
one_of P n false f g h k = k

above_narrow : (P : ℕ) (points : List Point) (cap levels : ℕ) (c : Square) → c.level + levels ≤ c.grid → RowNarrow P (each_width P levels * source_count points c) (multipole_above points cap levels c)
unfolding multipole_above
above_narrow P points cap zero c le = leaf_narrow P 0 points c
above_narrow P points cap (suc levels) c le =
    one_of P (each_width P (suc levels) * source_count points c) (is_over points cap c) _ _
    (split_narrow P levels points c (multipole_above points cap levels) (omega (arith, le)) (λ q h. above_narrow P points cap levels q (omega (arith, le, h.level, h.of_grid))))
    (leaf_narrow P (suc levels) points c)

pub multipole_rows_narrow : MultipoleRowsNarrow
multipole_rows_narrow grid points cap P c positive inside in_tree =
    row-narrower P (each_width P (c.grid - c.level) * source_count points c) (source_count points c * (2 * (P * P) + 2 * grid * P)) (multipole_row points cap c) (enough (source_count points c) (c.grid - c.level) (omega (arith, in_tree.of_grid)))
    (above_narrow P points cap (c.grid - c.level) c (omega (arith, in_tree.of_grid, in_tree.level_in_grid)))
  where
    enough : (N n : ℕ) → n ≤ grid → each_width P n * N ≤ N * (2 * (P * P) + 2 * grid * P)
    enough N n le = let m = mul-le-mul_right (P * N) le in omega (arith, m)

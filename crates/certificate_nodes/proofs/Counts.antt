-- How many lines a certificate has at most, and which numbers its keys are.
use Rattle.std.proofs.Common.{ℕ, zero, suc, ◌+◌, ◌≡◌, ◌<◌, ◌≤◌, ◌==◌, ◌^◌, ◌-◌, Bool, true, false, cond, List, length, map, refl, arith}
use Rattle.std.specs.Prelude.{pos, All}
use Rattle.std.specs.List.{range_with_len}
use Rattle.std.proofs.lemmas.Int.{ints}
use Rattle.std.proofs.lemmas.List.Elements.{All-map}
use Rattle.accounting_text.specs.Given.{number_at}
use Rattle.cert_text.specs.Certificate.{Certificate, IsCertificate, nth_line}
use Rattle.cert_text.specs.Sections.{IsNumberBelow}
use Rattle.limits.proofs.Grids.{version_has_grid, within_widest}
use Rattle.limits.specs.Limits.{grid_of, most_cells, most_points, most_entries, first_grid, widest_grid}
use Rattle.certificate_nodes.specs.AtNodes.{point_at}
use Rattle.certificate_nodes.specs.Keys.{child_key, child_keys, entry_key, entry_keys, key_at, parent_at, point_keys}
use Rattle.certificate_nodes.proofs.Ranges.{range_each}
use Rattle.certificate_rules.proofs.Ranges.{at_in_nodes, entry_in_nodes, parent_less}
use Rattle.points.specs.Points.{is_source}
use Rattle.points.specs.declared.Point.{Point}

count_below : (a n : ℕ) → IsNumberBelow (suc n) (pos a) → a ≤ n
count_below a n h = omega (arith, ints, h.most)

pub few_cells : (c : Certificate) → IsCertificate c → c.head.cells ≤ most_cells widest_grid
few_cells c is =
    let grid = grid_of c.head.version in
    let few = count_below c.head.cells (most_cells grid) is.head_is.counts.2 in
    let widest = (within_widest grid (version_has_grid c.head.version)).cells in
    omega (arith, few, widest)

pub few_entries : (c : Certificate) → IsCertificate c → c.head.entries ≤ most_entries widest_grid
few_entries c is =
    let grid = grid_of c.head.version in
    let few = count_below c.head.entries (most_entries grid) is.head_is.counts.3 in
    let widest = least (grid == first_grid) in
    omega (arith, few, widest)
  where
    least : (b : Bool) → cond b (2 ^ 28 - 1) (2 ^ 29 - 1) ≤ most_entries widest_grid
    least true = omega arith
    least false = omega arith

pub few_points : (c : Certificate) → IsCertificate c → c.head.points ≤ most_points widest_grid
few_points c is =
    let grid = grid_of c.head.version in
    let few = count_below c.head.points (most_points grid) is.head_is.counts.0 in
    let widest = (within_widest grid (version_has_grid c.head.version)).points in
    omega (arith, few, widest)

pub child_key-positive : (c : Certificate) (n : ℕ) → 0 < n → child_key c n ≡ parent_at c n
child_key-positive c zero h = absurd (omega arith)
child_key-positive c (suc n) h = refl

-- ---- keys
key_below : (key : ℕ → ℕ) (m n : ℕ) → ((k : ℕ) → k < m → key k < n) → All (λ k. k < n) (map key (range_with_len 0 m))
key_below key m n each = All-map (λ k. k < n) key (range_with_len 0 m) (range_each (λ k. key k < n) m each)

module _ (c : Certificate) (is : IsCertificate c) where
  one_child_key : (n : ℕ) → n < c.head.cells → child_key c n < c.head.cells + 1
  one_child_key zero lt = omega arith
  one_child_key (suc n) lt = let less = parent_less c is (suc n) (omega arith) in omega (arith, less, lt)

  pub child_keys_below : All (λ k. k < c.head.cells + 1) (child_keys c)
  child_keys_below = key_below (child_key c) c.head.cells (c.head.cells + 1) one_child_key

  pub entry_keys_below : All (λ k. k < c.head.cells) (entry_keys c)
  entry_keys_below = key_below (entry_key c) c.head.entries c.head.cells (λ e lt. (entry_in_nodes c is e lt).0)

  pub point_keys_below : (sources : Bool) (points : List Point) → c.head.points ≡ length points → All (λ k. k < c.head.cells + 1) (point_keys c sources points)
  point_keys_below sources points e = key_below (key_at c sources points) (length points) (c.head.cells + 1)
      (λ k lt. one_key (is_source (point_at points k).kind) sources (number_at (nth_line c.ats k) 0) (at_in_nodes c is k (omega (arith, lt, e))))
    where
      one_key : (a b : Bool) (node : ℕ) → node < c.head.cells → cond a (cond b node c.head.cells) (cond b c.head.cells node) < c.head.cells + 1
      one_key true true node lt = omega (arith, lt)
      one_key true false node lt = omega arith
      one_key false true node lt = omega arith
      one_key false false node lt = omega (arith, lt)

-- The parents and the children of the tree's cells.
use Rattle.std.proofs.Common.{ℕ, ◌≡◌, ◌-◌, ◌<◌, ◌≤◌, suc, zero, ◌⊎◌, inl, inr, arith, refl, sym, ap, ◌∙◌, subst, List, [], ◌∷◌, Bool, true, false, cond, length, get_or, add-one}
use Rattle.std.specs.Prelude.{Contains, count_by}
use Rattle.std.proofs.lemmas.Bool.{cases_lt}
use Rattle.std.proofs.lemmas.List.Sums.{sum_by-cons}
use Rattle.std.proofs.lemmas.List.Elements.{All-contains}
use Rattle.points.specs.declared.Point.{Point}
use Rattle.cell_name.specs.Square.{Square, parent, square_at, IsInGrid, Holds, holds_test}
use Rattle.cell_name.proofs.Cells.{square_at-unique, parent-square_at}
use Rattle.quadtree.specs.Tree.{AreInGrid, count_in, IsTreeCell, IsLeaf}
use Rattle.cell_name.proofs.HoldsTest.{Holds-from_test}
use Rattle.quadtree.proofs.LeafLevel.{cell_of, IsListed, InTreeAt, tree_above}

-- an element of a list that passes a test
abbrev Passing : {A : Type 0} → (A → Bool) → List A → Type 0
Passing {A} p xs = (k : ℕ) × (x : A) × (k < length xs) × (get_or xs k x ≡ x) × (p x ≡ true)

passing_at : {A : Type 0} (p : A → Bool) (y : A) (xs : List A) → (1 ≤ count_by p xs → Passing p xs) → 1 ≤ count_by p (y ∷ xs) → (b : Bool) → p y ≡ b → Passing p (y ∷ xs)
passing_at p y xs further h true e = (zero, y, omega arith, refl, e)
passing_at p y xs further h false e =
    let none : cond {A = ℕ} (p y) 1 0 ≡ 0 = ap (λ (b : Bool). cond {A = ℕ} b 1 0) e in
    let rest = further (omega (arith, h, none, sum_by-cons (λ z. cond (p z) 1 0) y xs)) in
    (suc rest.0, rest.1, omega (arith, rest.2), rest.3, rest.4)

-- where a count is not zero, an element passes
passing : {A : Type 0} (p : A → Bool) (xs : List A) → 1 ≤ count_by p xs → Passing p xs
passing p [] h = absurd (omega arith)
passing p (y ∷ xs) h = passing_at p y xs (passing p xs) h (p y) refl

-- a cell with a point is the cell of one of the points
pub record IsCellOfPoint (grid : ℕ) (points : List Point) (c : Square) : Type 0 where
  pub point : Point
  pub given : IsListed grid points point
  pub held : Holds c point.x point.y
  pub is_cell : c ≡ cell_of grid point c.level

pub cell_of_point : (grid : ℕ) (points : List Point) (c : Square) → c.grid ≡ grid → AreInGrid grid points → 1 ≤ count_in points c → IsCellOfPoint grid points c
cell_of_point grid points c same inside h =
    let found = passing (λ p. holds_test c p.x p.y) points h in
    let p : Point = found.1 in
    let here : Contains points p = (found.0, found.2, found.3) in
    let g : IsInGrid grid p.x p.y = All-contains (λ p. IsInGrid grid p.x p.y) points p inside here in
    let held = Holds-from_test c p.x p.y found.4 in
    let P : ℕ → Type 0 = λ n. IsInGrid n p.x p.y in
    let is_cell : c ≡ cell_of grid p c.level = square_at-unique c p.x p.y (subst P (sym same) g) held ∙ ap (λ n. square_at n c.level p.x p.y) same in
    record { point = p; given = record { listed = here; in_grid = g }; held = held; is_cell = is_cell }

-- the parent of a cell of the tree is in the tree
pub IsTreeCell-parent : (grid : ℕ) (points : List Point) (cap : ℕ) (c : Square) → 0 < grid → AreInGrid grid points → IsTreeCell grid points cap c → 0 < c.level → IsTreeCell grid points cap (parent c)
IsTreeCell-parent grid points cap c positive inside h lo =
    let o = cell_of_point grid points c h.of_grid inside h.occupied in
    let p : Point = o.point in
    let level : suc (c.level - 1) ≡ c.level = omega arith in
    let P : Square → Type 0 = λ v. IsTreeCell grid points cap v in
    let S : ℕ → Type 0 = λ n. InTreeAt grid points cap p n in
    let here : InTreeAt grid points cap p (suc (c.level - 1)) = subst S (sym level) (subst P o.is_cell h) in
    let above : InTreeAt grid points cap p (c.level - 1) = tree_above grid points cap p positive o.given (c.level - 1) here in
    let e : parent (cell_of grid p (suc (c.level - 1))) ≡ cell_of grid p (c.level - 1) = rw add-one at (parent-square_at grid (c.level - 1) p.x p.y (omega (arith, h.level_in_grid))) in
    let up : parent c ≡ cell_of grid p (c.level - 1) = ap parent (o.is_cell ∙ ap (cell_of grid p) (sym level)) ∙ e in
    subst P (sym up) above

-- a cell of the tree is a leaf or it is split and has room below
pub leaf_or_split : (grid : ℕ) (points : List Point) (cap : ℕ) (c : Square) → IsTreeCell grid points cap c → IsLeaf grid points cap c ⊎ ((cap < count_in points c) × (c.level < grid))
leaf_or_split grid points cap c h =
    elim (cases_lt cap (count_in points c)) [
      | inr few ↦ inl (record { in_tree = h; ends = inl few })
      | inl over ↦
          elim (cases_lt c.level grid) [
            | inr end ↦ inl (record { in_tree = h; ends = inr (omega (arith, h.level_in_grid, end)) })
            | inl room ↦ inr (over, room)
          ]
    ]

-- a cell below the root stands in the tree exactly where it has a point and its parent is split
pub IsTreeCell-below : (grid : ℕ) (points : List Point) (cap : ℕ) (c : Square) → 0 < c.level → c.level ≤ grid → IsTreeCell grid points cap c → (1 ≤ count_in points c) × (cap < count_in points (parent c))
IsTreeCell-below grid points cap c lo hi h =
    elim h.reached [
      | inl is_root ↦ absurd (let z : c.level ≡ 0 = ap (λ (v : Square). v.level) is_root in omega arith)
      | inr below ↦ (h.occupied, below.1)
    ]

pub IsTreeCell-from_below : (grid : ℕ) (points : List Point) (cap : ℕ) (c : Square) → c.grid ≡ grid → 0 < c.level → c.level ≤ grid → 1 ≤ count_in points c → (cap < count_in points (parent c)) → IsTreeCell grid points cap c
IsTreeCell-from_below grid points cap c same lo hi occupied split = record { of_grid = same; level_in_grid = hi; occupied = occupied; reached = inr (lo, split) }

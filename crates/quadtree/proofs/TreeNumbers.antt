-- The numbers of the tree's cells.
use Rattle.std.proofs.Common.{ℕ, ◌≡◌, ◌<◌, inl, inr, List, length, get_or, refl, sym, ap, ◌∙◌, subst, arith}
use Rattle.std.specs.Prelude.{AllPairs}
use Rattle.std.proofs.lemmas.Bool.{cases_lt}
use Rattle.std.proofs.lemmas.List.{get_or_default}
use Rattle.points.specs.declared.Point.{Point}
use Rattle.cell_name.specs.Order.{IsBefore}
use Rattle.cell_name.specs.Square.{Square, root, no_square}
use Rattle.cell_name.proofs.Order.{IsBefore-irrefl}
use Rattle.quadtree.specs.Tree.{AreInGrid, IsTreeCell, AreExactly}
use Rattle.quadtree.proofs.LeafLevel.{cell_of, leaf_level_exists}
use Rattle.quadtree.proofs.Parents.{cell_of_point}

-- a cell stands at one number only
pub number_unique : (cells : List Square) (m n : ℕ) → AllPairs IsBefore cells → m < length cells → n < length cells → get_or cells m no_square ≡ get_or cells n no_square → m ≡ n
number_unique cells m n up p q e =
    elim (cases_lt m n) [
      | inl lt ↦ absurd (IsBefore-irrefl (get_or cells m no_square) (get_or cells n no_square) e (up m n no_square lt q))
      | inr ge ↦
          elim (cases_lt n m) [
            | inl lt ↦ absurd (IsBefore-irrefl (get_or cells n no_square) (get_or cells m no_square) (sym e) (up n m no_square lt p))
            | inr le ↦ omega arith
          ]
    ]

-- a cell of level 0 is the root
root_of_level : (grid : ℕ) (points : List Point) (cap : ℕ) (c : Square) → IsTreeCell grid points cap c → c.level ≡ 0 → c ≡ root grid
root_of_level grid points cap c h e = elim h.reached [ inl is_root ↦ is_root | inr below ↦ absurd (omega (arith, below.0)) ]

-- the first cell is the root, and no other is of level 0
pub level_of_first : (grid : ℕ) (points : List Point) (cap : ℕ) (cells : List Square) → 0 < grid → AreInGrid grid points → AreExactly (IsTreeCell grid points cap) cells → 0 < length cells → (get_or cells 0 no_square).level ≡ 0
level_of_first grid points cap cells positive inside t some =
    let first : Square = get_or cells 0 no_square in
    let in_tree : IsTreeCell grid points cap first = t.each 0 no_square some in
    let o = cell_of_point grid points first in_tree.of_grid inside in_tree.occupied in
    let level = leaf_level_exists grid points cap o.point positive o.given in
    let top : Square = cell_of grid o.point 0 in
    let at = t.whole top (level.1.in_tree 0 (omega arith)) in
    elim (cases_lt 0 at.0) [
      | inl later ↦
          let before : IsBefore first (get_or cells at.0 no_square) = t.ascending 0 at.0 no_square later at.1 in
          let here : get_or cells at.0 no_square ≡ top = get_or_default cells at.0 no_square top at.1 ∙ at.2 in
          let P : Square → Type 0 = λ c. IsBefore first c in
          no_higher first top refl (subst P here before)
      | inr none ↦
          let e : at.0 ≡ 0 = omega arith in
          ap (λ (c : Square). c.level) (get_or_default cells 0 no_square top some ∙ ap (λ n. get_or cells n top) (sym e) ∙ at.2)
    ]
  where
    no_higher : (c d : Square) → d.level ≡ 0 → IsBefore c d → c.level ≡ 0
    no_higher c d e b = elim b.before [ inl lt ↦ absurd (omega arith) | inr rest ↦ rest.0 ∙ e ]

pub level_of_others : (grid : ℕ) (points : List Point) (cap : ℕ) (cells : List Square) → 0 < grid → AreInGrid grid points → AreExactly (IsTreeCell grid points cap) cells → (n : ℕ) → n < length cells → 0 < n → 0 < (get_or cells n no_square).level
level_of_others grid points cap cells positive inside t n lt lo =
    elim (cases_lt 0 (get_or cells n no_square).level) [
      | inl deep ↦ deep
      | inr none ↦
          let here : get_or cells n no_square ≡ root grid = root_of_level grid points cap (get_or cells n no_square) (t.each n no_square lt) (omega arith) in
          let first : get_or cells 0 no_square ≡ root grid = root_of_level grid points cap (get_or cells 0 no_square) (t.each 0 no_square (omega arith)) (level_of_first grid points cap cells positive inside t (omega arith)) in
          absurd (let e : n ≡ 0 = number_unique cells n 0 t.ascending lt (omega arith) (here ∙ sym first) in omega arith)
    ]

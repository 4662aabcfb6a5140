-- The laws of cells, each over plain variables.
use Rattle.std.specs.Prelude.{ℕ, ◌≡◌, ◌+◌, ◌*◌, ◌≤◌, ◌<◌, ◌⊎◌, ◌↔◌, ℤ, IsTrue, pos, ◌+ℤ◌, ◌*ℤ◌, unsigned_abs}
use Rattle.cell_name.specs.Square.{Square, side, parent, child, ancestor, square_at, IsInGrid, Holds, holds_test, ClosedHolds, Touches, offset_x, offset_y, doubled_centre_x, doubled_centre_y}
use Rattle.cell_name.specs.Apart.{AreTwoOrThreeSidesApart, AreApart, IsLarge, sides_between}
use Rattle.cell_name.specs.Quarters.{LiesInOneChild}

-- a cell holds a place exactly where it is the place's cell of its level
abbrev pub OneCellHolds : Type 0
OneCellHolds = (c : Square) (x y : ℤ) → IsInGrid c.grid x y → Holds c x y ↔ (c ≡ square_at c.grid c.level x y)

-- the test by which points are counted says whether a cell holds a place
abbrev pub TestIsHolding : Type 0
TestIsHolding = (c : Square) (x y : ℤ) → IsTrue (holds_test c x y) ↔ Holds c x y

-- the parent of a place's cell is the place's cell of the level above
abbrev pub ParentHolds : Type 0
ParentHolds = (grid level : ℕ) (x y : ℤ) → level < grid → parent (square_at grid (level + 1) x y) ≡ square_at grid level x y

-- a parent has the places of its children
abbrev pub ParentHoldsPlaces : Type 0
ParentHoldsPlaces = (c : Square) (x y : ℤ) → 0 < c.level → c.level ≤ c.grid → Holds c x y → Holds (parent c) x y

-- the ancestor of a place's cell is the place's cell of the ancestor's level
abbrev pub AncestorHolds : Type 0
AncestorHolds = (grid level above : ℕ) (x y : ℤ) → above ≤ level → level ≤ grid → ancestor (square_at grid level x y) above ≡ square_at grid above x y

-- a place of a cell lies in exactly one of its quarters
abbrev pub ChildrenTile : Type 0
ChildrenTile = (c : Square) (x y : ℤ) → c.level < c.grid → Holds c x y → LiesInOneChild c x y

abbrev pub ParentOfChild : Type 0
ParentOfChild = (c : Square) (right top : ℕ) → right ≤ 1 → top ≤ 1 → parent (child c right top) ≡ c

-- the closed squares of cells that touch have a place in common
abbrev pub TouchesIsMeeting : Type 0
TouchesIsMeeting = (b c : Square) → Touches b c ↔ ((x : ℤ) × (y : ℤ) × ClosedHolds b x y × ClosedHolds c x y)

abbrev pub TouchesIsReflexive : Type 0
TouchesIsReflexive = (c : Square) → Touches c c

abbrev pub TouchesIsSymmetric : Type 0
TouchesIsSymmetric = (b c : Square) → Touches b c → Touches c b

-- a parent touches what its child touches
abbrev pub ParentTouches : Type 0
ParentTouches = (b c : Square) → 0 < c.level → c.level ≤ c.grid → Touches c b → Touches (parent c) b

-- the parents of cells that touch do too
abbrev pub ParentsTouch : Type 0
ParentsTouch = (b c : Square) → 0 < b.level → b.level ≤ b.grid → 0 < c.level → c.level ≤ c.grid → Touches b c → Touches (parent b) (parent c)

-- an ancestor touches what its descendant touches, so no descendant touches what the ancestor doesn't
abbrev pub AncestorTouches : Type 0
AncestorTouches = (b c : Square) (level : ℕ) → level ≤ c.level → c.level ≤ c.grid → Touches c b → Touches (ancestor c level) b

-- the doubled offset of a held place has parts of at most the side
abbrev pub OffsetIsSmall : Type 0
OffsetIsSmall = (c : Square) (x y : ℤ) → Holds c x y → (unsigned_abs (offset_x c x) ≤ side c) × (unsigned_abs (offset_y c y) ≤ side c)

-- the centres of two cells of one level differ by as many sides as their columns and rows
abbrev pub CentresDifferBySides : Type 0
CentresDifferBySides =
    (b c : Square) → b.grid ≡ c.grid → b.level ≡ c.level
    → (doubled_centre_x b ≡ doubled_centre_x c +ℤ pos (2 * side c) *ℤ (sides_between b c).re)
    × (doubled_centre_y b ≡ doubled_centre_y c +ℤ pos (2 * side c) *ℤ (sides_between b c).im)

-- two cells of one level whose parents touch and that don't touch
abbrev pub PairIsTwoOrThreeApart : Type 0
PairIsTwoOrThreeApart = (b c : Square) → b.grid ≡ c.grid → b.level ≡ c.level → (Touches b c → ⊥) → Touches (parent b) (parent c) → AreTwoOrThreeSidesApart b c

-- places in two cells of one level that don't touch
abbrev pub PlacesAreASideApart : Type 0
PlacesAreASideApart =
    (b c : Square) (x y x' y' : ℤ) → b.grid ≡ c.grid → b.level ≡ c.level → (Touches b c → ⊥)
    → Holds b x y → Holds c x' y' → AreApart (side c) x x' ⊎ AreApart (side c) y y'

-- a place in a cell, seen from a cell that is no higher and doesn't touch it
abbrev pub OffsetIsLarge : Type 0
OffsetIsLarge =
    (b c : Square) (x y : ℤ) → b.grid ≡ c.grid → b.level ≤ c.level → c.level ≤ c.grid → (Touches b c → ⊥)
    → Holds b x y → IsLarge (3 * side c) (offset_x c x) ⊎ IsLarge (3 * side c) (offset_y c y)

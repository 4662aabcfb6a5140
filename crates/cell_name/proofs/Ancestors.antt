-- An ancestor contains its descendants, and touches what they touch.
use Rattle.std.proofs.Common.{ℕ, ◌≡◌, ◌+◌, ◌-◌, ◌*◌, ◌/◌, ◌^◌, ◌<◌, ◌≤◌, refl, arith}
use Rattle.std.proofs.lemmas.Nat.{pow_pos}
use Rattle.std.proofs.Math.Nat.{mul-le-mul_right}
use Rattle.cell_name.specs.Square.{Square, side, ancestor, Touches}
use Rattle.cell_name.proofs.Axis.{piece_begins, piece_ends}
use Rattle.cell_name.proofs.Cells.{IsPart, Touches-part}
use Rattle.cell_name.proofs.Distances.{side-above}

-- a piece of the side `s` lies in the piece of `m` times the side that its number falls to
begins_within : (i m s t : ℕ) → t ≡ m * s → i / m * t ≤ i * s
begins_within i m s t e =
    let le : i / m * m * s ≤ i * s = mul-le-mul_right s (piece_begins i m) in
    rw e (omega arith)

ends_within : (i m s t : ℕ) → 0 < m → t ≡ m * s → i * s + s ≤ i / m * t + t
ends_within i m s t p e =
    let lt : i < i / m * m + m = piece_ends i m p in
    let le : (i + 1) * s ≤ (i / m * m + m) * s = mul-le-mul_right s (omega arith) in
    rw e (omega arith)

-- a cell lies in its ancestor of any level that is at most its own
pub IsPart-ancestor : (c : Square) (level : ℕ) → level ≤ c.level → c.level ≤ c.grid → IsPart c (ancestor c level)
IsPart-ancestor c level le hi =
    let m : ℕ = 2 ^ (c.level - level) in
    let p : 0 < m = pow_pos (c.level - level) in
    let e : side (ancestor c level) ≡ m * side c = side-above c.grid level c.level le hi in
    record {
      same_grid = refl;
      west = begins_within c.i m (side c) (side (ancestor c level)) e;
      east = ends_within c.i m (side c) (side (ancestor c level)) p e;
      south = begins_within c.j m (side c) (side (ancestor c level)) e;
      north = ends_within c.j m (side c) (side (ancestor c level)) p e;
    }

pub Touches-ancestor : (b c : Square) (level : ℕ) → level ≤ c.level → c.level ≤ c.grid → Touches c b → Touches (ancestor c level) b
Touches-ancestor b c level le hi t = Touches-part b c (ancestor c level) (IsPart-ancestor c level le hi) t

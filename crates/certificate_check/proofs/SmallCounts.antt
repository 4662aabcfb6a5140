-- The counts of line 1 are small.
use Rattle.std.proofs.Common.{ℕ, ◌<◌, ◌^◌, Bool, true, false, arith}
use Rattle.std.specs.Prelude.{◌-◌, ◌==◌, cond}
use Rattle.std.proofs.lemmas.Int.{ints}
use Rattle.cert_text.specs.Certificate.{Certificate, IsCertificate}
use Rattle.certificate_check.specs.Failures.{IsSmall}
use Rattle.limits.specs.Limits.{grid_of, most_points, most_cells, most_entries}

bounded : (grid : ℕ) → (most_points grid < 2 ^ 31) × (most_cells grid < 2 ^ 31) × (most_entries grid < 2 ^ 31)
bounded grid = (by_case (grid == 16), by_case_cells (grid == 16), by_case_entries (grid == 16))
  where
    by_case : (b : Bool) → cond b 65536 131072 < 2 ^ 31
    by_case true = omega arith
    by_case false = omega arith

    by_case_cells : (b : Bool) → cond b 65536 131072 < 2 ^ 31
    by_case_cells true = omega arith
    by_case_cells false = omega arith

    by_case_entries : (b : Bool) → cond b (2 ^ 28 - 1) (2 ^ 29 - 1) < 2 ^ 31
    by_case_entries true = omega arith
    by_case_entries false = omega arith

pub small : (c : Certificate) → IsCertificate c → IsSmall c.head
small c is =
    let b = bounded (grid_of c.head.version) in
    let counts = is.head_is.counts in
    record {
      points = let m = counts.0.most in let p = b.0 in omega (arith, ints, m, p);
      targets = let m = counts.1.most in let p = b.0 in omega (arith, ints, m, p);
      cells = let m = counts.2.most in let p = b.1 in omega (arith, ints, m, p);
      entries = let m = counts.3.most in let p = b.2 in omega (arith, ints, m, p);
    }

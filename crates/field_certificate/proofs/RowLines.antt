-- The line put of a cell's row is the one that its certificate has.
use Rattle.std.proofs.Common.{ℕ, ◌≡◌, ◌≤◌, ◌*◌, ◌^◌, [], List, ℤ, pos, Bool, true, false, cond, sym, subst, arith}
use Rattle.std.proofs.lemmas.Int.{ints}
use Rattle.std.specs.Int.{w128}
use Rattle.std.specs.Prelude.{Some, None, MatchOption, IfSome, FitsSigned, codes, ◌==◌, ◌≤ℤ◌}
use Rattle.std.specs.declared.option.Option.{Option}
use Rattle.accounting_text.specs.Written.{multipole_line, local_line}
use Rattle.cert_text.specs.Lines.{Line, line, line_bytes}
use Rattle.complex_box.specs.declared.CBox.{CBox}
use Rattle.field_certificate.specs.Private.{line_of_multipole, line_of_local}
use Rattle.limits.specs.Limits.{first_grid, most_weight}
use Rattle.row_recursions.specs.Rows.{row_of}

weight_small : (b : Bool) → 2 ^ 48 * cond b (2 ^ 32) (2 ^ 36) ≤ 2 ^ 84
weight_small true = omega arith
weight_small false = omega arith

-- a radius is kept whole where it is put
pub radius_kept : (grid radius : ℕ) (z : ℤ) → z ≡ pos radius → z ≤ℤ pos (2 ^ 48 * most_weight grid) → FitsSigned w128 z
radius_kept grid radius z is most = omega (arith, ints, is, most, weight_small (grid == first_grid))

-- with a row where the cell has what the row is of, and only there
module _ (A : Type 0) (cells : A → List CBox) (Q : List ℕ → Type 0) (row : List CBox) (some : Bool) where
  either : (without : Line) (with_row : List CBox → Line) (r : Option A) → MatchOption r (some ≡ false) (λ x. some ≡ true) → IfSome r (λ x. cells x ≡ row)
      → MatchOption r (Q (line_bytes without)) (λ x. Q (line_bytes (with_row (cells x)))) → Q (line_bytes (cond some (with_row row) without))
  either without with_row None has same put = subst (λ b. Q (line_bytes (cond b (with_row row) without))) (sym has) put
  either without with_row (Some x) has same put =
      subst (λ b. Q (line_bytes (cond b (with_row row) without))) (sym has) (subst (λ cs. Q (line_bytes (with_row cs))) same put)

  pub multipole_put : (P : ℕ) (r : Option A) → MatchOption r (some ≡ false) (λ x. some ≡ true) → IfSome r (λ x. cells x ≡ row)
      → MatchOption r (Q (line_bytes (line (codes "m -") []))) (λ x. Q (line_bytes (line_of_multipole P (cells x)))) → Q (line_bytes (multipole_line P some (row_of row)))
  multipole_put P r has same put = either (line (codes "m -") []) (line_of_multipole P) r has same put

  pub local_put : (P radius : ℕ) (z : ℤ) (r : Option A) → z ≡ pos radius → MatchOption r (some ≡ false) (λ x. some ≡ true) → IfSome r (λ x. cells x ≡ row)
      → MatchOption r (Q (line_bytes (line (codes "l -") []))) (λ x. Q (line_bytes (line_of_local P z (cells x)))) → Q (line_bytes (local_line P some radius (row_of row)))
  local_put P radius z r is has same put =
      either (line (codes "l -") []) (line_of_local P (pos radius)) r has same
      (subst (λ y. MatchOption r (Q (line_bytes (line (codes "l -") []))) (λ x. Q (line_bytes (line_of_local P y (cells x))))) is put)

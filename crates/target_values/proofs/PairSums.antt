-- Sums of boxes and counts over sources, one position after another.
use Rattle.std.proofs.Common.{◌≡◌, ◌∙◌, ◌+◌, ◌*◌, ◌^◌, ◌<◌, ◌≤◌, sym, ap, ap₂, refl, arith, Bool, true, false, cond, not, if◌then◌else◌, ℕ, List, [], ◌∷◌, ◌++◌, length, take, get_or, fold, map, filter, to_z-of_z, to_z, of_z, SFits, w64, ℤ}
use Rattle.std.proofs.lemmas.Int.{ints}
use Rattle.std.proofs.lemmas.List.{map_more}
use Rattle.std.proofs.lemmas.List.Elements.{filter-append}
use Rattle.std.proofs.lemmas.List.Sums.{fold-append, fold_more, sum_by-append, count_by-le-length}
use Rattle.exact_math.specs.Ends.{BoxEnds, add_box, zero_box}
use Rattle.exact_math.specs.Gaussian.{Gaussian, gaussian}
use Rattle.points.specs.Points.{is_source}
use Rattle.near_field.specs.Pair.{is_at, pair_box}
use Rattle.limits.specs.Grid.{IsInGrid}
use Rattle.limits.specs.Limits.{widest_grid}
use Rattle.points.specs.Limits.{InRange, weight64}
use Rattle.points.specs.declared.Point.{Point}
use Rattle.row_recursions.proofs.Points.{weight_bounded}
use Rattle.soundness.specs.Computed.{total_box}
use Rattle.complex_box.specs.Counts.{Counts}
use Rattle.field_basis.specs.Counts.{paired, sources_at, count_apart}
use Rattle.field_basis.specs.Targets.{point_at}

abbrev pub sources : List Point → List Point
sources some = filter (λ p. is_source p.kind) some

abbrev with_box : Gaussian → BoxEnds → Point → BoxEnds
with_box t sum p = add_box sum (pair_box t p)

-- ---- one pair, as the calls have it
pub ends_at : (x y : ℤ) (p : Point) {e : BoxEnds} → IsInGrid widest_grid x y → e ≡ pair_box (gaussian (to_z w64 (of_z w64 x)) (to_z w64 (of_z w64 y))) p → e ≡ pair_box (gaussian x y) p
ends_at x y p grid h =
    let f : SFits w64 x = omega (arith, ints) in
    let g : SFits w64 y = omega (arith, ints) in
    rw (to_z-of_z f, to_z-of_z g) at h

pub pairs_at : (x y : ℤ) (p : Point) {m : ℕ} (n : ℕ) → IsInGrid widest_grid x y → m ≡ n + (if is_at (gaussian (to_z w64 (of_z w64 x)) (to_z w64 (of_z w64 y))) p then 0 else 1) → m ≡ n + (if is_at (gaussian x y) p then 0 else 1)
pairs_at x y p n grid h =
    let f : SFits w64 x = omega (arith, ints) in
    let g : SFits w64 y = omega (arith, ints) in
    rw (to_z-of_z f, to_z-of_z g) at h

pub sum_of_one : (t : Gaussian) (p : Point) (s : BoxEnds) → is_source p.kind ≡ true → add_box s (pair_box t p) ≡ fold (with_box t) s (sources (p ∷ []))
sum_of_one t p s source = ap (λ b. fold (with_box t) s (cond b (p ∷ []) [])) (sym source)

-- ---- counts that are raised
pub paired_again : (a b : ℕ) (w : Counts) → paired b (paired a w) ≡ paired (a + b) w
paired_again a b w = ap (λ n. record w { pairs = n }) (omega arith)

pub pair_counted : (t : Gaussian) (p : Point) (old new : Counts) → is_source p.kind ≡ true → new.pairs ≡ old.pairs + (if is_at t p then 0 else 1) → new.translations ≡ old.translations → new ≡ paired (count_apart t (sources (p ∷ []))) old
pair_counted t p old new source h same =
    ap₂ (λ m n. record { translations = m; pairs = n }) same (h ∙ ap (λ k. old.pairs + k) (one (is_at t p) ∙ ap (λ b. count_apart t (cond b (p ∷ []) [])) (sym source)))
  where
    one : (b : Bool) → (if b then 0 else 1) ≡ 0 + cond {A = ℕ} (not b) 1 0
    one true = refl
    one false = refl

-- a point in range brings little
pub weight-most : (p : Point) → InRange widest_grid p → 2 ^ 40 * weight64 p ≤ 2 ^ 67
weight-most p range = let light = weight_bounded p range in omega arith

-- ---- one position more
sources_at-more : (points : List Point) (ms : List ℕ) (i : ℕ) (p : Point) → i < length ms → p ≡ point_at points (get_or ms i 0) → sources_at points (take (i + 1) ms) ≡ sources_at points (take i ms) ++ sources (p ∷ [])
sources_at-more points ms i p lt e =
    ap sources (map_more (point_at points) ms i 0 lt)
    ∙ filter-append (λ p. is_source p.kind) (map (point_at points) (take i ms)) (point_at points (get_or ms i 0) ∷ [])
    ∙ ap (λ q. sources_at points (take i ms) ++ sources (q ∷ [])) (sym e)

module _ (t : Gaussian) (points : List Point) (ms : List ℕ) (i : ℕ) (p : Point) (lt : i < length ms) (is : p ≡ point_at points (get_or ms i 0)) where
  pub ends-step : {s e : BoxEnds} → s ≡ total_box (pair_box t) (sources_at points (take i ms)) → e ≡ fold (with_box t) s (sources (p ∷ [])) → e ≡ total_box (pair_box t) (sources_at points (take (i + 1) ms))
  ends-step a b =
      b ∙ ap (λ s. fold (with_box t) s (sources (p ∷ []))) a
      ∙ sym (ap (total_box (pair_box t)) (sources_at-more points ms i p lt is) ∙ fold-append (with_box t) zero_box (sources_at points (take i ms)) (sources (p ∷ [])))

  pub count-step : count_apart t (sources_at points (take i ms)) + count_apart t (sources (p ∷ [])) ≡ count_apart t (sources_at points (take (i + 1) ms))
  count-step = sym (ap (count_apart t) (sources_at-more points ms i p lt is) ∙ sum_by-append (λ q. cond (not (is_at t q)) 1 0) (sources_at points (take i ms)) (sources (p ∷ [])))

pub one_at_most : (t : Gaussian) (p : Point) → count_apart t (sources (p ∷ [])) ≤ 1
one_at_most t p = by (is_source p.kind)
  where
    by : (b : Bool) → count_apart t (cond b (p ∷ []) []) ≤ 1
    by true = count_by-le-length (λ q. not (is_at t q)) (p ∷ [])
    by false = omega arith

-- ---- one member of a list more
pub total-step : {A : Type 0} (f : A → BoxEnds) (xs : List A) (i : ℕ) (d : A) → i < length xs → {s e : BoxEnds} → s ≡ total_box f (take i xs) → e ≡ add_box s (f (get_or xs i d)) → e ≡ total_box f (take (i + 1) xs)
total-step f xs i d lt a b = b ∙ ap (λ s. add_box s (f (get_or xs i d))) a ∙ sym (fold_more (λ s y. add_box s (f y)) zero_box xs i d lt)

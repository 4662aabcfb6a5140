-- The sources and the targets that a certificate gives are those of the list, in its order.
use Rattle.std.proofs.Common.{ℕ, suc, ◌≡◌, ◌<◌, Bool, true, false, not, cond, ◌&&◌, List, [], ◌∷◌, length, get_or, map, filter, refl, sym, ap, ap₂, ◌∙◌, arith}
use Rattle.std.specs.Prelude.{All}
use Rattle.std.proofs.lemmas.List.{nil_from_length}
use Rattle.std.proofs.lemmas.List.Elements.{All-nil, All-cons}
use Rattle.exact_math.specs.Gaussian.{Gaussian}
use Rattle.exact_math.specs.Sums.{sum_terms}
use Rattle.exact_math.proofs.Lists.{filter-filter, filter_same}
use Rattle.accounting_text.specs.Given.{number_at, given_sources, given_targets}
use Rattle.cert_text.specs.Certificate.{nth_line, nth_box}
use Rattle.cert_text.specs.Lines.{Line}
use Rattle.near_field.specs.DirectSum.{acts_on, direct_sum}
use Rattle.near_field.specs.Pair.{is_at, term_of}
use Rattle.points.specs.Points.{is_source, place}
use Rattle.points.specs.declared.Point.{Point}
use Rattle.soundness.specs.Accounts.{LeafSource, LeafTarget, points_of}
use Rattle.certificate_rules.specs.LineRules.{targets_of, nth_place}

abbrev source_at : Point → Line → LeafSource
source_at p l = record { point = p; leaf = number_at l 0 }

abbrev target_at : Point → Line → Line → LeafTarget
target_at p l t = record { place = place p; leaf = number_at l 0; box = nth_box t.numbers 0 }

-- ---- what holds of the place and the node of each point
module _ (Q : Gaussian → ℕ → Type 0) where
  abbrev pub HoldsOfPoints : List Point → List Line → Type 0
  HoldsOfPoints ps ls = (k : ℕ) → k < length ps → Q (nth_place ps k) (number_at (nth_line ls k) 0)

  behind : (p : Point) (ps : List Point) (l : Line) (ls : List Line) → HoldsOfPoints (p ∷ ps) (l ∷ ls) → HoldsOfPoints ps ls
  behind p ps l ls h k lt = h (suc k) (omega (arith, lt))

  abbrev OfSource : LeafSource → Type 0
  OfSource x = Q (place x.point) x.leaf

  abbrev OfTarget : LeafTarget → Type 0
  OfTarget t = Q t.place t.leaf

  more_sources : (p : Point) (l : Line) (xs : List LeafSource) → OfSource (source_at p l) → All OfSource xs → (b : Bool) → All OfSource (cond b (source_at p l ∷ xs) xs)
  more_sources p l xs h rest true = All-cons OfSource (source_at p l) xs h rest
  more_sources p l xs h rest false = rest

  pub sources_hold : (ps : List Point) (ls : List Line) → length ls ≡ length ps → HoldsOfPoints ps ls → All OfSource (given_sources ps ls)
  sources_hold [] ls e h = All-nil OfSource
  sources_hold (p ∷ ps) [] e h = absurd (omega (arith, e))
  sources_hold (p ∷ ps) (l ∷ ls) e h = more_sources p l (given_sources ps ls) (h 0 (omega arith)) (sources_hold ps ls (omega (arith, e)) (behind p ps l ls h)) (is_source p.kind)

  more_targets : (t : LeafTarget) (without with : List LeafTarget) → OfTarget t → All OfTarget without → All OfTarget with → (b : Bool) → All OfTarget (cond b without (t ∷ with))
  more_targets t without with h left right true = left
  more_targets t without with h left right false = All-cons OfTarget t with h right

  pub targets_hold : (ps : List Point) (ls ts : List Line) → length ls ≡ length ps → HoldsOfPoints ps ls → All OfTarget (given_targets ps ls ts)
  targets_hold [] ls ts e h = All-nil OfTarget
  targets_hold (p ∷ ps) [] ts e h = absurd (omega (arith, e))
  targets_hold (p ∷ ps) (l ∷ ls) [] e h = All-nil OfTarget
  targets_hold (p ∷ ps) (l ∷ ls) (t ∷ ts) e h = more_targets (target_at p l t) (given_targets ps ls (t ∷ ts)) (given_targets ps ls ts) (h 0 (omega arith))
      (targets_hold ps ls (t ∷ ts) (omega (arith, e)) (behind p ps l ls h)) (targets_hold ps ls ts (omega (arith, e)) (behind p ps l ls h)) (is_source p.kind)

-- ---- which they are
one_source : (p : Point) (l : Line) (xs : List LeafSource) (ps : List Point) → points_of xs ≡ ps → (b : Bool) → points_of (cond b (source_at p l ∷ xs) xs) ≡ cond b (p ∷ ps) ps
one_source p l xs ps e true = ap (λ ps. p ∷ ps) e
one_source p l xs ps e false = e

pub sources_are : (ps : List Point) (ls : List Line) → length ls ≡ length ps → points_of (given_sources ps ls) ≡ filter (λ p. is_source p.kind) ps
sources_are [] ls e = refl
sources_are (p ∷ ps) [] e = absurd (omega (arith, e))
sources_are (p ∷ ps) (l ∷ ls) e = one_source p l (given_sources ps ls) (filter (λ p. is_source p.kind) ps) (sources_are ps ls (omega (arith, e))) (is_source p.kind)

abbrev places_of : List LeafTarget → List Gaussian
places_of ts = map (λ t. t.place) ts

-- a source is passed over, and a target takes the next line
one_target : (t : LeafTarget) (without with : List LeafTarget) (n : ℕ) (p : Point) (ps : List Point) → t.place ≡ place p
    → (n ≡ length ps → places_of without ≡ map place ps) → (n ≡ suc (length ps) → places_of with ≡ map place ps)
    → (b : Bool) → n ≡ length (cond (not b) (p ∷ ps) ps) → places_of (cond b without (t ∷ with)) ≡ map place (cond (not b) (p ∷ ps) ps)
one_target t without with n p ps at left right true e = left e
one_target t without with n p ps at left right false e = ap₂ (λ z zs. z ∷ zs) at (right e)

pub targets_are : (ps : List Point) (ls ts : List Line) → length ls ≡ length ps → length ts ≡ length (targets_of ps) → places_of (given_targets ps ls ts) ≡ map place (targets_of ps)
targets_are [] ls ts e n = refl
targets_are (p ∷ ps) [] ts e n = absurd (omega (arith, e))
targets_are (p ∷ ps) (l ∷ ls) [] e n = sym (ap (map place) (nil_from_length (targets_of (p ∷ ps)) (sym n)))
targets_are (p ∷ ps) (l ∷ ls) (t ∷ ts) e n = one_target (target_at p l t) (given_targets ps ls (t ∷ ts)) (given_targets ps ls ts) (length (t ∷ ts)) p (targets_of ps) refl
    (λ m. targets_are ps ls (t ∷ ts) (omega (arith, e)) m) (λ m. targets_are ps ls ts (omega (arith, e)) (omega (arith, m))) (is_source p.kind) n

-- ---- what isn't a source adds nothing
once : (a b : Bool) → (a && (a && b)) ≡ (a && b)
once true b = refl
once false b = refl

pub direct_sum-sources : (t : Gaussian) (ps : List Point) → direct_sum t (filter (λ p. is_source p.kind) ps) ≡ direct_sum t ps
direct_sum-sources t ps = ap (sum_terms (term_of t))
    (filter-filter (acts_on t) (λ p. is_source p.kind) ps
    ∙ filter_same (λ p. is_source p.kind && acts_on t p) (acts_on t) ps (λ k d lt. once (is_source (get_or ps k d).kind) (not (is_at t (get_or ps k d)))))

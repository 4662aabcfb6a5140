-- Each point takes its leaf from the sources or from the targets, so the sources and the targets are found again among the points.
use Rattle.std.proofs.Common.{◌≡◌, suc, Bool, true, false, not, List, [], ◌∷◌, length, get_or, drop, map, filter, refl, sym, ap, ap₂, arith}
use Rattle.exact_math.specs.Gaussian.{Gaussian}
use Rattle.points.specs.Points.{is_source, place}
use Rattle.points.specs.declared.Point.{Point}
use Rattle.soundness.specs.Accounts.{LeafSource, LeafTarget}
use Rattle.accounting_text.specs.Given.{given_sources, given_targets}
use Rattle.accounting_text.specs.Written.{leaves, at_line, given_target_line}

-- ---- lists that are equal
first_same : {X : Type 0} (x y : X) (xs ys : List X) → x ∷ xs ≡ y ∷ ys → x ≡ y
first_same x y xs ys e = ap (λ l. get_or l 0 x) e

rest_same : {X : Type 0} (x y : X) (xs ys : List X) → x ∷ xs ≡ y ∷ ys → xs ≡ ys
rest_same x y xs ys e = ap (drop 1) e

not_empty : {X : Type 0} (y : X) (ys : List X) → [] ≡ y ∷ ys → ⊥
not_empty y ys e = let lengths : 0 ≡ suc (length ys) = ap length e in omega (arith, lengths)

-- ---- points
-- the sources and targets that are those of the points, in order
abbrev AreOf : List Point → List LeafSource → List LeafTarget → Type 0
AreOf ps xs ts = (map (λ x. x.point) xs ≡ filter (λ p. is_source p.kind) ps) × (map (λ t. t.place) ts ≡ map place (filter (λ p. not (is_source p.kind)) ps))

-- are those that the lines of the points and of the targets give
abbrev AreGiven : List Point → List LeafSource → List LeafTarget → Type 0
AreGiven ps xs ts =
    (given_sources ps (map at_line (leaves ps xs ts)) ≡ xs) × (given_targets ps (map at_line (leaves ps xs ts)) (map (λ t. given_target_line t.box) ts) ≡ ts)

abbrev AllGiven : List Point → Type 0
AllGiven ps = (xs : List LeafSource) (ts : List LeafTarget) → AreOf ps xs ts → AreGiven ps xs ts

source_is : (x : LeafSource) (p : Point) → x.point ≡ p → record { point = p; leaf = x.leaf } ≡ x
source_is x p e = ap (λ p. record { point = p; leaf = x.leaf }) (sym e)

target_is : (t : LeafTarget) (z : Gaussian) → t.place ≡ z → record { place = z; leaf = t.leaf; box = t.box } ≡ t
target_is t z e = ap (λ z. record { place = z; leaf = t.leaf; box = t.box }) (sym e)

after_source : (p : Point) (ps : List Point) → is_source p.kind ≡ true → AllGiven ps → AllGiven (p ∷ ps)
after_source p ps s ih [] ts h = absurd (not_empty _ _ (rw s at h.0))
after_source p ps s ih (x ∷ xs) [] h =
    let sources : x.point ∷ map (λ x. x.point) xs ≡ p ∷ filter (λ p. is_source p.kind) ps = rw s at h.0 in
    let targets : [] ≡ map place (filter (λ p. not (is_source p.kind)) ps) = rw s at h.1 in
    let behind : AreGiven ps xs [] = ih xs [] (rest_same _ _ _ _ sources, targets) in
    rw s (ap₂ (λ y ys. y ∷ ys) (source_is x p (first_same _ _ _ _ sources)) behind.0, refl)
after_source p ps s ih (x ∷ xs) (t ∷ ts) h =
    let sources : x.point ∷ map (λ x. x.point) xs ≡ p ∷ filter (λ p. is_source p.kind) ps = rw s at h.0 in
    let targets : map (λ t. t.place) (t ∷ ts) ≡ map place (filter (λ p. not (is_source p.kind)) ps) = rw s at h.1 in
    let behind : AreGiven ps xs (t ∷ ts) = ih xs (t ∷ ts) (rest_same _ _ _ _ sources, targets) in
    rw (s, s) (ap₂ (λ y ys. y ∷ ys) (source_is x p (first_same _ _ _ _ sources)) behind.0, behind.1)

after_target : (p : Point) (ps : List Point) → is_source p.kind ≡ false → AllGiven ps → AllGiven (p ∷ ps)
after_target p ps s ih xs [] h = absurd (not_empty _ _ (rw s at h.1))
after_target p ps s ih [] (t ∷ ts) h =
    let sources : [] ≡ filter (λ p. is_source p.kind) ps = rw s at h.0 in
    let targets : t.place ∷ map (λ t. t.place) ts ≡ place p ∷ map place (filter (λ p. not (is_source p.kind)) ps) = rw s at h.1 in
    let behind : AreGiven ps [] ts = ih [] ts (sources, rest_same _ _ _ _ targets) in
    rw s (behind.0, ap₂ (λ y ys. y ∷ ys) (target_is t (place p) (first_same _ _ _ _ targets)) behind.1)
after_target p ps s ih (x ∷ xs) (t ∷ ts) h =
    let sources : map (λ x. x.point) (x ∷ xs) ≡ filter (λ p. is_source p.kind) ps = rw s at h.0 in
    let targets : t.place ∷ map (λ t. t.place) ts ≡ place p ∷ map place (filter (λ p. not (is_source p.kind)) ps) = rw s at h.1 in
    let behind : AreGiven ps (x ∷ xs) ts = ih (x ∷ xs) ts (sources, rest_same _ _ _ _ targets) in
    rw (s, s) (behind.0, ap₂ (λ y ys. y ∷ ys) (target_is t (place p) (first_same _ _ _ _ targets)) behind.1)

after_point : (p : Point) (ps : List Point) (b : Bool) → is_source p.kind ≡ b → AllGiven ps → AllGiven (p ∷ ps)
after_point p ps true s ih = after_source p ps s ih
after_point p ps false s ih = after_target p ps s ih

no_elements : {X Y : Type 0} (f : X → Y) (xs : List X) → map f xs ≡ [] → xs ≡ []
no_elements f [] e = refl
no_elements f (x ∷ xs) e = absurd (not_empty _ _ (sym e))

pub leaves_given : (ps : List Point) → AllGiven ps
leaves_given [] xs ts h = (sym (no_elements _ xs h.0), sym (no_elements _ ts h.1))
leaves_given (p ∷ ps) xs ts h = after_point p ps (is_source p.kind) refl (leaves_given ps) xs ts h

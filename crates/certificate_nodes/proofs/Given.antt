-- The points that a certificate gives, against their numbers in the list: those of a node, and those of the targets.
use Rattle.std.proofs.Common.{ℕ, zero, suc, ◌≡◌, ◌<◌, ◌==◌, Bool, true, false, not, cond, List, [], ◌∷◌, length, get_or, map, filter, inl, inr, refl, sym, ap, ap₂, ◌∙◌, subst, arith}
use Rattle.std.specs.List.{range_with_len}
use Rattle.std.proofs.lemmas.Bool.{cases_Bool, true≢false}
use Rattle.std.proofs.lemmas.List.{get_or-map, length-map}
use Rattle.std.proofs.lemmas.List.FromFn.{fill_by_all}
use Rattle.std.proofs.lemmas.Simd.{map-map}
use Rattle.accounting_text.specs.Given.{number_at, given_sources, given_targets}
use Rattle.cert_text.specs.Certificate.{nth_line, nth_box}
use Rattle.cert_text.specs.Lines.{Line, line}
use Rattle.certificate_rules.specs.LineRules.{targets_of, nth_target}
use Rattle.exact_math.proofs.Lists.{filter-map}
use Rattle.exact_math.specs.Gaussian.{Gaussian}
use Rattle.points.specs.Points.{is_source, place}
use Rattle.points.specs.declared.Point.{Point}
use Rattle.soundness.specs.Accounts.{LeafSource, LeafTarget}
use Rattle.soundness.specs.Computed.{point_of}
use Rattle.certificate_nodes.specs.AtNodes.{no_point, point_at, points_at}
use Rattle.certificate_nodes.specs.Keys.{point_key}
use Rattle.certificate_nodes.proofs.Ranges.{filter_range-suc}

abbrev source_at : Point → Line → LeafSource
source_at p l = record { point = p; leaf = number_at l 0 }

abbrev target_at : Point → Line → Line → LeafTarget
target_at p l t = record { place = place p; leaf = number_at l 0; box = nth_box t.numbers 0 }

-- the numbers behind the first are those of the points behind it
points_behind : (p : Point) (ps : List Point) (ks : List ℕ) → points_at (p ∷ ps) (map suc ks) ≡ points_at ps ks
points_behind p ps ks = map-map (point_at (p ∷ ps)) suc ks

-- how many boxes are left behind a point
boxes_left : (m : ℕ) (p : Point) (ps : List Point) (b : Bool) → m ≡ length (targets_of (p ∷ ps)) → is_source p.kind ≡ b → m ≡ length (cond (not b) (p ∷ targets_of ps) (targets_of ps))
boxes_left m p ps b e s = e ∙ ap (λ b. length (cond (not b) (p ∷ targets_of ps) (targets_of ps))) s

-- ---- those of a node
module _ (other n : ℕ) (apart : (other == n) ≡ false) where
  -- the points with the key n
  abbrev kept : Bool → List Point → List Line → List ℕ
  kept sources ps ls = filter (λ k. point_key sources (point_at ps k) (number_at (nth_line ls k) 0) other == n) (range_with_len 0 (length ps))

  kept_more : (sources : Bool) (p : Point) (ps : List Point) (l : Line) (ls : List Line)
      → kept sources (p ∷ ps) (l ∷ ls) ≡ cond (point_key sources p (number_at l 0) other == n) (0 ∷ map suc (kept sources ps ls)) (map suc (kept sources ps ls))
  kept_more sources p ps l ls = filter_range-suc (λ k. point_key sources (point_at (p ∷ ps) k) (number_at (nth_line (l ∷ ls) k) 0) other == n) (length ps)

  abbrev sources_in : List LeafSource → List LeafSource
  sources_in xs = filter (λ x. x.leaf == n) xs

  one_source : (p : Point) (ps : List Point) (a : ℕ) (ks : List ℕ) (xs : List LeafSource) → points_at ps ks ≡ map point_of (sources_in xs)
      → (b : Bool) → points_at (p ∷ ps) (cond (cond b a other == n) (0 ∷ map suc ks) (map suc ks)) ≡ map point_of (sources_in (cond b (record { point = p; leaf = a } ∷ xs) xs))
  one_source p ps a ks xs e true = here (a == n)
    where
      here : (c : Bool) → points_at (p ∷ ps) (cond c (0 ∷ map suc ks) (map suc ks)) ≡ map point_of (cond c (record { point = p; leaf = a } ∷ sources_in xs) (sources_in xs))
      here true = ap (λ l. p ∷ l) (points_behind p ps ks ∙ e)
      here false = points_behind p ps ks ∙ e
  one_source p ps a ks xs e false = ap (λ c. points_at (p ∷ ps) (cond c (0 ∷ map suc ks) (map suc ks))) apart ∙ points_behind p ps ks ∙ e

  pub sources_of_key : (ps : List Point) (ls : List Line) → length ls ≡ length ps → points_at ps (kept true ps ls) ≡ map point_of (sources_in (given_sources ps ls))
  sources_of_key [] ls e = refl
  sources_of_key (p ∷ ps) [] e = absurd (omega (arith, e))
  sources_of_key (p ∷ ps) (l ∷ ls) e =
      ap (points_at (p ∷ ps)) (kept_more true p ps l ls)
      ∙ one_source p ps (number_at l 0) (kept true ps ls) (given_sources ps ls) (sources_of_key ps ls (omega (arith, e))) (is_source p.kind)

  -- targets
  abbrev places_in : List LeafTarget → List Gaussian
  places_in ts = map (λ t. t.place) (filter (λ t. t.leaf == n) ts)

  one_target : (p : Point) (ps : List Point) (ks : List ℕ) (t : LeafTarget) (without with : List LeafTarget) → t.place ≡ place p → (b : Bool)
      → (b ≡ true → map place (points_at ps ks) ≡ places_in without) → (b ≡ false → map place (points_at ps ks) ≡ places_in with)
      → map place (points_at (p ∷ ps) (cond (cond b other t.leaf == n) (0 ∷ map suc ks) (map suc ks))) ≡ places_in (cond b without (t ∷ with))
  one_target p ps ks t without with at true left right =
      ap (λ c. map place (points_at (p ∷ ps) (cond c (0 ∷ map suc ks) (map suc ks)))) apart ∙ ap (map place) (points_behind p ps ks) ∙ left refl
  one_target p ps ks t without with at false left right = here (t.leaf == n)
    where
      here : (c : Bool) → map place (points_at (p ∷ ps) (cond c (0 ∷ map suc ks) (map suc ks))) ≡ map (λ t. t.place) (cond c (t ∷ filter (λ t. t.leaf == n) with) (filter (λ t. t.leaf == n) with))
      here true = ap₂ (λ z zs. z ∷ zs) (sym at) (ap (map place) (points_behind p ps ks) ∙ right refl)
      here false = ap (map place) (points_behind p ps ks) ∙ right refl

  no_boxes : (ps : List Point) (ls : List Line) → given_targets ps ls [] ≡ []
  no_boxes [] ls = refl
  no_boxes (p ∷ ps) [] = refl
  no_boxes (p ∷ ps) (l ∷ ls) = refl

  pub targets_of_key : (ps : List Point) (ls ts : List Line) → length ls ≡ length ps → length ts ≡ length (targets_of ps) → map place (points_at ps (kept false ps ls)) ≡ places_in (given_targets ps ls ts)
  targets_of_key [] ls ts e m = refl
  targets_of_key (p ∷ ps) [] ts e m = absurd (omega (arith, e))
  targets_of_key (p ∷ ps) (l ∷ ls) (t ∷ ts) e m =
      ap (λ ks. map place (points_at (p ∷ ps) ks)) (kept_more false p ps l ls)
      ∙ one_target p ps (kept false ps ls) (target_at p l t) (given_targets ps ls (t ∷ ts)) (given_targets ps ls ts) refl (is_source p.kind)
      (λ s. targets_of_key ps ls (t ∷ ts) (omega (arith, e)) (boxes_left (length (t ∷ ts)) p ps true m s))
      (λ s. let left = boxes_left (length (t ∷ ts)) p ps false m s in targets_of_key ps ls ts (omega (arith, e)) (omega (arith, left)))
  targets_of_key (p ∷ ps) (l ∷ ls) [] e m = elim (cases_Bool (is_source p.kind)) [
    | inl s ↦
        ap (λ ks. map place (points_at (p ∷ ps) ks)) (kept_more false p ps l ls)
        ∙ one_target p ps (kept false ps ls) (target_at p l (line [] [])) [] [] refl (is_source p.kind)
        (λ s. targets_of_key ps ls [] (omega (arith, e)) (boxes_left 0 p ps true m s) ∙ ap places_in (no_boxes ps ls))
        (λ f. absurd (true≢false (sym s ∙ f)))
        ∙ ap (λ b. places_in (cond b [] (target_at p l (line [] []) ∷ []))) s
    | inr s ↦ let left = boxes_left 0 p ps false m s in absurd (omega (arith, left))
  ]

-- ---- the targets' numbers
abbrev pub target_numbers : List Point → List ℕ
target_numbers ps = filter (λ k. not (is_source (point_at ps k).kind)) (range_with_len 0 (length ps))

points_are : (ps : List Point) → ps ≡ points_at ps (range_with_len 0 (length ps))
points_are ps = fill_by_all (point_at ps) ps (length ps) no_point refl (λ k lt. refl)

targets_are : (ps : List Point) → points_at ps (target_numbers ps) ≡ targets_of ps
targets_are ps = sym (filter-map (λ p. not (is_source p.kind)) (point_at ps) (range_with_len 0 (length ps))) ∙ sym (ap (filter (λ p. not (is_source p.kind))) (points_are ps))

pub as_many_numbers : (ps : List Point) → length (target_numbers ps) ≡ length (targets_of ps)
as_many_numbers ps = omega (arith, ap length (targets_are ps), length-map (target_numbers ps) (point_at ps))

-- the k-th target of a list stands at a position
pub record StandsAt (ps : List Point) (ls ts : List Line) (k position : ℕ) : Type 0 where
  pub inside : position < length ps
  pub place_is : place (point_at ps position) ≡ (nth_target (given_targets ps ls ts) k).place
  pub node_is : number_at (nth_line ls position) 0 ≡ (nth_target (given_targets ps ls ts) k).leaf
  pub box_is : (nth_target (given_targets ps ls ts) k).box ≡ nth_box (nth_line ts k).numbers 0

-- over the next point
behind_source : (p : Point) (ps : List Point) (l : Line) (ls ts : List Line) (k position : ℕ) → StandsAt ps ls ts k position → given_targets (p ∷ ps) (l ∷ ls) ts ≡ given_targets ps ls ts → StandsAt (p ∷ ps) (l ∷ ls) ts k (suc position)
behind_source p ps l ls ts k position h e = record {
  inside = omega (arith, h.inside);
  place_is = h.place_is ∙ ap (λ xs. (nth_target xs k).place) (sym e);
  node_is = h.node_is ∙ ap (λ xs. (nth_target xs k).leaf) (sym e);
  box_is = ap (λ xs. (nth_target xs k).box) e ∙ h.box_is;
}

behind_target : (p : Point) (ps : List Point) (l : Line) (ls : List Line) (t : Line) (ts : List Line) (k position : ℕ) → StandsAt ps ls ts k position → given_targets (p ∷ ps) (l ∷ ls) (t ∷ ts) ≡ target_at p l t ∷ given_targets ps ls ts
    → StandsAt (p ∷ ps) (l ∷ ls) (t ∷ ts) (suc k) (suc position)
behind_target p ps l ls t ts k position h e = record {
  inside = omega (arith, h.inside);
  place_is = h.place_is ∙ ap (λ xs. (nth_target xs (suc k)).place) (sym e);
  node_is = h.node_is ∙ ap (λ xs. (nth_target xs (suc k)).leaf) (sym e);
  box_is = ap (λ xs. (nth_target xs (suc k)).box) e ∙ h.box_is;
}

at_target : (p : Point) (ps : List Point) (l : Line) (ls : List Line) (t : Line) (ts : List Line) → given_targets (p ∷ ps) (l ∷ ls) (t ∷ ts) ≡ target_at p l t ∷ given_targets ps ls ts → StandsAt (p ∷ ps) (l ∷ ls) (t ∷ ts) 0 0
at_target p ps l ls t ts e = record {
  inside = omega arith;
  place_is = ap (λ xs. (nth_target xs 0).place) (sym e);
  node_is = ap (λ xs. (nth_target xs 0).leaf) (sym e);
  box_is = ap (λ xs. (nth_target xs 0).box) e;
}

numbers_more : (p : Point) (ps : List Point) (b : Bool) → is_source p.kind ≡ b → target_numbers (p ∷ ps) ≡ cond (not b) (0 ∷ map suc (target_numbers ps)) (map suc (target_numbers ps))
numbers_more p ps b s =
    filter_range-suc (λ k. not (is_source (point_at (p ∷ ps) k).kind)) (length ps) ∙ ap (λ b. cond (not b) (0 ∷ map suc (target_numbers ps)) (map suc (target_numbers ps))) s

abbrev AllStand : List Point → List Line → Type 0
AllStand ps ls = (ts : List Line) → length ts ≡ length (targets_of ps) → (k : ℕ) → k < length (targets_of ps) → StandsAt ps ls ts k (get_or (target_numbers ps) k 0)

after_source : (p : Point) (ps : List Point) (l : Line) (ls : List Line) → AllStand ps ls → is_source p.kind ≡ true → (t : Line) (ts : List Line) → length (t ∷ ts) ≡ length (targets_of (p ∷ ps))
    → (k : ℕ) → k < length (targets_of (p ∷ ps)) → StandsAt (p ∷ ps) (l ∷ ls) (t ∷ ts) k (get_or (target_numbers (p ∷ ps)) k 0)
after_source p ps l ls ih s t ts m k lt =
    let fewer : length (targets_of (p ∷ ps)) ≡ length (targets_of ps) = boxes_left (length (targets_of (p ∷ ps))) p ps true refl s in
    let inside : k < length (target_numbers ps) = omega (arith, lt, fewer, as_many_numbers ps) in
    let position : get_or (target_numbers (p ∷ ps)) k 0 ≡ suc (get_or (target_numbers ps) k 0) = ap (λ l. get_or l k 0) (numbers_more p ps true s) ∙ get_or-map suc (target_numbers ps) k 0 0 inside in
    let given = ap (λ b. cond b (given_targets ps ls (t ∷ ts)) (target_at p l t ∷ given_targets ps ls ts)) s in
    subst (StandsAt (p ∷ ps) (l ∷ ls) (t ∷ ts) k) (sym position)
    (behind_source p ps l ls (t ∷ ts) k (get_or (target_numbers ps) k 0) (ih (t ∷ ts) (m ∙ fewer) k (omega (arith, lt, fewer))) given)

after_target : (p : Point) (ps : List Point) (l : Line) (ls : List Line) → AllStand ps ls → is_source p.kind ≡ false → (t : Line) (ts : List Line) → length (t ∷ ts) ≡ length (targets_of (p ∷ ps))
    → (k : ℕ) → k < length (targets_of (p ∷ ps)) → StandsAt (p ∷ ps) (l ∷ ls) (t ∷ ts) k (get_or (target_numbers (p ∷ ps)) k 0)
after_target p ps l ls ih s t ts m zero lt =
    let given = ap (λ b. cond b (given_targets ps ls (t ∷ ts)) (target_at p l t ∷ given_targets ps ls ts)) s in
    subst (StandsAt (p ∷ ps) (l ∷ ls) (t ∷ ts) 0) (sym (ap (λ l. get_or l 0 0) (numbers_more p ps false s))) (at_target p ps l ls t ts given)
after_target p ps l ls ih s t ts m (suc k) lt =
    let fewer : length (targets_of (p ∷ ps)) ≡ suc (length (targets_of ps)) = boxes_left (length (targets_of (p ∷ ps))) p ps false refl s in
    let inside : k < length (target_numbers ps) = omega (arith, lt, fewer, as_many_numbers ps) in
    let position : get_or (target_numbers (p ∷ ps)) (suc k) 0 ≡ suc (get_or (target_numbers ps) k 0) = ap (λ l. get_or l (suc k) 0) (numbers_more p ps false s) ∙ get_or-map suc (target_numbers ps) k 0 0 inside in
    let given = ap (λ b. cond b (given_targets ps ls (t ∷ ts)) (target_at p l t ∷ given_targets ps ls ts)) s in
    subst (StandsAt (p ∷ ps) (l ∷ ls) (t ∷ ts) (suc k)) (sym position)
    (behind_target p ps l ls t ts k (get_or (target_numbers ps) k 0) (ih ts (omega (arith, m, fewer)) k (omega (arith, lt, fewer))) given)

pub target_stands : (ps : List Point) (ls ts : List Line) → length ls ≡ length ps → length ts ≡ length (targets_of ps) → (k : ℕ) → k < length (targets_of ps) → StandsAt ps ls ts k (get_or (target_numbers ps) k 0)
target_stands [] ls ts e m k lt = absurd (omega arith)
target_stands (p ∷ ps) [] ts e m k lt = absurd (omega (arith, e))
target_stands (p ∷ ps) (l ∷ ls) [] e m k lt = absurd (omega (arith, m, lt))
target_stands (p ∷ ps) (l ∷ ls) (t ∷ ts) e m k lt =
    let ih : AllStand ps ls = λ ts m k lt. target_stands ps ls ts (omega (arith, e)) m k lt in
    elim (cases_Bool (is_source p.kind)) [ inl s ↦ after_source p ps l ls ih s t ts m k lt | inr s ↦ after_target p ps l ls ih s t ts m k lt ]

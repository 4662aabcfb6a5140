-- The numbers of the cells below each cell.
use Rattle.std.proofs.Common.{ℕ, ◌≡◌, ◌≢◌, ◌+◌, ◌-◌, ◌<◌, ◌≤◌, zero, suc, inl, inr, List, [], ◌∷◌, ◌++◌, length, get_or, set, map, filter, Bool, true, false, cond, ltb, eqb, refl, sym, ap, ◌∙◌, subst, arith, add-one, append-nil, length-append}
use Rattle.std.specs.Prelude.{AllPairs, Contains, ◌&&◌}
use Rattle.std.specs.List.{range_with_len}
use Rattle.std.proofs.Math.ListN.{length-set}
use Rattle.std.proofs.lemmas.Bool.{and_from, and_parts, cases_eq, eq-eqb, eqb-true, lt-ltb, ltb-true}
use Rattle.std.proofs.lemmas.List.{get_or-set_same, get_or-set_other, length-map}
use Rattle.std.proofs.lemmas.List.Elements.{filter-append}
use Rattle.std.proofs.lemmas.List.Kept.{AllPairs-filter}
use Rattle.points.specs.declared.Point.{Point}
use Rattle.cell_name.specs.Quarters.{quarters}
use Rattle.cell_name.specs.Square.{Square, no_square, parent}
use Rattle.cell_name.proofs.Order.{IsBefore-irrefl}
use Rattle.cell_name.proofs.Quarters.{quarters_contain}
use Rattle.quadtree.specs.declared.children.Children.{Children}
use Rattle.quadtree.specs.Families.{children_among, HasNumbers, AreFamiliesTo}
use Rattle.quadtree.specs.Fields.{child_numbers, no_children}
use Rattle.quadtree.specs.Splitting.{IsParentNumber}
use Rattle.quadtree.specs.Tree.{AreInGrid, AreExactly, IsTreeCell}
use Rattle.quadtree.proofs.Distinct.{Contains-filter, length-le_from_different}
use Rattle.exact_math.proofs.Lists.{AllPairs-map, AllPairs-range, image_of, range_below}
use Rattle.quadtree.proofs.TreeNumbers.{level_of_others}

-- a range with one number more
pub range_more : (a n : ℕ) → range_with_len a (suc n) ≡ range_with_len a n ++ (a + n) ∷ []
range_more a zero = let e : a ≡ a + 0 = omega arith in ap (λ v. v ∷ []) e
range_more a (suc n) =
    let e : a + 1 + n ≡ a + suc n = omega arith in
    ap (λ l. a ∷ l) (range_more (a + 1) n ∙ ap (λ v. range_with_len (a + 1) n ++ v ∷ []) e)

-- a number that is among the children of another
pub record IsAmong (parents : List ℕ) (n count k : ℕ) : Type 0 where
  pub below : k < count
  pub positive : 0 < k
  pub parent_is : get_or parents k 0 ≡ n

pub among : (parents : List ℕ) (n count k : ℕ) → Contains (children_among parents n count) k → IsAmong parents n count k
among parents n count k h =
    let kept = Contains-filter (λ j. ltb 0 j && eqb (get_or parents j 0) n) (range_with_len 0 count) k h in
    let parts = and_parts (ltb 0 k) (eqb (get_or parents k 0) n) kept.1 in
    record { below = range_below count k kept.0; positive = ltb-true 0 k parts.0; parent_is = eqb-true (get_or parents k 0) n parts.1 }

-- no cell has more than four: they are different quarters of it
pub at_most_four : (grid : ℕ) (points : List Point) (cap : ℕ) (cells : List Square) (parents : List ℕ) → 0 < grid → AreInGrid grid points → AreExactly (IsTreeCell grid points cap) cells → ((k : ℕ) → k < length cells → IsParentNumber cells (get_or cells k no_square) (get_or parents k 0)) → (n : ℕ) → length (children_among parents n (length cells)) ≤ 4
at_most_four grid points cap cells parents positive inside t named n =
    let children : List ℕ = children_among parents n (length cells) in
    let cell : ℕ → Square = λ k. get_or cells k no_square in
    let c : Square = cell n in
    let fewer : length (map cell children) ≤ length (quarters c) = length-le_from_different (map cell children) (quarters c) different quarter in
    omega (arith, fewer, length-map children cell)
  where
    different : AllPairs (λ a b. a ≢ b) (map (λ k. get_or cells k no_square) (children_among parents n (length cells)))
    different =
        AllPairs-map (λ a b. a ≢ b) (λ k. get_or cells k no_square) (children_among parents n (length cells))
        (AllPairs-filter (λ j k. get_or cells j no_square ≢ get_or cells k no_square) (λ k. ltb 0 k && eqb (get_or parents k 0) n) (range_with_len 0 (length cells))
        (λ i j d lt in_range e.
        let r = AllPairs-range (length cells) i j d lt in_range in
        IsBefore-irrefl _ _ e (t.ascending _ _ no_square r.0 r.1)))

    quarter : (s : Square) → Contains (map (λ k. get_or cells k no_square) (children_among parents n (length cells))) s → Contains (quarters (get_or cells n no_square)) s
    quarter s h =
        let i = image_of (λ k. get_or cells k no_square) (children_among parents n (length cells)) s h in
        let k : ℕ = i.source in
        let a = among parents n (length cells) k i.listed in
        let lo = level_of_others grid points cap cells positive inside t k a.below a.positive in
        let up : parent (get_or cells k no_square) ≡ get_or cells n no_square = sym ((named k a.below).of_others lo) ∙ ap (λ m. get_or cells m no_square) a.parent_is in
        let P : Square → Type 0 = λ v. Contains (quarters v) (get_or cells k no_square) in
        let Q : Square → Type 0 = λ v. Contains (quarters (get_or cells n no_square)) v in
        subst Q i.gives (subst P up (quarters_contain (get_or cells k no_square) lo))

-- ---- gathering the children
-- the children among one number more
pub children_more : (parents : List ℕ) (m n : ℕ) → children_among parents m (n + 1) ≡ children_among parents m n ++ cond (ltb 0 n && eqb (get_or parents n 0) m) (n ∷ []) []
children_more parents m n =
    let test : ℕ → Bool = λ k. ltb 0 k && eqb (get_or parents k 0) m in
    let last : 0 + n ≡ n = omega arith in
    rw add-one (ap (filter test) (range_more 0 n) ∙ filter-append test (range_with_len 0 n) ((0 + n) ∷ []) ∙ ap (λ k. filter test (range_with_len 0 n) ++ filter test (k ∷ [])) last)

-- more numbers have no fewer children among them
children_grow : (parents : List ℕ) (m n more : ℕ) → length (children_among parents m n) ≤ length (children_among parents m (n + more))
children_grow parents m n zero = let e : n + 0 ≡ n = omega arith in rw e (omega arith)
children_grow parents m n (suc more) =
    let e : n + suc more ≡ n + more + 1 = omega arith in
    rw (e, children_more parents m (n + more)) (omega (arith, children_grow parents m n more, length-append (children_among parents m (n + more)) (cond (ltb 0 (n + more) && eqb (get_or parents (n + more) 0) m) ((n + more) ∷ []) [])))

-- the test of a number's own parent
is_own : (parents : List ℕ) (m n : ℕ) → 0 < n → m ≡ get_or parents n 0 → (ltb 0 n && eqb (get_or parents n 0) m) ≡ true
is_own parents m n lo e = and_from (ltb 0 n) (eqb (get_or parents n 0) m) (lt-ltb 0 n lo) (eq-eqb (get_or parents n 0) m (sym e))

is_other : (parents : List ℕ) (m n : ℕ) → m ≢ get_or parents n 0 → (ltb 0 n && eqb (get_or parents n 0) m) ≡ false
is_other parents m n ne = by_test (ltb 0 n && eqb (get_or parents n 0) m) refl
  where
    by_test : (b : Bool) → (ltb 0 n && eqb (get_or parents n 0) m) ≡ b → b ≡ false
    by_test true e = absurd (ne (sym (eqb-true (get_or parents n 0) m (and_parts (ltb 0 n) (eqb (get_or parents n 0) m) e).1)))
    by_test false e = refl

-- a parent that gets one more has fewer than four
pub room_for_one : (parents : List ℕ) (was : List Children) (n m total : ℕ) (read : Children) → 0 < n → n < total → m ≡ get_or parents n 0 → m < length parents → AreFamiliesTo parents was n → read ≡ get_or was m no_children → length (children_among parents m total) ≤ 4 → read.count < 4
room_for_one parents was n m total read lo lt own inside h e four =
    let family = h.each m inside in
    let own_test = is_own parents m n lo own in
    let next : children_among parents m (n + 1) ≡ children_among parents m n ++ n ∷ [] = children_more parents m n ∙ ap (λ b. children_among parents m n ++ cond b (n ∷ []) []) own_test in
    let long : length (children_among parents m (n + 1)) ≡ length (children_among parents m n) + 1 = ap length next ∙ length-append (children_among parents m n) (n ∷ []) in
    let rest : n + 1 + (total - (n + 1)) ≡ total = omega arith in
    let grown : length (children_among parents m (n + 1)) ≤ length (children_among parents m total) = subst (λ k. length (children_among parents m (n + 1)) ≤ length (children_among parents m k)) rest (children_grow parents m (n + 1) (total - (n + 1))) in
    omega (arith, family.count_is, ap (λ (f : Children). f.count) e, long, grown, four)

pub families_more : (parents : List ℕ) (was : List Children) (n m : ℕ) (read new : Children) → 0 < n → m ≡ get_or parents n 0 → m < length parents → AreFamiliesTo parents was n → read ≡ get_or was m no_children → HasNumbers new (child_numbers read ++ n ∷ []) → AreFamiliesTo parents (set was m new) (n + 1)
families_more parents was n m read new lo own inside h e made = record { as_many = length-set was m new ∙ h.as_many; each = each }
  where
    mine : HasNumbers new (children_among parents m (n + 1))
    mine =
        let P : List ℕ → Type 0 = λ l. HasNumbers new l in
        let now : child_numbers read ++ n ∷ [] ≡ children_among parents m (n + 1) =
        ap (λ f. child_numbers f ++ n ∷ []) e ∙ ap (λ l. l ++ n ∷ []) (h.each m inside).numbers_are ∙
        sym (children_more parents m n ∙ ap (λ b. children_among parents m n ++ cond b (n ∷ []) []) (is_own parents m n lo own)) in
        subst P now made

    other : (k : ℕ) → k < length parents → k ≢ m → HasNumbers (get_or was k no_children) (children_among parents k (n + 1))
    other k lt ne =
        let P : List ℕ → Type 0 = λ l. HasNumbers (get_or was k no_children) l in
        let same : children_among parents k n ≡ children_among parents k (n + 1) =
        sym (children_more parents k n ∙ ap (λ b. children_among parents k n ++ cond b (n ∷ []) []) (is_other parents k n (λ f. ne (f ∙ sym own))) ∙ append-nil (children_among parents k n)) in
        subst P same (h.each k lt)

    each : (k : ℕ) → k < length parents → HasNumbers (get_or (set was m new) k no_children) (children_among parents k (n + 1))
    each k lt =
        elim (cases_eq k m) [
          | inl same ↦
              let P : Children → Type 0 = λ f. HasNumbers f (children_among parents k (n + 1)) in
              let Q : ℕ → Type 0 = λ j. HasNumbers new (children_among parents j (n + 1)) in
              let here : get_or (set was m new) k no_children ≡ new = ap (λ j. get_or (set was m new) j no_children) same ∙ get_or-set_same was m new no_children (omega (arith, h.as_many)) in
              subst P (sym here) (subst Q (sym same) mine)
          | inr ne ↦ let P : Children → Type 0 = λ f. HasNumbers f (children_among parents k (n + 1)) in subst P (sym (get_or-set_other was m k new no_children ne)) (other k lt ne)
        ]

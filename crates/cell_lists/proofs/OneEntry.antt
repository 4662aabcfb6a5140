-- Exactly one entry accounts for each pair of a target and a source.
use Rattle.std.proofs.Common.{ℕ, ◌≡◌, ◌+◌, ◌-◌, ◌/◌, ◌^◌, ◌<◌, ◌≤◌, suc, arith, refl, sym, ap, ◌∙◌, subst, List, IsTrue}
use Rattle.std.specs.Prelude.{Contains, ◌↔◌}
use Rattle.std.proofs.lemmas.List.Elements.{All-contains}
use Rattle.points.specs.declared.Point.{Point}
use Rattle.cell_name.specs.Square.{Square, root, parent, ancestor, IsInGrid, Holds, Touches}
use Rattle.cell_name.proofs.Quarters.{ancestor-square_at}
use Rattle.cell_lists.specs.Walk.{AncestorsTouch}
use Rattle.std.proofs.Math.Nat.{div-eq_of_lt}
use Rattle.cell_name.proofs.Cells.{same_square, Holds-square_at, square_at-unique, parent-square_at, square_at-root, Touches-refl, Touches-sym, Touches-part, IsPart-square_at, decide_touches}
use Rattle.quadtree.specs.Tree.{IsTreeCell, IsLeaf, AreInGrid, has_target, has_source}
use Rattle.quadtree.proofs.LeafLevel.{cell_of, IsListed, IsLeafLevel, leaf_level_exists}
use Rattle.letters.specs.declared.Letter.{Letter}
use Rattle.letters.specs.declared.Letter.TheVariants.{U, V, W, X}
use Rattle.cell_lists.specs.Entries.{IsPair, IsEntry, Accounts, NoOtherAccounts, IsTargetAndSource, EachPairHasOneEntry}
use Rattle.cell_lists.specs.Cases.{IsCase}
use Rattle.cell_lists.proofs.Descent.{PassesUp, case_exists, case_unique}
use Rattle.quadtree.proofs.Occupants.{target_in, target_there, source_in, source_there}

-- the target's cell of level `k` touches the source's cell of level `l`
abbrev pub TouchAt : ℕ → Point → Point → ℕ → ℕ → Type 0
TouchAt grid p q k l = Touches (cell_of grid p k) (cell_of grid q l)

pub touch_passes_up : (grid : ℕ) (p q : Point) → PassesUp (TouchAt grid p q)
touch_passes_up grid p q =
    record {
      first = λ k l t. Touches-part (cell_of grid q l) (cell_of grid p (suc k)) (cell_of grid p k) (IsPart-square_at grid k p.x p.y) t;
      second = λ k l t. Touches-sym (cell_of grid q l) (cell_of grid p k) (Touches-part (cell_of grid p k) (cell_of grid q (suc l)) (cell_of grid q l) (IsPart-square_at grid l q.x q.y) (Touches-sym (cell_of grid p k) (cell_of grid q (suc l)) t));
      decided = λ k l. decide_touches (cell_of grid p k) (cell_of grid q l);
    }

touch_at_roots : (grid : ℕ) (p q : Point) → 0 < grid → IsInGrid grid p.x p.y → IsInGrid grid q.x q.y → TouchAt grid p q 0 0
touch_at_roots grid p q positive gp gq =
    let ep = square_at-root grid p.x p.y positive gp in
    let eq = square_at-root grid q.x q.y positive gq in
    rw (ep, eq) (Touches-refl (root grid))

parent_of : (grid : ℕ) (p : Point) (k : ℕ) → 0 < k → k ≤ grid → parent (cell_of grid p k) ≡ cell_of grid p (k - 1)
parent_of grid p k lo hi =
    let e : k - 1 + 1 ≡ k = omega arith in
    let h : parent (cell_of grid p (k - 1 + 1)) ≡ cell_of grid p (k - 1) = parent-square_at grid (k - 1) p.x p.y (omega arith) in
    rw e at h

pub touches_along : (b b' c c' : Square) → b ≡ b' → c ≡ c' → Touches b c → Touches b' c'
touches_along b b' c c' eb ec t = let P : Square → Type 0 = λ v. Touches v c' in let Q : Square → Type 0 = λ v. Touches b v in subst P eb (subst Q ec t)

-- a cell of the grid that holds a point is the point's cell of its level
pub cell_is : (grid : ℕ) (c : Square) (p : Point) → c.grid ≡ grid → IsInGrid grid p.x p.y → Holds c p.x p.y → c ≡ cell_of grid p c.level
cell_is grid c p same inside held =
    let P : ℕ → Type 0 = λ n. IsInGrid n p.x p.y in
    square_at-unique c p.x p.y (subst P (sym same) inside) held ∙ ap (λ n. cell_of n p c.level) same

-- the cells of a pair are cells of the tree
pub in_tree_of : (grid : ℕ) (points : List Point) (cap : ℕ) (letter : Letter) (b c : Square) → IsPair grid points cap letter b c → IsTreeCell grid points cap b × IsTreeCell grid points cap c
in_tree_of grid points cap U b c h = (h.0.in_tree, h.1.in_tree)
in_tree_of grid points cap V b c h = (h.0, h.1)
in_tree_of grid points cap W b c h = (h.0.in_tree, h.1)
in_tree_of grid points cap X b c h = (h.1, h.0.in_tree)

-- a pair of a letter, of the cells of the two places, is that letter's case
case_of : (grid : ℕ) (points : List Point) (cap : ℕ) (p q : Point) (m n : ℕ) → IsLeafLevel grid points cap p m → IsLeafLevel grid points cap q n → (letter : Letter) (k l : ℕ) → IsPair grid points cap letter (cell_of grid p k) (cell_of grid q l) → IsCase (TouchAt grid p q) m n letter k l
case_of grid points cap p q m n lp lq U k l h =
    record { first_ends = lp.no_other k h.0; second_ends = lq.no_other l h.1; holds = h.2 }
case_of grid points cap p q m n lp lq V k l h =
    record {
      same = h.2.same_level;
      below = h.2.below_root;
      in_first = lp.no_deeper k h.0;
      in_second = lq.no_deeper l h.1;
      holds_above =
          touches_along _ _ _ _ (parent_of grid p k h.2.below_root h.0.level_in_grid)
          (parent_of grid q l (omega (arith, h.2.same_level, h.2.below_root)) h.1.level_in_grid) h.2.parents_touch;
      fails = h.2.apart;
    }
case_of grid points cap p q m n lp lq W k l h =
    record {
      first_ends = lp.no_other k h.0;
      deeper = h.2.deeper;
      in_second = lq.no_deeper l h.1;
      holds_above = Touches-sym (cell_of grid q (l - 1)) (cell_of grid p k) (touches_along _ _ _ _ (parent_of grid q l (omega (arith, h.2.deeper)) h.1.level_in_grid) refl h.2.parent_touches);
      fails = λ t. h.2.apart (Touches-sym (cell_of grid p k) (cell_of grid q l) t);
    }
case_of grid points cap p q m n lp lq X k l h =
    record {
      first_ends = lq.no_other l h.0;
      deeper = h.2.deeper;
      in_second = lp.no_deeper k h.1;
      holds_above = touches_along _ _ _ _ (parent_of grid p k (omega (arith, h.2.deeper)) h.1.level_in_grid) refl h.2.parent_touches;
      fails = h.2.apart;
    }

leaf_at_level : (grid : ℕ) (points : List Point) (cap : ℕ) (p : Point) (last : ℕ) → IsLeafLevel grid points cap p last → (k : ℕ) → k ≡ last → IsLeaf grid points cap (cell_of grid p k)
leaf_at_level grid points cap p last h k e = let P : ℕ → Type 0 = λ v. IsLeaf grid points cap (cell_of grid p v) in subst P (sym e) h.leaf

-- and a case of a letter is a pair of that letter
pair_of : (grid : ℕ) (points : List Point) (cap : ℕ) (p q : Point) (m n : ℕ) → IsLeafLevel grid points cap p m → IsLeafLevel grid points cap q n → (letter : Letter) (k l : ℕ) → IsCase (TouchAt grid p q) m n letter k l → IsPair grid points cap letter (cell_of grid p k) (cell_of grid q l)
pair_of grid points cap p q m n lp lq U k l h =
    (leaf_at_level grid points cap p m lp k h.first_ends, leaf_at_level grid points cap q n lq l h.second_ends, h.holds)
pair_of grid points cap p q m n lp lq V k l h = (
  lp.in_tree k h.in_first,
  lq.in_tree l h.in_second,
  record {
    same_level = h.same;
    below_root = h.below;
    parents_touch =
        touches_along _ _ _ _ (sym (parent_of grid p k h.below (omega (arith, h.in_first, lp.in_grid))))
        (sym (parent_of grid q l (omega (arith, h.same, h.below)) (omega (arith, h.in_second, lq.in_grid)))) h.holds_above;
    apart = h.fails;
  },
)
pair_of grid points cap p q m n lp lq W k l h = (
  leaf_at_level grid points cap p m lp k h.first_ends,
  lq.in_tree l h.in_second,
  record {
    deeper = h.deeper;
    parent_touches = touches_along _ _ _ _ (sym (parent_of grid q l (omega (arith, h.deeper)) (omega (arith, h.in_second, lq.in_grid)))) refl (Touches-sym (cell_of grid p k) (cell_of grid q (l - 1)) h.holds_above);
    apart = λ t. h.fails (Touches-sym (cell_of grid q l) (cell_of grid p k) t);
  },
)
pair_of grid points cap p q m n lp lq X k l h = (
  leaf_at_level grid points cap q n lq l h.first_ends,
  lp.in_tree k h.in_second,
  record {
    deeper = h.deeper;
    parent_touches = touches_along _ _ _ _ (sym (parent_of grid p k (omega (arith, h.deeper)) (omega (arith, h.in_second, lp.in_grid)))) refl h.holds_above;
    apart = h.fails;
  },
)

pair_along : (grid : ℕ) (points : List Point) (cap : ℕ) (letter : Letter) (b b' c c' : Square) → b ≡ b' → c ≡ c' → IsPair grid points cap letter b c → IsPair grid points cap letter b' c'
pair_along grid points cap letter b b' c c' eb ec h =
    let P : Square → Type 0 = λ v. IsPair grid points cap letter v c' in
    let Q : Square → Type 0 = λ v. IsPair grid points cap letter b v in
    subst P eb (subst Q ec h)

pub listed : (grid : ℕ) (points : List Point) (p : Point) → AreInGrid grid points → Contains points p → IsListed grid points p
listed grid points p inside l = record { listed = l; in_grid = All-contains (λ p. IsInGrid grid p.x p.y) points p inside l }

pub each_pair_has_one_entry : EachPairHasOneEntry
each_pair_has_one_entry grid points cap p q positive inside given =
    let gp = listed grid points p inside given.target_listed in
    let gq = listed grid points q inside given.source_listed in
    let lp = leaf_level_exists grid points cap p positive gp in
    let lq = leaf_level_exists grid points cap q positive gq in
    let up = touch_passes_up grid p q in
    let found = case_exists (TouchAt grid p q) up (touch_at_roots grid p q positive gp.in_grid gq.in_grid) lp.0 lq.0 in
    let k = found.1 in
    let l = found.2 in
    let hold_p = Holds-square_at grid k p.x p.y gp.in_grid in
    let hold_q = Holds-square_at grid l q.x q.y gq.in_grid in
    record {
      letter = found.0;
      b = cell_of grid p k;
      c = cell_of grid q l;
      entry = record {
        target = target_there points (cell_of grid p k) (record { point = p; listed = given.target_listed; held = hold_p; passes = given.is_target });
        source = source_there points (cell_of grid q l) (record { point = q; listed = given.source_listed; held = hold_q; passes = given.is_source });
        pair = pair_of grid points cap p q lp.0 lq.0 lp.1 lq.1 found.0 k l found.3;
      };
      accounts = record { target_held = hold_p; source_held = hold_q };
      no_other = λ letter' b' c' entry accounts.
          let eb : b' ≡ cell_of grid p b'.level = cell_is grid b' p (in_tree_of grid points cap letter' b' c' entry.pair).0.of_grid gp.in_grid accounts.target_held in
          let ec : c' ≡ cell_of grid q c'.level = cell_is grid c' q (in_tree_of grid points cap letter' b' c' entry.pair).1.of_grid gq.in_grid accounts.source_held in
          let case' = case_of grid points cap p q lp.0 lq.0 lp.1 lq.1 letter' b'.level c'.level (pair_along grid points cap letter' b' (cell_of grid p b'.level) c' (cell_of grid q c'.level) eb ec entry.pair) in
          let same = case_unique (TouchAt grid p q) up lp.0 lq.0 letter' found.0 b'.level c'.level k l case' found.3 in
          (same.same_letter, eb ∙ ap (cell_of grid p) same.same_first, ec ∙ ap (cell_of grid q) same.same_second);
    }

-- an entry that accounts for a target and a source of the list is the only one
pub only_entry : (grid : ℕ) (points : List Point) (cap : ℕ) (letter : Letter) (b c : Square) (target source : Point) → 0 < grid → AreInGrid grid points → IsTargetAndSource points target source → IsEntry grid points cap letter b c → Accounts b c target source → NoOtherAccounts grid points cap letter b c target source
only_entry grid points cap letter b c target source positive inside given entry accounts letter' b' c' entry' accounts' =
    let one = each_pair_has_one_entry grid points cap target source positive inside given in
    let this = one.no_other letter b c entry accounts in
    let other = one.no_other letter' b' c' entry' accounts' in
    (other.0 ∙ sym this.0, other.1 ∙ sym this.1, other.2 ∙ sym this.2)

-- ---- the entry of two leaves, by their ancestors

-- a case depends on `T` down to the ends of the chains alone
case_like : (T T' : ℕ → ℕ → Type 0) (m n : ℕ) → ((k l : ℕ) → k ≤ m → l ≤ n → T k l ↔ T' k l) → (letter : Letter) (k l : ℕ) → IsCase T m n letter k l → IsCase T' m n letter k l
case_like T T' m n like U k l h =
    record { first_ends = h.first_ends; second_ends = h.second_ends; holds = (like k l (omega (arith, h.first_ends)) (omega (arith, h.second_ends))).0 h.holds }
case_like T T' m n like V k l h =
    record {
      same = h.same;
      below = h.below;
      in_first = h.in_first;
      in_second = h.in_second;
      holds_above = (like (k - 1) (l - 1) (omega (arith, h.in_first)) (omega (arith, h.in_second))).0 h.holds_above;
      fails = λ t. h.fails ((like k l h.in_first h.in_second).1 t);
    }
case_like T T' m n like W k l h =
    record {
      first_ends = h.first_ends;
      deeper = h.deeper;
      in_second = h.in_second;
      holds_above = (like k (l - 1) (omega (arith, h.first_ends)) (omega (arith, h.in_second))).0 h.holds_above;
      fails = λ t. h.fails ((like k l (omega (arith, h.first_ends)) h.in_second).1 t);
    }
case_like T T' m n like X k l h =
    record {
      first_ends = h.first_ends;
      deeper = h.deeper;
      in_second = h.in_second;
      holds_above = (like (k - 1) l (omega (arith, h.in_second)) (omega (arith, h.first_ends))).0 h.holds_above;
      fails = λ t. h.fails ((like k l h.in_second (omega (arith, h.first_ends))).1 t);
    }

pub levels_of_case : (T : ℕ → ℕ → Type 0) (m n : ℕ) (letter : Letter) (k l : ℕ) → IsCase T m n letter k l → (k ≤ m) × (l ≤ n)
levels_of_case T m n U k l h = (omega (arith, h.first_ends), omega (arith, h.second_ends))
levels_of_case T m n V k l h = (h.in_first, h.in_second)
levels_of_case T m n W k l h = (omega (arith, h.first_ends), h.in_second)
levels_of_case T m n X k l h = (h.in_second, omega (arith, h.first_ends))

-- the ancestor of a cell that holds a point is the point's cell
pub ancestor_of : (grid : ℕ) (b : Square) (p : Point) (k : ℕ) → b ≡ cell_of grid p b.level → b.level ≤ grid → k ≤ b.level → cell_of grid p k ≡ ancestor b k
ancestor_of grid b p k e le kb =
    let a : ancestor (cell_of grid p b.level) k ≡ cell_of grid p k = ancestor-square_at grid b.level k p.x p.y kb le in
    sym a ∙ ap (λ v. ancestor v k) (sym e)

pub entry_from_case : (grid : ℕ) (points : List Point) (cap : ℕ) (b c : Square) (letter : Letter) (k l : ℕ) → 0 < grid → AreInGrid grid points → IsLeaf grid points cap b → IsLeaf grid points cap c → IsTrue (has_target points b) → IsTrue (has_source points c) → IsCase (AncestorsTouch b c) b.level c.level letter k l → IsEntry grid points cap letter (ancestor b k) (ancestor c l)
entry_from_case grid points cap b c letter k l positive inside b_leaf c_leaf with_target with_source h =
    let target = target_in points b with_target in
    let source = source_in points c with_source in
    let p : Point = target.point in
    let q : Point = source.point in
    let gp = listed grid points p inside target.listed in
    let gq = listed grid points q inside source.listed in
    let eb : b ≡ cell_of grid p b.level = cell_is grid b p b_leaf.in_tree.of_grid gp.in_grid target.held in
    let ec : c ≡ cell_of grid q c.level = cell_is grid c q c_leaf.in_tree.of_grid gq.in_grid source.held in
    let lp = leaf_level_exists grid points cap p positive gp in
    let lq = leaf_level_exists grid points cap q positive gq in
    let P : Square → Type 0 = λ v. IsLeaf grid points cap v in
    let mb : b.level ≡ lp.0 = lp.1.no_other b.level (subst P eb b_leaf) in
    let nc : c.level ≡ lq.0 = lq.1.no_other c.level (subst P ec c_leaf) in
    let L : ℕ → Type 0 = λ v. IsLeafLevel grid points cap p v in
    let M : ℕ → Type 0 = λ v. IsLeafLevel grid points cap q v in
    let down : IsCase (TouchAt grid p q) b.level c.level letter k l =
    case_like (AncestorsTouch b c) (TouchAt grid p q) b.level c.level
    (λ i j ib jc.
    let ei = ancestor_of grid b p i eb b_leaf.in_tree.level_in_grid ib in
    let ej = ancestor_of grid c q j ec c_leaf.in_tree.level_in_grid jc in
    (λ t. touches_along _ _ _ _ (sym ei) (sym ej) t, λ t. touches_along _ _ _ _ ei ej t))
    letter k l h in
    let pair = pair_of grid points cap p q b.level c.level (subst L (sym mb) lp.1) (subst M (sym nc) lq.1) letter k l down in
    let within = levels_of_case (TouchAt grid p q) b.level c.level letter k l down in
    let ek = ancestor_of grid b p k eb b_leaf.in_tree.level_in_grid within.0 in
    let el = ancestor_of grid c q l ec c_leaf.in_tree.level_in_grid within.1 in
    let hold_p = Holds-square_at grid k p.x p.y gp.in_grid in
    let hold_q = Holds-square_at grid l q.x q.y gq.in_grid in
    let A : Square → Type 0 = λ v. IsTrue (has_target points v) in
    let B : Square → Type 0 = λ v. IsTrue (has_source points v) in
    let target_k : IsTrue (has_target points (cell_of grid p k)) = target_there points (cell_of grid p k) (record { point = p; listed = target.listed; held = hold_p; passes = target.passes }) in
    let source_l : IsTrue (has_source points (cell_of grid q l)) = source_there points (cell_of grid q l) (record { point = q; listed = source.listed; held = hold_q; passes = source.passes }) in
    record {
      target = subst A ek target_k;
      source = subst B el source_l;
      pair = pair_along grid points cap letter (cell_of grid p k) (ancestor b k) (cell_of grid q l) (ancestor c l) ek el pair;
    }

-- the ancestors of level 0 of two cells of the grid are the root
pub roots_touch : (grid : ℕ) (b c : Square) → b.grid ≡ grid → c.grid ≡ grid → b.i < 2 ^ b.level → b.j < 2 ^ b.level → c.i < 2 ^ c.level → c.j < 2 ^ c.level → AncestorsTouch b c 0 0
roots_touch grid b c gb gc bi bj ci cj = touches_along (root grid) (ancestor b 0) (root grid) (ancestor c 0) (sym (is_root b gb bi bj)) (sym (is_root c gc ci cj)) (Touches-refl (root grid))
  where
    zero_index : (i level : ℕ) → i < 2 ^ level → i / 2 ^ (level - 0) ≡ 0
    zero_index i level h = let e : 2 ^ (level - 0) ≡ 2 ^ level = ap (λ n. 2 ^ n) (omega arith) in rw e (div-eq_of_lt h)

    is_root : (d : Square) → d.grid ≡ grid → d.i < 2 ^ d.level → d.j < 2 ^ d.level → ancestor d 0 ≡ root grid
    is_root d g i j = same_square (ancestor d 0) (root grid) g refl (zero_index d.i d.level i) (zero_index d.j d.level j)

-- What a walk of the tree meets.
use Rattle.std.proofs.Common.{ℕ, ◌≡◌, ◌+◌, ◌-◌, ◌<◌, ◌≤◌, inl, inr, List, [], ◌∷◌, ◌++◌, length, get_or, sym, ap, ◌∙◌, subst, arith, append_assoc, append-nil, length-append}
use Rattle.std.specs.Prelude.{Contains, IsTrue, slice_index}
use Rattle.std.proofs.lemmas.Bool.{cases_lt}
use Rattle.std.proofs.lemmas.List.{get_or_default, get_or_append_left}
use Rattle.std.proofs.Math.Seq.{get_or-append_right, get_or-append_seam}
use Rattle.std.proofs.lemmas.List.Elements.{All-append, All-cons, Contains-append_left, Contains-append_right, Contains-get_or}
use Rattle.cell_name.specs.Square.{Square, parent, Touches}
use Rattle.cell_name.proofs.Cells.{Touches-sym, Touches-parent, Touches-parents}
use Rattle.quadtree.specs.TreeModel.{TreeModel, size, square_of, node_of, IsTree}
use Rattle.exact_math.proofs.Lists.{All-from_members}
use Rattle.quadtree.proofs.TreeChildren.{child_of, child_listed}
use Rattle.cell_lists.specs.ListAt.{list_at}
use Rattle.cell_lists.specs.Walks.{AreNumbers, IsChild, IsColleague, IsBelow, IsMet, AreColleagues, IsFrom, AddsChildren, MeetsBelow}
use Rattle.cell_lists.proofs.CellNumbers.{level_in_grid, level_at_most, level_positive, first_is_root, first_level, parent_number, parent_before, IsParentOf}

-- a listed number stands at a place
pub place_of : (xs : List ℕ) (c : ℕ) → Contains xs c → IsFrom 0 xs c
place_of xs c h = record { at = h.0; from = omega arith; inside = h.1; here = get_or_default xs h.0 0 c h.1 ∙ h.2 }

pub place_below : (tree : TreeModel) (xs : List ℕ) (k : ℕ) → AreNumbers tree xs → k < length xs → slice_index xs k < size tree
place_below tree xs k h lt = h k 0 lt

-- what was appended stands from the old end on
place_appended : (xs more : List ℕ) (c : ℕ) → Contains more c → IsFrom (length xs) (xs ++ more) c
place_appended xs more c h =
    let p = place_of more c h in
    record { at = length xs + p.at; from = omega arith; inside = omega (arith, p.inside, length-append xs more); here = past xs more p.at ∙ p.here }
  where
    past : (xs more : List ℕ) (k : ℕ) → get_or (xs ++ more) (length xs + k) 0 ≡ get_or more k 0
    past xs more k = get_or-append_right xs more (length xs + k) 0 (omega arith) ∙ ap (λ n. get_or more n 0) (omega arith)

-- ---- the children, as the tree has them
pub children_numbers : (tree : TreeModel) → IsTree tree → (n : ℕ) → n < size tree → AreNumbers tree (node_of tree n).children
children_numbers tree is n lt = All-from_members (λ c. c < size tree) (node_of tree n).children (λ c listed. (child_of tree is.points is.cap is.in_grid is.is_tree n c lt listed).in_range)

pub children_whole : (tree : TreeModel) → IsTree tree → (n c : ℕ) → n < size tree → IsChild tree n c → Contains (node_of tree n).children c
children_whole tree is n c lt child = child_listed tree is.points is.cap is.in_grid is.is_tree n c lt child.in_range child.below_root child.parent_is

-- ---- the quarters of the found cells

pub adds_none : (tree : TreeModel) (b start : ℕ) (was : List ℕ) → AreNumbers tree was → AddsChildren tree b start start was was
adds_none tree b start was h = record { more = []; grown = sym (append-nil was); numbers = h; added = λ k c lo hi. absurd (omega arith) }

-- the cell at the place doesn't touch
pub adds_kept : (tree : TreeModel) (b start at : ℕ) (was now : List ℕ) → at < length was → (Touches (square_of tree (slice_index was at)) (square_of tree b) → ⊥) → AddsChildren tree b start at was now → AddsChildren tree b start (at + 1) was now
adds_kept tree b start at was now lt apart h =
    record {
      more = h.more;
      grown = h.grown;
      numbers = h.numbers;
      added = λ k c lo hi t child.
          elim (cases_lt k at) [
            | inl before ↦ h.added k c lo before t child
            | inr here ↦
                let e : k ≡ at = omega arith in
                let P : ℕ → Type 0 = λ n. Touches (square_of tree (slice_index was n)) (square_of tree b) in
                absurd (apart (subst P e t))
          ];
    }

-- the cell at the place touches, and its row is appended
pub adds_row : (tree : TreeModel) (b start at : ℕ) (was now now' added : List ℕ) → AreNumbers tree added → ((c : ℕ) → IsChild tree (slice_index was at) c → Contains added c) → now' ≡ now ++ added → AddsChildren tree b start at was now → AddsChildren tree b start (at + 1) was now'
adds_row tree b start at was now now' added numbers whole e h =
    record {
      more = h.more ++ added;
      grown = e ∙ ap (λ l. l ++ added) h.grown ∙ append_assoc was h.more added;
      numbers = let P : List ℕ → Type 0 = λ l. AreNumbers tree l in subst P (sym e) (All-append (λ c. c < size tree) now added h.numbers numbers);
      added = λ k c lo hi t child.
          elim (cases_lt k at) [
            | inl before ↦ Contains-append_left h.more added c (h.added k c lo before t child)
            | inr here ↦
                let e : k ≡ at = omega arith in
                let P : ℕ → Type 0 = λ n. IsChild tree (slice_index was n) c in
                Contains-append_right h.more added c (whole c (subst P e child))
          ];
    }

-- the cell that is read is the one that stood there before
pub read_before : (tree : TreeModel) (b start at : ℕ) (was now : List ℕ) → at < length was → AddsChildren tree b start at was now → slice_index now at ≡ slice_index was at
read_before tree b start at was now lt h = ap (λ l. get_or l at 0) h.grown ∙ get_or_append_left was h.more 0 at lt

pub no_shorter : (tree : TreeModel) (b start at : ℕ) (was now : List ℕ) → AddsChildren tree b start at was now → length was ≤ length now
no_shorter tree b start at was now h = omega (arith, ap length h.grown, length-append was h.more)

-- what stands at a place that was there is a cell of the tree
pub read_in_tree : (tree : TreeModel) (b start at : ℕ) (was now : List ℕ) (n : ℕ) → at < length was → AddsChildren tree b start at was now → n ≡ get_or now at n → n < size tree
read_in_tree tree b start at was now n lt h e =
    let inside : at < length now = omega (arith, no_shorter tree b start at was now h) in
    let S : ℕ → Type 0 = λ k. k < size tree in
    subst S (sym (e ∙ get_or_default now at n 0 inside)) (place_below tree now at h.numbers inside)

-- ---- the walk below a leaf

pub below_begins : (tree : TreeModel) (b level : ℕ) (was : List ℕ) → level ≡ (square_of tree b).level → AreNumbers tree was → ((c : ℕ) → c < size tree → (square_of tree c).level ≡ (square_of tree b).level → Touches (square_of tree c) (square_of tree b) → Contains was c) → MeetsBelow tree b level 0 was was
below_begins tree b level was e numbers found =
    record {
      kept = λ c h. h;
      start_inside = omega arith;
      numbers = numbers;
      last = λ c lt at t. place_of was c (found c lt (at ∙ e) t);
      above = λ c below le. absurd (omega (arith, below.deeper, le));
    }

-- the cells of the next level whose parents touch are among what was appended
meets_child : (tree : TreeModel) (b level start : ℕ) (was now now' : List ℕ) → IsTree tree → MeetsBelow tree b level start was now → (h : AddsChildren tree b start (length now) now now') → (c : ℕ) → c < size tree → (square_of tree c).level ≡ level + 1 → Touches (parent (square_of tree c)) (square_of tree b) → Contains h.more c
meets_child tree b level start was now now' is m h c lt e t =
    let p = parent_number tree is c lt (omega arith) in
    let level_p : (square_of tree p.0).level ≡ level = ap (λ (s : Square). s.level) p.2 ∙ omega arith in
    let P : Square → Type 0 = λ s. Touches s (square_of tree b) in
    let touch_p : Touches (square_of tree p.0) (square_of tree b) = subst P (sym p.2) t in
    let at = m.last p.0 p.1 level_p touch_p in
    let Q : ℕ → Type 0 = λ n. Touches (square_of tree n) (square_of tree b) in
    let R : ℕ → Type 0 = λ n. IsChild tree n c in
    h.added at.at c at.from at.inside (subst Q (sym at.here) touch_p) (subst R (sym at.here) (record { in_range = lt; below_root = omega arith; parent_is = sym p.2 }))

pub below_more : (tree : TreeModel) (b level start end : ℕ) (was now now' : List ℕ) → end ≡ length now → IsTree tree → MeetsBelow tree b level start was now → AddsChildren tree b start (length now) now now' → MeetsBelow tree b (level + 1) end was now'
below_more tree b level start end was now now' at is m h =
    let P : List ℕ → Type 0 = λ l. (c : ℕ) → Contains now c → Contains l c in
    let grown : (c : ℕ) → Contains now c → Contains now' c = subst P (sym h.grown) (λ c k. Contains-append_left now h.more c k) in
    let Q : List ℕ → Type 0 = λ l. (c : ℕ) → Contains h.more c → Contains l c in
    let added : (c : ℕ) → Contains h.more c → Contains now' c = subst Q (sym h.grown) (λ c k. Contains-append_right now h.more c k) in
    let R : List ℕ → Type 0 = λ l. (c : ℕ) → Contains h.more c → IsFrom (length now) l c in
    let S : ℕ → Type 0 = λ n. (c : ℕ) → Contains h.more c → IsFrom n now' c in
    let placed : (c : ℕ) → Contains h.more c → IsFrom end now' c = subst S (sym at) (subst R (sym h.grown) (λ c k. place_appended now h.more c k)) in
    record {
      kept = λ c k. grown c (m.kept c k);
      start_inside = omega (arith, no_shorter tree b start (length now) now now' h);
      numbers = h.numbers;
      last = λ c lt e t. placed c (meets_child tree b level start was now now' is m h c lt e (Touches-parent (square_of tree b) (square_of tree c) (omega arith) (level_in_grid tree is c lt) t));
      above = λ c below le.
          elim (cases_lt level (square_of tree c).level) [
            | inl deep ↦ added c (meets_child tree b level start was now now' is m h c below.in_range (omega arith) below.parent_touches)
            | inr high ↦ grown c (m.above c below high)
          ];
    }

pub below_all : (tree : TreeModel) (b level start : ℕ) (was now : List ℕ) → IsTree tree → tree.grid ≤ level → MeetsBelow tree b level start was now → (c : ℕ) → IsBelow tree b c → Contains now c
below_all tree b level start was now is le m c below = m.above c below (omega (arith, level_at_most tree is c below.in_range))

-- ---- the cells around

-- a colleague is met before the walk goes below
pub colleague_met : (tree : TreeModel) (b c : ℕ) → IsTree tree → b < size tree → IsColleague tree b c → IsMet tree b c
colleague_met tree b c is lb h =
    elim (cases_lt 0 (square_of tree b).level) [
      | inr zero ↦ inl (record { in_range = h.in_range; first_root = omega arith; second_root = elim h.reached [ inl same ↦ omega (arith, same) | inr leaf ↦ absurd (omega (arith, leaf.1)) ] })
      | inl lo ↦
          inr (record {
            in_range = h.in_range;
            below_root = lo;
            reached =
                elim h.reached [
                  | inl same ↦ inl (same, Touches-parents (square_of tree b) (square_of tree c) lo (level_in_grid tree is b lb) (omega (arith, same)) (level_in_grid tree is c h.in_range) h.touch)
                  | inr leaf ↦ inr (leaf.0, leaf.1, Touches-parent (square_of tree c) (square_of tree b) lo (level_in_grid tree is b lb) h.touch)
                ];
          })
    ]

-- each colleague of the parent stands in the row as it is, where it is a leaf, and with its quarters
pub record MeetsAround (tree : TreeModel) (near : List ℕ) (count : ℕ) (found : List ℕ) : Type 0 where
  pub numbers : AreNumbers tree found
  pub leaf : (k : ℕ) → k < count → IsTrue (node_of tree (slice_index near k)).is_leaf → Contains found (slice_index near k)
  pub quarters : (k c : ℕ) → k < count → IsChild tree (slice_index near k) c → Contains found c

pub around_none : (tree : TreeModel) (near found : List ℕ) → found ≡ [] → MeetsAround tree near 0 found
around_none tree near found e =
    let P : List ℕ → Type 0 = λ l. AreNumbers tree l in
    record { numbers = subst P (sym e) (λ k d lt. absurd (omega arith)); leaf = λ k lt. absurd (omega arith); quarters = λ k c lt. absurd (omega arith) }

pub around_more : (tree : TreeModel) (near : List ℕ) (count : ℕ) (found found' mine added : List ℕ) → MeetsAround tree near count found → found' ≡ (found ++ mine) ++ added → AreNumbers tree mine → AreNumbers tree added → (IsTrue (node_of tree (slice_index near count)).is_leaf → Contains mine (slice_index near count)) → ((c : ℕ) → IsChild tree (slice_index near count) c → Contains added c) → MeetsAround tree near (count + 1) found'
around_more tree near count found found' mine added h e mine_numbers added_numbers leaf quarters =
    let P : List ℕ → Type 0 = λ l. MeetsAround tree near (count + 1) l in
    let old : (c : ℕ) → Contains found c → Contains ((found ++ mine) ++ added) c = λ c k. Contains-append_left (found ++ mine) added c (Contains-append_left found mine c k) in
    subst P (sym e) (record {
      numbers = All-append (λ c. c < size tree) (found ++ mine) added (All-append (λ c. c < size tree) found mine h.numbers mine_numbers) added_numbers;
      leaf = λ k lt is_leaf.
          elim (cases_lt k count) [
            | inl before ↦ old (slice_index near k) (h.leaf k before is_leaf)
            | inr here ↦
                let at : k ≡ count = omega arith in
                let Q : ℕ → Type 0 = λ n. IsTrue (node_of tree (slice_index near n)).is_leaf in
                let R : ℕ → Type 0 = λ n. Contains ((found ++ mine) ++ added) (slice_index near n) in
                subst R (sym at) (Contains-append_left (found ++ mine) added (slice_index near count) (Contains-append_right found mine (slice_index near count) (leaf (subst Q at is_leaf))))
          ];
      quarters = λ k c lt child.
          elim (cases_lt k count) [
            | inl before ↦ old c (h.quarters k c before child)
            | inr here ↦
                let at : k ≡ count = omega arith in
                let Q : ℕ → Type 0 = λ n. IsChild tree (slice_index near n) c in
                Contains-append_right (found ++ mine) added c (quarters c (subst Q at child))
          ];
    })

-- so all around the cell is met
pub around_all : (tree : TreeModel) (b p count : ℕ) (near : List (List ℕ)) (found : List ℕ) → IsTree tree → 0 < b → b < size tree → IsParentOf tree b p → AreColleagues tree near b → length (list_at near p) ≤ count → MeetsAround tree (list_at near p) count found → (c : ℕ) → IsMet tree b c → Contains found c
around_all tree b p count near found is lo hi up colleagues all h c (inl roots) = absurd (omega (arith, level_positive tree is b lo hi, roots.first_root))
around_all tree b p count near found is lo hi up colleagues all h c (inr around) =
    let level_p : (square_of tree p).level ≡ (square_of tree b).level - 1 = ap (λ (s : Square). s.level) up.is_parent in
    elim around.reached [
      | inl same ↦
          let q = parent_number tree is c around.in_range (omega (arith, same.0, around.below_root)) in
          let level_q : (square_of tree q.0).level ≡ (square_of tree c).level - 1 = ap (λ (s : Square). s.level) q.2 in
          let P : Square → Type 0 = λ s. Touches s (square_of tree q.0) in
          let Q : Square → Type 0 = λ s. Touches (parent (square_of tree b)) s in
          let colleague : IsColleague tree p q.0 = record { in_range = q.1; touch = subst P (sym up.is_parent) (subst Q (sym q.2) same.1); reached = inl (omega (arith, level_p, level_q, same.0)) } in
          let at = place_of (list_at near p) q.0 (colleagues.whole p q.0 up.before colleague) in
          let R : ℕ → Type 0 = λ n. IsChild tree n c in
          h.quarters at.at c (omega (arith, at.inside)) (subst R {y = slice_index (list_at near p) at.at} (sym {a = slice_index (list_at near p) at.at} at.here) (record { in_range = around.in_range; below_root = omega (arith, same.0, around.below_root); parent_is = sym q.2 }))
      | inr leaf ↦
          let P : Square → Type 0 = λ s. Touches s (square_of tree c) in
          let colleague : IsColleague tree p c = record {
            in_range = around.in_range;
            touch = subst P (sym up.is_parent) leaf.2;
            reached = elim (cases_lt (square_of tree c).level (square_of tree p).level) [ inl lt ↦ inr (leaf.0, lt) | inr ge ↦ inl (omega (arith, level_p, leaf.1, ge)) ];
          } in
          let at = place_of (list_at near p) c (colleagues.whole p c up.before colleague) in
          let Q : ℕ → Type 0 = λ n. IsTrue (node_of tree n).is_leaf in
          let R : ℕ → Type 0 = λ n. Contains found n in
          subst R at.here (h.leaf at.at (omega (arith, at.inside)) (subst Q (sym at.here) leaf.0))
    ]

-- ---- those that touch

pub record Keeps (tree : TreeModel) (b : ℕ) (found : List ℕ) (count : ℕ) (near : List ℕ) : Type 0 where
  pub numbers : AreNumbers tree near
  pub whole : (k : ℕ) → k < count → Touches (square_of tree (slice_index found k)) (square_of tree b) → Contains near (slice_index found k)

pub keeps_more : (tree : TreeModel) (b : ℕ) (found : List ℕ) (count : ℕ) (near near' mine : List ℕ) → Keeps tree b found count near → near' ≡ near ++ mine → AreNumbers tree mine → (Touches (square_of tree (slice_index found count)) (square_of tree b) → Contains mine (slice_index found count)) → Keeps tree b found (count + 1) near'
keeps_more tree b found count near near' mine h e numbers here =
    let P : List ℕ → Type 0 = λ l. Keeps tree b found (count + 1) l in
    subst P (sym e) (record {
      numbers = All-append (λ c. c < size tree) near mine h.numbers numbers;
      whole = λ k lt t.
          elim (cases_lt k count) [
            | inl before ↦ Contains-append_left near mine (slice_index found k) (h.whole k before t)
            | inr at_end ↦
                let at : k ≡ count = omega arith in
                let Q : ℕ → Type 0 = λ n. Touches (square_of tree (slice_index found n)) (square_of tree b) in
                let R : ℕ → Type 0 = λ n. Contains (near ++ mine) (slice_index found n) in
                subst R (sym at) (Contains-append_right near mine (slice_index found count) (here (subst Q at t)))
          ];
    })

pub keeps_all : (tree : TreeModel) (b : ℕ) (found : List ℕ) (count : ℕ) (near : List ℕ) → length found ≤ count → Keeps tree b found count near → (c : ℕ) → Contains found c → Touches (square_of tree c) (square_of tree b) → Contains near c
keeps_all tree b found count near all h c listed t =
    let at = place_of found c listed in
    let Q : ℕ → Type 0 = λ n. Touches (square_of tree n) (square_of tree b) in
    let R : ℕ → Type 0 = λ n. Contains near n in
    subst R at.here (h.whole at.at (omega (arith, at.inside)) (subst Q (sym at.here) t))

-- ---- lists, one cell after another

-- a fact of each list stays, and the new list has it
pub each_list_more : (P : ℕ → List ℕ → Type 0) (lists lists' : List (List ℕ)) (new : List ℕ) (count : ℕ) → length lists ≡ count → lists' ≡ lists ++ new ∷ [] → ((n : ℕ) → n < count → P n (list_at lists n)) → P count new → (n : ℕ) → n < count + 1 → P n (list_at lists' n)
each_list_more P lists lists' new count e grown old here n lt =
    elim (cases_lt n count) [
      | inl before ↦
          let same : list_at lists n ≡ list_at lists' n = sym (ap (λ l. get_or l n []) grown ∙ get_or_append_left lists (new ∷ []) [] n (omega arith)) in
          let Q : List ℕ → Type 0 = λ l. P n l in
          subst Q same (old n before)
      | inr at ↦
          let is : n ≡ length lists = omega arith in
          let last : new ≡ list_at lists' n = sym (ap (λ l. get_or l n []) grown ∙ ap (λ k. get_or (lists ++ new ∷ []) k []) is ∙ get_or-append_seam lists new [] []) in
          let Q : ℕ → Type 0 = λ k. P k new in
          let R : List ℕ → Type 0 = λ l. P n l in
          subst R last (subst Q (omega arith) here)
    ]

pub one_more : (lists lists' : List (List ℕ)) (new : List ℕ) (count : ℕ) → length lists ≡ count → lists' ≡ lists ++ new ∷ [] → length lists' ≡ count + 1
one_more lists lists' new count e grown = ap length grown ∙ omega (arith, length-append lists (new ∷ []))

pub colleagues_none : (tree : TreeModel) (lists : List (List ℕ)) → lists ≡ [] → AreColleagues tree lists 0
colleagues_none tree lists e = record { as_many = ap length e; numbers = λ n lt. absurd (omega arith); whole = λ b c lt. absurd (omega arith) }

pub colleagues_more : (tree : TreeModel) (lists lists' : List (List ℕ)) (found new : List ℕ) (b : ℕ) → IsTree tree → b < size tree → AreColleagues tree lists b → lists' ≡ lists ++ new ∷ [] → AreNumbers tree new → ((c : ℕ) → IsMet tree b c → Contains found c) → ((c : ℕ) → Contains found c → Touches (square_of tree c) (square_of tree b) → Contains new c) → AreColleagues tree lists' (b + 1)
colleagues_more tree lists lists' found new b is lt h e numbers met touching =
    let whole = each_list_more (λ n l. (c : ℕ) → IsColleague tree n c → Contains l c) lists lists' new b h.as_many e (λ n lo c k. h.whole n c lo k) (λ c k. touching c (met c (colleague_met tree b c is lt k)) (Touches-sym (square_of tree b) (square_of tree c) k.touch)) in
    record {
      as_many = one_more lists lists' new b h.as_many e;
      numbers = each_list_more (λ n l. AreNumbers tree l) lists lists' new b h.as_many e h.numbers numbers;
      whole = λ n c lo k. whole n lo c k;
    }

-- ---- the start of the walk

-- the first cell is the whole grid
root_not_around : (tree : TreeModel) (b : ℕ) → IsTree tree → b ≡ 0 → b < size tree → 0 < (square_of tree b).level → ⊥
root_not_around tree b is zero lt lo =
    let P : ℕ → Type 0 = λ n. 0 < (square_of tree n).level in
    omega (arith, subst P zero lo, first_level tree is (omega arith))

pub root_met : (tree : TreeModel) (b c : ℕ) (found : List ℕ) → IsTree tree → b ≡ 0 → b < size tree → Contains found 0 → IsMet tree b c → Contains found c
root_met tree b c found is zero lt first (inl roots) = let e : c ≡ 0 = first_is_root tree is c roots.in_range roots.second_root in let P : ℕ → Type 0 = λ n. Contains found n in subst P (sym e) first
root_met tree b c found is zero lt first (inr around) = absurd (root_not_around tree b is zero lt around.below_root)

-- ---- the parent's list

pub parent_of_cell : (tree : TreeModel) (b p : ℕ) → IsTree tree → 0 < b → b < size tree → p ≡ (node_of tree b).parent → IsParentOf tree b p
parent_of_cell tree b p is lo hi e = let P : ℕ → Type 0 = λ n. IsParentOf tree b n in subst P (sym e) (parent_before tree is b lo hi)

pub parent_list_numbers : (tree : TreeModel) (b p : ℕ) (near : List (List ℕ)) (colleagues : List ℕ) → IsTree tree → 0 < b → b < size tree → p ≡ (node_of tree b).parent → AreColleagues tree near b → colleagues ≡ list_at near p → AreNumbers tree colleagues
parent_list_numbers tree b p near colleagues is lo hi e h r =
    let up = parent_of_cell tree b p is lo hi e in
    let P : List ℕ → Type 0 = λ l. AreNumbers tree l in
    subst P (sym r) (h.numbers p up.before)

pub around_list : (tree : TreeModel) (b p count : ℕ) (near : List (List ℕ)) (colleagues found : List ℕ) → IsTree tree → 0 < b → b < size tree → p ≡ (node_of tree b).parent → AreColleagues tree near b → colleagues ≡ list_at near p → length colleagues ≤ count → MeetsAround tree colleagues count found → (c : ℕ) → IsMet tree b c → Contains found c
around_list tree b p count near colleagues found is lo hi e h r all m =
    let P : List ℕ → Type 0 = λ l. MeetsAround tree l count found in
    around_all tree b p count near found is lo hi (parent_of_cell tree b p is lo hi e) h (omega (arith, ap length r)) (subst P r m)

pub one_number : (tree : TreeModel) (n : ℕ) → n < size tree → AreNumbers tree (n ∷ [])
one_number tree n lt = All-cons (λ c. c < size tree) n [] lt (λ k d inside. absurd (omega arith))

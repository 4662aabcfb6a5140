-- Picking the entries of a letter from the cells that were met.
use Rattle.std.proofs.Common.{ℕ, ◌≡◌, ◌+◌, ◌<◌, ◌≤◌, ◌⊎◌, inl, inr, List, [], ◌∷◌, ◌++◌, length, get_or, sym, ap, ◌∙◌, subst, arith, length-append}
use Rattle.std.specs.Prelude.{Contains, IsTrue, slice_index}
use Rattle.std.specs.List.Sorted.{IsStrictlyIncreasing}
use Rattle.std.proofs.lemmas.Bool.{cases_lt}
use Rattle.std.proofs.lemmas.List.{get_or_append_left}
use Rattle.std.proofs.lemmas.List.Elements.{All-append, All-contains, Contains-append_left, Contains-get_or, Contains-push, Contains-push_cases}
use Rattle.std.proofs.lemmas.List.Kept.{AllPairs-from_increasing}
use Rattle.std.proofs.Math.Seq.{get_or-append_seam}
use Rattle.points.specs.declared.Point.{Point}
use Rattle.letters.specs.declared.Letter.{Letter}
use Rattle.letters.specs.declared.Letter.TheVariants.{U, V, W, X}
use Rattle.quadtree.specs.TreeModel.{TreeModel, size, square_of, node_of, IsTreeOf, IsTree}
use Rattle.cell_name.proofs.Cells.{Touches-sym, Touches-parent}
use Rattle.cell_lists.specs.Entries.{IsPair, IsEntry}
use Rattle.cell_lists.specs.EntryLists.{lists_of, EntryListsModel}
use Rattle.cell_lists.specs.Lists.{IsListOf, AreListsTo}
use Rattle.cell_lists.specs.Meetings.{MeetsAll}
use Rattle.cell_lists.specs.Numbers.{OfEachList}
use Rattle.cell_lists.specs.ListAt.{list_at}
use Rattle.cell_lists.specs.declared.picked.Picked.{Picked}
use Rattle.cell_lists.specs.Picked.{picked_of, ArePickedFor, AddsLists}
use Rattle.cell_lists.specs.Walks.{AreNumbers, IsMet, IsBelow}
use Rattle.cell_lists.proofs.CellNumbers.{level_in_grid}
use Rattle.cell_lists.proofs.WalkSteps.{place_of, colleague_met, each_list_more, one_more, one_number}

-- a number stands at one of the first places
pub record IsEarly (met : List ℕ) (count c : ℕ) : Type 0 where
  pub at : ℕ
  pub before : at < count
  pub here : slice_index met at ≡ c

-- of the first cells that were met, those that are entries
pub record ArePicked (tree : TreeModel) (points : List Point) (cap : ℕ) (letter : Letter) (b : ℕ) (met : List ℕ) (count : ℕ) (cells : List ℕ) : Type 0 where
  pub sound : (c : ℕ) → Contains cells c → IsEntry tree.grid points cap letter (square_of tree b) (square_of tree c)
  pub whole : (k : ℕ) → k < count → IsEntry tree.grid points cap letter (square_of tree b) (square_of tree (slice_index met k)) → Contains cells (slice_index met k)

pub record PicksTo (tree : TreeModel) (letter : Letter) (b : ℕ) (met : List ℕ) (count : ℕ) (cells : List ℕ) : Type 0 where
  pub numbers : AreNumbers tree cells
  pub ascending : IsStrictlyIncreasing cells
  pub early : (c : ℕ) → Contains cells c → IsEarly met count c
  pub picked : OfEachList tree (λ points cap. ArePicked tree points cap letter b met count cells)

-- a number above all others goes to the end
increasing_push : (xs : List ℕ) (y : ℕ) → IsStrictlyIncreasing xs → ((x : ℕ) → Contains xs x → x < y) → IsStrictlyIncreasing (xs ++ y ∷ [])
increasing_push xs y up above k lt =
    let n = length-append xs (y ∷ []) in
    elim (cases_lt (k + 1) (length xs)) [
      | inl inside ↦
          let first : get_or (xs ++ y ∷ []) k 0 ≡ get_or xs k 0 = get_or_append_left xs (y ∷ []) 0 k (omega arith) in
          let second : get_or (xs ++ y ∷ []) (k + 1) 0 ≡ get_or xs (k + 1) 0 = get_or_append_left xs (y ∷ []) 0 (k + 1) inside in
          omega (arith, up k inside, first, second)
      | inr end ↦
          let first : get_or (xs ++ y ∷ []) k 0 ≡ get_or xs k 0 = get_or_append_left xs (y ∷ []) 0 k (omega arith) in
          let at : k + 1 ≡ length xs = omega arith in
          let second : get_or (xs ++ y ∷ []) (k + 1) 0 ≡ y = ap (λ i. get_or (xs ++ y ∷ []) i 0) at ∙ get_or-append_seam xs y [] 0 in
          omega (arith, above (get_or xs k 0) (Contains-get_or xs k 0 (omega arith)), first, second)
    ]

-- the next cell is no entry
pub picks_skip : (tree : TreeModel) (letter : Letter) (b : ℕ) (met : List ℕ) (count : ℕ) (cells : List ℕ) → OfEachList tree (λ points cap. IsEntry tree.grid points cap letter (square_of tree b) (square_of tree (slice_index met count)) → ⊥) → PicksTo tree letter b met count cells → PicksTo tree letter b met (count + 1) cells
picks_skip tree letter b met count cells none h =
    record {
      numbers = h.numbers;
      ascending = h.ascending;
      early = λ c listed. let e = h.early c listed in record { at = e.at; before = omega (arith, e.before); here = e.here };
      picked = λ points cap inside is.
          let p = h.picked points cap inside is in
          record {
            sound = p.sound;
            whole = λ k lt entry.
                elim (cases_lt k count) [
                  | inl before ↦ p.whole k before entry
                  | inr here ↦
                      let at : k ≡ count = omega arith in
                      let P : ℕ → Type 0 = λ n. IsEntry tree.grid points cap letter (square_of tree b) (square_of tree (slice_index met n)) in
                      absurd (none points cap inside is (subst P at entry))
                ];
          };
    }

-- the next cell is an entry, and goes to the end
pub picks_push : (tree : TreeModel) (letter : Letter) (b : ℕ) (met : List ℕ) (count n : ℕ) (cells cells' : List ℕ) → OfEachList tree (λ points cap. IsEntry tree.grid points cap letter (square_of tree b) (square_of tree n)) → slice_index met count ≡ n → n < size tree → count < length met → IsStrictlyIncreasing met → cells' ≡ cells ++ n ∷ [] → PicksTo tree letter b met count cells → PicksTo tree letter b met (count + 1) cells'
picks_push tree letter b met count n cells cells' entry_is at_count in_tree inside_met up grown h =
    let P : List ℕ → Type 0 = λ l. PicksTo tree letter b met (count + 1) l in
    let before_n : (x : ℕ) → Contains cells x → x < n = λ x listed. let e = h.early x listed in omega (arith, AllPairs-from_increasing met up e.at count 0 e.before inside_met, e.here, at_count) in
    subst P (sym grown) (record {
      numbers = All-append (λ c. c < size tree) cells (n ∷ []) h.numbers (one_number tree n in_tree);
      ascending = increasing_push cells n h.ascending before_n;
      early = λ c listed.
          elim (Contains-push_cases cells n c listed) [
            | inl old ↦ let e = h.early c old in record { at = e.at; before = omega (arith, e.before); here = e.here }
            | inr new ↦ record { at = count; before = omega arith; here = at_count ∙ new }
          ];
      picked = λ points cap inside is.
          let p = h.picked points cap inside is in
          record {
            sound = λ c listed.
                elim (Contains-push_cases cells n c listed) [
                  | inl old ↦ p.sound c old
                  | inr new ↦ let Q : ℕ → Type 0 = λ v. IsEntry tree.grid points cap letter (square_of tree b) (square_of tree v) in subst Q new (entry_is points cap inside is)
                ];
            whole = λ k lt entry.
                elim (cases_lt k count) [
                  | inl before ↦ Contains-append_left cells (n ∷ []) (slice_index met k) (p.whole k before entry)
                  | inr here ↦
                      let at : k ≡ count = omega arith in
                      let is_n : n ≡ slice_index met k = sym (ap (slice_index met) at ∙ at_count) in
                      let Q : ℕ → Type 0 = λ v. Contains (cells ++ n ∷ []) v in
                      subst Q is_n (Contains-push cells n)
                ];
          };
    })

-- all met cells are through
pub picks_all : (tree : TreeModel) (letter : Letter) (b : ℕ) (met : List ℕ) (count : ℕ) (cells : List ℕ) → length met ≤ count → MeetsAll tree b met → PicksTo tree letter b met count cells → OfEachList tree (λ points cap. IsListOf tree points cap letter b cells)
picks_all tree letter b met count cells all meets h points cap inside is =
    let p = h.picked points cap inside is in
    record {
      numbers = h.numbers;
      ascending = h.ascending;
      exact = λ c lt. (
        p.sound c,
        λ entry.
            let at = place_of met c (meets points cap inside is letter c lt entry) in
            let P : ℕ → Type 0 = λ v. IsEntry tree.grid points cap letter (square_of tree b) (square_of tree v) in
            let Q : ℕ → Type 0 = λ v. Contains cells v in
            subst Q at.here (p.whole at.at (omega (arith, at.inside)) (subst P (sym at.here) entry)),
      );
    }

-- ---- each entry is met

-- what the walk of a cell has to meet: around it, and below it where it is a leaf
abbrev pub IsMetOrBelow : TreeModel → ℕ → ℕ → Type 0
IsMetOrBelow tree b c = IsMet tree b c ⊎ (IsTrue (node_of tree b).is_leaf × IsBelow tree b c)

pub pair_met : (tree : TreeModel) (points : List Point) (cap b c : ℕ) (letter : Letter) → IsTree tree → IsTreeOf tree points cap → b < size tree → c < size tree → IsPair tree.grid points cap letter (square_of tree b) (square_of tree c) → IsMetOrBelow tree b c
pair_met tree points cap b c U is h lb lc p =
    let leaf_b = (h.nodes_are b lb).leaf.1 p.0 in
    let leaf_c = (h.nodes_are c lc).leaf.1 p.1 in
    elim (cases_lt (square_of tree b).level (square_of tree c).level) [
      | inl deeper ↦ inr (leaf_b, record { in_range = lc; deeper = deeper; parent_touches = Touches-parent (square_of tree b) (square_of tree c) (omega arith) (level_in_grid tree is c lc) (Touches-sym (square_of tree b) (square_of tree c) p.2) })
      | inr le ↦
          inl (colleague_met tree b c is lb (record {
            in_range = lc;
            touch = p.2;
            reached = elim (cases_lt (square_of tree c).level (square_of tree b).level) [ inl lt ↦ inr (leaf_c, lt) | inr ge ↦ inl (omega arith) ];
          }))
    ]
pair_met tree points cap b c V is h lb lc p =
    inl (inr (record { in_range = lc; below_root = p.2.below_root; reached = inl (sym p.2.same_level, p.2.parents_touch) }))
pair_met tree points cap b c W is h lb lc p =
    inr ((h.nodes_are b lb).leaf.1 p.0, record { in_range = lc; deeper = p.2.deeper; parent_touches = p.2.parent_touches })
pair_met tree points cap b c X is h lb lc p =
    inl (inr (record { in_range = lc; below_root = omega (arith, p.2.deeper); reached = inr ((h.nodes_are c lc).leaf.1 p.0, p.2.deeper, p.2.parent_touches) }))

pub meets_all : (tree : TreeModel) (b : ℕ) (found : List ℕ) → IsTree tree → b < size tree → ((c : ℕ) → IsMet tree b c → Contains found c) → (IsTrue (node_of tree b).is_leaf → (c : ℕ) → IsBelow tree b c → Contains found c) → MeetsAll tree b found
meets_all tree b found is lb around below points cap inside h letter c lc entry =
    elim (pair_met tree points cap b c letter is h lb lc entry.pair) [
      | inl met ↦ around c met
      | inr deep ↦ below deep.0 c deep.1
    ]

pub numbers_from_listed : (tree : TreeModel) (xs ys : List ℕ) → AreNumbers tree xs → ((c : ℕ) → Contains ys c → Contains xs c) → AreNumbers tree ys
numbers_from_listed tree xs ys h from k d lt = All-contains (λ c. c < size tree) xs (get_or ys k d) h (from (get_or ys k d) (Contains-get_or ys k d lt))

-- ---- the lists of one more cell

pub lists_more : (tree : TreeModel) (was now : EntryListsModel) (b : ℕ) (picked : Picked) → AreListsTo tree was b → AddsLists was picked now → ArePickedFor tree b picked → AreListsTo tree now (b + 1)
lists_more tree was now b picked h adds new = record { as_many = as_many; each = λ points cap inside is letter n lt. each points cap inside is letter n lt }
  where
    grown : (letter : Letter) → lists_of now letter ≡ lists_of was letter ++ picked_of picked letter ∷ []
    grown U = adds.u
    grown V = adds.v
    grown W = adds.w
    grown X = adds.x

    as_many : (letter : Letter) → length (lists_of now letter) ≡ b + 1
    as_many letter = one_more (lists_of was letter) (lists_of now letter) (picked_of picked letter) b (h.as_many letter) (grown letter)

    each : OfEachList tree (λ points cap. (letter : Letter) (n : ℕ) → n < b + 1 → IsListOf tree points cap letter n (list_at (lists_of now letter) n))
    each points cap inside is letter =
        each_list_more (λ n l. IsListOf tree points cap letter n l) (lists_of was letter) (lists_of now letter) (picked_of picked letter) b (h.as_many letter) (grown letter) (h.each points cap inside is letter) (new points cap inside is letter)

pub lists_none : (tree : TreeModel) (lists : EntryListsModel) → lists.u ≡ [] → lists.v ≡ [] → lists.w ≡ [] → lists.x ≡ [] → AreListsTo tree lists 0
lists_none tree lists eu ev ew ex = record { as_many = as_many; each = λ points cap inside is letter n lt. absurd (omega arith) }
  where
    as_many : (letter : Letter) → length (lists_of lists letter) ≡ 0
    as_many U = ap length eu
    as_many V = ap length ev
    as_many W = ap length ew
    as_many X = ap length ex

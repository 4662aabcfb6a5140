-- One more leaf marks its points.
use Rattle.std.proofs.Common.{ℕ, ◌≡◌, ◌+◌, ◌<◌, inl, inr, List, length, get_or, false, refl, sym, ap, ◌∙◌, subst, arith}
use Rattle.std.specs.Prelude.{Contains, IsTrue, slice_range}
use Rattle.std.proofs.lemmas.Bool.{cases_lt, false≢true}
use Rattle.std.proofs.lemmas.List.{with_items_is}
use Rattle.quadtree.specs.declared.tree.Node.{Node}
use Rattle.quadtree.specs.Nodes.{IsInLeaf, LeavesAreApart, LeavesAreTo, blank_node}
use Rattle.quadtree.proofs.nodes.leaves_of.Goals as goal
use Rattle.quadtree.proofs.nodes.leaves_of.Goals.{then-node, else-node}

abbrev members_at : List ℕ → List Node → ℕ → List ℕ
members_at positions nodes n = slice_range positions (get_or nodes n blank_node).from (get_or nodes n blank_node).to

leaf_more : (positions : List ℕ) (nodes : List Node) (was now : List ℕ) (n : ℕ) → LeavesAreApart positions nodes → n < length nodes → IsTrue (get_or nodes n blank_node).is_leaf → ((k : ℕ) → Contains (members_at positions nodes n) k → get_or now k 0 ≡ n) → ((k : ℕ) → (Contains (members_at positions nodes n) k → ⊥) → get_or now k 0 ≡ get_or was k 0) → LeavesAreTo positions nodes was n → LeavesAreTo positions nodes now (n + 1)
leaf_more positions nodes was now n h lt leaf marked others old = record { leaf_is = leaf_is }
  where
    here : (m k : ℕ) → m ≡ n → IsInLeaf positions nodes m k → get_or now k 0 ≡ m
    here m k e i = let P : ℕ → Type 0 = λ j. Contains (members_at positions nodes j) k in marked k (subst P e i.member) ∙ sym e

    leaf_is : (m k : ℕ) → m < n + 1 → IsInLeaf positions nodes m k → get_or now k 0 ≡ m
    leaf_is m k below i =
        elim (cases_lt m n) [
          | inl before ↦ others k (λ c. absurd (omega (arith, h.apart m n k i (record { in_range = lt; leaf = leaf; member = c })))) ∙ old.leaf_is m k before i
          | inr last ↦ here m k (omega arith) i
        ]

no_leaf_more : (positions : List ℕ) (nodes : List Node) (was : List ℕ) (n : ℕ) → (get_or nodes n blank_node).is_leaf ≡ false → LeavesAreTo positions nodes was n → LeavesAreTo positions nodes was (n + 1)
no_leaf_more positions nodes was n whole old = record { leaf_is = leaf_is }
  where
    leaf_is : (m k : ℕ) → m < n + 1 → IsInLeaf positions nodes m k → get_or was k 0 ≡ m
    leaf_is m k below i =
        elim (cases_lt m n) [
          | inl before ↦ old.leaf_is m k before i
          | inr last ↦
              let e : m ≡ n = omega arith in
              let P : ℕ → Type 0 = λ j. (get_or nodes j blank_node).is_leaf ≡ false in
              absurd (false≢true (sym (subst P (sym e) whole) ∙ i.leaf))
        ]

pub loop-n-preserved : goal.loop-n-preserved
loop-n-preserved c =
    elim c.if-node.branch [
      | then-node w ↦
          let e : c.if-node.leaves.items ≡ w.mark.new.leaves = ap (λ v. v.items) w.leaves-is ∙ with_items_is c.loop-n.leaves w.mark.new.leaves (omega arith) in
          record {
            as_many = omega (arith, ap length e);
            leaves_are = let P : List ℕ → Type 0 = λ l. LeavesAreTo c.args.positions.now c.args.nodes.now l (c.loop-n.n + 1) in
                subst P (sym e) (leaf_more c.args.positions.now c.args.nodes.now c.loop-n.leaves.items w.mark.new.leaves c.loop-n.n c.requires.apart c.loop-n-test.true w.if-node.true w.mark.ensures.marked (λ k n. w.mark.ensures.others k n ∙ ap (λ l. get_or l k 0) w.deref_mut.ensures.value) c.loop-n.invariant.leaves_are);
          }
      | else-node w ↦
          let e : c.if-node.leaves.items ≡ c.loop-n.leaves.items = rw w.leaves-is refl in
          record {
            as_many = ap length e ∙ c.loop-n.invariant.as_many;
            leaves_are = let P : List ℕ → Type 0 = λ l. LeavesAreTo c.args.positions.now c.args.nodes.now l (c.loop-n.n + 1) in
                subst P (sym e) (no_leaf_more c.args.positions.now c.args.nodes.now c.loop-n.leaves.items c.loop-n.n w.if-node.false c.loop-n.invariant.leaves_are);
          }
    ]

-- One more node.
use Rattle.std.proofs.Common.{ℕ, ◌≡◌, ◌+◌, ◌<◌, inl, inr, List, [], ◌∷◌, ◌++◌, length, get_or, sym, ap, ◌∙◌, subst, arith, length-append}
use Rattle.std.proofs.lemmas.Bool.{cases_lt}
use Rattle.std.proofs.lemmas.List.{get_or_append_left, get_or_push, get_or-map, length-map}
use Rattle.std.proofs.lemmas.List.Elements.{All-get_or}
use Rattle.points.specs.declared.Point.{Point}
use Rattle.cell_name.specs.Cell.{square}
use Rattle.cell_name.specs.Square.{Square, no_square}
use Rattle.quadtree.specs.declared.children.Children.{Children}
use Rattle.quadtree.specs.declared.split.Run.{Run}
use Rattle.quadtree.specs.declared.tree.Node.{Node}
use Rattle.quadtree.specs.Fields.{no_children}
use Rattle.quadtree.specs.Nodes.{IsNodeOf, AreNodesTo, blank_node}
use Rattle.quadtree.specs.Splitting.{squares_of, parents_of}
use Rattle.quadtree.specs.Tree.{IsTreeCell}
use Rattle.quadtree.proofs.Levels.{cell_at}
use Rattle.quadtree.proofs.nodes.nodes_of.Goals as goal

module _ (points : List Point) (cap : ℕ) (positions : List ℕ) (cells : List Square) (parents : List ℕ) (families : List Children) where
  abbrev IsRight : ℕ → Node → Type 0
  IsRight k node = IsNodeOf points cap positions (get_or cells k no_square) (get_or parents k 0) (get_or families k no_children) node

  one_more : (was now : List Node) (node : Node) (n : ℕ) → now ≡ was ++ node ∷ [] → AreNodesTo points cap positions cells parents families was n → IsRight n node → AreNodesTo points cap positions cells parents families now (n + 1)
  one_more was now node n e h new = record { as_many = omega (arith, ap length e, length-append was (node ∷ []), h.as_many); each = each }
    where
      last : (k : ℕ) → k ≡ n → IsRight k (get_or now k blank_node)
      last k same =
          let here : node ≡ get_or now k blank_node = sym (get_or_push was node blank_node k (h.as_many ∙ sym same)) ∙ ap (λ l. get_or l k blank_node) (sym e) in
          let Q : Node → Type 0 = λ v. IsRight k v in
          let R : ℕ → Type 0 = λ m. IsRight m node in
          subst Q here (subst R (sym same) new)

      each : (k : ℕ) → k < n + 1 → IsRight k (get_or now k blank_node)
      each k lt =
          elim (cases_lt k n) [
            | inl old ↦
                let Q : Node → Type 0 = λ v. IsRight k v in
                subst Q (sym (get_or_append_left was (node ∷ []) blank_node k (omega (arith, h.as_many))) ∙ ap (λ l. get_or l k blank_node) (sym e)) (h.each k old)
            | inr new_one ↦ last k (omega arith)
          ]

pub of-requires-clause-in_tree : goal.of-requires-clause-in_tree
of-requires-clause-in_tree c =
    let P : Square → Type 0 = λ s. IsTreeCell s.grid c.args.points.now c.args.cap s in
    let lt : c.loop-n.n < length c.args.runs.now = omega arith in
    let here : get_or (squares_of c.args.runs.now) c.loop-n.n no_square ≡ square c.index-runs-n.result.cell = cell_at c.args.runs.now c.loop-n.n c.index-runs-n.result lt c.index-runs-n.is in
    subst P here (All-get_or P (squares_of c.args.runs.now) c.loop-n.n no_square (omega (arith, length-map c.args.runs.now (λ (r : Run). square r.cell))) c.requires.in_tree)

pub loop-n-preserved : goal.loop-n-preserved
loop-n-preserved c =
    let points = c.args.points.now in
    let runs = c.args.runs.now in
    let n : ℕ = c.loop-n.n in
    let run : Run = c.index-runs-n.result in
    let children : Children = get_or c.args.families.now n no_children in
    let cell : get_or (squares_of runs) n no_square ≡ square run.cell = cell_at runs n run (omega arith) c.index-runs-n.is in
    let parent : get_or (parents_of runs) n 0 ≡ run.parent = get_or-map (λ (r : Run). r.parent) runs n run 0 (omega arith) ∙ ap (λ (r : Run). r.parent) (sym c.index-runs-n.is) in
    let P : Square → Type 0 = λ s. IsNodeOf points c.args.cap c.args.positions.now s run.parent children c.of.result in
    let Q : ℕ → Type 0 = λ m. IsNodeOf points c.args.cap c.args.positions.now (get_or (squares_of runs) n no_square) m children c.of.result in
    one_more points c.args.cap c.args.positions.now (squares_of runs) (parents_of runs) c.args.families.now c.loop-n.nodes.items c.push.new.self.items c.of.result n c.in_ok-push.ensures.items c.loop-n.invariant
    (subst Q (sym parent) (subst P (sym cell) c.of.ensures))

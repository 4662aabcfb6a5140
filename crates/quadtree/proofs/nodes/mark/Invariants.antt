-- The positions so far have the number, and the others what they had.
use Rattle.std.proofs.Common.{ℕ, ◌≡◌, take, get_or}
use Rattle.std.specs.Prelude.{Contains}
use Rattle.quadtree.proofs.nodes.mark.Given as goal

abbrev pub invariant-loop-k : goal.invariant-loop-k
invariant-loop-k l =
    record {
      marked : (k : ℕ) → Contains (take l.k-index l.members) k → get_or l.leaves k 0 ≡ l.leaf;
      others : (k : ℕ) → (Contains (take l.k-index l.members) k → ⊥) → get_or l.leaves k 0 ≡ get_or l.initial.leaves k 0;
    }

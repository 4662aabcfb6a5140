use Rattle.std.proofs.Common.{ℕ, ◌≡◌, ◌+◌, [], ◌∷◌, ◌++◌, sym, ap, ◌∙◌, arith}
use Rattle.std.proofs.Math.ListN.{length-set}
use Rattle.std.specs.List.{range_with_len}
use Rattle.std.proofs.lemmas.List.{map-append, map-id}
use Rattle.std.proofs.lemmas.List.FromFn.{map-range_with_len_more}
use Rattle.certificate_tiling.specs.declared.order.Visit.{Visit}
use Rattle.certificate_tiling.specs.Order.{nodes_of}
use Rattle.certificate_tiling.proofs.order.places.Goals as goal

range_more : (n : ℕ) → range_with_len 0 (n + 1) ≡ range_with_len 0 n ++ n ∷ []
range_more n =
    let same : 0 + n ≡ n = omega arith in
    sym (map-id (range_with_len 0 (n + 1))) ∙ map-range_with_len_more (λ k. k) 0 n n same ∙ ap (λ xs. xs ++ n ∷ []) (map-id (range_with_len 0 n))

pub loop-n-preserved : goal.loop-n-preserved
loop-n-preserved c = record {
  nodes = ap nodes_of c.in_ok-push.ensures.items ∙ map-append (λ (v : Visit). v.node) c.loop-n.visits.items _ ∙ ap (λ xs. xs ++ c.loop-n.n ∷ []) c.loop-n.invariant.nodes ∙ sym (range_more c.loop-n.n);
  next_len = length-set _ _ _ ∙ length-set _ _ _ ∙ c.loop-n.invariant.next_len;
}

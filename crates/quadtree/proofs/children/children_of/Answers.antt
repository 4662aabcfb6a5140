-- One more cell stands with its parent.
use Rattle.std.proofs.Common.{ℕ, ◌≡◌, ◌<◌, length, get_or, ◌∙◌, sym, arith}
use Rattle.std.proofs.lemmas.List.{get_or-map, get_or_default, length-map}
use Rattle.std.proofs.lemmas.List.Elements.{All-get_or}
use Rattle.quadtree.specs.declared.split.Run.{Run}
use Rattle.quadtree.specs.Fields.{no_children}
use Rattle.quadtree.specs.Splitting.{parents_of}
use Rattle.quadtree.proofs.Families.{families_more, room_for_one}
use Rattle.quadtree.proofs.children.children_of.Goals as goal

pub with-requires : goal.with-requires
with-requires c =
    let runs = c.args.runs.now in
    let n : ℕ = c.loop-n.n in
    let run : Run = get_or runs n c.index-runs-n.result in
    let many = length-map runs (λ (r : Run). r.parent) in
    let own : run.parent ≡ get_or (parents_of runs) n 0 = sym (get_or-map (λ (r : Run). r.parent) runs n c.index-runs-n.result 0 (omega arith)) in
    let inside : run.parent < length runs = All-get_or (λ (r : Run). r.parent < length runs) runs n c.index-runs-n.result (omega arith) c.requires.parents in
    room_for_one (parents_of runs) c.loop-n.families.items n run.parent (length runs) c.index.result.now (omega arith) (omega arith) own (omega arith) c.loop-n.invariant
    (c.index.ensures ∙ get_or_default c.loop-n.families.items run.parent c.index.result.now no_children (omega (arith, c.loop-n.invariant.as_many))) (c.requires.four run.parent)

pub loop-n-preserved : goal.loop-n-preserved
loop-n-preserved c =
    let runs = c.args.runs.now in
    let n : ℕ = c.loop-n.n in
    let run : Run = get_or runs n c.index-runs-n.result in
    let many = length-map runs (λ (r : Run). r.parent) in
    let own : run.parent ≡ get_or (parents_of runs) n 0 = sym (get_or-map (λ (r : Run). r.parent) runs n c.index-runs-n.result 0 (omega arith)) in
    let inside : run.parent < length runs = All-get_or (λ (r : Run). r.parent < length runs) runs n c.index-runs-n.result (omega arith) c.requires.parents in
    families_more (parents_of runs) c.loop-n.families.items n run.parent c.index.result.now c.with.result (omega arith) own (omega arith) c.loop-n.invariant
    (c.index.ensures ∙ get_or_default c.loop-n.families.items run.parent c.index.result.now no_children (omega (arith, c.loop-n.invariant.as_many))) c.with.ensures

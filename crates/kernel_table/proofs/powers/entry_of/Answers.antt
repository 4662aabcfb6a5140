use Rattle.std.proofs.Common.{◌≡◌, ◌+◌, ◌^◌, ◌%◌, ◌∙◌, sym, ap, arith, pos}
use Rattle.std.proofs.lemmas.Int.{ints}
use Rattle.exact_math.specs.Ends.{scale_box, quot_box, neg_box}
use Rattle.complex_box.specs.Box.{box_ends}
use Rattle.kernel_table.proofs.Norms.{wide, wide-is}
use Rattle.kernel_table.proofs.Signs.{alternate-even, alternate-odd}
use Rattle.kernel_table.proofs.Sizes.{scale-fits}
use Rattle.kernel_table.proofs.powers.entry_of.Goals as goal
use Rattle.kernel_table.proofs.powers.entry_of.Goals.{After-quot_shift-entry}

pub scale-requires : goal.scale-requires
scale-requires c = scale-fits c.requires.size (omega (arith, ints, c.requires.least)) (omega (arith, ints, c.requires.least, c.requires.most))

-- the quotient, before its sign
unsigned : (c : After-quot_shift-entry) → box_ends c.quot_shift-entry.result ≡ quot_box (scale_box (box_ends c.args.power) c.args.ways) (pos (2 ^ (c.args.k + c.args.l + 20)))
unsigned c =
    let counted : wide c.args.ways ≡ c.args.ways = wide-is c.args.ways (omega (arith, ints, c.requires.least)) (omega (arith, ints, c.requires.most)) in
    c.quot_shift-entry.ensures.ends ∙ ap (λ b. quot_box b (pos (2 ^ (c.args.k + c.args.l + 20)))) (c.scale.ensures.ends ∙ ap (λ k. scale_box (box_ends c.args.power) k) counted)

pub returns-then-l-eq0 : goal.returns-then-l-eq0
returns-then-l-eq0 c = unsigned (goal.at.returns-then-l-eq0 c).After-quot_shift-entry
    ∙ sym (alternate-even c.args.l c.if-l-eq0.true (quot_box (scale_box (box_ends c.args.power) c.args.ways) (pos (2 ^ (c.args.k + c.args.l + 20)))))

pub returns-else-l-eq0 : goal.returns-else-l-eq0
returns-else-l-eq0 c =
    let odd : c.args.l % 2 ≡ 1 = omega (arith, c.if-l-eq0.false) in
    c.neg.ensures.ends ∙ ap neg_box (unsigned (goal.at.returns-else-l-eq0 c).After-quot_shift-entry)
    ∙ sym (alternate-odd c.args.l odd (quot_box (scale_box (box_ends c.args.power) c.args.ways) (pos (2 ^ (c.args.k + c.args.l + 20)))))

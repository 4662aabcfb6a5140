use Rattle.std.proofs.Common.{subst}
use Rattle.number_text.specs.Parts.{IsFreeOf}
use Rattle.number_text.proofs.Cuts.{same_cut, no_cut}
use Rattle.particle_text.specs.Text.{head_line}
use Rattle.particle_text.proofs.Heads.{head_cut}
use Rattle.particle_text.proofs.reader.read_head.Goals as goal

pub returns-in_err-line-clause-none : goal.returns-in_err-line-clause-none
returns-in_err-line-clause-none c = rw c.from_residual.ensures (λ version mode rest is whole.
    no_cut 10 (head_line version mode) rest (subst (IsFreeOf 10) whole c.in_err-line.ensures.none))

pub returns-in_err-version-clause-none : goal.returns-in_err-version-clause-none
returns-in_err-version-clause-none c = rw c.from_residual-in_err-version.ensures (λ version mode rest is whole.
    let same = same_cut 10 c.args.bytes.now _ _ _ rest c.in_ok-line.ensures.some (head_cut c.args.bytes.now rest version mode is whole) in
    c.in_err-version.ensures.none version mode is same.fronts)

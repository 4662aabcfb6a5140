use Rattle.std.proofs.Common.{rules, ◌≡◌, ◌∙◌, sym, refl}
use Rattle.std.specs.Prelude.{codes}
use Rattle.points.specs.declared.Mode.TheVariants.{Field, Velocity}
use Rattle.particle_text.proofs.Heads.{each_head, head_is}
use Rattle.particle_text.proofs.reader.head_of.Goals as goal

pub returns-then-eq-clause-some : goal.returns-then-eq-clause-some
returns-then-eq-clause-some c = let line : c.args.line.now ≡ codes "fmm 1 field" = search rules in line ∙ sym (head_is 1 Field refl)

pub returns-then-eq-2-clause-some : goal.returns-then-eq-2-clause-some
returns-then-eq-2-clause-some c = let line : c.args.line.now ≡ codes "fmm 1 velocity" = search rules in line ∙ sym (head_is 1 Velocity refl)

pub returns-then-eq-3-clause-some : goal.returns-then-eq-3-clause-some
returns-then-eq-3-clause-some c = let line : c.args.line.now ≡ codes "fmm 2 field" = search rules in line ∙ sym (head_is 2 Field refl)

pub returns-then-eq-4-clause-some : goal.returns-then-eq-4-clause-some
returns-then-eq-4-clause-some c = let line : c.args.line.now ≡ codes "fmm 2 velocity" = search rules in line ∙ sym (head_is 2 Velocity refl)

pub returns-else-eq-4-clause-none : goal.returns-else-eq-4-clause-none
returns-else-eq-4-clause-none c = each_head (λ version mode line. c.args.line.now ≡ line → ⊥) (search rules) (search rules) (search rules) (search rules)

use Rattle.std.proofs.Common.{◌≡◌, ◌+◌, ◌++◌, ◌∷◌, [], false, Result, Ok, Err, length, sym, ap, ◌∙◌, subst, arith}
use Rattle.std.specs.Prelude.{OnOk, ◌==◌, ◌≢◌}
use Rattle.std.proofs.lemmas.Bool.{false≢true}
use Rattle.std.proofs.lemmas.Bool.Decides.{nat_tests}
use Rattle.std.proofs.lemmas.List.{nil_from_length}
use Rattle.std.specs.Result.{is_err}
use Rattle.limits.proofs.Grids.{version_has_grid}
use Rattle.points.proofs.Ranges.{range_in_widest}
use Rattle.particle_text.specs.declared.TextKind.TheVariants.{Range, Strength}
use Rattle.particle_text.specs.Faults.{CanJoin, FirstFault, IsFirstKind, LineFault}
use Rattle.particle_text.proofs.Lines.{start, step, version_limits, whole, at_fault}
use Rattle.particle_text.proofs.reader.parse.Goals as goal

pub loop-rest-init : goal.loop-rest-init
loop-rest-init c = rw c.new-list.ensures (start _ _ _ _ c.in-Some.ensures.version c.in-Some.ensures.some)

on_ok : {T E : Type 0} (r : Result T E) (P : Type 0) → is_err r ≡ false → OnOk r P → P
on_ok (Ok x) P e h = h
on_ok (Err x) P e h = absurd (cc)

pub loop-rest-preserved : goal.loop-rest-preserved
loop-rest-preserved c =
    let found = c.in-Ok.found in
    let pushed : c.push.new.self ≡ c.loop-rest.list ++ found.0 ∷ [] = on_ok c.push.result _ (sym c.if-is_err.ensures.value) c.push.ensures.pushed in
    let live : c.points.result.now ≡ c.loop-rest.list = c.points.ensures in
    let joins = subst (λ points. CanJoin c.in-Some.version c.in-Some.mode (length points) c.loop-rest.weight found.0) live c.in-Ok.ensures.joins in
    let far = step _ _ _ _ _ _ c.loop-rest.invariant c.in-Ok.ensures.line joins in
    rw (pushed, c.weight64-weight.ensures) far

pub returns-in-Err : goal.returns-in-Err
returns-in-Err c =
    let live : c.points.result.now ≡ c.loop-rest.list = c.points.ensures in
    let more : c.loop-rest.rest.now ≢ [] = λ none. false≢true (c.loop-rest-test.ensures ∙ ap (λ rest. length rest == 0) none) in
    let fault = subst (λ points. IsFirstKind (LineFault c.in-Some.version c.in-Some.mode (length points) c.loop-rest.weight c.loop-rest.rest.now) c.in-Err.what) live c.in-Err.ensures.fault in
    subst (λ points. FirstFault c.args.bytes.now (length points + 2) c.in-Err.what) (sym live) (at_fault _ _ _ _ _ c.loop-rest.invariant more fault)

pub returns : goal.returns
returns c =
    let none : c.loop-rest.rest.now ≡ [] = nil_from_length _ (grind (arith, nat_tests, c.loop-rest-test.ensures)) in
    whole _ _ _ _ c.loop-rest.invariant none

pub weight64-weight-requires : goal.weight64-weight-requires
weight64-weight-requires c = range_in_widest _ _ (version_has_grid c.in-Some.version) (c.in-Ok.ensures.joins Range)

pub overflow_add-weight : goal.overflow_add-weight
overflow_add-weight c = let light = c.in-Ok.ensures.joins Strength in
    omega (arith, light, (version_limits c.in-Some.version).weight, c.weight64-weight.ensures)

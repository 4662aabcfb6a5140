use Rattle.std.proofs.lemmas.Result.{err_from_is_err_and}
use Rattle.particle_text.proofs.LineFaults.{syntax_first, no_line, form_fault_first, point_fault_first, begins_with}
use Rattle.particle_text.proofs.reader.next_point.Goals as goal

pub returns-in_default-clause-fault : goal.returns-in_default-clause-fault
returns-in_default-clause-fault c = syntax_first _ _ _ _ _ (λ p rest. no_line c.args.version c.args.bytes.now p rest c.in_default.ensures.none)

pub returns-in_err-point-clause-fault : goal.returns-in_err-point-clause-fault
returns-in_err-point-clause-fault c =
    let p = err_from_is_err_and c.from_residual.result c.from_residual.ensures.1 in
    rw (p.1, p.2) (form_fault_first _ _ _ _ _ _ _ c.in-Some.ensures.some c.in_err-point.field-0.0 c.in_err-point.ensures.fault)

pub returns-in-Some-admit-clause-fault : goal.returns-in-Some-admit-clause-fault
returns-in-Some-admit-clause-fault c =
    let begins = begins_with c.args.version _ _ _ c.in_ok-point.point c.in-Some.ensures.some c.in_ok-point.ensures.ok.0 in
    point_fault_first _ _ _ _ _ _ _ begins c.in-Some-admit.kind c.in-Some-admit.ensures.some

use Rattle.field_report.proofs.Pieces.{AppendsPrefix-front, AppendsPrefix-then, Writes-failed, Writes-then}
use Rattle.field_certificate.proofs.sections.write_cell_entries.Goals as goal

pub returns-in_err-write_list-clause-bytes : goal.returns-in_err-write_list-clause-bytes
returns-in_err-write_list-clause-bytes g c =
    Writes-failed _ c.from_residual.result _ _ _ c.from_residual.ensures.1
    (AppendsPrefix-front _ _ _ _ (rw c.u_list.ensures at c.in_err-write_list.ensures.bytes))

pub returns-in_err-write_list-2-clause-bytes : goal.returns-in_err-write_list-2-clause-bytes
returns-in_err-write_list-2-clause-bytes g c =
    Writes-failed _ c.from_residual-in_err-write_list-2.result _ _ _ c.from_residual-in_err-write_list-2.ensures.1
    (AppendsPrefix-then _ _ _ _ _ (rw c.u_list.ensures at c.in_ok-write_list.ensures.bytes)
    (AppendsPrefix-front _ _ _ _ (rw c.v_list.ensures at c.in_err-write_list-2.ensures.bytes)))

pub returns-in_err-write_list-3-clause-bytes : goal.returns-in_err-write_list-3-clause-bytes
returns-in_err-write_list-3-clause-bytes g c =
    Writes-failed _ c.from_residual-in_err-write_list-3.result _ _ _ c.from_residual-in_err-write_list-3.ensures.1
    (AppendsPrefix-then _ _ _ _ _ (rw c.u_list.ensures at c.in_ok-write_list.ensures.bytes)
    (AppendsPrefix-then _ _ _ _ _ (rw c.v_list.ensures at c.in_ok-write_list-2.ensures.bytes)
    (AppendsPrefix-front _ _ _ _ (rw c.w_list.ensures at c.in_err-write_list-3.ensures.bytes))))

pub returns-clause-bytes : goal.returns-clause-bytes
returns-clause-bytes g c =
    Writes-then c.write_list-4.result _ _ _ _ _ (rw c.u_list.ensures at c.in_ok-write_list.ensures.bytes)
    (Writes-then c.write_list-4.result _ _ _ _ _ (rw c.v_list.ensures at c.in_ok-write_list-2.ensures.bytes)
    (Writes-then c.write_list-4.result _ _ _ _ _ (rw c.w_list.ensures at c.in_ok-write_list-3.ensures.bytes)
    (rw c.x_list.ensures at c.write_list-4.ensures.bytes)))

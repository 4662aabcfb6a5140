use Rattle.std.proofs.KnownBytes.{Appends-kept}
use Rattle.fmm_program.proofs.FlushedEnds.{AppendsPrefix-whole}
use Rattle.fmm_program.proofs.solve.write_whole.Goals as goal

pub returns-in-Err-flush-clause-bytes : goal.returns-in-Err-flush-clause-bytes
returns-in-Err-flush-clause-bytes g c lists are =
    AppendsPrefix-whole _ _ _ (Appends-kept (g.C.Sink.held c.args.cert_out.now) (g.C.Sink.held c.write_cert.new.sink) (g.C.Sink.held c.flush.new.self) _ (c.in-Ok.ensures.bytes lists are) c.flush.ensures.kept)

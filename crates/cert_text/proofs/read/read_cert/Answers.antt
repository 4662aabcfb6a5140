use Rattle.std.proofs.Common.{subst, sym}
use Rattle.std.proofs.lemmas.Result.{err_from_is_err_and}
use Rattle.cert_text.specs.Certificate.{SpellsCert}
use Rattle.cert_text.specs.Inside.{head_of}
use Rattle.cert_text.specs.Reading.{AreRead, IsStarting}
use Rattle.cert_text.specs.declared.section.Section.TheVariants.{Node}
use Rattle.cert_text.proofs.Ends.{start_first, reads_fault}
use Rattle.cert_text.proofs.read.read_cert.Goals as goal

pub read_lines-requires : goal.read_lines-requires
read_lines-requires c = subst (IsStarting (head_of c.in-Ok.found.0) Node 2) (sym c.new-stored.ensures) (start_first (head_of c.in-Ok.found.0) c.in-Ok.ensures.head)

pub returns-in_err-read_lines : goal.returns-in_err-read_lines
returns-in_err-read_lines c =
    let are : AreRead c.args.bytes.now c.new-stored.result c.in-Ok.found.1.now = subst (λ s. AreRead c.args.bytes.now s c.in-Ok.found.1.now) (sym c.new-stored.ensures) c.in-Ok.ensures.begin in
    let p = err_from_is_err_and c.from_residual.result c.from_residual.ensures.1 in
    rw (p.1, p.2) (reads_fault c.args.bytes.now _ (c.in_err-read_lines.ensures c.args.bytes.now are))

pub of-requires : goal.of-requires
of-requires c =
    let are : AreRead c.args.bytes.now c.new-stored.result c.in-Ok.found.1.now = subst (λ s. AreRead c.args.bytes.now s c.in-Ok.found.1.now) (sym c.new-stored.ensures) c.in-Ok.ensures.begin in
    let spells : SpellsCert c.args.bytes.now c.read_lines.new.stored = c.in_ok-read_lines.ensures c.args.bytes.now are in
    spells.is_certificate

pub returns : goal.returns
returns c =
    let are : AreRead c.args.bytes.now c.new-stored.result c.in-Ok.found.1.now = subst (λ s. AreRead c.args.bytes.now s c.in-Ok.found.1.now) (sym c.new-stored.ensures) c.in-Ok.ensures.begin in
    let spells : SpellsCert c.args.bytes.now c.read_lines.new.stored = c.in_ok-read_lines.ensures c.args.bytes.now are in
    subst (SpellsCert c.args.bytes.now) (sym c.of.ensures) spells

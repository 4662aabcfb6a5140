use Rattle.cert_text.proofs.Heads.{no_first, no_version, no_order, line_one, version_read, order_read, out_of_range, head_begins}
use Rattle.cert_text.proofs.head.read_head.Goals as goal

pub returns-in_default-clause-fault : goal.returns-in_default-clause-fault
returns-in_default-clause-fault c = no_first c.args.bytes.now c.in_default.ensures.none

pub returns-in_default-version_of-clause-fault : goal.returns-in_default-version_of-clause-fault
returns-in_default-version_of-clause-fault c =
    let one = line_one c.args.bytes.now c.read_word.new.numbers c.in-Some.found c.in-Some.ensures.some in
    no_version c.args.bytes.now c.in-Some.found.rest.now c.read_word.new.numbers one c.in_default-version_of.ensures.none

pub returns-in_default-order_of-clause-fault : goal.returns-in_default-order_of-clause-fault
returns-in_default-order_of-clause-fault c =
    let one = line_one c.args.bytes.now c.read_word.new.numbers c.in-Some.found c.in-Some.ensures.some in
    let version = c.in-Some-version_of.ensures.some in
    no_order c.args.bytes.now c.in-Some.found.rest.now c.read_word.new.numbers c.in-Some-version_of.version one (version_read _ _ _ _ one version.0 version.1)
    (λ order is. c.in_default-order_of.ensures.none order (rw c.grid_of-grid.ensures is))

pub returns-in_default-counts_of-clause-fault : goal.returns-in_default-counts_of-clause-fault
returns-in_default-counts_of-clause-fault c =
    let one = line_one c.args.bytes.now c.read_word.new.numbers c.in-Some.found c.in-Some.ensures.some in
    let version = c.in-Some-version_of.ensures.some in
    let order = c.in-Some-order_of.ensures.some in
    out_of_range _ _ _ _ _ _ one version.0 c.grid_of-grid.ensures order.0 (version_read _ _ _ _ one version.0 version.1) (order_read _ _ _ _ _ one order.0 order.1) c.in_default-counts_of.ensures.none

pub returns-clause-begin : goal.returns-clause-begin
returns-clause-begin c =
    let one = line_one c.args.bytes.now c.read_word.new.numbers c.in-Some.found c.in-Some.ensures.some in
    let version = c.in-Some-version_of.ensures.some in
    let order = c.in-Some-order_of.ensures.some in
    let counts = c.in-Some-counts_of.ensures in
    head_begins _ _ _ _ _ c.grid_of-grid.result _ _ _ _ one (version_read _ _ _ _ one version.0 version.1) (order_read _ _ _ _ _ one order.0 order.1) counts.range counts.some

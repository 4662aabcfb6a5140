use Rattle.std.proofs.Common.{◌+◌, ◌∙◌, ℕ, ℤ, List, length, sym, ap, subst, take}
use Rattle.std.specs.declared.alloc.AllocError.{AllocError}
use Rattle.cert_text.specs.declared.form.Found.{Found}
use Rattle.cert_text.specs.declared.section.Section.{Section}
use Rattle.cert_text.specs.declared.stored.Header.{Header}
use Rattle.cert_text.specs.Certificate.{Certificate}
use Rattle.cert_text.specs.Inside.{head_of}
use Rattle.cert_text.specs.Private.{IsFound, form_head}
use Rattle.cert_text.specs.Reading.{AreRead, IsReading}
use Rattle.cert_text.specs.Sections.{IsFormOf, AreInRange}
use Rattle.cert_text.specs.Storage.{IsLineRead, lines_in}
use Rattle.cert_text.proofs.Due.{count_added}
use Rattle.cert_text.proofs.Steps.{form_of, was_read, was_added, was_refused, line_read, are_read, no_form, no_range}
use Rattle.cert_text.proofs.read.read_line.Goals as goal

-- what was read of the line
read_of : (header : Header) (section : Section) (line : ℕ) (text : List ℕ) (old : Certificate) (numbers : List ℤ) (found : Found) → IsReading (head_of header) section line old
    → (is : IsFound (IsFormOf (form_head header.order) section) text numbers found) → IsLineRead old.head section found.word.now (take found.count numbers) is.line
read_of header section line text old numbers found reading is =
    subst (λ h. IsLineRead h section found.word.now (take found.count numbers) is.line) (sym reading.head_is) (was_read (head_of header) section text numbers found is)

pub push-requires : goal.push-requires
push-requires c =
    let is = c.in-Some.ensures.some in
    (is.line, read_of c.args.header c.args.section c.args.line c.args.text.now c.args.stored.now c.read_form.new.numbers c.in-Some.found c.requires.reading is)

pub returns-in_default-clause-read : goal.returns-in_default-clause-read
returns-in_default-clause-read c = λ bytes are. no_form (head_of c.args.header) c.args.section c.args.line bytes c.args.text.now c.args.stored.now c.requires.reading c.requires.more are c.in_default.ensures.none

pub returns-in-Ok-true-clause-reading : goal.returns-in-Ok-true-clause-reading
returns-in-Ok-true-clause-reading c =
    let is = c.in-Some.ensures.some in
    let read = read_of c.args.header c.args.section c.args.line c.args.text.now c.args.stored.now c.read_form.new.numbers c.in-Some.found c.requires.reading is in
    let done = was_added AllocError c.args.section is.line c.args.stored.now c.push.new.self c.in-Ok-true.field-0 c.in-Ok-true.field-0-test (c.in-Ok-true.ensures is.line read) in
    let range = subst (λ h. AreInRange h c.args.section (length (lines_in c.args.section c.args.stored.now)) is.line.numbers) c.requires.reading.head_is done.0 in
    subst (IsReading (head_of c.args.header) c.args.section (c.args.line + 1)) (sym done.1)
    (line_read (head_of c.args.header) c.args.section c.args.line c.args.stored.now is.line c.requires.reading c.requires.more (form_of (head_of c.args.header) c.args.section is.line is.form) range)

pub returns-in-Ok-true-clause-one : goal.returns-in-Ok-true-clause-one
returns-in-Ok-true-clause-one c =
    let is = c.in-Some.ensures.some in
    let read = read_of c.args.header c.args.section c.args.line c.args.text.now c.args.stored.now c.read_form.new.numbers c.in-Some.found c.requires.reading is in
    let done = was_added AllocError c.args.section is.line c.args.stored.now c.push.new.self c.in-Ok-true.field-0 c.in-Ok-true.field-0-test (c.in-Ok-true.ensures is.line read) in
    ap (λ new. length (lines_in c.args.section new)) done.1 ∙ count_added (head_of c.args.header) c.args.section c.args.stored.now is.line c.requires.more

pub returns-in-Ok-true-clause-read : goal.returns-in-Ok-true-clause-read
returns-in-Ok-true-clause-read c = λ bytes are.
    let is = c.in-Some.ensures.some in
    let read = read_of c.args.header c.args.section c.args.line c.args.text.now c.args.stored.now c.read_form.new.numbers c.in-Some.found c.requires.reading is in
    let done = was_added AllocError c.args.section is.line c.args.stored.now c.push.new.self c.in-Ok-true.field-0 c.in-Ok-true.field-0-test (c.in-Ok-true.ensures is.line read) in
    subst (λ new. AreRead bytes new c.in-Some.found.rest.now) (sym done.1)
    (are_read (head_of c.args.header) c.args.section c.args.line bytes c.args.text.now c.in-Some.found.rest.now c.args.stored.now is.line c.requires.reading c.requires.more are is.begin)

pub returns-in-Ok-false-clause-read : goal.returns-in-Ok-false-clause-read
returns-in-Ok-false-clause-read c = λ bytes are.
    let is = c.in-Some.ensures.some in
    let read = read_of c.args.header c.args.section c.args.line c.args.text.now c.args.stored.now c.read_form.new.numbers c.in-Some.found c.requires.reading is in
    let out = was_refused AllocError c.args.section is.line c.args.stored.now c.push.new.self c.in-Ok-false.field-0 c.in-Ok-false.field-0-test (c.in-Ok-false.ensures is.line read) in
    no_range (head_of c.args.header) c.args.section c.args.line bytes c.args.text.now c.in-Some.found.rest.now c.args.stored.now is.line c.requires.reading c.requires.more are
    (form_of (head_of c.args.header) c.args.section is.line is.form) is.begin
    (λ range. out (subst (λ h. AreInRange h c.args.section (length (lines_in c.args.section c.args.stored.now)) is.line.numbers) (sym c.requires.reading.head_is) range))

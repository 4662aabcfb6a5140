-- Reading one line more, and what is wrong with a line.
use Rattle.std.proofs.Common.{◌≡◌, ◌+◌, ◌≤◌, ◌<◌, inl, inr, ℕ, ℤ, Bool, true, false, Ok, List, [], ◌∷◌, ◌++◌, length, take, map, sym, ap, ◌∙◌, subst, refl, append_assoc, append-nil, arith}
use Rattle.std.specs.Prelude.{◌≢◌, flat_map}
use Rattle.std.proofs.lemmas.Grind.{flat_map-append}
use Rattle.std.proofs.lemmas.List.{length_push}
use Rattle.number_text.specs.Numbers.{cut_wide}
use Rattle.cert_text.specs.declared.form.Found.{Found}
use Rattle.cert_text.specs.declared.fault.CertKind.{CertKind}
use Rattle.cert_text.specs.declared.fault.CertKind.TheVariants.{Syntax, Range}
use Rattle.cert_text.specs.declared.section.Section.{Section}
use Rattle.cert_text.specs.declared.section.Section.TheVariants.{Node, At, Multipole, Entry, Local, Target, End}
use Rattle.cert_text.specs.Lines.{Line, Head, line_bytes, cert_head_line}
use Rattle.cert_text.specs.Sections.{Place, place_of, line_count, IsFormOf, AreInRange, IsLineAt, AreLinesFrom}
use Rattle.cert_text.specs.Certificate.{Certificate, lines_of}
use Rattle.cert_text.specs.Faults.{BeginWith, CertLineFault, CertFaultsAfter, FirstCertFault}
use Rattle.cert_text.specs.Private.{HasNone, IsFound, form_head, lines_due}
use Rattle.cert_text.specs.Reading.{AreRead, IsReading, IsDue}
use Rattle.cert_text.specs.Storage.{IsLineRead, Pushes, lines_in, added}
use Rattle.cert_text.proofs.Due.{place_due, lines_added, due_added, head_added, lines_and_one, few_stand}

-- of a head the order alone tells the forms
pub form_of : (h : Head) (section : Section) (l : Line) → IsFormOf (form_head h.order) section l → IsFormOf h section l
form_of h Node l form = form
form_of h At l form = form
form_of h Multipole l form = form
form_of h Entry l form = form
form_of h Local l form = form
form_of h Target l form = form
form_of h End l form = form

form_by_order : (h : Head) (section : Section) (l : Line) → IsFormOf h section l → IsFormOf (form_head h.order) section l
form_by_order h Node l form = form
form_by_order h At l form = form
form_by_order h Multipole l form = form
form_by_order h Entry l form = form
form_by_order h Local l form = form
form_by_order h Target l form = form
form_by_order h End l form = form

pub was_read : (h : Head) (section : Section) (text : List ℕ) (numbers : List ℤ) (found : Found) (is : IsFound (IsFormOf (form_head h.order) section) text numbers found)
    → IsLineRead h section found.word.now (take found.count numbers) is.line
was_read h section text numbers found is = record { form = form_of h section is.line is.form; word_is = sym is.word_is; numbers_are = is.numbers_are }

-- a line of the due form and range has those of its place
line_at : (h : Head) (section : Section) (c : Certificate) (l : Line) → IsDue h section c → length (lines_in section c) < lines_due h section
    → IsFormOf h section l → AreInRange h section (length (lines_in section c)) l.numbers → IsLineAt h (length (lines_of c)) l
line_at h section c l due more form range =
    let at = sym (place_due h section c due more) in
    record { form = subst (λ (p : Place). IsFormOf h p.section l) at form; range = subst (λ (p : Place). AreInRange h p.section p.number l.numbers) at range }

pub line_read : (h : Head) (section : Section) (line : ℕ) (c : Certificate) (l : Line) → IsReading h section line c → length (lines_in section c) < lines_due h section
    → IsFormOf h section l → AreInRange h section (length (lines_in section c)) l.numbers → IsReading h section (line + 1) (added section l c)
line_read h section line c l reading more form range =
    let lines = lines_added h section c l reading.due more in
    record {
      head_is = head_added section c l ∙ reading.head_is;
      right = reading.right;
      due = due_added h section c l reading.due more;
      line_is = omega (arith, reading.line_is, ap length lines, length_push (lines_of c) l);
      lines_are = subst (AreLinesFrom h 0) (sym lines) (lines_and_one h 0 (lines_of c) l reading.lines_are (subst (λ n. IsLineAt h n l) (omega arith) (line_at h section c l reading.due more form range)));
    }

-- the lines so far and one more
pub text_read : (bytes text rest : List ℕ) (c : Certificate) (l : Line) → AreRead bytes c text → BeginWith text l rest
    → bytes ≡ line_bytes (cert_head_line c.head) ++ (flat_map line_bytes (lines_of c ++ l ∷ []) ++ rest)
text_read bytes text rest c l are begin =
    let front = line_bytes (cert_head_line c.head) in
    let lines = flat_map line_bytes (lines_of c) in
    let one : flat_map line_bytes (l ∷ []) ≡ line_bytes l = append-nil (line_bytes l) in
    let joined : flat_map line_bytes (lines_of c ++ l ∷ []) ≡ lines ++ line_bytes l = flat_map-append line_bytes (lines_of c) (l ∷ []) ∙ ap (λ t. lines ++ t) one in
    are ∙ ap (λ t. front ++ (lines ++ t)) begin ∙ ap (λ t. front ++ t) (sym (append_assoc lines (line_bytes l) rest)) ∙ ap (λ t. front ++ (t ++ rest)) (sym joined)

pub are_read : (h : Head) (section : Section) (line : ℕ) (bytes text rest : List ℕ) (c : Certificate) (l : Line) → IsReading h section line c → length (lines_in section c) < lines_due h section
    → AreRead bytes c text → BeginWith text l rest → AreRead bytes (added section l c) rest
are_read h section line bytes text rest c l reading more are begin =
    subst (λ lines. bytes ≡ line_bytes (cert_head_line (added section l c).head) ++ (flat_map line_bytes lines ++ rest)) (sym (lines_added h section c l reading.due more))
    (subst (λ g. bytes ≡ line_bytes (cert_head_line g) ++ (flat_map line_bytes (lines_of c ++ l ∷ []) ++ rest)) (sym (head_added section c l)) (text_read bytes text rest c l are begin))

-- what a line that was added, or refused, says
pub was_added : (E : Type 0) (section : Section) (l : Line) (old new : Certificate) (b : Bool) → b ≡ true → Pushes {E = E} section l old new (Ok b) → AreInRange old.head section (length (lines_in section old)) l.numbers × (new ≡ added section l old)
was_added E section l old new true is pushes = pushes
was_added E section l old new false is pushes = absurd (cc)

pub was_refused : (E : Type 0) (section : Section) (l : Line) (old new : Certificate) (b : Bool) → b ≡ false → Pushes {E = E} section l old new (Ok b) → AreInRange old.head section (length (lines_in section old)) l.numbers → ⊥
was_refused E section l old new true is pushes = absurd (cc)
was_refused E section l old new false is pushes = pushes.0

-- ---- faults
pub fault_at : (h : Head) (section : Section) (line : ℕ) (bytes text : List ℕ) (c : Certificate) (kind : CertKind) → IsReading h section line c → AreRead bytes c text
    → CertLineFault h (length (lines_of c)) text kind → FirstCertFault bytes line kind
fault_at h section line bytes text c kind reading are fault = inr (
  h,
  lines_of c,
  reading.line_is,
  record {
    rest = text;
    head_is = reading.right;
    lines_are = reading.lines_are;
    text = subst (λ g. bytes ≡ line_bytes (cert_head_line g) ++ (flat_map line_bytes (lines_of c) ++ text)) reading.head_is are;
    more = inl (few_stand h section c reading.due);
    fault = fault;
  },
)

pub no_form : (h : Head) (section : Section) (line : ℕ) (bytes text : List ℕ) (c : Certificate) → IsReading h section line c → length (lines_in section c) < lines_due h section → AreRead bytes c text
    → HasNone (IsFormOf (form_head h.order) section) text → FirstCertFault bytes line Syntax
no_form h section line bytes text c reading more are none = fault_at h section line bytes text c Syntax reading are
    (λ l rest few form begin. none l rest (form_by_order h section l (subst (λ (p : Place). IsFormOf h p.section l) (place_due h section c reading.due more) form)) begin)

pub no_range : (h : Head) (section : Section) (line : ℕ) (bytes text rest : List ℕ) (c : Certificate) (l : Line) → IsReading h section line c → length (lines_in section c) < lines_due h section → AreRead bytes c text
    → IsFormOf h section l → BeginWith text l rest → (AreInRange h section (length (lines_in section c)) l.numbers → ⊥) → FirstCertFault bytes line Range
no_range h section line bytes text rest c l reading more are form begin out =
    let at = place_due h section c reading.due more in
    fault_at h section line bytes text c Range reading are (
      l,
      rest,
      few_stand h section c reading.due,
      subst (λ (p : Place). IsFormOf h p.section l) (sym at) form,
      begin,
      λ range. out (subst (λ (p : Place). AreInRange h p.section p.number l.numbers) at range),
    )

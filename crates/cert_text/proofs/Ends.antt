-- The end of a section, and the end of the text.
use Rattle.std.proofs.Common.{◌≡◌, ◌+◌, ◌≤◌, ◌<◌, ◌^◌, inl, inr, ℕ, suc, List, [], ◌∷◌, ◌++◌, length, sym, ap, ◌∙◌, subst, refl, append_assoc, append-nil, arith, Bool, true, false}
use Rattle.std.specs.Prelude.{◌≢◌, ◌-◌, Err, codes, flat_map, cond, ◌==◌, ℤ, pos}
use Rattle.std.proofs.lemmas.Int.{ints}
use Rattle.std.proofs.lemmas.Grind.{flat_map-append}
use Rattle.std.proofs.lemmas.List.{nil_from_length, length_push}
use Rattle.limits.specs.Limits.{first_grid, by_grid, grid_of, most_points, most_cells, most_entries}
use Rattle.number_text.specs.Numbers.{numbers_text}
use Rattle.cert_text.specs.declared.fault.CertFault.{CertFault}
use Rattle.cert_text.specs.declared.fault.CertFault.TheVariants.{Text, Memory}
use Rattle.cert_text.specs.declared.fault.CertKind.TheVariants.{Syntax, Range}
use Rattle.cert_text.specs.declared.section.Section.{Section}
use Rattle.cert_text.specs.declared.section.Section.TheVariants.{Node, At, Multipole, Entry, Local, Target, End}
use Rattle.cert_text.specs.Lines.{Line, Head, line_bytes, cert_head_line}
use Rattle.cert_text.specs.Sections.{HasWord, Place, place_of, line_count, IsHead, IsFormOf, AreInRange, IsLineAt, AreLinesFrom}
use Rattle.cert_text.specs.Certificate.{Certificate, lines_of, end_line, certificate_text, SpellsCert, IsCertificate}
use Rattle.cert_text.specs.Faults.{BeginWith, CertLineFault, CertFaultsAfter, FirstCertFault, ReadsCert}
use Rattle.cert_text.specs.Private.{lines_due}
use Rattle.cert_text.specs.Reading.{AreRead, IsFault, IsReading, IsStarting, IsDue, Fills, next}
use Rattle.cert_text.specs.Storage.{lines_in, no_lines}
use Rattle.cert_text.proofs.Due.{due_next, few_stand, place_last, all_stand, count_is, lines_and_one}
use Rattle.cert_text.proofs.Steps.{fault_at, text_read}

-- nothing of the next section stands
none_next : (h : Head) (section : Section) (c : Certificate) → IsDue h section c → length (lines_in section c) ≡ lines_due h section → length (lines_in (next section) c) ≡ 0
none_next h Node c due whole = due.ats.none (omega arith)
none_next h At c due whole = due.multipoles.none (omega arith)
none_next h Multipole c due whole = due.entries.none (omega arith)
none_next h Entry c due whole = due.locals.none (omega arith)
none_next h Local c due whole = due.targets.none (omega arith)
none_next h Target c due whole = refl
none_next h End c due whole = refl

pub start_next : (h : Head) (section : Section) (line : ℕ) (c : Certificate) → IsReading h section line c → length (lines_in section c) ≡ lines_due h section → IsStarting h (next section) line c
start_next h section line c reading whole = record {
  reading = record {
    head_is = reading.head_is;
    right = reading.right;
    due = due_next h section c reading.due whole;
    line_is = reading.line_is;
    lines_are = reading.lines_are;
  };
  none = none_next h section c reading.due whole;
}

-- ---- how many lines there are
limit : (grid first widest most : ℕ) → first ≤ most → widest ≤ most → by_grid grid first widest ≤ most
limit grid first widest most a b = by_test (grid == first_grid)
  where
    by_test : (t : Bool) → cond t first widest ≤ most
    by_test true = a
    by_test false = b

pub few_lines : (h : Head) → IsHead h → line_count h < 2 ^ 32
few_lines h is =
    let g = grid_of h.version in
    omega (
      arith,
      ints,
      count_is h,
      is.counts.0.most,
      is.counts.1.most,
      is.counts.2.most,
      is.counts.3.most,
      limit g 65536 131072 131072 (omega arith) (omega arith),
      limit g (2 ^ 28 - 1) (2 ^ 29 - 1) (2 ^ 29) (omega arith) (omega arith),
    )

pub small_line : (h : Head) (section : Section) (line : ℕ) (c : Certificate) → IsReading h section line c → line < 2 ^ 33
small_line h section line c reading = omega (arith, reading.line_is, few_stand h section c reading.due, few_lines h reading.right)

-- ---- the last line
-- what a certificate is, with its head apart
record AreWhole (h : Head) (c : Certificate) : Type 0 where
  head_is : IsHead h
  nodes_are : length c.nodes ≡ h.cells
  ats_are : length c.ats ≡ h.points
  multipoles_are : length c.multipoles ≡ h.cells
  entries_are : length c.entries ≡ h.entries
  locals_are : length c.locals ≡ h.cells
  targets_are : length c.targets ≡ h.targets
  lines_are : AreLinesFrom h 0 (lines_of c)

all_whole : (h : Head) (line : ℕ) (c : Certificate) → IsReading h End line c → AreWhole h c
all_whole h line c reading = let due = reading.due in record {
  head_is = reading.right;
  nodes_are = due.nodes.full (omega arith);
  ats_are = due.ats.full (omega arith);
  multipoles_are = due.multipoles.full (omega arith);
  entries_are = due.entries.full (omega arith);
  locals_are = due.locals.full (omega arith);
  targets_are = due.targets.full (omega arith);
  lines_are = reading.lines_are;
}

certificate_is : (c : Certificate) → AreWhole c.head c → IsCertificate c
certificate_is c are = record {
  head_is = are.head_is;
  nodes_are = are.nodes_are;
  ats_are = are.ats_are;
  multipoles_are = are.multipoles_are;
  entries_are = are.entries_are;
  locals_are = are.locals_are;
  targets_are = are.targets_are;
  lines_are = are.lines_are;
}

pub end_right : (h : Head) (line : ℕ) (c : Certificate) (bytes text rest : List ℕ) → IsStarting h End line c → AreRead bytes c text → text ≡ line_bytes end_line ++ rest → length rest ≡ 0 → SpellsCert bytes c
end_right h line c bytes text rest start are begin none = record {
  is_certificate = certificate_is c (subst (λ g. AreWhole g c) (sym start.reading.head_is) (all_whole h line c start.reading));
  text = are ∙ ap (λ t. line_bytes (cert_head_line c.head) ++ (flat_map line_bytes (lines_of c) ++ t)) (begin ∙ ap (λ t. line_bytes end_line ++ t) (nil_from_length rest none) ∙ append-nil (line_bytes end_line));
}

-- the last line is due, and doesn't stand there
pub end_missing : (h : Head) (line : ℕ) (c : Certificate) (bytes text : List ℕ) → IsStarting h End line c → AreRead bytes c text → ((rest : List ℕ) → text ≢ line_bytes end_line ++ rest) → FirstCertFault bytes line Syntax
end_missing h line c bytes text start are none = fault_at h End line bytes text c Syntax start.reading are
    (λ l rest few form begin. no_end l rest (subst (λ (p : Place). IsFormOf h p.section l) (place_last h c start.reading.due) form) begin)
  where
    no_end : (l : Line) (rest : List ℕ) → HasWord (codes "end") 0 l → BeginWith text l rest → ⊥
    no_end l rest has begin = none rest (begin ∙ ap (λ t. t ++ rest) (ap (λ w. w ++ numbers_text l.numbers) has.word_is ∙ ap (λ zs. codes "end" ++ numbers_text zs) (nil_from_length l.numbers has.count_is)))

-- something stands behind it
pub more_behind : (h : Head) (line : ℕ) (c : Certificate) (bytes text rest : List ℕ) → IsStarting h End line c → AreRead bytes c text → text ≡ line_bytes end_line ++ rest → rest ≢ [] → FirstCertFault bytes (line + 1) Syntax
more_behind h line c bytes text rest start are begin some = inr (
  h,
  lines_of c ++ end_line ∷ [],
  omega (arith, start.reading.line_is, length_push (lines_of c) end_line),
  record {
    rest = rest;
    head_is = start.reading.right;
    lines_are = lines_and_one h 0 (lines_of c) end_line start.reading.lines_are (subst (λ n. IsLineAt h n end_line) (omega arith) at);
    text = subst (λ g. bytes ≡ line_bytes (cert_head_line g) ++ (flat_map line_bytes (lines_of c ++ end_line ∷ []) ++ rest)) start.reading.head_is (text_read bytes text rest c end_line are begin);
    more = inr (omega (arith, length_push (lines_of c) end_line, all_stand h c start.reading.due, count_is h), some);
    fault = λ l back few form begins. omega (arith, few, length_push (lines_of c) end_line, all_stand h c start.reading.due, count_is h);
  },
)
  where
    at : IsLineAt h (length (lines_of c)) end_line
    at = let p = sym (place_last h c start.reading.due) in record {
      form = subst (λ (q : Place). IsFormOf h q.section end_line) p (record { word_is = refl; count_is = refl });
      range = subst (λ (q : Place). AreInRange h q.section q.number []) p tt;
    }

-- ---- line 1
none_so_far : (place due : ℕ) → Fills 0 place 0 due
none_so_far place due = record { full = λ below. absurd (omega (arith, below)); none = λ above. refl; most = omega arith }

pub start_first : (h : Head) → IsHead h → IsStarting h Node 2 (no_lines h)
start_first h is = record {
  reading = record {
    head_is = refl;
    right = is;
    due = record {
      nodes = none_so_far 0 h.cells;
      ats = none_so_far 1 h.points;
      multipoles = none_so_far 2 h.cells;
      entries = none_so_far 3 h.entries;
      locals = none_so_far 4 h.cells;
      targets = none_so_far 5 h.targets;
    };
    line_is = refl;
    lines_are = tt;
  };
  none = refl;
}

-- the first fault is the answer
pub reads_fault : (bytes : List ℕ) (fault : CertFault) → IsFault bytes fault → ReadsCert bytes (Err fault)
reads_fault bytes (Text number kind) is = is
reads_fault bytes Memory is = tt

-- Which line is due, while a section is read.
use Rattle.std.proofs.Common.{◌≡◌, ◌+◌, ◌-◌, ◌<◌, inl, inr, ℕ, suc, List, [], ◌∷◌, ◌++◌, length, sym, ap, ◌∙◌, subst, refl, append_assoc, append-nil, length-append, arith}
use Rattle.std.specs.Prelude.{cond}
use Rattle.std.proofs.lemmas.Bool.{cases_lt, lt-ltb, le-ltb}
use Rattle.std.proofs.lemmas.List.{nil_from_length, length_push}
use Rattle.cert_text.specs.declared.section.Section.{Section}
use Rattle.cert_text.specs.declared.section.Section.TheVariants.{Node, At, Multipole, Entry, Local, Target, End}
use Rattle.cert_text.specs.Lines.{Line, Head}
use Rattle.cert_text.specs.Sections.{Part, part, Place, place_in, place_of, line_count, IsLineAt, AreLinesFrom}
use Rattle.cert_text.specs.Certificate.{Certificate, lines_of}
use Rattle.cert_text.specs.Private.{lines_due}
use Rattle.cert_text.specs.Reading.{IsDue, Fills, section_rank, next}
use Rattle.cert_text.specs.Storage.{lines_in, added}

-- ---- the place of a line
abbrev place : Section → ℕ → Place
place section number = record { section = section; number = number }

place_here : (section : Section) (lines : ℕ) (ps : List Part) (k : ℕ) → k < lines → place_in (part section lines ∷ ps) k ≡ place section k
place_here section lines ps k below = ap (λ t. cond t (place section k) (place_in ps (k - lines))) (lt-ltb k lines below)

place_behind : (section : Section) (lines : ℕ) (ps : List Part) (n : ℕ) → place_in (part section lines ∷ ps) (lines + n) ≡ place_in ps n
place_behind section lines ps n =
    let m : lines + n - lines ≡ n = omega arith in
    ap (λ t. cond t (place section (lines + n)) (place_in ps (lines + n - lines))) (le-ltb (lines + n) lines (omega arith)) ∙ ap (place_in ps) m

-- the sections from one on
abbrev targets_on : Head → List Part
targets_on h = part Target h.targets ∷ []

abbrev locals_on : Head → List Part
locals_on h = part Local h.cells ∷ targets_on h

abbrev entries_on : Head → List Part
entries_on h = part Entry h.entries ∷ locals_on h

abbrev multipoles_on : Head → List Part
multipoles_on h = part Multipole h.cells ∷ entries_on h

abbrev ats_on : Head → List Part
ats_on h = part At h.points ∷ multipoles_on h

to_ats : (h : Head) (n : ℕ) → place_of h (h.cells + n) ≡ place_in (ats_on h) n
to_ats h n = place_behind Node h.cells (ats_on h) n

to_multipoles : (h : Head) (n : ℕ) → place_of h (h.cells + (h.points + n)) ≡ place_in (multipoles_on h) n
to_multipoles h n = to_ats h (h.points + n) ∙ place_behind At h.points (multipoles_on h) n

to_entries : (h : Head) (n : ℕ) → place_of h (h.cells + (h.points + (h.cells + n))) ≡ place_in (entries_on h) n
to_entries h n = to_multipoles h (h.cells + n) ∙ place_behind Multipole h.cells (entries_on h) n

to_locals : (h : Head) (n : ℕ) → place_of h (h.cells + (h.points + (h.cells + (h.entries + n)))) ≡ place_in (locals_on h) n
to_locals h n = to_entries h (h.entries + n) ∙ place_behind Entry h.entries (locals_on h) n

to_targets : (h : Head) (n : ℕ) → place_of h (h.cells + (h.points + (h.cells + (h.entries + (h.cells + n))))) ≡ place_in (targets_on h) n
to_targets h n = to_locals h (h.cells + n) ∙ place_behind Local h.cells (targets_on h) n

-- how many lines there are so far
pub so_far : (c : Certificate) → length (lines_of c) ≡ length c.nodes + (length c.ats + (length c.multipoles + (length c.entries + (length c.locals + length c.targets))))
so_far c = omega (
  arith,
  length-append c.nodes (c.ats ++ (c.multipoles ++ (c.entries ++ (c.locals ++ c.targets)))),
  length-append c.ats (c.multipoles ++ (c.entries ++ (c.locals ++ c.targets))),
  length-append c.multipoles (c.entries ++ (c.locals ++ c.targets)),
  length-append c.entries (c.locals ++ c.targets),
  length-append c.locals c.targets,
)

pub place_due : (h : Head) (section : Section) (c : Certificate) → IsDue h section c → length (lines_in section c) < lines_due h section
    → place_of h (length (lines_of c)) ≡ record { section = section; number = length (lines_in section c) }
place_due h Node c due more = ap (place_of h) n ∙ place_here Node h.cells (ats_on h) (length c.nodes) more
  where
    n : length (lines_of c) ≡ length c.nodes
    n = omega (arith, so_far c, due.ats.none (omega arith), due.multipoles.none (omega arith), due.entries.none (omega arith), due.locals.none (omega arith), due.targets.none (omega arith))
place_due h At c due more = ap (place_of h) n ∙ to_ats h (length c.ats) ∙ place_here At h.points (multipoles_on h) (length c.ats) more
  where
    n : length (lines_of c) ≡ h.cells + length c.ats
    n = omega (arith, so_far c, due.nodes.full (omega arith), due.multipoles.none (omega arith), due.entries.none (omega arith), due.locals.none (omega arith), due.targets.none (omega arith))
place_due h Multipole c due more = ap (place_of h) n ∙ to_multipoles h (length c.multipoles) ∙ place_here Multipole h.cells (entries_on h) (length c.multipoles) more
  where
    n : length (lines_of c) ≡ h.cells + (h.points + length c.multipoles)
    n = omega (arith, so_far c, due.nodes.full (omega arith), due.ats.full (omega arith), due.entries.none (omega arith), due.locals.none (omega arith), due.targets.none (omega arith))
place_due h Entry c due more = ap (place_of h) n ∙ to_entries h (length c.entries) ∙ place_here Entry h.entries (locals_on h) (length c.entries) more
  where
    n : length (lines_of c) ≡ h.cells + (h.points + (h.cells + length c.entries))
    n = omega (arith, so_far c, due.nodes.full (omega arith), due.ats.full (omega arith), due.multipoles.full (omega arith), due.locals.none (omega arith), due.targets.none (omega arith))
place_due h Local c due more = ap (place_of h) n ∙ to_locals h (length c.locals) ∙ place_here Local h.cells (targets_on h) (length c.locals) more
  where
    n : length (lines_of c) ≡ h.cells + (h.points + (h.cells + (h.entries + length c.locals)))
    n = omega (arith, so_far c, due.nodes.full (omega arith), due.ats.full (omega arith), due.multipoles.full (omega arith), due.entries.full (omega arith), due.targets.none (omega arith))
place_due h Target c due more = ap (place_of h) n ∙ to_targets h (length c.targets) ∙ place_here Target h.targets [] (length c.targets) more
  where
    n : length (lines_of c) ≡ h.cells + (h.points + (h.cells + (h.entries + (h.cells + length c.targets))))
    n = omega (arith, so_far c, due.nodes.full (omega arith), due.ats.full (omega arith), due.multipoles.full (omega arith), due.entries.full (omega arith), due.locals.full (omega arith))
place_due h End c due more = absurd (omega (arith, more))

-- all lines but the last stand
pub all_stand : (h : Head) (c : Certificate) → IsDue h End c → length (lines_of c) ≡ h.cells + (h.points + (h.cells + (h.entries + (h.cells + h.targets))))
all_stand h c due = omega (arith, so_far c, due.nodes.full (omega arith), due.ats.full (omega arith), due.multipoles.full (omega arith), due.entries.full (omega arith), due.locals.full (omega arith), due.targets.full (omega arith))

pub place_last : (h : Head) (c : Certificate) → IsDue h End c → place_of h (length (lines_of c)) ≡ record { section = End; number = 0 }
place_last h c due =
    ap (place_of h) n ∙ to_targets h (h.targets + 0) ∙ place_behind Target h.targets [] 0
  where
    n : length (lines_of c) ≡ h.cells + (h.points + (h.cells + (h.entries + (h.cells + (h.targets + 0)))))
    n = omega (arith, all_stand h c due)

pub count_is : (h : Head) → line_count h ≡ h.cells + (h.points + (h.cells + (h.entries + (h.cells + h.targets)))) + 1
count_is h = omega arith

-- no more lines stand than there are
pub few_stand : (h : Head) (section : Section) (c : Certificate) → IsDue h section c → length (lines_of c) < line_count h
few_stand h section c due = omega (arith, so_far c, count_is h, due.nodes.most, due.ats.most, due.multipoles.most, due.entries.most, due.locals.most, due.targets.most)

-- ---- one line more
-- one more line at the end of a section, behind which nothing stands
ends_open : (xs ys : List Line) (l : Line) → length ys ≡ 0 → (xs ++ l ∷ []) ++ ys ≡ (xs ++ ys) ++ l ∷ []
ends_open xs ys l none = let nil = nil_from_length ys none in
    ap (λ t. (xs ++ l ∷ []) ++ t) nil ∙ append-nil (xs ++ l ∷ []) ∙ sym (ap (λ t. t ++ l ∷ []) (ap (λ t. xs ++ t) nil ∙ append-nil xs))

-- and before them others
behind : (xs ys zs : List Line) (l : Line) → ys ≡ zs ++ l ∷ [] → xs ++ ys ≡ (xs ++ zs) ++ l ∷ []
behind xs ys zs l is = ap (λ t. xs ++ t) is ∙ sym (append_assoc xs zs (l ∷ []))

pub lines_added : (h : Head) (section : Section) (c : Certificate) (l : Line) → IsDue h section c → length (lines_in section c) < lines_due h section → lines_of (added section l c) ≡ lines_of c ++ l ∷ []
lines_added h Node c l due more = ends_open c.nodes (c.ats ++ (c.multipoles ++ (c.entries ++ (c.locals ++ c.targets)))) l
    (omega (
      arith,
      so_far c,
      length-append c.nodes (c.ats ++ (c.multipoles ++ (c.entries ++ (c.locals ++ c.targets)))),
      due.ats.none (omega arith),
      due.multipoles.none (omega arith),
      due.entries.none (omega arith),
      due.locals.none (omega arith),
      due.targets.none (omega arith),
    ))
lines_added h At c l due more =
    behind c.nodes _ (c.ats ++ (c.multipoles ++ (c.entries ++ (c.locals ++ c.targets)))) l (
    ends_open c.ats (c.multipoles ++ (c.entries ++ (c.locals ++ c.targets))) l
    (omega (
      arith,
      so_far c,
      length-append c.nodes (c.ats ++ (c.multipoles ++ (c.entries ++ (c.locals ++ c.targets)))),
      length-append c.ats (c.multipoles ++ (c.entries ++ (c.locals ++ c.targets))),
      due.multipoles.none (omega arith),
      due.entries.none (omega arith),
      due.locals.none (omega arith),
      due.targets.none (omega arith),
    )))
lines_added h Multipole c l due more =
    behind c.nodes _ (c.ats ++ (c.multipoles ++ (c.entries ++ (c.locals ++ c.targets)))) l (
    behind c.ats _ (c.multipoles ++ (c.entries ++ (c.locals ++ c.targets))) l (
    ends_open c.multipoles (c.entries ++ (c.locals ++ c.targets)) l
    (omega (arith, length-append c.entries (c.locals ++ c.targets), length-append c.locals c.targets, due.entries.none (omega arith), due.locals.none (omega arith), due.targets.none (omega arith)))))
lines_added h Entry c l due more =
    behind c.nodes _ (c.ats ++ (c.multipoles ++ (c.entries ++ (c.locals ++ c.targets)))) l (
    behind c.ats _ (c.multipoles ++ (c.entries ++ (c.locals ++ c.targets))) l (
    behind c.multipoles _ (c.entries ++ (c.locals ++ c.targets)) l (
    ends_open c.entries (c.locals ++ c.targets) l (omega (arith, length-append c.locals c.targets, due.locals.none (omega arith), due.targets.none (omega arith))))))
lines_added h Local c l due more =
    behind c.nodes _ (c.ats ++ (c.multipoles ++ (c.entries ++ (c.locals ++ c.targets)))) l (
    behind c.ats _ (c.multipoles ++ (c.entries ++ (c.locals ++ c.targets))) l (
    behind c.multipoles _ (c.entries ++ (c.locals ++ c.targets)) l (
    behind c.entries _ (c.locals ++ c.targets) l (
    ends_open c.locals c.targets l (due.targets.none (omega arith))))))
lines_added h Target c l due more =
    behind c.nodes _ (c.ats ++ (c.multipoles ++ (c.entries ++ (c.locals ++ c.targets)))) l (
    behind c.ats _ (c.multipoles ++ (c.entries ++ (c.locals ++ c.targets))) l (
    behind c.multipoles _ (c.entries ++ (c.locals ++ c.targets)) l (
    behind c.entries _ (c.locals ++ c.targets) l (
    behind c.locals _ c.targets l refl))))
lines_added h End c l due more = absurd (omega (arith, more))

one_more : (h : Head) (section : Section) (k : ℕ) (xs : List Line) (l : Line) (due : ℕ) → k ≡ section_rank section → Fills (section_rank section) k (length xs) due → length xs < due → Fills (section_rank section) k (length (xs ++ l ∷ [])) due
one_more h section k xs l due same fills more = record {
  full = λ below. absurd (omega (arith, below, same));
  none = λ above. absurd (omega (arith, above, same));
  most = omega (arith, more, length_push xs l);
}

pub due_added : (h : Head) (section : Section) (c : Certificate) (l : Line) → IsDue h section c → length (lines_in section c) < lines_due h section → IsDue h section (added section l c)
due_added h Node c l due more = record { nodes = one_more h Node 0 c.nodes l h.cells refl due.nodes more; ats = due.ats; multipoles = due.multipoles; entries = due.entries; locals = due.locals; targets = due.targets }
due_added h At c l due more = record { nodes = due.nodes; ats = one_more h At 1 c.ats l h.points refl due.ats more; multipoles = due.multipoles; entries = due.entries; locals = due.locals; targets = due.targets }
due_added h Multipole c l due more = record { nodes = due.nodes; ats = due.ats; multipoles = one_more h Multipole 2 c.multipoles l h.cells refl due.multipoles more; entries = due.entries; locals = due.locals; targets = due.targets }
due_added h Entry c l due more = record { nodes = due.nodes; ats = due.ats; multipoles = due.multipoles; entries = one_more h Entry 3 c.entries l h.entries refl due.entries more; locals = due.locals; targets = due.targets }
due_added h Local c l due more = record { nodes = due.nodes; ats = due.ats; multipoles = due.multipoles; entries = due.entries; locals = one_more h Local 4 c.locals l h.cells refl due.locals more; targets = due.targets }
due_added h Target c l due more = record { nodes = due.nodes; ats = due.ats; multipoles = due.multipoles; entries = due.entries; locals = due.locals; targets = one_more h Target 5 c.targets l h.targets refl due.targets more }
due_added h End c l due more = due

pub count_added : (h : Head) (section : Section) (c : Certificate) (l : Line) → length (lines_in section c) < lines_due h section → length (lines_in section (added section l c)) ≡ length (lines_in section c) + 1
count_added h Node c l more = length_push c.nodes l
count_added h At c l more = length_push c.ats l
count_added h Multipole c l more = length_push c.multipoles l
count_added h Entry c l more = length_push c.entries l
count_added h Local c l more = length_push c.locals l
count_added h Target c l more = length_push c.targets l
count_added h End c l more = absurd (omega (arith, more))

pub head_added : (section : Section) (c : Certificate) (l : Line) → (added section l c).head ≡ c.head
head_added Node c l = refl
head_added At c l = refl
head_added Multipole c l = refl
head_added Entry c l = refl
head_added Local c l = refl
head_added Target c l = refl
head_added End c l = refl

pub lines_and_one : (h : Head) (k : ℕ) (xs : List Line) (l : Line) → AreLinesFrom h k xs → IsLineAt h (k + length xs) l → AreLinesFrom h k (xs ++ l ∷ [])
lines_and_one h k [] l are is = (subst (λ n. IsLineAt h n l) (omega arith) is, tt)
lines_and_one h k (x ∷ xs) l are is = (are.0, lines_and_one h (suc k) xs l are.1 (subst (λ n. IsLineAt h n l) (omega arith) is))

-- ---- the next section
after : (reading place lines due : ℕ) → Fills reading place lines due → (place ≡ reading → lines ≡ due) → Fills (suc reading) place lines due
after reading place lines due fills whole = record {
  full = λ below. elim (cases_lt place reading) [ inl less ↦ fills.full less | inr more ↦ whole (omega (arith, below, more)) ];
  none = λ above. fills.none (omega (arith, above));
  most = fills.most;
}

pub due_next : (h : Head) (section : Section) (c : Certificate) → IsDue h section c → length (lines_in section c) ≡ lines_due h section → IsDue h (next section) c
due_next h Node c due whole = record {
  nodes = after 0 0 (length c.nodes) h.cells due.nodes (λ _. whole);
  ats = after 0 1 (length c.ats) h.points due.ats (λ e. absurd (omega (arith, e)));
  multipoles = after 0 2 (length c.multipoles) h.cells due.multipoles (λ e. absurd (omega (arith, e)));
  entries = after 0 3 (length c.entries) h.entries due.entries (λ e. absurd (omega (arith, e)));
  locals = after 0 4 (length c.locals) h.cells due.locals (λ e. absurd (omega (arith, e)));
  targets = after 0 5 (length c.targets) h.targets due.targets (λ e. absurd (omega (arith, e)));
}
due_next h At c due whole = record {
  nodes = after 1 0 (length c.nodes) h.cells due.nodes (λ e. absurd (omega (arith, e)));
  ats = after 1 1 (length c.ats) h.points due.ats (λ _. whole);
  multipoles = after 1 2 (length c.multipoles) h.cells due.multipoles (λ e. absurd (omega (arith, e)));
  entries = after 1 3 (length c.entries) h.entries due.entries (λ e. absurd (omega (arith, e)));
  locals = after 1 4 (length c.locals) h.cells due.locals (λ e. absurd (omega (arith, e)));
  targets = after 1 5 (length c.targets) h.targets due.targets (λ e. absurd (omega (arith, e)));
}
due_next h Multipole c due whole = record {
  nodes = after 2 0 (length c.nodes) h.cells due.nodes (λ e. absurd (omega (arith, e)));
  ats = after 2 1 (length c.ats) h.points due.ats (λ e. absurd (omega (arith, e)));
  multipoles = after 2 2 (length c.multipoles) h.cells due.multipoles (λ _. whole);
  entries = after 2 3 (length c.entries) h.entries due.entries (λ e. absurd (omega (arith, e)));
  locals = after 2 4 (length c.locals) h.cells due.locals (λ e. absurd (omega (arith, e)));
  targets = after 2 5 (length c.targets) h.targets due.targets (λ e. absurd (omega (arith, e)));
}
due_next h Entry c due whole = record {
  nodes = after 3 0 (length c.nodes) h.cells due.nodes (λ e. absurd (omega (arith, e)));
  ats = after 3 1 (length c.ats) h.points due.ats (λ e. absurd (omega (arith, e)));
  multipoles = after 3 2 (length c.multipoles) h.cells due.multipoles (λ e. absurd (omega (arith, e)));
  entries = after 3 3 (length c.entries) h.entries due.entries (λ _. whole);
  locals = after 3 4 (length c.locals) h.cells due.locals (λ e. absurd (omega (arith, e)));
  targets = after 3 5 (length c.targets) h.targets due.targets (λ e. absurd (omega (arith, e)));
}
due_next h Local c due whole = record {
  nodes = after 4 0 (length c.nodes) h.cells due.nodes (λ e. absurd (omega (arith, e)));
  ats = after 4 1 (length c.ats) h.points due.ats (λ e. absurd (omega (arith, e)));
  multipoles = after 4 2 (length c.multipoles) h.cells due.multipoles (λ e. absurd (omega (arith, e)));
  entries = after 4 3 (length c.entries) h.entries due.entries (λ e. absurd (omega (arith, e)));
  locals = after 4 4 (length c.locals) h.cells due.locals (λ _. whole);
  targets = after 4 5 (length c.targets) h.targets due.targets (λ e. absurd (omega (arith, e)));
}
due_next h Target c due whole = record {
  nodes = after 5 0 (length c.nodes) h.cells due.nodes (λ e. absurd (omega (arith, e)));
  ats = after 5 1 (length c.ats) h.points due.ats (λ e. absurd (omega (arith, e)));
  multipoles = after 5 2 (length c.multipoles) h.cells due.multipoles (λ e. absurd (omega (arith, e)));
  entries = after 5 3 (length c.entries) h.entries due.entries (λ e. absurd (omega (arith, e)));
  locals = after 5 4 (length c.locals) h.cells due.locals (λ e. absurd (omega (arith, e)));
  targets = after 5 5 (length c.targets) h.targets due.targets (λ _. whole);
}
due_next h End c due whole = due

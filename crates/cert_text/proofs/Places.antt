-- Where the lines behind line 1 stand: each section behind those before it, and the last line behind all.
use Rattle.std.proofs.Common.{◌≡◌, ℕ, zero, suc, ◌+◌, ◌-◌, ◌<◌, ◌≤◌, List, [], ◌∷◌, ◌++◌, length, sym, ap, ◌∙◌, subst, refl, arith}
use Rattle.std.specs.Prelude.{cond}
use Rattle.std.proofs.lemmas.Bool.{lt-ltb, le-ltb}
use Rattle.cert_text.specs.declared.section.Section.{Section}
use Rattle.cert_text.specs.declared.section.Section.TheVariants.{Node, At, Multipole, Entry, Local, Target, End}
use Rattle.cert_text.specs.Certificate.{nth_line}
use Rattle.cert_text.specs.Lines.{Line, Head}
use Rattle.cert_text.specs.Sections.{Part, part, Place, place_in, place_of, line_count, IsFormOf, AreInRange, IsLineAt, AreLinesFrom}

abbrev pub place : Section → ℕ → Place
place section number = record { section = section; number = number }

-- how many lines a section has
abbrev pub lines_in : Head → Section → ℕ
lines_in h Node = h.cells
lines_in h At = h.points
lines_in h Multipole = h.cells
lines_in h Entry = h.entries
lines_in h Local = h.cells
lines_in h Target = h.targets
lines_in h End = 1

-- and how many stand before it, behind line 1
abbrev pub start_of : Head → Section → ℕ
start_of h Node = 0
start_of h At = h.cells
start_of h Multipole = h.cells + h.points
start_of h Entry = h.cells + h.points + h.cells
start_of h Local = h.cells + h.points + h.cells + h.entries
start_of h Target = h.cells + h.points + h.cells + h.entries + h.cells
start_of h End = h.cells + h.points + h.cells + h.entries + h.cells + h.targets

-- ---- the place of a line
place_here : (p : Part) (ps : List Part) (k n : ℕ) → k ≡ n → n < p.lines → place_in (p ∷ ps) k ≡ place p.section n
place_here p ps k n e below = ap (λ b. cond b (place p.section k) (place_in ps (k - p.lines))) (lt-ltb k p.lines (omega (arith, e))) ∙ ap (place p.section) e

place_behind : (p : Part) (ps : List Part) (k n : ℕ) → k ≡ p.lines + n → place_in (p ∷ ps) k ≡ place_in ps n
place_behind p ps k n e =
    let left : k - p.lines ≡ n = omega (arith, e) in
    ap (λ b. cond b (place p.section k) (place_in ps (k - p.lines))) (le-ltb k p.lines (omega (arith, e))) ∙ ap (place_in ps) left

-- the parts from each section on
abbrev from_targets : Head → List Part
from_targets h = part Target h.targets ∷ []

abbrev from_locals : Head → List Part
from_locals h = part Local h.cells ∷ from_targets h

abbrev from_entries : Head → List Part
from_entries h = part Entry h.entries ∷ from_locals h

abbrev from_multipoles : Head → List Part
from_multipoles h = part Multipole h.cells ∷ from_entries h

abbrev from_ats : Head → List Part
from_ats h = part At h.points ∷ from_multipoles h

behind_nodes : (h : Head) (k n : ℕ) → k ≡ h.cells + n → place_of h k ≡ place_in (from_ats h) n
behind_nodes h k n e = place_behind (part Node h.cells) (from_ats h) k n e

behind_ats : (h : Head) (k n : ℕ) → k ≡ h.cells + h.points + n → place_of h k ≡ place_in (from_multipoles h) n
behind_ats h k n e = behind_nodes h k (h.points + n) (omega (arith, e)) ∙ place_behind (part At h.points) (from_multipoles h) (h.points + n) n refl

behind_multipoles : (h : Head) (k n : ℕ) → k ≡ h.cells + h.points + h.cells + n → place_of h k ≡ place_in (from_entries h) n
behind_multipoles h k n e = behind_ats h k (h.cells + n) (omega (arith, e)) ∙ place_behind (part Multipole h.cells) (from_entries h) (h.cells + n) n refl

behind_entries : (h : Head) (k n : ℕ) → k ≡ h.cells + h.points + h.cells + h.entries + n → place_of h k ≡ place_in (from_locals h) n
behind_entries h k n e = behind_multipoles h k (h.entries + n) (omega (arith, e)) ∙ place_behind (part Entry h.entries) (from_locals h) (h.entries + n) n refl

behind_locals : (h : Head) (k n : ℕ) → k ≡ h.cells + h.points + h.cells + h.entries + h.cells + n → place_of h k ≡ place_in (from_targets h) n
behind_locals h k n e = behind_entries h k (h.cells + n) (omega (arith, e)) ∙ place_behind (part Local h.cells) (from_targets h) (h.cells + n) n refl

-- the n-th line of a section
pub place_at : (h : Head) (section : Section) (n : ℕ) → n < lines_in h section → place_of h (start_of h section + n) ≡ place section n
place_at h Node n below = place_here (part Node h.cells) (from_ats h) (0 + n) n (omega arith) below
place_at h At n below = behind_nodes h _ n refl ∙ place_here (part At h.points) (from_multipoles h) n n refl below
place_at h Multipole n below = behind_ats h _ n refl ∙ place_here (part Multipole h.cells) (from_entries h) n n refl below
place_at h Entry n below = behind_multipoles h _ n refl ∙ place_here (part Entry h.entries) (from_locals h) n n refl below
place_at h Local n below = behind_entries h _ n refl ∙ place_here (part Local h.cells) (from_targets h) n n refl below
place_at h Target n below = behind_locals h _ n refl ∙ place_here (part Target h.targets) [] n n refl below
place_at h End n below = behind_locals h _ (h.targets + n) (omega arith) ∙ place_behind (part Target h.targets) [] (h.targets + n) n refl

-- all lines but the last stand before the last
pub line_count-is : (h : Head) → line_count h ≡ start_of h End + 1
line_count-is h = omega arith

-- ---- the lines of two parts
pub lines_append : (h : Head) (k m : ℕ) (xs ys : List Line) → m ≡ k + length xs → AreLinesFrom h k xs → AreLinesFrom h m ys → AreLinesFrom h k (xs ++ ys)
lines_append h k m [] ys e front back = subst (λ n. AreLinesFrom h n ys) (let same : m ≡ k = omega (arith, e) in same) back
lines_append h k m (x ∷ xs) ys e front back = (front.0, lines_append h (suc k) m xs ys (omega (arith, e)) front.1 back)

pub lines_front : (h : Head) (k : ℕ) (xs ys : List Line) → AreLinesFrom h k (xs ++ ys) → AreLinesFrom h k xs
lines_front h k [] ys all = tt
lines_front h k (x ∷ xs) ys all = (all.0, lines_front h (suc k) xs ys all.1)

pub lines_back : (h : Head) (k m : ℕ) (xs ys : List Line) → m ≡ k + length xs → AreLinesFrom h k (xs ++ ys) → AreLinesFrom h m ys
lines_back h k m [] ys e all = subst (λ n. AreLinesFrom h n ys) (let same : k ≡ m = omega (arith, e) in same) all
lines_back h k m (x ∷ xs) ys e all = lines_back h (suc k) m xs ys (omega (arith, e)) all.1

-- ---- the lines of one section
-- a line of the form and range of the n-th line of a section is one at its place, and the other way round
pub line_at : (h : Head) (section : Section) (n k : ℕ) (l : Line) → k ≡ start_of h section + n → n < lines_in h section → IsFormOf h section l → AreInRange h section n l.numbers → IsLineAt h k l
line_at h section n k l e below form range =
    let at : place section n ≡ place_of h k = sym (ap (place_of h) e ∙ place_at h section n below) in
    record { form = subst (λ (p : Place). IsFormOf h p.section l) at form; range = subst (λ (p : Place). AreInRange h p.section p.number l.numbers) at range }

pub at_line : (h : Head) (section : Section) (n k : ℕ) (l : Line) → k ≡ start_of h section + n → n < lines_in h section → IsLineAt h k l → IsFormOf h section l × AreInRange h section n l.numbers
at_line h section n k l e below is =
    let at : place_of h k ≡ place section n = ap (place_of h) e ∙ place_at h section n below in
    (subst (λ (p : Place). IsFormOf h p.section l) at is.form, subst (λ (p : Place). AreInRange h p.section p.number l.numbers) at is.range)

-- lines of the form of a section, from its j-th on, each in its range there
pub section_from : (h : Head) (section : Section) (j k : ℕ) (ls : List Line) → k ≡ start_of h section + j → j + length ls ≤ lines_in h section
    → ((n : ℕ) → n < length ls → IsFormOf h section (nth_line ls n) × AreInRange h section (j + n) (nth_line ls n).numbers) → AreLinesFrom h k ls
section_from h section j k [] e fits each = tt
section_from h section j k (l ∷ ls) e fits each =
    let first = each 0 (omega arith) in
    let at : j + 0 ≡ j = omega arith in
    let rest : (n : ℕ) → n < length ls → IsFormOf h section (nth_line ls n) × AreInRange h section (suc j + n) (nth_line ls n).numbers = λ n below.
    let next = each (suc n) (omega (arith, below)) in
    let there : j + suc n ≡ suc j + n = omega arith in
    (next.0, subst (λ i. AreInRange h section i (nth_line ls n).numbers) there next.1) in
    (line_at h section j k l e (omega (arith, fits)) first.0 (subst (λ i. AreInRange h section i l.numbers) at first.1), section_from h section (suc j) (suc k) ls (omega (arith, e)) (omega (arith, fits)) rest)

pub each_line : (h : Head) (section : Section) (j k n : ℕ) (ls : List Line) → k ≡ start_of h section + j → j + length ls ≤ lines_in h section → AreLinesFrom h k ls → n < length ls
    → IsFormOf h section (nth_line ls n) × AreInRange h section (j + n) (nth_line ls n).numbers
each_line h section j k n [] e fits all below = absurd (omega (arith, below))
each_line h section j k zero (l ∷ ls) e fits all below =
    let first = at_line h section j k l e (omega (arith, fits)) all.0 in
    let at : j ≡ j + 0 = omega arith in
    (first.0, subst (λ i. AreInRange h section i l.numbers) at first.1)
each_line h section j k (suc n) (l ∷ ls) e fits all below =
    let next = each_line h section (suc j) (suc k) n ls (omega (arith, e)) (omega (arith, fits)) all.1 (omega (arith, below)) in
    let there : suc j + n ≡ j + suc n = omega arith in
    (next.0, subst (λ i. AreInRange h section i (nth_line ls n).numbers) there next.1)

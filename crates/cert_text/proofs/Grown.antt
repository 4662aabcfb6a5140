-- One more line.
use Rattle.std.proofs.Common.{ℕ, ◌≡◌, ◌^◌, ◌<◌, ℤ, List, [], ◌∷◌, ◌++◌, length, map, sym, ap, ap₂, ◌∙◌, subst, arith, length-append, inl, inr, ◌⊎◌}
use Rattle.std.proofs.lemmas.List.{map_push, length-map}
use Rattle.std.proofs.Math.ListN.{get_or-append}
use Rattle.std.proofs.Math.Seq.{get_or-append_seam}
use Rattle.cert_text.specs.declared.section.Section.{Section}
use Rattle.cert_text.specs.declared.section.Section.TheVariants.{Node, At, Multipole, Entry, Local, Target, End}
use Rattle.cert_text.specs.Certificate.{Certificate, nth_line}
use Rattle.cert_text.specs.Lines.{Line, line, Head}
use Rattle.cert_text.specs.Sections.{IsHead, IsFormOf, AreInRange}
use Rattle.cert_text.specs.Storage.{IsSection, IsStored, IsLineRead, lines_in, added}
use Rattle.cert_text.proofs.Cuts.{read_in_range, range_read}

-- ---- the invariant
section_more : (h : Head) (section : Section) (ls : List Line) (l : Line) → IsSection h section ls → IsFormOf h section l → AreInRange h section (length ls) l.numbers → IsSection h section (ls ++ l ∷ [])
section_more h section ls l are form range n lt =
    let P : ℕ → Line → Type 0 = λ k x. IsFormOf h section x × AreInRange h section k x.numbers in
    let cases : (n < length ls) ⊎ (n ≡ length ls) = grind (arith, length-append ls (l ∷ [])) in
    elim cases [
      | inl before ↦ subst (P n) (sym (get_or-append ls (l ∷ []) (line [] []) n before)) (are n before)
      | inr last ↦ subst (λ k. P k (nth_line (ls ++ l ∷ []) k)) (sym last) (subst (P (length ls)) (sym (get_or-append_seam ls l [] (line [] []))) (form, range))
    ]

added_stored : (section : Section) (c : Certificate) (l : Line) → IsStored c → IsFormOf c.head section l → AreInRange c.head section (length (lines_in section c)) l.numbers → IsStored (added section l c)
added_stored Node c l is form range =
    record {
      head_is = is.head_is;
      nodes_are = section_more c.head Node c.nodes l is.nodes_are form range;
      ats_are = is.ats_are;
      multipoles_are = is.multipoles_are;
      entries_are = is.entries_are;
      locals_are = is.locals_are;
      targets_are = is.targets_are;
    }
added_stored At c l is form range =
    record {
      head_is = is.head_is;
      nodes_are = is.nodes_are;
      ats_are = section_more c.head At c.ats l is.ats_are form range;
      multipoles_are = is.multipoles_are;
      entries_are = is.entries_are;
      locals_are = is.locals_are;
      targets_are = is.targets_are;
    }
added_stored Multipole c l is form range =
    record {
      head_is = is.head_is;
      nodes_are = is.nodes_are;
      ats_are = is.ats_are;
      multipoles_are = section_more c.head Multipole c.multipoles l is.multipoles_are form range;
      entries_are = is.entries_are;
      locals_are = is.locals_are;
      targets_are = is.targets_are;
    }
added_stored Entry c l is form range =
    record {
      head_is = is.head_is;
      nodes_are = is.nodes_are;
      ats_are = is.ats_are;
      multipoles_are = is.multipoles_are;
      entries_are = section_more c.head Entry c.entries l is.entries_are form range;
      locals_are = is.locals_are;
      targets_are = is.targets_are;
    }
added_stored Local c l is form range =
    record {
      head_is = is.head_is;
      nodes_are = is.nodes_are;
      ats_are = is.ats_are;
      multipoles_are = is.multipoles_are;
      entries_are = is.entries_are;
      locals_are = section_more c.head Local c.locals l is.locals_are form range;
      targets_are = is.targets_are;
    }
added_stored Target c l is form range =
    record {
      head_is = is.head_is;
      nodes_are = is.nodes_are;
      ats_are = is.ats_are;
      multipoles_are = is.multipoles_are;
      entries_are = is.entries_are;
      locals_are = is.locals_are;
      targets_are = section_more c.head Target c.targets l is.targets_are form range;
    }
added_stored End c l is form range = is

pub grown : (section : Section) (old new : Certificate) (n : ℕ) (l : Line) → IsStored old → n ≡ length (lines_in section old) → IsFormOf old.head section l → AreInRange old.head section n l.numbers → new ≡ added section l old → IsStored new
grown section old new n l is count form range more =
    subst IsStored (sym more) (added_stored section old l is form (subst (λ k. AreInRange old.head section k l.numbers) count range))

-- ---- what is answered
-- the line `k`, which is `l`, is added to what is kept
pub taken_as : (section : Section) (old new was : Certificate) (k l : Line) → old ≡ was → AreInRange old.head section (length (lines_in section old)) l.numbers → new ≡ added section k old → k.numbers ≡ l.numbers → k.word ≡ l.word → AreInRange was.head section (length (lines_in section was)) l.numbers × (new ≡ added section l was)
taken_as section old new was k l is range more numbers word =
    let Q : Certificate → Type 0 = λ c. AreInRange c.head section (length (lines_in section c)) l.numbers × (new ≡ added section l c) in
    subst Q is (range, more ∙ ap (λ x. added section x old) (ap₂ line word numbers))

-- its numbers are those that are read
pub taken : (section : Section) (old new was : Certificate) (word : List ℕ) (numbers : List ℤ) (n : ℕ) (k : Line) → old ≡ was → IsHead old.head → n < 2 ^ 100 → n ≡ length (lines_in section old) → AreInRange old.head section n numbers → k.numbers ≡ numbers → new ≡ added section k old → (l : Line) → IsLineRead was.head section word numbers l → k.word ≡ l.word → AreInRange was.head section (length (lines_in section was)) l.numbers × (new ≡ added section l was)
taken section old new was word numbers n k is head few count range kept more l read same =
    let H : Certificate → Type 0 = λ c. IsLineRead c.head section word numbers l in
    let e = range_read old.head section n word numbers l head few (subst H (sym is) read) range in
    let R : List ℤ → Type 0 = λ zs. AreInRange old.head section n zs in
    taken_as section old new was k l is (subst (λ m. AreInRange old.head section m l.numbers) count (subst R (sym e) range)) more (kept ∙ sym e) same

pub refused : (section : Section) (old was : Certificate) (word : List ℕ) (numbers : List ℤ) (n : ℕ) → old ≡ was → IsHead old.head → n < 2 ^ 100 → n ≡ length (lines_in section old) → (AreInRange old.head section n numbers → ⊥) → (l : Line) → IsLineRead was.head section word numbers l → AreInRange was.head section (length (lines_in section was)) l.numbers → ⊥
refused section old was word numbers n is head few count out l read =
    let H : Certificate → Type 0 = λ c. IsLineRead c.head section word numbers l in
    let Q : Certificate → Type 0 = λ c. AreInRange c.head section (length (lines_in section c)) l.numbers → ⊥ in
    let R : List ℤ → Type 0 = λ zs. AreInRange old.head section n zs in
    subst Q is (λ r. let r' = subst (λ m. AreInRange old.head section m l.numbers) (sym count) r in out (subst R (read_in_range old.head section n word numbers l head few (subst H (sym is) read) r') r'))

pub count_is : {A : Type 0} (f : A → Line) (xs : List A) (n : ℕ) → n ≡ length xs → n ≡ length (map f xs)
count_is f xs n e = e ∙ sym (length-map xs f)

-- ---- where it is added
pub more_nodes : {A : Type 0} (f : A → Line) (c : Certificate) (xs ys : List A) (x : A) → c.nodes ≡ map f xs → ys ≡ xs ++ x ∷ [] → ◌≡◌ {A = Certificate} (record { head = c.head; nodes = map f ys; ats = c.ats; multipoles = c.multipoles; entries = c.entries; locals = c.locals; targets = c.targets }) (added Node (f x) c)
more_nodes f c xs ys x is more =
    ap {B = Certificate} (λ ls. record { head = c.head; nodes = ls; ats = c.ats; multipoles = c.multipoles; entries = c.entries; locals = c.locals; targets = c.targets }) (ap (map f) more ∙ map_push f xs x ∙ ap (λ ls. ls ++ f x ∷ []) (sym is))

pub more_ats : {A : Type 0} (f : A → Line) (c : Certificate) (xs ys : List A) (x : A) → c.ats ≡ map f xs → ys ≡ xs ++ x ∷ [] → ◌≡◌ {A = Certificate} (record { head = c.head; nodes = c.nodes; ats = map f ys; multipoles = c.multipoles; entries = c.entries; locals = c.locals; targets = c.targets }) (added At (f x) c)
more_ats f c xs ys x is more =
    ap {B = Certificate} (λ ls. record { head = c.head; nodes = c.nodes; ats = ls; multipoles = c.multipoles; entries = c.entries; locals = c.locals; targets = c.targets }) (ap (map f) more ∙ map_push f xs x ∙ ap (λ ls. ls ++ f x ∷ []) (sym is))

pub more_multipoles : {A : Type 0} (f : A → Line) (c : Certificate) (xs ys : List A) (x : A) → c.multipoles ≡ map f xs → ys ≡ xs ++ x ∷ [] → ◌≡◌ {A = Certificate} (record { head = c.head; nodes = c.nodes; ats = c.ats; multipoles = map f ys; entries = c.entries; locals = c.locals; targets = c.targets }) (added Multipole (f x) c)
more_multipoles f c xs ys x is more =
    ap {B = Certificate} (λ ls. record { head = c.head; nodes = c.nodes; ats = c.ats; multipoles = ls; entries = c.entries; locals = c.locals; targets = c.targets }) (ap (map f) more ∙ map_push f xs x ∙ ap (λ ls. ls ++ f x ∷ []) (sym is))

pub more_entries : {A : Type 0} (f : A → Line) (c : Certificate) (xs ys : List A) (x : A) → c.entries ≡ map f xs → ys ≡ xs ++ x ∷ [] → ◌≡◌ {A = Certificate} (record { head = c.head; nodes = c.nodes; ats = c.ats; multipoles = c.multipoles; entries = map f ys; locals = c.locals; targets = c.targets }) (added Entry (f x) c)
more_entries f c xs ys x is more =
    ap {B = Certificate} (λ ls. record { head = c.head; nodes = c.nodes; ats = c.ats; multipoles = c.multipoles; entries = ls; locals = c.locals; targets = c.targets }) (ap (map f) more ∙ map_push f xs x ∙ ap (λ ls. ls ++ f x ∷ []) (sym is))

pub more_locals : {A : Type 0} (f : A → Line) (c : Certificate) (xs ys : List A) (x : A) → c.locals ≡ map f xs → ys ≡ xs ++ x ∷ [] → ◌≡◌ {A = Certificate} (record { head = c.head; nodes = c.nodes; ats = c.ats; multipoles = c.multipoles; entries = c.entries; locals = map f ys; targets = c.targets }) (added Local (f x) c)
more_locals f c xs ys x is more =
    ap {B = Certificate} (λ ls. record { head = c.head; nodes = c.nodes; ats = c.ats; multipoles = c.multipoles; entries = c.entries; locals = ls; targets = c.targets }) (ap (map f) more ∙ map_push f xs x ∙ ap (λ ls. ls ++ f x ∷ []) (sym is))

pub more_targets : {A : Type 0} (f : A → Line) (c : Certificate) (xs ys : List A) (x : A) → c.targets ≡ map f xs → ys ≡ xs ++ x ∷ [] → ◌≡◌ {A = Certificate} (record { head = c.head; nodes = c.nodes; ats = c.ats; multipoles = c.multipoles; entries = c.entries; locals = c.locals; targets = map f ys }) (added Target (f x) c)
more_targets f c xs ys x is more =
    ap {B = Certificate} (λ ls. record { head = c.head; nodes = c.nodes; ats = c.ats; multipoles = c.multipoles; entries = c.entries; locals = c.locals; targets = ls }) (ap (map f) more ∙ map_push f xs x ∙ ap (λ ls. ls ++ f x ∷ []) (sym is))

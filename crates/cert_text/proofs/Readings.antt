-- Bytes are read in one way: as one certificate, or with one first fault.
use Rattle.std.proofs.Common.{◌≡◌, ℕ, suc, ◌+◌, ◌<◌, ◌≤◌, ◌⊎◌, List, [], ◌∷◌, ◌++◌, length, flat_map, sym, ap, ◌∙◌, subst, refl, inl, inr, arith}
use Rattle.std.proofs.lemmas.List.{append_assoc, append-nil, append_cancel_right, length-append}
use Rattle.std.proofs.lemmas.Grind.{flat_map-append}
use Rattle.cert_text.specs.declared.fault.CertKind.{CertKind}
use Rattle.cert_text.specs.declared.fault.CertKind.TheVariants.{Syntax, Range}
use Rattle.cert_text.specs.declared.section.Section.TheVariants.{End}
use Rattle.cert_text.specs.Certificate.{Certificate, IsCertificate, SpellsCert, lines_of, end_line}
use Rattle.cert_text.specs.Faults.{BeginWithHead, HeadFault, CertLineFault, CertFaultsAfter, FirstCertFault}
use Rattle.limits.specs.Limits.{grid_of}
use Rattle.cert_text.specs.Lines.{Line, Head, line_bytes, cert_head_line, head_counts}
use Rattle.cert_text.specs.Sections.{IsHead, AreCounts, AreInRange, IsLineAt, AreLinesFrom, place_of, line_count}
use Rattle.cert_text.proofs.Places.{start_of, line_at, line_count-is, lines_append, lines_back}
use Rattle.cert_text.proofs.Unique.{unique_line, same_start, same_head}

-- ---- line 1
head_begins : (bytes : List ℕ) (h : Head) (behind : List ℕ) → IsHead h → bytes ≡ line_bytes (cert_head_line h) ++ behind → BeginWithHead bytes h.version h.order (head_counts h)
head_begins bytes h behind is text = record { version_is = is.version; order_is = is.order; four = refl; rest = behind; begin = text }

-- bytes that begin with a right line 1 have no fault there
no_head_fault : (bytes : List ℕ) (h : Head) (behind : List ℕ) → IsHead h → bytes ≡ line_bytes (cert_head_line h) ++ behind → (kind : CertKind) → HeadFault bytes kind → ⊥
no_head_fault bytes h behind is text Syntax fault = fault h.version h.order (head_counts h) (head_begins bytes h behind is text)
no_head_fault bytes h behind is text Range fault =
    let begins = fault.3 in
    let same = same_start fault.0 fault.1 fault.2 h.version h.order (head_counts h) begins.rest behind begins.four refl (sym begins.begin ∙ text) in
    fault.4 (subst (λ counts. AreCounts (grid_of fault.0) counts) (sym same.counts_are) (subst (λ version. AreCounts (grid_of version) (head_counts h)) (sym same.versions) is.counts))

same_head_fault : (bytes : List ℕ) (a b : CertKind) → HeadFault bytes a → HeadFault bytes b → a ≡ b
same_head_fault bytes Syntax Syntax f g = refl
same_head_fault bytes Range Range f g = refl
same_head_fault bytes Syntax Range f g = absurd (f g.0 g.1 g.2 g.3)
same_head_fault bytes Range Syntax f g = absurd (g f.0 f.1 f.2 f.3)

-- ---- lines behind line 1
-- of two readings of some bytes, the second goes on where the first ends
pub record GoesOn (rest other : List ℕ) (before after : List Line) : Type 0 where
  pub tail : List Line
  pub lines : after ≡ before ++ tail
  pub bytes : rest ≡ flat_map line_bytes tail ++ other

one_more : (rest other : List ℕ) (l m : Line) (before after : List Line) → l ≡ m → GoesOn rest other before after → GoesOn rest other (l ∷ before) (m ∷ after)
one_more rest other l m before after same on = record {
  tail = on.tail;
  lines = ap (λ ls. m ∷ ls) on.lines ∙ ap (λ first. first ∷ (before ++ on.tail)) (sym same);
  bytes = on.bytes;
}

compare : (h : Head) (k : ℕ) (rest other : List ℕ) (before after : List Line) → AreLinesFrom h k before → AreLinesFrom h k after → flat_map line_bytes before ++ rest ≡ flat_map line_bytes after ++ other
    → GoesOn rest other before after ⊎ GoesOn other rest after before
compare h k rest other [] after a b e = inl (record { tail = after; lines = refl; bytes = e })
compare h k rest other (l ∷ before) [] a b e = inr (record { tail = l ∷ before; lines = refl; bytes = sym e })
compare h k rest other (l ∷ before) (m ∷ after) a b e =
    let split = sym (append_assoc (line_bytes l) (flat_map line_bytes before) rest) ∙ e ∙ append_assoc (line_bytes m) (flat_map line_bytes after) other in
    let same = unique_line h (place_of h k).section l m _ _ a.0.form b.0.form split in
    elim (compare h (suc k) rest other before after a.1 b.1 same.1) [
      | inl on ↦ inl (one_more rest other l m before after same.0 on)
      | inr on ↦ inr (one_more other rest m l after before (sym same.0) on)
    ]

-- a line that is right is not at fault
no_line_fault : (h : Head) (k : ℕ) (bytes : List ℕ) (l : Line) (rest : List ℕ) → k < line_count h → IsLineAt h k l → bytes ≡ line_bytes l ++ rest → (kind : CertKind) → CertLineFault h k bytes kind → ⊥
no_line_fault h k bytes l rest below is begin Syntax fault = fault l rest below is.form begin
no_line_fault h k bytes l rest below is begin Range fault =
    let same = unique_line h (place_of h k).section l fault.0 rest fault.1 is.form fault.3 (sym begin ∙ fault.4) in
    fault.5 (subst (λ (m : Line). AreInRange h (place_of h k).section (place_of h k).number m.numbers) same.0 is.range)

same_line_fault : (h : Head) (k : ℕ) (bytes : List ℕ) (a b : CertKind) → CertLineFault h k bytes a → CertLineFault h k bytes b → a ≡ b
same_line_fault h k bytes Syntax Syntax f g = refl
same_line_fault h k bytes Range Range f g = refl
same_line_fault h k bytes Syntax Range f g = absurd (f g.0 g.1 g.2 g.3 g.4)
same_line_fault h k bytes Range Syntax f g = absurd (g f.0 f.1 f.2 f.3 f.4)

pub record SameLines (before after : List Line) (rest other : List ℕ) : Type 0 where
  pub lines : before ≡ after
  pub rests : rest ≡ other

-- a reading that goes on with nothing
ends : (rest other : List ℕ) (before after tail : List Line) → after ≡ before ++ tail → rest ≡ flat_map line_bytes tail ++ other → tail ≡ [] → SameLines before after rest other
ends rest other before after tail lines bytes none = record {
  lines = sym (lines ∙ ap (λ ls. before ++ ls) none ∙ append-nil before);
  rests = bytes ∙ ap (λ ls. flat_map line_bytes ls ++ other) none;
}

-- the other reading of bytes with a fault does not go on behind the fault
stops : (h : Head) (rest other : List ℕ) (before after : List Line) (kind : CertKind) → GoesOn rest other before after → AreLinesFrom h 0 after → length after ≤ line_count h → CertLineFault h (length before) rest kind
    → SameLines before after rest other
stops h rest other before after kind on all most fault = go on.tail on.lines on.bytes
  where
    go : (tail : List Line) → after ≡ before ++ tail → rest ≡ flat_map line_bytes tail ++ other → SameLines before after rest other
    go [] lines bytes = ends rest other before after [] lines bytes refl
    go (l ∷ tail) lines bytes =
        let from = lines_back h 0 (length before) before (l ∷ tail) (omega arith) (subst (AreLinesFrom h 0) lines all) in
        let below : length before < line_count h = omega (arith, most, ap length lines, length-append before (l ∷ tail)) in
        absurd (no_line_fault h (length before) rest l (flat_map line_bytes tail ++ other) below from.0 (bytes ∙ append_assoc (line_bytes l) (flat_map line_bytes tail) other) kind fault)

-- a reading of no more lines goes on with none
no_more : (rest other : List ℕ) (before after : List Line) → GoesOn rest other before after → length after ≤ length before → SameLines before after rest other
no_more rest other before after on most = ends rest other before after on.tail on.lines on.bytes (none on.tail (omega (arith, most, ap length on.lines, length-append before on.tail)))
  where
    none : (tail : List Line) → length tail ≡ 0 → tail ≡ []
    none [] e = refl
    none (l ∷ tail) e = absurd (omega (arith, e))

-- ---- good fronts
-- the bytes begin with a right line 1 and these right lines behind it, of which there are not too many
pub record Front (bytes : List ℕ) (h : Head) (good : List Line) (rest : List ℕ) : Type 0 where
  pub head_is : IsHead h
  pub lines_are : AreLinesFrom h 0 good
  pub text : bytes ≡ line_bytes (cert_head_line h) ++ (flat_map line_bytes good ++ rest)
  pub most : length good ≤ line_count h

fault_front : (bytes : List ℕ) (h : Head) (good : List Line) (kind : CertKind) (fault : CertFaultsAfter bytes h good kind) → Front bytes h good fault.rest
fault_front bytes h good kind fault = record { head_is = fault.head_is; lines_are = fault.lines_are; text = fault.text; most = elim fault.more [ inl less ↦ omega (arith, less) | inr all ↦ omega (arith, all.0) ] }

-- all lines of a certificate behind line 1
abbrev pub all_lines : Certificate → List Line
all_lines c = lines_of c ++ (end_line ∷ [])

six_parts : (a b c d e f : List Line) → length (a ++ (b ++ (c ++ (d ++ (e ++ f))))) ≡ length a + length b + length c + length d + length e + length f
six_parts a b c d e f =
    omega (arith, length-append a (b ++ (c ++ (d ++ (e ++ f)))), length-append b (c ++ (d ++ (e ++ f))), length-append c (d ++ (e ++ f)), length-append d (e ++ f), length-append e f)

pub lines_count : (c : Certificate) → IsCertificate c → length (lines_of c) ≡ start_of c.head End
lines_count c is = omega (arith, six_parts c.nodes c.ats c.multipoles c.entries c.locals c.targets, is.nodes_are, is.ats_are, is.multipoles_are, is.entries_are, is.locals_are, is.targets_are)

pub all_count : (c : Certificate) → IsCertificate c → length (all_lines c) ≡ line_count c.head
all_count c is = omega (arith, length-append (lines_of c) (end_line ∷ []), lines_count c is, line_count-is c.head)

pub all_are : (c : Certificate) → IsCertificate c → AreLinesFrom c.head 0 (all_lines c)
all_are c is =
    let at : start_of c.head End ≡ 0 + length (lines_of c) = omega (arith, lines_count c is) in
    let last = line_at c.head End 0 (start_of c.head End) end_line (omega arith) (omega arith) (record { word_is = refl; count_is = refl }) tt in
    lines_append c.head 0 (start_of c.head End) (lines_of c) (end_line ∷ []) at is.lines_are (last, tt)

pub spells_front : (bytes : List ℕ) (c : Certificate) → SpellsCert bytes c → Front bytes c.head (all_lines c) []
spells_front bytes c spells =
    let is = spells.is_certificate in
    let behind : flat_map line_bytes (all_lines c) ++ [] ≡ flat_map line_bytes (lines_of c) ++ line_bytes end_line = append-nil _ ∙ flat_map-append line_bytes (lines_of c) (end_line ∷ []) in
    record {
      head_is = is.head_is;
      lines_are = all_are c is;
      text = spells.text ∙ ap (λ back. line_bytes (cert_head_line c.head) ++ back) (sym behind);
      most = omega (arith, all_count c is);
    }

-- two good fronts of some bytes
record Fronts (h other : Head) (rest back : List ℕ) (before after : List Line) : Type 0 where
  heads : h ≡ other
  either : GoesOn rest back before after ⊎ GoesOn back rest after before

fronts : (bytes : List ℕ) (h other : Head) (before after : List Line) (rest back : List ℕ) → Front bytes h before rest → Front bytes other after back → Fronts h other rest back before after
fronts bytes h other before after rest back a b =
    let same = same_start h.version h.order (head_counts h) other.version other.order (head_counts other) _ _ refl refl (sym a.text ∙ b.text) in
    let heads = same_head h other same.versions same.orders same.counts_are in
    record { heads = heads; either = compare h 0 rest back before after a.lines_are (subst (λ g. AreLinesFrom g 0 after) (sym heads) b.lines_are) same.rests }

-- ---- no bytes spell a certificate and have a fault
pub never_both : (bytes : List ℕ) (c : Certificate) (number : ℕ) (kind : CertKind) → SpellsCert bytes c → FirstCertFault bytes number kind → ⊥
never_both bytes c number kind spells (inl head) =
    let front = spells_front bytes c spells in
    no_head_fault bytes c.head _ front.head_is front.text kind head.1
never_both bytes c number kind spells (inr later) =
    let h = later.0 in
    let good = later.1 in
    let fault = later.3 in
    let front = spells_front bytes c spells in
    let two = fronts bytes h c.head good (all_lines c) fault.rest [] (fault_front bytes h good kind fault) front in
    let counts : length (all_lines c) ≡ line_count h = all_count c spells.is_certificate ∙ ap (λ (g : Head). line_count g) (sym two.heads) in
    let all : AreLinesFrom h 0 (all_lines c) = subst (λ g. AreLinesFrom g 0 (all_lines c)) (sym two.heads) front.lines_are in
    let same : SameLines good (all_lines c) fault.rest [] = elim two.either [
      | inl on ↦ stops h fault.rest [] good (all_lines c) kind on all (omega (arith, counts)) fault.fault
      | inr on ↦
          let most = (fault_front bytes h good kind fault).most in
          let back = no_more [] fault.rest (all_lines c) good on (omega (arith, counts, most)) in
          record { lines = sym back.lines; rests = sym back.rests }
    ] in
    elim fault.more [
      | inl less ↦ omega (arith, less, counts, ap length same.lines)
      | inr more ↦ more.1 same.rests
    ]

-- ---- nothing stands behind a certificate
pub nothing_behind : (bytes rest : List ℕ) (c whole : Certificate) → SpellsCert bytes c → SpellsCert (bytes ++ rest) whole → rest ≡ []
nothing_behind bytes [] c whole a b = refl
nothing_behind bytes (x ∷ rest) c whole a b =
    let front = spells_front bytes c a in
    let lines = flat_map line_bytes (all_lines c) in
    let count = all_count c a.is_certificate in
    let text : bytes ++ (x ∷ rest) ≡ line_bytes (cert_head_line c.head) ++ (lines ++ (x ∷ rest)) =
    ap (λ t. t ++ (x ∷ rest)) front.text
    ∙ append_assoc (line_bytes (cert_head_line c.head)) (lines ++ []) (x ∷ rest)
    ∙ ap (λ t. line_bytes (cert_head_line c.head) ++ (t ++ (x ∷ rest))) (append-nil lines) in
    absurd (never_both (bytes ++ (x ∷ rest)) whole (length (all_lines c) + 2) Syntax b (inr (
      c.head,
      all_lines c,
      refl,
      record {
        rest = x ∷ rest;
        head_is = front.head_is;
        lines_are = front.lines_are;
        text = text;
        more = inr (count, λ e. omega (arith, ap length e));
        fault = λ l back below form begin. omega (arith, below, count);
      },
    )))

-- ---- no bytes have two first faults
pub record OneFault (number other : ℕ) (kind what : CertKind) : Type 0 where
  pub lines : number ≡ other
  pub kinds : kind ≡ what

same_fault : (h : Head) (before after : List Line) (rest other : List ℕ) (kind what : CertKind) → SameLines before after rest other → CertLineFault h (length before) rest kind → CertLineFault h (length after) other what
    → OneFault (length before + 2) (length after + 2) kind what
same_fault h before after rest other kind what same f g = record {
  lines = ap (λ (ls : List Line). length ls + 2) same.lines;
  kinds = same_line_fault h (length after) other kind what (subst (λ text. CertLineFault h (length after) text kind) same.rests (subst (λ (ls : List Line). CertLineFault h (length ls) rest kind) same.lines f)) g;
}

pub one_fault : (bytes : List ℕ) (number other : ℕ) (kind what : CertKind) → FirstCertFault bytes number kind → FirstCertFault bytes other what → OneFault number other kind what
one_fault bytes number other kind what (inl head) (inl top) = record { lines = head.0 ∙ sym top.0; kinds = same_head_fault bytes kind what head.1 top.1 }
one_fault bytes number other kind what (inl head) (inr later) = absurd (no_head_fault bytes later.0 _ later.3.head_is later.3.text kind head.1)
one_fault bytes number other kind what (inr later) (inl head) = absurd (no_head_fault bytes later.0 _ later.3.head_is later.3.text what head.1)
one_fault bytes number other kind what (inr first) (inr second) =
    let h = first.0 in
    let before = first.1 in
    let after = second.1 in
    let f = first.3 in
    let g = second.3 in
    let a = fault_front bytes h before kind f in
    let b = fault_front bytes second.0 after what g in
    let two = fronts bytes h second.0 before after f.rest g.rest a b in
    let heads = two.heads in
    let moved : CertLineFault h (length after) g.rest what = subst (λ head. CertLineFault head (length after) g.rest what) (sym heads) g.fault in
    let all : AreLinesFrom h 0 after = subst (λ head. AreLinesFrom head 0 after) (sym heads) b.lines_are in
    let most : length after ≤ line_count h = subst (λ (head : Head). length after ≤ line_count head) (sym heads) b.most in
    let same : SameLines before after f.rest g.rest = elim two.either [
      | inl on ↦ stops h f.rest g.rest before after kind on all most f.fault
      | inr on ↦
          let back = stops h g.rest f.rest after before what on a.lines_are a.most moved in
          record { lines = sym back.lines; rests = sym back.rests }
    ] in
    let one = same_fault h before after f.rest g.rest kind what same f.fault moved in
    record { lines = first.2 ∙ one.lines ∙ sym second.2; kinds = one.kinds }

-- ---- no bytes spell two certificates
record SameHalves (xs ys back rest : List Line) : Type 0 where
  fronts : xs ≡ ys
  backs : back ≡ rest

line_of : (l m : Line) (xs ys : List Line) → l ∷ xs ≡ m ∷ ys → l ≡ m
line_of l m xs ys e = cc

lines_behind : (l m : Line) (xs ys : List Line) → l ∷ xs ≡ m ∷ ys → xs ≡ ys
lines_behind l m xs ys e = cc

-- halves whose fronts are equally long
halves : (xs ys back rest : List Line) → length xs ≡ length ys → xs ++ back ≡ ys ++ rest → SameHalves xs ys back rest
halves [] [] back rest same e = record { fronts = refl; backs = e }
halves [] (m ∷ ys) back rest same e = absurd (omega (arith, same))
halves (l ∷ xs) [] back rest same e = absurd (omega (arith, same))
halves (l ∷ xs) (m ∷ ys) back rest same e =
    let rests = halves xs ys back rest (omega (arith, same)) (lines_behind _ _ _ _ e) in
    let first : l ≡ m = line_of _ _ _ _ e in
    record { fronts = ap (λ x. x ∷ xs) first ∙ ap (λ ls. m ∷ ls) rests.fronts; backs = rests.backs }

-- certificates of one head and the same lines
same_certificate : (c other : Certificate) → IsCertificate c → IsCertificate other → c.head ≡ other.head → lines_of c ≡ lines_of other → c ≡ other
same_certificate c other a b heads lines =
    let cells : c.head.cells ≡ other.head.cells = ap (λ (h : Head). h.cells) heads in
    let points : c.head.points ≡ other.head.points = ap (λ (h : Head). h.points) heads in
    let entries : c.head.entries ≡ other.head.entries = ap (λ (h : Head). h.entries) heads in
    let one = halves c.nodes other.nodes _ _ (a.nodes_are ∙ cells ∙ sym b.nodes_are) lines in
    let two = halves c.ats other.ats _ _ (a.ats_are ∙ points ∙ sym b.ats_are) one.backs in
    let three = halves c.multipoles other.multipoles _ _ (a.multipoles_are ∙ cells ∙ sym b.multipoles_are) two.backs in
    let four = halves c.entries other.entries _ _ (a.entries_are ∙ entries ∙ sym b.entries_are) three.backs in
    let five = halves c.locals other.locals _ _ (a.locals_are ∙ cells ∙ sym b.locals_are) four.backs in
    λ i. record { head = heads i; nodes = one.fronts i; ats = two.fronts i; multipoles = three.fronts i; entries = four.fronts i; locals = five.fronts i; targets = five.backs i }

pub one_certificate : (bytes : List ℕ) (c other : Certificate) → SpellsCert bytes c → SpellsCert bytes other → c ≡ other
one_certificate bytes c other first second =
    let a = first.is_certificate in
    let b = second.is_certificate in
    let two = fronts bytes c.head other.head (all_lines c) (all_lines other) [] [] (spells_front bytes c first) (spells_front bytes other second) in
    let counts : length (all_lines c) ≡ length (all_lines other) = all_count c a ∙ ap (λ (h : Head). line_count h) two.heads ∙ sym (all_count other b) in
    let same : all_lines c ≡ all_lines other = elim two.either [
      | inl on ↦ (no_more [] [] (all_lines c) (all_lines other) on (omega (arith, counts))).lines
      | inr on ↦ sym (no_more [] [] (all_lines other) (all_lines c) on (omega (arith, counts))).lines
    ] in
    same_certificate c other a b two.heads (append_cancel_right (lines_of c) (lines_of other) (end_line ∷ []) same)

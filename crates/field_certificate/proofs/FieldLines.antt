-- Which leaves the lines of the points name, and how many entries a text of some length has at most.
use Rattle.std.proofs.Common.{ℕ, ◌≡◌, ◌+◌, ◌*◌, ◌≤◌, inl, inr, Bool, true, false, not, cond, List, [], ◌∷◌, ◌++◌, length, map, filter, refl, sym, ap, ap₂, ◌∙◌, subst, arith}
use Rattle.std.specs.Prelude.{pos, sum_by, codes}
use Rattle.std.specs.List.{flat_map}
use Rattle.std.proofs.lemmas.List.{length-append}
use Rattle.std.proofs.lemmas.List.Concat.{length-flat_map}
use Rattle.std.proofs.lemmas.List.Sums.{sum_by-append, sum_by-cons}
use Rattle.cert_text.specs.Certificate.{Certificate, certificate_text, lines_of, end_line}
use Rattle.cert_text.specs.Lines.{Line, line_bytes, cert_head_line, letter_word}
use Rattle.letters.specs.declared.Entry.{Entry}
use Rattle.letters.specs.declared.Letter.{Letter}
use Rattle.letters.specs.declared.Letter.TheVariants.{U, V, W, X}
use Rattle.limits.specs.Limits.{IsGrid, most_certificate, most_entries}
use Rattle.limits.proofs.Grids.{grid_cases}
use Rattle.number_text.specs.Numbers.{int_text, numbers_text}
use Rattle.points.specs.Points.{is_source}
use Rattle.points.specs.declared.Point.{Point}
use Rattle.soundness.specs.Accounts.{LeafSource, LeafTarget}
use Rattle.accounting_text.specs.Written.{leaves, entry_line}

-- ---- leaves
leaf_of_source : (p : Point) (ps : List Point) (x : LeafSource) (xs : List LeafSource) (ts : List LeafTarget) → is_source p.kind ≡ true
    → leaves (p ∷ ps) (x ∷ xs) ts ≡ x.leaf ∷ leaves ps xs ts
leaf_of_source p ps x xs [] s = refl
leaf_of_source p ps x xs (t ∷ ts) s = ap (λ b. cond b (x.leaf ∷ leaves ps xs (t ∷ ts)) (t.leaf ∷ leaves ps (x ∷ xs) ts)) s

leaf_of_target : (p : Point) (ps : List Point) (xs : List LeafSource) (t : LeafTarget) (ts : List LeafTarget) → is_source p.kind ≡ false
    → leaves (p ∷ ps) xs (t ∷ ts) ≡ t.leaf ∷ leaves ps xs ts
leaf_of_target p ps [] t ts s = refl
leaf_of_target p ps (x ∷ xs) t ts s = ap (λ b. cond b (x.leaf ∷ leaves ps xs (t ∷ ts)) (t.leaf ∷ leaves ps (x ∷ xs) ts)) s

module _ (f : Point → LeafSource) (g : Point → LeafTarget) (number : Point → ℕ) (of_source : (p : Point) → (f p).leaf ≡ number p) (of_target : (p : Point) → (g p).leaf ≡ number p) where
  abbrev found : List Point → List ℕ
  found ps = leaves ps (map f (filter (λ p. is_source p.kind) ps)) (map g (filter (λ p. not (is_source p.kind)) ps))

  next_leaf : (p : Point) (ps : List Point) (b : Bool) → is_source p.kind ≡ b → found ps ≡ map number ps → found (p ∷ ps) ≡ number p ∷ map number ps
  next_leaf p ps true s rest =
      let xs = map f (filter (λ p. is_source p.kind) ps) in
      let ts = map g (filter (λ p. not (is_source p.kind)) ps) in
      let here : leaves (p ∷ ps) (f p ∷ xs) ts ≡ number p ∷ map number ps = leaf_of_source p ps (f p) xs ts s ∙ ap₂ (λ n ns. n ∷ ns) (of_source p) rest in
      rw s here
  next_leaf p ps false s rest =
      let xs = map f (filter (λ p. is_source p.kind) ps) in
      let ts = map g (filter (λ p. not (is_source p.kind)) ps) in
      let here : leaves (p ∷ ps) xs (g p ∷ ts) ≡ number p ∷ map number ps = leaf_of_target p ps xs (g p) ts s ∙ ap₂ (λ n ns. n ∷ ns) (of_target p) rest in
      rw s here

  -- the leaves of points in order, where sources and targets have theirs by a number of the point
  pub leaves_are_numbers : (ps : List Point) → found ps ≡ map number ps
  leaves_are_numbers [] = refl
  leaves_are_numbers (p ∷ ps) = next_leaf p ps (is_source p.kind) refl (leaves_are_numbers ps)

-- ---- entries
word_has_one : (l : Letter) → length (letter_word l) ≡ 1
word_has_one U = refl
word_has_one V = refl
word_has_one W = refl
word_has_one X = refl

-- a letter, two spaces and a line feed, and the digits
entry_has_four : (e : Entry) → 4 ≤ length (line_bytes (entry_line e))
entry_has_four e =
    omega (
      arith,
      word_has_one e.letter,
      length-append (letter_word e.letter) (numbers_text (pos e.b ∷ pos e.c ∷ [])),
      length-append (int_text (pos e.b)) (numbers_text (pos e.c ∷ [])),
      length-append (int_text (pos e.c)) (numbers_text []),
    )

entries_have_four : (es : List Entry) → 4 * length es ≤ sum_by (λ l. length (line_bytes l)) (map entry_line es)
entries_have_four [] = omega arith
entries_have_four (e ∷ es) =
    omega (arith, entry_has_four e, entries_have_four es, sum_by-cons (λ l. length (line_bytes l)) (entry_line e) (map entry_line es))

-- the lines of one section are part of all lines
section_is_part : (f : Line → ℕ) (a b c es d t : List Line) → sum_by f es ≤ sum_by f (a ++ (b ++ (c ++ (es ++ (d ++ t)))))
section_is_part f a b c es d t =
    omega (arith, sum_by-append f a (b ++ (c ++ (es ++ (d ++ t)))), sum_by-append f b (c ++ (es ++ (d ++ t))), sum_by-append f c (es ++ (d ++ t)), sum_by-append f es (d ++ t))

-- each entry has four bytes, and line 1 has more than three of its own
pub text_has_entries : (c : Certificate) (es : List Entry) → c.entries ≡ map entry_line es → 4 * length es + 4 ≤ length (certificate_text c)
text_has_entries c es e =
    let f : Line → ℕ = λ l. length (line_bytes l) in
    let part : sum_by f c.entries ≤ sum_by f (lines_of c) = section_is_part f c.nodes c.ats c.multipoles c.entries c.locals c.targets in
    let fours : 4 * length es ≤ sum_by f c.entries = subst (λ ls. 4 * length es ≤ sum_by f ls) (sym e) (entries_have_four es) in
    omega (
      arith,
      part,
      fours,
      length-flat_map line_bytes (lines_of c),
      length-append (line_bytes (cert_head_line c.head)) (flat_map line_bytes (lines_of c) ++ line_bytes end_line),
      length-append (flat_map line_bytes (lines_of c)) (line_bytes end_line),
      length-append (codes "fmmcert") (numbers_text (cert_head_line c.head).numbers),
    )

entries_in : (T n grid : ℕ) → IsGrid grid → 4 * n + 4 ≤ T → T ≤ most_certificate grid → n ≤ most_entries grid
entries_in T n grid is least most =
    elim (grid_cases grid is) [
      | inl e ↦ subst (λ g. n ≤ most_entries g) (sym e) (let most : T ≤ most_certificate 16 = subst (λ g. T ≤ most_certificate g) e most in omega (arith, least, most))
      | inr e ↦ subst (λ g. n ≤ most_entries g) (sym e) (let most : T ≤ most_certificate 20 = subst (λ g. T ≤ most_certificate g) e most in omega (arith, least, most))
    ]

pub entries_are_few : (c : Certificate) (es : List Entry) (grid : ℕ) → IsGrid grid → c.entries ≡ map entry_line es → length (certificate_text c) ≤ most_certificate grid → length es ≤ most_entries grid
entries_are_few c es grid is e most = entries_in (length (certificate_text c)) (length es) grid is (text_has_entries c es e) most

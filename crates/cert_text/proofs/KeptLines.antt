-- What stands at a place of a certificate that is kept.
use Rattle.std.proofs.Common.{ℕ, zero, suc, ◌≡◌, ◌*◌, ◌≤◌, ◌<◌, ℤ, pos, ◌≤ℤ◌, List, [], ◌∷◌, length, map, get_or, drop, refl, sym, ap, ◌∙◌, subst, arith}
use Rattle.std.proofs.lemmas.Int.{ints}
use Rattle.std.proofs.lemmas.List.{length-map}
use Rattle.letters.specs.declared.Entry.{Entry}
use Rattle.exact_math.specs.Within.{Within}
use Rattle.limits.specs.Limits.{most_given_local}
use Rattle.cert_text.specs.declared.stored.NodeLine.{NodeLine}
use Rattle.cert_text.specs.declared.section.Section.TheVariants.{Node, At, Entry as EntryLine, Local}
use Rattle.cert_text.specs.Certificate.{Certificate, IsCertificate, nth_line, nth_number}
use Rattle.cert_text.specs.Inside.{kept_node, node_numbers, kept_at, kept_multipole, kept_entry, kept_local, kept_target}
use Rattle.cert_text.specs.Lines.{Line, Head}
use Rattle.cert_text.specs.Sections.{IsNumberBelow, AreOrderedEnds, AreInRange}
use Rattle.cert_text.specs.Storage.{IsStored}
use Rattle.cert_text.proofs.RowLines.{multipole_numbers, local_numbers}

-- ---- ends
-- a number and the next are a lower and an upper end, in order and at most n in size
pub record AreEndsAt (n : ℕ) (zs : List ℤ) (k : ℕ) : Type 0 where
  pub low_end : Within n (nth_number zs k)
  pub high_end : Within n (nth_number zs (suc k))
  pub ordered : nth_number zs k ≤ℤ nth_number zs (suc k)

pub wider : (n m : ℕ) (z : ℤ) → n ≤ m → Within n z → Within m z
wider n m z le h = record { above = omega (arith, ints, h.above); below = omega (arith, ints, h.below) }

ends_two : (m : ℕ) (zs : List ℤ) (k : ℕ) → AreOrderedEnds m zs → AreEndsAt m zs (2 * k)
ends_two m [] k h =
    record { low_end = record { above = omega (arith, ints); below = omega (arith, ints) }; high_end = record { above = omega (arith, ints); below = omega (arith, ints) }; ordered = omega (arith, ints) }
ends_two m (z ∷ []) k h = absurd h
ends_two m (lo ∷ hi ∷ zs) zero h = record { low_end = h.0; high_end = h.1; ordered = h.2 }
ends_two m (lo ∷ hi ∷ zs) (suc k) h =
    let rest = ends_two m zs k h.3 in
    let e : suc (suc (2 * k)) ≡ 2 * suc k = omega arith in
    subst (AreEndsAt m (lo ∷ hi ∷ zs)) e (record { low_end = rest.low_end; high_end = rest.high_end; ordered = rest.ordered })

pub ends_at : (m : ℕ) (zs : List ℤ) (k j : ℕ) → j ≡ 2 * k → AreOrderedEnds m zs → AreEndsAt m zs j
ends_at m zs k j e h = subst (AreEndsAt m zs) (sym e) (ends_two m zs k h)

pub ends_behind : (m : ℕ) (zs : List ℤ) → AreOrderedEnds m zs → AreOrderedEnds m (drop 4 zs)
ends_behind m [] h = h
ends_behind m (a ∷ []) h = absurd h
ends_behind m (a ∷ b ∷ []) h = tt
ends_behind m (a ∷ b ∷ c ∷ []) h = absurd h.3
ends_behind m (a ∷ b ∷ c ∷ d ∷ zs) h = h.3.3

-- the last four of eight numbers
pub last_four : (zs : List ℤ) → length zs ≡ 8 → drop 4 zs ≡ nth_number zs 4 ∷ nth_number zs 5 ∷ nth_number zs 6 ∷ nth_number zs 7 ∷ []
last_four [] e = absurd (omega (arith, e))
last_four (a ∷ []) e = absurd (omega (arith, e))
last_four (a ∷ b ∷ []) e = absurd (omega (arith, e))
last_four (a ∷ b ∷ c ∷ []) e = absurd (omega (arith, e))
last_four (a ∷ b ∷ c ∷ d ∷ []) e = absurd (omega (arith, e))
last_four (a ∷ b ∷ c ∷ d ∷ p ∷ []) e = absurd (omega (arith, e))
last_four (a ∷ b ∷ c ∷ d ∷ p ∷ q ∷ []) e = absurd (omega (arith, e))
last_four (a ∷ b ∷ c ∷ d ∷ p ∷ q ∷ r ∷ []) e = absurd (omega (arith, e))
last_four (a ∷ b ∷ c ∷ d ∷ p ∷ q ∷ r ∷ s ∷ []) e = refl
last_four (a ∷ b ∷ c ∷ d ∷ p ∷ q ∷ r ∷ s ∷ t ∷ zs) e = absurd (omega (arith, e))

-- ---- lines
nth_map : {A : Type 0} (f : A → Line) (xs : List A) (k : ℕ) (x d : A) → k < length xs → x ≡ get_or xs k d → nth_line (map f xs) k ≡ f x
nth_map f [] k x d lt e = absurd (omega (arith, lt))
nth_map f (y ∷ ys) zero x d lt e = ap f (sym e)
nth_map f (y ∷ ys) (suc k) x d lt e = nth_map f ys k x d (omega (arith, lt)) e

-- of lines that are kept as items
pub nth_kept : {A : Type 0} (f : A → Line) (lines : List Line) (xs : List A) (k : ℕ) (x d : A) → lines ≡ map f xs → k < length lines → x ≡ get_or xs k d → nth_line lines k ≡ f x
nth_kept f lines xs k x d is lt e =
    ap (λ ls. nth_line ls k) is ∙ nth_map f xs k x d (omega (arith, lt, ap (λ (ls : List Line). length ls) is, length-map xs f)) e

-- ---- each section of a certificate
module _ (c : Certificate) (is : IsStored c) (whole : IsCertificate c) (k : ℕ) where
  pub node_range : (xs : List NodeLine) (x : NodeLine) → c.nodes ≡ map kept_node xs → k < c.head.cells → x ≡ get_or xs k x → AreInRange c.head Node k (node_numbers x)
  node_range xs x kept lt e =
      let inside : k < length c.nodes = omega (arith, lt, whole.nodes_are) in
      subst (λ (l : Line). AreInRange c.head Node k l.numbers) (nth_kept kept_node c.nodes xs k x x kept inside e) (is.nodes_are k inside).1

  pub at_range : (xs : List ℕ) (x : ℕ) → c.ats ≡ map kept_at xs → k < c.head.points → x ≡ get_or xs k x → IsNumberBelow c.head.cells (pos x)
  at_range xs x kept lt e =
      let inside : k < length c.ats = omega (arith, lt, whole.ats_are) in
      subst (λ (l : Line). AreInRange c.head At k l.numbers) (nth_kept kept_at c.ats xs k x x kept inside e) (is.ats_are k inside).1

  pub entry_range : (xs : List Entry) (x : Entry) → c.entries ≡ map kept_entry xs → k < c.head.entries → x ≡ get_or xs k x → IsNumberBelow c.head.cells (pos x.b) × IsNumberBelow c.head.cells (pos x.c)
  entry_range xs x kept lt e =
      let inside : k < length c.entries = omega (arith, lt, whole.entries_are) in
      subst (λ (l : Line). AreInRange c.head EntryLine k l.numbers) (nth_kept kept_entry c.entries xs k x x kept inside e) (is.entries_are k inside).1

  pub multipole_row : (rows : List (List ℤ)) (row : List ℤ) → c.multipoles ≡ map kept_multipole rows → k < c.head.cells → row ≡ get_or rows k [] → (nth_line c.multipoles k).numbers ≡ row
  multipole_row rows row kept lt e =
      let inside : k < length c.multipoles = omega (arith, lt, whole.multipoles_are) in
      ap (λ (l : Line). l.numbers) (nth_kept kept_multipole c.multipoles rows k row [] kept inside e) ∙ multipole_numbers row

  pub local_row : (rows : List (List ℤ)) (row : List ℤ) → c.locals ≡ map kept_local rows → k < c.head.cells → row ≡ get_or rows k [] → (nth_line c.locals k).numbers ≡ row
  local_row rows row kept lt e =
      let inside : k < length c.locals = omega (arith, lt, whole.locals_are) in
      ap (λ (l : Line). l.numbers) (nth_kept kept_local c.locals rows k row [] kept inside e) ∙ local_numbers row

  pub target_row : (rows : List (List ℤ)) (row : List ℤ) → c.targets ≡ map kept_target rows → k < c.head.targets → row ≡ get_or rows k [] → (nth_line c.targets k).numbers ≡ row
  target_row rows row kept lt e =
      let inside : k < length c.targets = omega (arith, lt, whole.targets_are) in
      ap (λ (l : Line). l.numbers) (nth_kept kept_target c.targets rows k row [] kept inside e)

  pub target_length : (rows : List (List ℤ)) (row : List ℤ) → c.targets ≡ map kept_target rows → k < c.head.targets → row ≡ get_or rows k [] → length row ≡ 8
  target_length rows row kept lt e =
      subst (λ (zs : List ℤ). length zs ≡ 8) (target_row rows row kept lt e) (is.targets_are k (omega (arith, lt, whole.targets_are))).0.count_is

-- the ends and the radius of a local row
pub local_ends : (h : Head) (n : ℕ) (zs : List ℤ) → AreInRange h Local n zs → AreOrderedEnds most_given_local (drop 1 zs)
local_ends h n [] r = tt
local_ends h n (radius ∷ zs) r = r.1

pub local_radius : (h : Head) (n : ℕ) (zs : List ℤ) → AreInRange h Local n zs → IsNumberBelow (suc most_given_local) (nth_number zs 0)
local_radius h n [] r = record { least = omega (arith, ints); most = omega (arith, ints) }
local_radius h n (radius ∷ zs) r = r.0

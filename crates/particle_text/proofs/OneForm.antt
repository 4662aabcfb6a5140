-- A line is that of one point at most.
use Rattle.std.proofs.Common.{◌≡◌, ℕ, ℤ, List, [], ◌∷◌, ap, refl, arith}
use Rattle.std.specs.Prelude.{codes}
use Rattle.number_text.specs.Numbers.{AreInts}
use Rattle.number_text.proofs.Rows.{one_row}
use Rattle.points.specs.declared.Kind.{Kind}
use Rattle.points.specs.declared.Kind.TheVariants.{Charge, Dipole, Vortex, Target, Pole}
use Rattle.points.specs.declared.Point.{Point}
use Rattle.particle_text.specs.Text.{LineSpells, name_of, strength_of}
use Rattle.particle_text.proofs.Forms.{reads_as, apart, same_point}

head : (x y : ℤ) (xs ys : List ℤ) → x ∷ xs ≡ y ∷ ys → x ≡ y
head x y xs ys e = cc

tail : (x y : ℤ) (xs ys : List ℤ) → x ∷ xs ≡ y ∷ ys → xs ≡ ys
tail x y xs ys e = cc

same_kind : (name : List ℕ) (a b : Kind) → name ≡ name_of a → name ≡ name_of b → (numbers : List ℕ) (x y u v : ℤ) → AreInts numbers (x ∷ y ∷ strength_of a) → AreInts numbers (u ∷ v ∷ strength_of b)
    → ◌≡◌ {A = Point} (record { x = x; y = y; kind = a }) (record { x = u; y = v; kind = b })
same_kind name (Charge q) (Charge r) _ _ numbers x y u v f g =
    let e = one_row numbers (x ∷ y ∷ q ∷ []) (u ∷ v ∷ r ∷ []) refl f g in
    let e1 = tail _ _ _ _ e in
    same_point x y u v (Charge q) (Charge r) (head _ _ _ _ e) (head _ _ _ _ e1) (ap Charge (head _ _ _ _ (tail _ _ _ _ e1)))
same_kind name (Dipole q r) (Dipole s t) _ _ numbers x y u v f g =
    let e = one_row numbers (x ∷ y ∷ q ∷ r ∷ []) (u ∷ v ∷ s ∷ t ∷ []) refl f g in
    let e1 = tail _ _ _ _ e in
    let e2 = tail _ _ _ _ e1 in
    let re = head _ _ _ _ e2 in
    let im = head _ _ _ _ (tail _ _ _ _ e2) in
    same_point x y u v (Dipole q r) (Dipole s t) (head _ _ _ _ e) (head _ _ _ _ e1) (λ i. Dipole (re i) (im i))
same_kind name (Vortex q) (Vortex r) _ _ numbers x y u v f g =
    let e = one_row numbers (x ∷ y ∷ q ∷ []) (u ∷ v ∷ r ∷ []) refl f g in
    let e1 = tail _ _ _ _ e in
    same_point x y u v (Vortex q) (Vortex r) (head _ _ _ _ e) (head _ _ _ _ e1) (ap Vortex (head _ _ _ _ (tail _ _ _ _ e1)))
same_kind name Target Target _ _ numbers x y u v f g =
    let e = one_row numbers (x ∷ y ∷ []) (u ∷ v ∷ []) refl f g in
    let e1 = tail _ _ _ _ e in
    same_point x y u v Target Target (head _ _ _ _ e) (head _ _ _ _ e1) refl
same_kind name (Pole q r) (Pole s t) _ _ numbers x y u v f g =
    let e = one_row numbers (x ∷ y ∷ q ∷ r ∷ []) (u ∷ v ∷ s ∷ t ∷ []) refl f g in
    let e1 = tail _ _ _ _ e in
    let e2 = tail _ _ _ _ e1 in
    let re = head _ _ _ _ e2 in
    let im = head _ _ _ _ (tail _ _ _ _ e2) in
    same_point x y u v (Pole q r) (Pole s t) (head _ _ _ _ e) (head _ _ _ _ e1) (λ i. Pole (re i) (im i))
same_kind name (Charge _) (Dipole _ _) m n numbers x y u v f g = absurd (apart name (codes "charge") (codes "dipole") m n (omega arith))
same_kind name (Charge _) (Vortex _) m n numbers x y u v f g = absurd (apart name (codes "charge") (codes "vortex") m n (omega arith))
same_kind name (Charge _) Target m n numbers x y u v f g = absurd (apart name (codes "charge") (codes "target") m n (omega arith))
same_kind name (Charge _) (Pole _ _) m n numbers x y u v f g = absurd (apart name (codes "charge") (codes "pole") m n (omega arith))
same_kind name (Dipole _ _) (Charge _) m n numbers x y u v f g = absurd (apart name (codes "dipole") (codes "charge") m n (omega arith))
same_kind name (Dipole _ _) (Vortex _) m n numbers x y u v f g = absurd (apart name (codes "dipole") (codes "vortex") m n (omega arith))
same_kind name (Dipole _ _) Target m n numbers x y u v f g = absurd (apart name (codes "dipole") (codes "target") m n (omega arith))
same_kind name (Dipole _ _) (Pole _ _) m n numbers x y u v f g = absurd (apart name (codes "dipole") (codes "pole") m n (omega arith))
same_kind name (Vortex _) (Charge _) m n numbers x y u v f g = absurd (apart name (codes "vortex") (codes "charge") m n (omega arith))
same_kind name (Vortex _) (Dipole _ _) m n numbers x y u v f g = absurd (apart name (codes "vortex") (codes "dipole") m n (omega arith))
same_kind name (Vortex _) Target m n numbers x y u v f g = absurd (apart name (codes "vortex") (codes "target") m n (omega arith))
same_kind name (Vortex _) (Pole _ _) m n numbers x y u v f g = absurd (apart name (codes "vortex") (codes "pole") m n (omega arith))
same_kind name Target (Charge _) m n numbers x y u v f g = absurd (apart name (codes "target") (codes "charge") m n (omega arith))
same_kind name Target (Dipole _ _) m n numbers x y u v f g = absurd (apart name (codes "target") (codes "dipole") m n (omega arith))
same_kind name Target (Vortex _) m n numbers x y u v f g = absurd (apart name (codes "target") (codes "vortex") m n (omega arith))
same_kind name Target (Pole _ _) m n numbers x y u v f g = absurd (apart name (codes "target") (codes "pole") m n (omega arith))
same_kind name (Pole _ _) (Charge _) m n numbers x y u v f g = absurd (apart name (codes "pole") (codes "charge") m n (omega arith))
same_kind name (Pole _ _) (Dipole _ _) m n numbers x y u v f g = absurd (apart name (codes "pole") (codes "dipole") m n (omega arith))
same_kind name (Pole _ _) (Vortex _) m n numbers x y u v f g = absurd (apart name (codes "pole") (codes "vortex") m n (omega arith))
same_kind name (Pole _ _) Target m n numbers x y u v f g = absurd (apart name (codes "pole") (codes "target") m n (omega arith))

pub one_form : (version : ℕ) (line : List ℕ) (p q : Point) → LineSpells version line p → LineSpells version line q → p ≡ q
one_form version line p q a b =
    let reads = reads_as version line _ _ q a.cut b in
    same_kind (name_of p.kind) p.kind q.kind refl reads.named a.numbers p.x p.y q.x q.y a.spelled reads.spelled

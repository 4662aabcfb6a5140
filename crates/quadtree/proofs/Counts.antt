-- How many points cells have.
use Rattle.std.proofs.Common.{ℕ, ◌≡◌, ◌<◌, ◌≤◌, suc, zero, Bool, true, false, cond, List, [], ◌∷◌, length, get_or, arith, refl, sym, ap, ◌∙◌, subst}
use Rattle.std.specs.Prelude.{count_by, Contains}
use Rattle.std.proofs.lemmas.List.Sums.{sum_by-cons}
use Rattle.points.specs.declared.Point.{Point}
use Rattle.cell_name.specs.Square.{Square, holds_test, parent}
use Rattle.cell_name.proofs.Cells.{Holds-parent}
use Rattle.cell_name.proofs.HoldsTest.{Holds-from_test, test-from_Holds}
use Rattle.quadtree.specs.Tree.{count_in}

-- a test that passes wherever another does counts at least as many
pub count_by-weaker : {A : Type 0} (p q : A → Bool) → ((x : A) → p x ≡ true → q x ≡ true) → (xs : List A) → count_by p xs ≤ count_by q xs
count_by-weaker p q h [] = omega arith
count_by-weaker p q h (x ∷ xs) = rw (sum_by-cons (λ y. cond (p y) 1 0) x xs, sum_by-cons (λ y. cond (q y) 1 0) x xs) (omega (arith, one_weaker (p x) (q x) (h x), count_by-weaker p q h xs))
  where
    one_weaker : (a b : Bool) → (a ≡ true → b ≡ true) → cond a 1 0 ≤ cond b 1 0
    one_weaker false b h = omega arith
    one_weaker true b h = let e : true ≡ b = sym (h refl) in let P : Bool → Type 0 = λ v. 1 ≤ cond v 1 0 in subst P e (omega arith)

-- a listed element that passes is counted
count_by-at : {A : Type 0} (p : A → Bool) (xs : List A) (k : ℕ) (x : A) → k < length xs → get_or xs k x ≡ x → p x ≡ true → 1 ≤ count_by p xs
count_by-at p [] k x h e t = absurd (omega arith)
count_by-at p (y ∷ xs) zero x h e t = let here : p y ≡ true = ap p e ∙ t in let one : cond {A = ℕ} (p y) 1 0 ≡ 1 = ap (λ (b : Bool). cond {A = ℕ} b 1 0) here in rw (sum_by-cons (λ z. cond (p z) 1 0) y xs) (omega arith)
count_by-at p (y ∷ xs) (suc k) x h e t = rw (sum_by-cons (λ z. cond (p z) 1 0) y xs) (omega (arith, count_by-at p xs k x (omega arith) e t))

pub count_by-listed : {A : Type 0} (p : A → Bool) (xs : List A) (x : A) → Contains xs x → p x ≡ true → 1 ≤ count_by p xs
count_by-listed p xs x h t = count_by-at p xs h.0 x h.1 h.2 t

-- a parent has at least as many points as its child
pub count_in-parent : (points : List Point) (c : Square) → 0 < c.level → c.level ≤ c.grid → count_in points c ≤ count_in points (parent c)
count_in-parent points c lo hi =
    count_by-weaker (λ p. holds_test c p.x p.y) (λ p. holds_test (parent c) p.x p.y)
    (λ p t. test-from_Holds (parent c) p.x p.y (Holds-parent c p.x p.y lo hi (Holds-from_test c p.x p.y t))) points

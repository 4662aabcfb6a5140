-- What a table holds at the place of an entry.
use mathlib.Core.Path.{◌≡◌, sym, ap, ap₂, subst, ◌∙◌}
use Prim.Native.Nat.{ℕ, ◌+◌, ◌-◌, ◌*◌, ◌/◌, ◌%◌, ◌^◌, ◌<◌}
use native.Mathlib.Omega.{arith}
use lib.IntN.{ℤ, pos}
use Rattle.std.proofs.Common.{List, length, get_or, take, drop}
use Rattle.std.proofs.lemmas.List.{get_or-take, get_or-drop, length-take-le, length-drop}
use Rattle.exact_math.specs.Ends.{BoxEnds, scale_box, quot_box}
use Rattle.exact_math.specs.Binomials.{choose}
use Rattle.exact_math.specs.Gaussian.{Gaussian}
use Rattle.exact_math.specs.Orders.{IsOrder}
use Rattle.exact_math.proofs.Orders.{order_bounds}
use Rattle.complex_box.specs.Box.{box_ends}
use Rattle.complex_box.specs.declared.CBox.{CBox}
use Rattle.kernel_table.specs.Kernel.{kernel_power, kernel_entry, alternate_box, IsKernelColumn}
use Rattle.kernel_table.specs.Table.{distance_at, IsKernelTable}
use Rattle.kernel_table.proofs.Places.{Place, place, place-next, place-below, column-below}

-- the entry that a place names
pub entry-at : (P n k l i : ℕ) → Place P n k l i → kernel_entry (distance_at (i / P / P)) (i % P) (i / P % P) ≡ kernel_entry (distance_at n) k l
entry-at P n k l i at =
    ap (λ m. kernel_entry (distance_at m) (i % P) (i / P % P)) at.distance
    ∙ ap (λ m. kernel_entry (distance_at n) m (i / P % P)) at.row
    ∙ ap (λ m. kernel_entry (distance_at n) k m) at.column

pub found : (P n k l : ℕ) (table : List CBox) (e : Gaussian) → IsKernelTable P table → length table ≡ 40 * (P * P) → n < 40 → distance_at n ≡ e → k < P → l < P
    → (other : CBox) → box_ends (get_or table ((n * P + l) * P + k) other) ≡ kernel_entry e k l
found P n k l table e holds len n<40 is k<P l<P other =
    holds ((n * P + l) * P + k) other (let b = place-below P n k l n<40 k<P l<P in omega (arith, b, len))
    ∙ entry-at P n k l _ (place P n k l k<P l<P) ∙ ap (λ d. kernel_entry d k l) is

-- the entries of one l stand side by side
pub found_column : (P n l : ℕ) (table xs : List CBox) (e : Gaussian) → IsKernelTable P table → length table ≡ 40 * (P * P) → n < 40 → distance_at n ≡ e → l < P → xs ≡ table
    → IsKernelColumn P e l (take ((n * P + l) * P + P - (n * P + l) * P) (drop ((n * P + l) * P) xs))
found_column P n l table xs e holds len n<40 is l<P same =
    let start = (n * P + l) * P in
    let count : start + P - start ≡ P = omega arith in
    subst (λ ys. IsKernelColumn P e l (take (start + P - start) (drop start ys))) (sym same)
    (subst (λ m. IsKernelColumn P e l (take m (drop start table))) (sym count)
    (record {
      whole = length-take-le P (drop start table) (let d = length-drop start table in let b = column-below P n l n<40 l<P in omega (arith, d, b, len));
      entries = λ k other k<P. ap box_ends (get_or-take P (drop start table) k other k<P ∙ get_or-drop start table k other) ∙ found P n k l table e holds len n<40 is k<P l<P other;
    }))

-- an entry from a power and a binomial
pub entry-from : (e : Gaussian) (k l : ℕ) (power : BoxEnds) (ways : ℤ) → power ≡ kernel_power e (k + l) → ways ≡ pos (choose (k + l) k)
    → alternate_box l (quot_box (scale_box power ways) (pos (2 ^ (k + l + 20)))) ≡ kernel_entry e k l
unfolding kernel_entry
entry-from e k l power ways p w = ap₂ (λ b n. alternate_box l (quot_box (scale_box b n) (pos (2 ^ (k + l + 20))))) p w

-- the next entry of the distance n, where those of the distances before it stand already
pub next_entry : (P n i j : ℕ) → IsOrder P → i < P * P → j ≡ n * (P * P) + i → {b : BoxEnds} → b ≡ kernel_entry (distance_at n) (i % P) (i / P)
    → b ≡ kernel_entry (distance_at (j / P / P)) (j % P) (j / P % P)
next_entry P n i j order h is e =
    let o = order_bounds P order in
    e ∙ sym (entry-at P n (i % P) (i / P) _ (place-next P n i (omega (arith, o.0)) h)) ∙ ap (λ m. kernel_entry (distance_at (m / P / P)) (m % P) (m / P % P)) (sym is)

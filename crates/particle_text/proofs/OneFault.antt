-- A text has one first fault, and a text that spells a list has none.
use Rattle.std.proofs.Common.{◌≡◌, ◌+◌, ◌<◌, ℕ, List, [], ◌∷◌, ◌++◌, length, sym, ap, ◌∙◌, subst, refl, inl, inr, arith}
use Rattle.std.proofs.lemmas.List.{append-nil}
use Rattle.points.specs.declared.Point.{Point}
use Rattle.points.specs.declared.Points.{Points}
use Rattle.particle_text.specs.declared.TextKind.{TextKind}
use Rattle.particle_text.specs.declared.TextKind.TheVariants.{Syntax, Range, Mixed, Many, Strength}
use Rattle.particle_text.specs.Faults.{FaultsAfter, FirstFault, HasNoHead, IsFirstKind, rank}
use Rattle.points.specs.Limits.{WithinLimits}
use Rattle.particle_text.specs.Text.{AreLines, Spells}
use Rattle.particle_text.proofs.Heads.{SameHead}
use Rattle.particle_text.proofs.OneText.{FaultOf, GoesOn, fronts, behind, no_fault_inside, same_points}

-- a text with a good front has a head line
has_head : (bytes good rest : List ℕ) (before : Points) → bytes ≡ good ++ rest → Spells good before → HasNoHead bytes → ⊥
has_head bytes good rest before parts spells none =
    none before.version before.mode (spells.lines ++ rest) spells.limits.version (behind bytes good rest spells.lines before parts spells.head)

-- the other reading of a text with a fault does not go on behind the fault
stops : (rest other : List ℕ) (before after : Points) (kind : TextKind) → SameHead before.version after.version before.mode after.mode → GoesOn after.version rest other before.list after.list → WithinLimits after → FaultOf before rest kind
    → (after.list ≡ before.list) × (rest ≡ other)
stops rest other before after kind heads on limits fault = go on.tail refl
  where
    moved : FaultOf (record after { list = before.list }) rest kind
    moved = subst (λ v. FaultOf (record { version = v; mode = after.mode; list = before.list }) rest kind) heads.versions
        (subst (λ m. FaultOf (record { version = before.version; mode = m; list = before.list }) rest kind) heads.modes fault)

    go : (tail : List Point) → on.tail ≡ tail → (after.list ≡ before.list) × (rest ≡ other)
    go [] shape =
        let lines : on.lines ≡ [] = subst (AreLines after.version on.lines) shape on.spelled in
        (on.points ∙ ap (λ ps. before.list ++ ps) shape ∙ append-nil before.list, on.bytes ∙ ap (λ front. front ++ other) lines)
    go (p ∷ tail) shape = absurd (no_fault_inside rest other before.list after on p tail shape limits kind moved)

pub never_both : (bytes : List ℕ) (points : Points) (line : ℕ) (kind : TextKind) → Spells bytes points → FirstFault bytes line kind → ⊥
never_both bytes points line kind spells (inl head) = has_head bytes bytes [] points (sym (append-nil bytes)) spells head.2
never_both bytes points line kind spells (inr later) =
    let fault = later.2 in
    let before = later.0 in
    let two = fronts bytes fault.good fault.rest bytes [] before points fault.parts fault.spelled (sym (append-nil bytes)) spells in
    elim two.either [
      | inl on ↦ fault.more (stops fault.rest [] before points kind two.heads on spells.limits fault.fault.here).1
      | inr on ↦ fault.more (empty on.lines fault.rest on.bytes)
    ]
  where
    empty : (lines rest : List ℕ) → [] ≡ lines ++ rest → rest ≡ []
    empty [] rest e = sym e
    empty (b ∷ lines) rest e = absurd (cc)

-- the first kind that holds is one
same_rank : (a b : TextKind) → rank a ≡ rank b → a ≡ b
same_rank Syntax Syntax e = refl
same_rank Range Range e = refl
same_rank Mixed Mixed e = refl
same_rank Many Many e = refl
same_rank Strength Strength e = refl
same_rank Syntax Range e = absurd (omega (arith, e))
same_rank Syntax Mixed e = absurd (omega (arith, e))
same_rank Syntax Many e = absurd (omega (arith, e))
same_rank Syntax Strength e = absurd (omega (arith, e))
same_rank Range Syntax e = absurd (omega (arith, e))
same_rank Range Mixed e = absurd (omega (arith, e))
same_rank Range Many e = absurd (omega (arith, e))
same_rank Range Strength e = absurd (omega (arith, e))
same_rank Mixed Syntax e = absurd (omega (arith, e))
same_rank Mixed Range e = absurd (omega (arith, e))
same_rank Mixed Many e = absurd (omega (arith, e))
same_rank Mixed Strength e = absurd (omega (arith, e))
same_rank Many Syntax e = absurd (omega (arith, e))
same_rank Many Range e = absurd (omega (arith, e))
same_rank Many Mixed e = absurd (omega (arith, e))
same_rank Many Strength e = absurd (omega (arith, e))
same_rank Strength Syntax e = absurd (omega (arith, e))
same_rank Strength Range e = absurd (omega (arith, e))
same_rank Strength Mixed e = absurd (omega (arith, e))
same_rank Strength Many e = absurd (omega (arith, e))

pub one_first : (holds : TextKind → Type 0) (a b : TextKind) → IsFirstKind holds a → IsFirstKind holds b → a ≡ b
one_first holds a b first second =
    let below : rank a < rank b → ⊥ = λ lower. second.earlier a lower first.here in
    let above : rank b < rank a → ⊥ = λ lower. first.earlier b lower second.here in
    same_rank a b (omega (arith, below, above))

pub record OneFault (line other : ℕ) (a b : TextKind) : Type 0 where
  pub lines : line ≡ other
  pub kinds : a ≡ b

-- two good fronts with a fault behind each are the same
same_front : (bytes : List ℕ) (before after : Points) (a b : TextKind) (first : FaultsAfter bytes before a) (second : FaultsAfter bytes after b) → before ≡ after → first.rest ≡ second.rest
    → OneFault (length before.list + 2) (length after.list + 2) a b
same_front bytes before after a b first second points rests = record {
  lines = ap (λ (ps : Points). length ps.list + 2) points;
  kinds = one_first _ a b (moved first.fault) second.fault;
}
  where
    moved : IsFirstKind (FaultOf before first.rest) a → IsFirstKind (FaultOf after second.rest) a
    moved fault = subst (λ ps. IsFirstKind (FaultOf ps second.rest) a) points (subst (λ r. IsFirstKind (FaultOf before r) a) rests fault)

pub one_fault : (bytes : List ℕ) (line other : ℕ) (a b : TextKind) → FirstFault bytes line a → FirstFault bytes other b → OneFault line other a b
one_fault bytes line other a b (inl head) (inl top) = record { lines = head.0 ∙ sym top.0; kinds = head.1 ∙ sym top.1 }
one_fault bytes line other a b (inl head) (inr later) = absurd (has_head bytes later.2.good later.2.rest later.0 later.2.parts later.2.spelled head.2)
one_fault bytes line other a b (inr later) (inl head) = absurd (has_head bytes later.2.good later.2.rest later.0 later.2.parts later.2.spelled head.2)
one_fault bytes line other a b (inr first) (inr second) =
    let before = first.0 in
    let after = second.0 in
    let two = fronts bytes first.2.good first.2.rest second.2.good second.2.rest before after first.2.parts first.2.spelled second.2.parts second.2.spelled in
    let back : SameHead after.version before.version after.mode before.mode = record { versions = sym two.heads.versions; modes = sym two.heads.modes } in
    let one : OneFault (length before.list + 2) (length after.list + 2) a b = elim two.either [
      | inl on ↦
          let same = stops first.2.rest second.2.rest before after a two.heads on second.2.spelled.limits first.2.fault.here in
          same_front bytes before after a b first.2 second.2 (same_points before after two.heads (sym same.0)) same.1
      | inr on ↦
          let same = stops second.2.rest first.2.rest after before b back on first.2.spelled.limits second.2.fault.here in
          same_front bytes before after a b first.2 second.2 (same_points before after two.heads same.0) (sym same.1)
    ] in
    record { lines = first.1 ∙ one.lines ∙ sym second.1; kinds = one.kinds }

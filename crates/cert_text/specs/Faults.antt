-- Which line of some bytes is the first at fault, and how. On one line syntax comes before range.
use Rattle.std.specs.Prelude.{ℕ, ◌+◌, ◌≡◌, ◌≢◌, ◌<◌, ◌⊎◌, ℤ, List, [], ◌++◌, length, flat_map, Result, Ok, Err}
use Rattle.limits.specs.Limits.{IsVersion, grid_of}
use Rattle.points.specs.Limits.{IsOrderOf}
use Rattle.cert_text.specs.declared.fault.CertKind.{CertKind}
use Rattle.cert_text.specs.declared.fault.CertKind.TheVariants.{Syntax, Range}
use Rattle.cert_text.specs.declared.fault.CertFault.{CertFault}
use Rattle.cert_text.specs.declared.fault.CertFault.TheVariants.{Text, Memory}
use Rattle.cert_text.specs.Lines.{Line, Head, line_bytes, first_line, cert_head_line}
use Rattle.cert_text.specs.Sections.{IsHead, IsFormOf, AreInRange, AreCounts, AreLinesFrom, place_of, line_count}
use Rattle.cert_text.specs.Certificate.{Certificate, SpellsCert}

-- the bytes begin with a line, and the rest follows
abbrev pub BeginWith : List ℕ → Line → List ℕ → Type 0
BeginWith bytes l rest = bytes ≡ line_bytes l ++ rest

-- line 1 of this version and order, with four counts of any size
pub record BeginWithHead (bytes : List ℕ) (version order : ℕ) (counts : List ℤ) : Type 0 where
  pub version_is : IsVersion version
  pub order_is : IsOrderOf (grid_of version) order
  pub four : length counts ≡ 4
  pub rest : List ℕ
  pub begin : BeginWith bytes (first_line version order counts) rest

-- what can be wrong with line 1: it is of no form, or a count is out of range
abbrev pub HeadFault : List ℕ → CertKind → Type 0
HeadFault bytes Syntax = (version order : ℕ) (counts : List ℤ) → BeginWithHead bytes version order counts → ⊥
HeadFault bytes Range = (version order : ℕ) × (counts : List ℤ) × BeginWithHead bytes version order counts × (AreCounts (grid_of version) counts → ⊥)

-- What can be wrong with the k-th line behind line 1, counted from 0, that the bytes begin with. Of a line behind the last one, or of one that isn't there, no form is right.
abbrev pub CertLineFault : Head → ℕ → List ℕ → CertKind → Type 0
CertLineFault h k bytes Syntax = (l : Line) (rest : List ℕ) → k < line_count h → IsFormOf h (place_of h k).section l → BeginWith bytes l rest → ⊥
CertLineFault h k bytes Range = (l : Line) × (rest : List ℕ) × (k < line_count h) × IsFormOf h (place_of h k).section l × BeginWith bytes l rest
    × (AreInRange h (place_of h k).section (place_of h k).number l.numbers → ⊥)

-- Line 1 and the lines `good` behind it are right, and the next one, which is due or there, has this fault.
pub record CertFaultsAfter (bytes : List ℕ) (h : Head) (good : List Line) (kind : CertKind) : Type 0 where
  pub rest : List ℕ
  pub head_is : IsHead h
  pub lines_are : AreLinesFrom h 0 good
  pub text : bytes ≡ line_bytes (cert_head_line h) ++ (flat_map line_bytes good ++ rest)
  pub more : (length good < line_count h) ⊎ ((length good ≡ line_count h) × (rest ≢ []))
  pub fault : CertLineFault h (length good) rest kind

-- this line, counted from 1, is the first at fault, and of this kind
abbrev pub FirstCertFault : List ℕ → ℕ → CertKind → Type 0
FirstCertFault bytes number kind =
    ((number ≡ 1) × HeadFault bytes kind)
    ⊎ ((h : Head) × (good : List Line) × (number ≡ length good + 2) × CertFaultsAfter bytes h good kind)

-- What a reader of the bytes answers: the certificate that they spell, or their first fault. Want of memory may stand in place of either.
abbrev pub ReadsCert : List ℕ → Result Certificate CertFault → Type 0
ReadsCert bytes (Ok c) = SpellsCert bytes c
ReadsCert bytes (Err (Text number kind)) = FirstCertFault bytes number kind
ReadsCert bytes (Err Memory) = Unit {0}

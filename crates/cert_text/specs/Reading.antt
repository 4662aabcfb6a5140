-- How far the reading of a certificate has come.
use Rattle.std.specs.Prelude.{ℕ, ◌+◌, ◌≡◌, ◌<◌, ◌≤◌, List, ◌++◌, length, flat_map}
use Rattle.cert_text.specs.declared.fault.CertFault.{CertFault}
use Rattle.cert_text.specs.declared.fault.CertFault.TheVariants.{Text, Memory}
use Rattle.cert_text.specs.declared.section.Section.{Section}
use Rattle.cert_text.specs.declared.section.Section.TheVariants.{Node, At, Multipole, Entry, Local, Target, End}
use Rattle.cert_text.specs.Lines.{Head, line_bytes, cert_head_line}
use Rattle.cert_text.specs.Sections.{IsHead, AreLinesFrom}
use Rattle.cert_text.specs.Certificate.{Certificate, lines_of}
use Rattle.cert_text.specs.Faults.{FirstCertFault}
use Rattle.cert_text.specs.Storage.{lines_in}

-- the place of a section among all
abbrev pub section_rank : Section → ℕ
section_rank Node = 0
section_rank At = 1
section_rank Multipole = 2
section_rank Entry = 3
section_rank Local = 4
section_rank Target = 5
section_rank End = 6

-- the section behind it
abbrev pub next : Section → Section
next Node = At
next At = Multipole
next Multipole = Entry
next Entry = Local
next Local = Target
next Target = End
next End = End

-- While the section of the rank `reading` is read, one at `place` has so many lines of those that are due: all of them before, and none behind.
pub record Fills (reading place lines due : ℕ) : Type 0 where
  pub full : place < reading → lines ≡ due
  pub none : reading < place → lines ≡ 0
  pub most : lines ≤ due

pub record IsDue (h : Head) (section : Section) (c : Certificate) : Type 0 where
  pub nodes : Fills (section_rank section) 0 (length c.nodes) h.cells
  pub ats : Fills (section_rank section) 1 (length c.ats) h.points
  pub multipoles : Fills (section_rank section) 2 (length c.multipoles) h.cells
  pub entries : Fills (section_rank section) 3 (length c.entries) h.entries
  pub locals : Fills (section_rank section) 4 (length c.locals) h.cells
  pub targets : Fills (section_rank section) 5 (length c.targets) h.targets

-- Line 1 and the lines so far are right, a line of this section is due next, and it has this number, counted from 1.
pub record IsReading (h : Head) (section : Section) (line : ℕ) (c : Certificate) : Type 0 where
  pub head_is : c.head ≡ h
  pub right : IsHead h
  pub due : IsDue h section c
  pub line_is : line ≡ length (lines_of c) + 2
  pub lines_are : AreLinesFrom h 0 (lines_of c)

-- and nothing of the section stands yet
pub record IsStarting (h : Head) (section : Section) (line : ℕ) (c : Certificate) : Type 0 where
  pub reading : IsReading h section line c
  pub none : length (lines_in section c) ≡ 0

-- the bytes begin with line 1 and the lines so far, and the rest follows
abbrev pub AreRead : List ℕ → Certificate → List ℕ → Type 0
AreRead bytes c rest = bytes ≡ line_bytes (cert_head_line c.head) ++ (flat_map line_bytes (lines_of c) ++ rest)

-- it is the first fault of the bytes, or want of memory
abbrev pub IsFault : List ℕ → CertFault → Type 0
IsFault bytes (Text number kind) = FirstCertFault bytes number kind
IsFault bytes Memory = Unit {0}

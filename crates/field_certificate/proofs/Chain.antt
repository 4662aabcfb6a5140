-- The pieces of a certificate one behind the other: all of some, and a part of the next.
use Rattle.std.proofs.Common.{ℕ, ◌≡◌, List, [], ◌∷◌, ◌++◌, length, sym}
use Rattle.std.proofs.KnownBytes.{Appends-trans}
use Rattle.std.specs.Io.KnownBytes.{Appends}
use Rattle.std.specs.Prelude.{Result}
use Rattle.std.specs.declared.option.Option.{Option}
use Rattle.cert_text.specs.Certificate.{certificate_text, end_line}
use Rattle.cert_text.specs.Lines.{cert_head_line, line_bytes}
use Rattle.field_certificate.proofs.Written.{certificate-is, first_text, written_text}
use Rattle.field_certificate.specs.FieldCertificate.{field_certificate}
use Rattle.field_certificate.specs.ProgramLines.{at_text, box_text, entries_of, entries_text, local_text, multipole_text, node_text, texts}
use Rattle.field_report.proofs.Pieces.{AppendsPrefix-front, AppendsPrefix-then, Writes-then}
use Rattle.field_solve.specs.Field.{IsSolved}
use Rattle.field_solve.specs.Parts.{FieldParts}
use Rattle.io_ports.specs.Bytes.{AppendsPrefix, Writes}
use Rattle.limits.proofs.Grids.{grid_positive}
use Rattle.limits.specs.Limits.{grid_of}
use Rattle.points.specs.Limits.{WithinLimits}
use Rattle.points.specs.declared.Points.{Points}
use Rattle.quadtree.proofs.Limits.{in_grid}
use Rattle.quadtree.specs.TreeModel.{size}
use Rattle.tree_field.specs.Lists.{TreeLists, AreTreeLists}

-- some pieces behind a first one
abbrev behind : List ℕ → List (List ℕ) → List ℕ
behind x [] = x
behind x (y ∷ ys) = behind (x ++ y) ys

part_of_all : (h k : Option (List ℕ)) (x : List ℕ) (ys : List (List ℕ)) → AppendsPrefix h k x → AppendsPrefix h k (behind x ys)
part_of_all h k x [] p = p
part_of_all h k x (y ∷ ys) p = part_of_all h k (x ++ y) ys (AppendsPrefix-front h k x y p)

-- all of the front, a part of the next piece, and nothing of the others
stops : (h m k : Option (List ℕ)) (front piece : List ℕ) (others : List (List ℕ)) → Appends h m front → AppendsPrefix m k piece → AppendsPrefix h k (behind (front ++ piece) others)
stops h m k front piece others p q = part_of_all h k (front ++ piece) others (AppendsPrefix-then h m k front piece p q)

module _ (points : Points) (P : ℕ) (f : FieldParts) where
  abbrev first : List ℕ
  first = first_text points P f

  abbrev nodes : List ℕ
  nodes = texts (node_text f.basis.tree) (size f.basis.tree)

  abbrev ats : List ℕ
  ats = texts (at_text f.basis.tree) (length points.list)

  abbrev multipoles : List ℕ
  multipoles = texts (multipole_text P f) (size f.basis.tree)

  abbrev entries : List ℕ
  entries = texts (entries_text f.basis.lists) (size f.basis.tree)

  abbrev locals : List ℕ
  locals = texts (local_text P f) (size f.basis.tree)

  abbrev targets : List ℕ
  targets = texts (box_text f.values) (length f.values)

  abbrev last : List ℕ
  last = line_bytes end_line

  -- line 1 by what the field says
  pub first_written : (p t c e : ℕ) → p ≡ length points.list → t ≡ length f.values → c ≡ size f.basis.tree → e ≡ entries_of f.basis.lists
      → line_bytes (cert_head_line (record { version = points.version; order = P; points = p; targets = t; cells = c; entries = e })) ≡ first
  first_written p t c e hp ht hc he = λ i. line_bytes (cert_head_line (record { version = points.version; order = P; points = hp i; targets = ht i; cells = hc i; entries = he i }))

  -- where the writing stopped
  module _ (h0 h1 : Option (List ℕ)) where
    pub stops_first : AppendsPrefix h0 h1 first → AppendsPrefix h0 h1 (written_text points P f)
    stops_first p = part_of_all h0 h1 first (nodes ∷ ats ∷ multipoles ∷ entries ∷ locals ∷ targets ∷ last ∷ []) p

    module _ (a0 : Appends h0 h1 first) (h2 : Option (List ℕ)) where
      pub stops_nodes : AppendsPrefix h1 h2 nodes → AppendsPrefix h0 h2 (written_text points P f)
      stops_nodes p = stops h0 h1 h2 first nodes (ats ∷ multipoles ∷ entries ∷ locals ∷ targets ∷ last ∷ []) a0 p

      module _ (a1 : Appends h1 h2 nodes) (h3 : Option (List ℕ)) where
        done1 : Appends h0 h2 (first ++ nodes)
        done1 = Appends-trans h0 h1 h2 first nodes a0 a1

        pub stops_ats : AppendsPrefix h2 h3 ats → AppendsPrefix h0 h3 (written_text points P f)
        stops_ats p = stops h0 h2 h3 (first ++ nodes) ats (multipoles ∷ entries ∷ locals ∷ targets ∷ last ∷ []) done1 p

        module _ (a2 : Appends h2 h3 ats) (h4 : Option (List ℕ)) where
          done2 : Appends h0 h3 ((first ++ nodes) ++ ats)
          done2 = Appends-trans h0 h2 h3 (first ++ nodes) ats done1 a2

          pub stops_multipoles : AppendsPrefix h3 h4 multipoles → AppendsPrefix h0 h4 (written_text points P f)
          stops_multipoles p = stops h0 h3 h4 ((first ++ nodes) ++ ats) multipoles (entries ∷ locals ∷ targets ∷ last ∷ []) done2 p

          module _ (a3 : Appends h3 h4 multipoles) (h5 : Option (List ℕ)) where
            done3 : Appends h0 h4 (((first ++ nodes) ++ ats) ++ multipoles)
            done3 = Appends-trans h0 h3 h4 ((first ++ nodes) ++ ats) multipoles done2 a3

            pub stops_entries : AppendsPrefix h4 h5 entries → AppendsPrefix h0 h5 (written_text points P f)
            stops_entries p = stops h0 h4 h5 (((first ++ nodes) ++ ats) ++ multipoles) entries (locals ∷ targets ∷ last ∷ []) done3 p

            module _ (a4 : Appends h4 h5 entries) (h6 : Option (List ℕ)) where
              done4 : Appends h0 h5 ((((first ++ nodes) ++ ats) ++ multipoles) ++ entries)
              done4 = Appends-trans h0 h4 h5 (((first ++ nodes) ++ ats) ++ multipoles) entries done3 a4

              pub stops_locals : AppendsPrefix h5 h6 locals → AppendsPrefix h0 h6 (written_text points P f)
              stops_locals p = stops h0 h5 h6 ((((first ++ nodes) ++ ats) ++ multipoles) ++ entries) locals (targets ∷ last ∷ []) done4 p

              module _ (a5 : Appends h5 h6 locals) (h7 : Option (List ℕ)) where
                done5 : Appends h0 h6 (((((first ++ nodes) ++ ats) ++ multipoles) ++ entries) ++ locals)
                done5 = Appends-trans h0 h5 h6 ((((first ++ nodes) ++ ats) ++ multipoles) ++ entries) locals done4 a5

                pub stops_targets : AppendsPrefix h6 h7 targets → AppendsPrefix h0 h7 (written_text points P f)
                stops_targets p = stops h0 h6 h7 (((((first ++ nodes) ++ ats) ++ multipoles) ++ entries) ++ locals) targets (last ∷ []) done5 p

                pub ends : Appends h6 h7 targets → {T E : Type 0} (result : Result T E) (h8 : Option (List ℕ)) → Writes result h7 h8 last → Writes result h0 h8 (written_text points P f)
                ends a6 result h8 w =
                    let front = ((((((first ++ nodes) ++ ats) ++ multipoles) ++ entries) ++ locals) ++ targets) in
                    Writes-then result h0 h7 h8 front last (Appends-trans h0 h6 h7 (((((first ++ nodes) ++ ats) ++ multipoles) ++ entries) ++ locals) targets done5 a6) w

-- what is written is the certificate over the lists of the tree
pub is_certificate : (points : Points) (cap P : ℕ) (f : FieldParts) → WithinLimits points → IsSolved points.list cap P f → f.basis.tree.grid ≡ grid_of points.version
    → (lists : TreeLists) → AreTreeLists (grid_of points.version) points.list cap lists → written_text points P f ≡ certificate_text (field_certificate points cap P lists)
is_certificate points cap P f limits solved grid lists are =
    sym (certificate-is points cap P f lists (grid_positive f.basis.tree.grid solved.is_tree.known_grid) (in_grid (grid_of points.version) points.list limits.within.range) solved grid are)

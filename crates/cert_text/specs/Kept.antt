-- The certificate that is kept.
use Rattle.std.specs.Prelude.{map}
use Rattle.cert_text.specs.declared.stored.Stored.TheInside.{Inside}
use Rattle.cert_text.specs.Certificate.{Certificate}
use Rattle.cert_text.specs.Inside.{head_of, kept_node, kept_at, kept_multipole, kept_entry, kept_local, kept_target}
use Rattle.cert_text.specs.Storage.{IsStored}

abbrev pub seen : Inside → Certificate
seen s =
    record {
      head = head_of s.header;
      nodes = map kept_node s.nodes.items;
      ats = map kept_at s.ats.items;
      multipoles = map kept_multipole s.multipoles;
      entries = map kept_entry s.entries.items;
      locals = map kept_local s.locals;
      targets = map kept_target s.targets;
    }

abbrev pub is_kept : Inside → Type 0
is_kept s = IsStored (seen s)

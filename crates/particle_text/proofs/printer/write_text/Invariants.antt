use Rattle.std.proofs.Common.{◌≡◌, take, string_bytes}
use Rattle.particle_text.specs.Text.{text_of}
use Rattle.particle_text.proofs.printer.write_text.Given as goal

abbrev pub invariant-loop-p : goal.invariant-loop-p
invariant-loop-p l = string_bytes l.text ≡ text_of (record { version = l.fn.points.version; mode = l.fn.points.mode; list = take l.p-index l.fn.points.list })

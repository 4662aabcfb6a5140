use Rattle.std.proofs.Common.{◌≡◌, ◌+◌, ◌-◌, ◌++◌, length}
use Rattle.line_text.specs.Decimals.{digits_in}
use Rattle.line_text.proofs.front.FrontText.prepend_places.Given as goal

abbrev pub invariant-loop-place : goal.invariant-loop-place
invariant-loop-place g l = record {
  text : digits_in 12 l.n ++ l.initial.self ≡ digits_in (12 - l.place) l.rest ++ l.self;
  size : length l.self ≡ l.place + length l.initial.self;
}

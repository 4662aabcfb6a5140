use Rattle.std.proofs.Common.{◌≤◌, length, arith, sym, refl}
use Rattle.cert_text.specs.Lines.{line}
use Rattle.cert_text.proofs.Forms.{word_line, first_places, so_many, no_word, no_numbers}
use Rattle.cert_text.proofs.form.read_word.Goals as goal

pub returns-in_err-behind-clause-none : goal.returns-in_err-behind-clause-none
returns-in_err-behind-clause-none c = rw c.from_residual.ensures (no_word c.args.word.now c.args.text.now c.args.count c.in_err-behind.ensures.none)

pub returns-in_err-rest-clause-none : goal.returns-in_err-rest-clause-none
returns-in_err-rest-clause-none c =
    let few : c.args.count ≤ length c.args.numbers.now = omega (arith, c.told-numbers) in
    rw c.from_residual-in_err-rest.ensures (no_numbers c.args.word.now c.args.text.now c.in_ok-behind.behind.now c.args.count c.args.numbers.now c.in_ok-behind.ensures.some few c.in_err-rest.ensures.none)

pub returns-clause-some : goal.returns-clause-some
returns-clause-some c =
    let read = c.in_ok-rest.ensures.some in
    let few : c.args.count ≤ length c.args.numbers.now = omega (arith, c.told-numbers) in
    record {
      line = line c.args.word.now read.0;
      form = record { word_is = refl; count_is = so_many c.args.count c.args.numbers.now read.0 few read.1 };
      begin = word_line c.args.word.now c.args.text.now c.in_ok-behind.behind.now c.in_ok-rest.rest.now read.0 c.in_ok-behind.ensures.some read.2;
      word_is = refl;
      count_is = sym (so_many c.args.count c.args.numbers.now read.0 few read.1);
      numbers_are = first_places c.args.count c.args.numbers.now c.read_numbers.new.numbers _ read.0 few read.1 read.3;
    }

-- A 0 stands alone, and other digits are counted up to four of them.
use Rattle.std.proofs.Common.{rules, tests, ◌≡◌, ◌∙◌, sym, ℕ, List, take, arith}
use Rattle.std.proofs.lemmas.Iterator.{YieldsList-from_slice, YieldsList-from_take}
use Rattle.std.proofs.lemmas.Iterator.Consumers.{count_from_yields_List}
use Rattle.std.proofs.lemmas.Iterator.Search.{YieldsList-from_take_while}
use Rattle.std.proofs.lemmas.List.Folds.{length-prefix_len}
use Rattle.std.proofs.lemmas.Bool.{cond-false}
use Rattle.std.specs.Char.{is_ascii_digit}
use Rattle.text.specs.Pieces.{run}
use Rattle.text.proofs.Pieces.{no_zero, prefix_len-digits}
use Rattle.text.proofs.Numbers.{runs}
use Rattle.text.proofs.count_digits.Goals as goal

pub returns : goal.returns
returns c =
    let text : List ℕ = c.args.text.now in
    let count : c.count.result ≡ run 4 text =
    count_from_yields_List c.take_while.result _ c.count.ensures.ran
    (YieldsList-from_take_while _ is_ascii_digit (YieldsList-from_take 4 (YieldsList-from_slice text cc) cc)
    c.take_while.ensures.closure c.take_while.ensures.done (λ x b q k. search (rules, tests)))
    ∙ (length-prefix_len is_ascii_digit (take 4 text) ∙ prefix_len-digits 4 text) in
    let counted = runs 4 text in
    record {
      value = count ∙ sym (cond-false _ _ _ (no_zero text (sym c.if-starts_with.ensures.value)));
      within = (omega arith, omega arith);
      digits = rw count counted.digits;
    }

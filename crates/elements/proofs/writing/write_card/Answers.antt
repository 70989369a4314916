-- Each need is a step of the writing, or what the card comes to.
use Rattle.std.proofs.Common.{◌≡◌, ◌≤◌, sym, ◌∙◌, arith, rules}
use Rattle.std.proofs.lemmas.List.{get_or-set_same, length-set}
use Rattle.elements.proofs.WrittenRecords.{all_written, some_left, writing_goes_on, writing_starts}
use Rattle.elements.proofs.ReadBack.{written_cards_read_back}
use Rattle.elements.proofs.writing.write_card.Goals as goal

pub returns-then-card-from : goal.returns-then-card-from
returns-then-card-from c = record { answers = search rules; card = search rules; reads_back = written_cards_read_back }

pub loop-index-init : goal.loop-index-init
loop-index-init c =
    let card = c.args.card.now in
    let size = c.size-size.result in
    writing_starts c.args.element.now _ size c.size-size.ensures (get_or-set_same card 0 size 0 (omega arith)) (length-set card 0 size ∙ omega arith)

pub write_record-requires : goal.write_record-requires
write_record-requires c =
    let some : 1 ≤ c.loop-index.number =
    some_left _ c.loop-index.invariant c.loop-index-test.true c.loop-index.auto.index (sym c.if-holds.ensures) in
    search rules

pub overflow_sub-number : goal.overflow_sub-number
overflow_sub-number c = some_left _ c.loop-index.invariant c.loop-index-test.true c.loop-index.auto.index (sym c.if-holds.ensures)

pub loop-index-preserved-then-holds : goal.loop-index-preserved-then-holds
loop-index-preserved-then-holds c =
    let written = c.write_record.ensures in
    writing_goes_on _ c.loop-index.invariant c.loop-index-test.true c.loop-index.auto.index (sym c.if-holds.ensures)
    _ c.write_record.auto.card written.offset written.next written.others

pub returns : goal.returns
returns c =
    let end : c.loop-index.index ≡ 0 = omega arith in
    record { answers = search rules; card = all_written (rw end at c.loop-index.invariant); reads_back = written_cards_read_back }

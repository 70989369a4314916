-- The records of the offsets from the index on are written.
use Rattle.elements.proofs.WrittenRecords.{Writing, offsets_from}
use Rattle.elements.proofs.writing.write_card.Given as goal

abbrev pub invariant-loop-index : goal.invariant-loop-index
invariant-loop-index l = Writing l.element l.card l.number l.next (offsets_from l.element l.index)

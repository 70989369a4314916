-- The reading has come to this record; each turn sets another of the 49 flags.
use Rattle.std.proofs.Common.{◌-◌}
use Rattle.elements.specs.Offsets.{count}
use Rattle.elements.proofs.CardReadings.{CardReading}
use Rattle.elements.proofs.cards.read_card.Given as goal

abbrev pub invariant-loop-next : goal.invariant-loop-next
invariant-loop-next l = CardReading l.card l.number l.flags

abbrev pub decreases-loop-next : goal.decreases-loop-next
decreases-loop-next l = 49 - count l.flags

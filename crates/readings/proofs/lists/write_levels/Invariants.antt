-- The levels before the index are those of the readings before it.
use Rattle.std.proofs.Common.{map, take}
use Rattle.readings.specs.Lists.{ReadsAll, heat_height}
use Rattle.readings.proofs.lists.write_levels.Given as goal

abbrev pub invariant-loop-index : goal.invariant-loop-index
invariant-loop-index l = ReadsAll (take l.index l.readings) (map heat_height (take l.index l.levels))

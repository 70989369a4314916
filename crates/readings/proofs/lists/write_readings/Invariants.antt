-- The readings before the index are those by which the levels before it are told.
use Rattle.std.proofs.Common.{◌≡◌, map, take}
use Rattle.readings.specs.Lists.{heat_height}
use Rattle.readings.specs.Readings.{told_as}
use Rattle.readings.proofs.lists.write_readings.Given as goal

abbrev pub invariant-loop-index : goal.invariant-loop-index
invariant-loop-index l = take l.index l.readings ≡ map told_as (map heat_height (take l.index l.levels))

-- Each turn writes the level of one more reading.
use Rattle.std.proofs.Common.{arith}
use Rattle.std.proofs.lemmas.Grind.{common_steps}
use Rattle.std.proofs.lemmas.Slice.Zip.{all_zipped_more}
use Rattle.readings.specs.Readings.{Reads}
use Rattle.readings.proofs.lists.write_levels.Goals as goal

pub loop-index-preserved : goal.loop-index-preserved
loop-index-preserved c = grind (arith, common_steps, all_zipped_more Reads)

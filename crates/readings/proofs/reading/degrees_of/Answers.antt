-- A sixteenth of the count's float is the float of the count's sixteenth.
use Rattle.std.proofs.Common.{ap, ◌∙◌, w16}
use lib.Ieee.{binary32, mul, of_bits, of_int}
use Rattle.std.proofs.lemmas.Int.{to_z-of_z}
use Rattle.readings.proofs.Sixteenths.{scaled_down, one_sixteenth}
use Rattle.readings.proofs.reading.degrees_of.Goals as goal

pub returns : goal.returns
unfolding of_bits
returns c =
    ap (λ z. mul binary32 z one_sixteenth) (c.from.ensures ∙ ap (of_int binary32) (to_z-of_z w16 c.args.count c.ranges.count))
    ∙ scaled_down c.args.count c.ranges.count.sfits

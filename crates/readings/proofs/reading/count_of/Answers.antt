-- The test passes exactly where the degrees are a count of sixteenths, and then it is that count.
use Rattle.std.proofs.Common.{◌≡◌, ◌^◌, ◌<◌, true, T, ℤ, sym, ap, ◌∙◌, subst, w16, to_z, of_z, rules}
use lib.Ieee.{binary32, eq, fits, mul, of_bits, of_int}
use lib.Signed.{mag}
use Rattle.std.proofs.lemmas.Int.{to_z-of_z}
use Rattle.std.proofs.lemmas.Bool.{both_ways}
use Rattle.readings.specs.Readings.{IsCountOf}
use Rattle.readings.proofs.Sixteenths.{count_passes, passed_counts, sixteen, small_count}
use Rattle.readings.proofs.reading.count_of.Goals as goal

-- A number that fits sixteen bits is what they hold.
kept : (count : ℤ) → mag count < 2 ^ 15 → to_z w16 (of_z w16 count) ≡ count
kept count small = to_z-of_z w16 count (record { sfits = small })

pub returns-then-from-scaled : goal.returns-then-from-scaled
unfolding of_bits
returns-then-from-scaled c =
    let degrees = c.args.degrees in
    let count = c.saturating_f32_to_i16-count.result in
    let small = c.saturating_f32_to_i16-count.type_inv in
    let same : eq (of_int binary32 count) (mul binary32 degrees sixteen) ≡ true =
    ap (λ x. eq x (mul binary32 degrees sixteen)) (sym (c.from.ensures ∙ ap (of_int binary32) (kept count small))) ∙ c.if-from-scaled.true in
    let fitting : fits binary32 degrees ≡ true = search rules in
    subst (IsCountOf degrees) (sym (kept count small)) (small_count count small, passed_counts degrees count (subst T (sym fitting) tt) small same)

pub returns-else-from-scaled : goal.returns-else-from-scaled
unfolding of_bits
returns-else-from-scaled c d h =
    let scaled = mul binary32 c.args.degrees sixteen in
    let found = c.saturating_f32_to_i16-count in
    let p = count_passes c.args.degrees d h in
    both_ways (eq c.from.result scaled) c.if-from-scaled.false
    (ap (λ x. eq x scaled) (c.from.ensures ∙ ap (of_int binary32) (kept found.result found.type_inv ∙ found.ensures ∙ p.0)) ∙ p.1)

-- A reading that has a level stands for it; the first that has none is refused.
use Rattle.std.proofs.Common.{◌≡◌, ℕ, ◌<◌, List, Some, None, Option, MatchOption, length, take, refl, arith, rules, tests}
use Rattle.std.proofs.lemmas.Iterator.{IsFirst-from_position, YieldsList-from_slice}
use Rattle.std.proofs.lemmas.List.{get_or-take, length-take-le}
use Rattle.std.proofs.lemmas.List.Elements.{All-from_all_within, All-from_get_or, recursion_from_All}
use Rattle.std.specs.List.{AllByRecursion, AllWithin, HoldsAt}
use Rattle.readings.specs.declared.fault.ReadingFault.TheVariants.{Unreadable}
use Rattle.readings.specs.declared.reading.Reading.{Reading}
use Rattle.readings.specs.declared.reading.Reading.TheVariants.{Dead}
use Rattle.readings.specs.Lists.{Refused}
use Rattle.readings.specs.Readings.{IsReadable}
use Rattle.readings.proofs.lists.first_unreadable.Goals as goal

-- What the first place at which a reading stands for no level says of the readings before it.
first_refused : (rs : List Reading) (r : Option ℕ)
    → MatchOption r (AllWithin IsReadable rs 0 (length rs)) (λ k. (k < length rs) × HoldsAt (λ r. IsReadable r → ⊥) rs k × AllWithin IsReadable rs 0 k)
    → MatchOption r (AllByRecursion IsReadable rs) (λ k. Refused rs (length rs) (Unreadable k))
first_refused rs None all = recursion_from_All IsReadable rs (All-from_all_within IsReadable rs all)
first_refused rs (Some k) (before, unreadable, within) =
    let long : length (take k rs) ≡ k = length-take-le k rs (omega arith) in
    let readable = All-from_get_or IsReadable (take k rs) Dead (λ i h. rw (get_or-take k rs i Dead (omega arith)) (within i Dead (omega arith) (omega arith))) in
    (refl, before, recursion_from_All IsReadable (take k rs) readable, unreadable Dead)

pub returns : goal.returns
returns c =
    first_refused c.args.readings.now c.position.result
    (IsFirst-from_position _ _ c.position.result (λ r. IsReadable r → ⊥) IsReadable c.position.ensures.ran (YieldsList-from_slice c.args.readings.now cc)
    (λ x q k. search (rules, tests)) (λ x q k. search (rules, tests)))

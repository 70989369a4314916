-- What holds where a call is accepted. Assumes nothing.
use Rattle.std.proofs.Common.{◌≤◌, ◌≡◌, ℕ, Bool, true, false, not, ◌&&◌, ◌||◌, leb, is_some, Some, None, Option, Ok, ℤ, sym, refl, ap, arith}
use Rattle.std.proofs.lemmas.Bool.{leb-true, and_parts, false≢true}
use Rattle.limits.specs.declared.fault.Fault.{Fault}
use Rattle.limits.specs.declared.fault.Fault.TheVariants.{EmptySheet, SheetPlace, Unequal, VisitOpen}
use Rattle.std.specs.Prelude.{◌==◌}
use Rattle.limits.specs.Faults.{first, tells, told}
use Rattle.limits.specs.Sizes.{lawful_flat, lawful_size, lawful_factor}
use Rattle.bench.specs.Model.{Outline, flat_of, is_place}
use Rattle.bench.specs.TallyCalls.{combine_refusal, difference_refusal}
use Rattle.calls.specs.OfSize.{of_size_refusal}
use Rattle.tallies.specs.Scaling.{scale_refusal}
use Rattle.weights.specs.Weights.{Tally}
use Rattle.bench.specs.declared.visit.Visit.{Visit}
use Rattle.bench.specs.Calls.{begin_refusal, depth_refusal, equal_benches, make_refusal, same_flat}
use Rattle.bench.proofs.Refusals.{make_accepted, source_accepted}

-- a table that refuses nothing has passed the test that comes first, and refuses nothing after it
pub passed : (test : Bool) (fault : Fault) (rest : Option Fault) → first (not test) fault rest ≡ None → (test ≡ true) × (rest ≡ None)
passed true fault rest h = (refl, h)
passed false fault rest h = absurd (let z : ◌≡◌ {A = ℕ} 0 1 = cc in omega arith)

-- and a table whose tests pass refuses nothing
pub none_refused : (test : Bool) (fault : Fault) (rest : Option Fault) → test ≡ true → rest ≡ None → first (not test) fault rest ≡ None
none_refused true fault rest pass h = h
none_refused false fault rest pass h = absurd (false≢true pass)

pub tells_ok : {T : Type 0} (refusal : Option Fault) (tell x : T) → tells refusal tell ≡ Ok x → (refusal ≡ None) × (tell ≡ x)
tells_ok None tell x h = (refl, cc)
tells_ok (Some fault) tell x h = absurd (let z : ◌≡◌ {A = ℕ} 0 1 = cc in omega arith)

-- a visit is open, and the source places are filled
pub record Sources (o : Outline) (one other : ℕ) : Type 0 where
  pub visit : is_some o.visit ≡ true
  pub one_filled : o.filled one ≡ true
  pub other_filled : o.filled other ≡ true

pub make_sources : (o : Outline) (one other to : ℕ) → make_refusal o one other to ≡ None → Sources o one other
make_sources o one other to h =
    let m = make_accepted o one other to (sym (ap told h)) in
    record { visit = m.visit; one_filled = m.one_filled; other_filled = m.other_filled }

pub of_size_sources : (o : Outline) (size from to : ℕ) → of_size_refusal o size from to ≡ None → Sources o from from
of_size_sources o size from to h =
    let places = passed (is_place o.places from && is_place o.places to) _ _ h in
    let lawful = passed (lawful_size size) _ _ places.1 in
    let visit = passed (is_some o.visit) _ _ lawful.1 in
    let filled = passed (o.filled from) _ _ visit.1 in
    record { visit = visit.0; one_filled = filled.0; other_filled = filled.0 }

open_alike : (a b : Option Visit) → same_flat (flat_of a) (flat_of b) ≡ true → is_some a ≡ true → is_some b ≡ true
open_alike None b same some = absurd (false≢true some)
open_alike (Some a) None same some = absurd (false≢true same)
open_alike (Some a) (Some b) same some = refl

pub difference_sources : (rack slate : Outline) (one other to : ℕ) → difference_refusal rack slate one other to ≡ None → Sources rack one other × (is_some slate.visit ≡ true)
difference_sources rack slate one other to h =
    let sheets = passed (is_place rack.places one && is_place rack.places other) _ _ h in
    let tally = passed (is_place slate.places to) _ _ sheets.1 in
    let visit = passed (is_some rack.visit) _ _ tally.1 in
    let filled = passed (rack.filled one && rack.filled other) _ _ visit.1 in
    let equal = passed (equal_benches rack slate) _ _ filled.1 in
    let both = and_parts _ _ filled.0 in
    (record { visit = visit.0; one_filled = both.0; other_filled = both.1 }, open_alike rack.visit slate.visit (and_parts _ _ equal.0).1 visit.0)

-- a tally is made on an open slate, and is not too heavy
pub add_light : (o : Outline) (sum : Tally) (one other to : ℕ) → combine_refusal o sum one other to ≡ None → (is_some o.visit ≡ true) × (sum.weight ≤ 1000)
add_light o sum one other to h =
    let places = passed (is_place o.places one && is_place o.places other && is_place o.places to) _ _ h in
    let visit = passed (is_some o.visit) _ _ places.1 in
    let filled = passed (o.filled one && o.filled other) _ _ visit.1 in
    let light = passed (leb sum.weight 1000) _ _ filled.1 in
    (visit.0, leb-true sum.weight 1000 light.0)

pub scale_light : (o : Outline) (made : Tally) (factor : ℤ) (from to : ℕ) → scale_refusal o made factor from to ≡ None → (is_some o.visit ≡ true) × (made.weight ≤ 1000)
scale_light o made factor from to h =
    let places = passed (is_place o.places from && is_place o.places to) _ _ h in
    let lawful = passed (lawful_factor factor) _ _ places.1 in
    let visit = passed (is_some o.visit) _ _ lawful.1 in
    let filled = passed (o.filled from) _ _ visit.1 in
    let light = passed (leb made.weight 1000) _ _ filled.1 in
    (visit.0, leb-true made.weight 1000 light.0)

-- a list is told of a place that is filled, to a lawful depth
pub record Listed (o : Outline) (depth place : ℕ) : Type 0 where
  pub there : is_place o.places place ≡ true
  pub lawful : lawful_size depth ≡ true
  pub filled : o.filled place ≡ true

pub depth_listed : (o : Outline) (depth place len wanted : ℕ) → depth_refusal o depth place len wanted ≡ None → Listed o depth place
depth_listed o depth place len wanted h =
    let there = passed (is_place o.places place) _ _ h in
    let deep = passed (lawful_size depth) _ _ there.1 in
    let long = passed (len == wanted) _ _ deep.1 in
    record { there = there.0; lawful = deep.0; filled = (source_accepted SheetPlace EmptySheet o place long.1).1 }

-- no visit is open before a begin
pub begin_closed : (rack slate : Outline) (flat : ℕ) → begin_refusal rack slate flat ≡ None → (rack.visit ≡ None) × (slate.visit ≡ None)
begin_closed rack slate flat h =
    let lawful = passed (lawful_flat flat) _ _ h in
    neither rack.visit slate.visit lawful.1
  where
    neither : (a b : Option Visit) → first (is_some a || is_some b) VisitOpen (first (not (equal_benches rack slate)) Unequal None) ≡ None → (a ≡ None) × (b ≡ None)
    neither None None h = (refl, refl)
    neither None (Some b) h = absurd (let z : ◌≡◌ {A = ℕ} 0 1 = cc in omega arith)
    neither (Some a) b h = absurd (let z : ◌≡◌ {A = ℕ} 0 1 = cc in omega arith)

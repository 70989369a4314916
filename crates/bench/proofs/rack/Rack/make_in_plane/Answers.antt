use Rattle.std.proofs.Common.{◌≡◌, ◌≤◌, ◌*◌, map, length, Ok, Err, refl, ap, ◌∙◌, arith}
use Rattle.std.proofs.lemmas.Result.{err_from_is_err_and}
use Rattle.bench.specs.Calls.{OfTwo, made_from, made_of}
use Rattle.bench.specs.Model.{place_start, rack_outline, rack_state}
use Rattle.bench.proofs.Refusals.{refused_tells, accepted_tells, sources_accepted}
use Rattle.bench.proofs.Places.{made_from_places, place_in_memory, places_fit, plane_split, some_cells, some_places}
use Rattle.bench.proofs.PlanesWritten.{memory_long, places_kept, sheets_are, state_kept}
use Rattle.bench.proofs.rack.Rack.make_in_plane.Goals as goal

pub returns-in_err-refuse_sources : goal.returns-in_err-refuse_sources
returns-in_err-refuse_sources g c =
    let told_back = err_from_is_err_and c.from_residual.result c.from_residual.ensures.1 in
    record {
      answers = told_back.1 ∙ ap Err told_back.2 ∙ refused_tells _ _ _ c.in_err-refuse_sources.ensures;
      steps = refl;
      memory = rw told_back.1 refl;
      lent = record { reference = refl; long = refl };
    }

pub invariant_of-sides : goal.invariant_of-sides
invariant_of-sides g c =
    let marks = c.args.self.now.marks in
    let accepted = sources_accepted (rack_outline c.args.self.now) c.args.one c.args.other c.in_ok-refuse_sources.ensures in
    let some = some_cells marks c.args.one accepted.one_place in
    record { some_column = some.0; some_row = some.1; wide = omega (arith, marks.wide); high = omega (arith, marks.high) }

pub make_plane-requires : goal.make_plane-requires
make_plane-requires g c =
    let rack = c.args.self.now in
    let marks = rack.marks in
    let accepted = sources_accepted (rack_outline rack) c.args.one c.args.other c.in_ok-refuse_sources.ensures in
    let count = c.cells-cells.ensures in
    let front = ap (λ n. marks.places * n) count in
    let sheets = c.split_at_mut-sheets.result.0.now in
    let whole : length sheets ≡ marks.places * (marks.w * marks.h) = c.split_at_mut-sheets.ensures.front_len ∙ front in
    let room : marks.places * (marks.w * marks.h) ≤ length sheets = omega (arith, whole) in
    let one = place_in_memory marks c.args.one accepted.one_place sheets room in
    let other = place_in_memory marks c.args.other accepted.other_place sheets room in
    let fits = places_fit marks.places (marks.w * marks.h) _ (rack.sized (some_places marks c.args.one accepted.one_place)) in
    record {
      one = rw count (omega (arith, one, other));
      other = rw count (omega (arith, one, other));
      planes = omega (arith, c.split_at_mut-sheets.ensures.back_len, front, fits.1);
    }

pub returns : goal.returns
returns g c =
    let height = g.L.Level.height in
    let rack = c.args.self.now in
    let marks = rack.marks in
    let cells = marks.w * marks.h in
    let count = c.cells-cells.ensures in
    let passed = c.in_ok-refuse_sources.ensures in
    let accepted = sources_accepted (rack_outline rack) c.args.one c.args.other passed in
    let heights = map height rack.memory.now in
    let sheets = c.split_at_mut-sheets.result.0.now in
    let was = c.split_at_mut-sheets.result.1.now in
    let planes = c.make_plane.new.planes in
    let front : length sheets ≡ marks.places * cells = c.split_at_mut-sheets.ensures.front_len ∙ ap (λ n. marks.places * n) count in
    let split = c.split_at_mut-sheets.ensures.value in
    let long = c.make_plane.auto.planes in
    let of_sources : (X : Type 0) (makes : OfTwo X) → made_from makes marks.w marks.h (place_start cells c.args.one) (place_start cells c.args.other) (map height sheets)
    ≡ made_of makes (rack_state height rack) c.args.one c.args.other =
    λ X makes. ap (made_from makes marks.w marks.h (place_start cells c.args.one) (place_start cells c.args.other)) (sheets_are height marks rack.memory.now sheets was planes front split long)
    ∙ made_from_places makes marks heights c.args.one c.args.other accepted in
    record {
      answers = ap Ok ((rw count at c.make_plane.ensures.reports) ∙ of_sources _ (g.T.Transform.report_of c.args.transform.now)) ∙ accepted_tells _ _ passed;
      steps = state_kept height marks rack.memory.now sheets was planes front split long;
      memory = (
        places_kept height marks rack.memory.now sheets was planes front split long,
        plane_split marks height sheets planes front ∙ (rw count at c.make_plane.ensures.made) ∙ of_sources _ (g.T.Transform.makes c.args.transform.now),
      );
      lent = record { reference = refl; long = memory_long height marks rack.memory.now sheets was planes front split long };
    }

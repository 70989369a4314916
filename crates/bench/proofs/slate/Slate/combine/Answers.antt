use Rattle.std.proofs.Common.{rules, ◌+◌, ◌-◌, ◌*◌, ◌≤◌, length, sym, refl, ap, ◌∙◌, subst}
use Rattle.limits.specs.Faults.{told}
use Rattle.bench.specs.Places.{CellsWithin}
use Rattle.bench.proofs.CombinedTallies.{cells_fit, combined_from, made_cells, made_long, made_within, not_refused, source_of, sources, tally_made, target}
use Rattle.bench.proofs.Places.{from_one, place_in_memory, slate_room}
use Rattle.bench.proofs.StoredTallies.{makes_tally, sized_after, within_after}
use Rattle.bench.proofs.slate.Slate.combine.Goals as goal

pub overflow_sub-to : goal.overflow_sub-to
overflow_sub-to c =
    let slate = c.args.self.now in
    let from = combined_from slate c.args.how c.args.one c.args.other c.args.to c.in_ok-first.first c.in_ok-first.second c.in_ok-weight.weight c.in_ok-first.ensures c.in_ok-weight.ensures in
    from_one slate.marks.places c.args.to (target from)

pub overflow_mul-to : goal.overflow_mul-to
overflow_mul-to c =
    let slate = c.args.self.now in
    let from = combined_from slate c.args.how c.args.one c.args.other c.args.to c.in_ok-first.first c.in_ok-first.second c.in_ok-weight.weight c.in_ok-first.ensures c.in_ok-weight.ensures in
    let place = target from in
    let fits : (c.args.to - 1) * c.cells-cells.result + c.cells-cells.result ≤ length slate.memory.now =
    rw c.cells-cells.ensures (place_in_memory slate.marks c.args.to place slate.memory.now (slate_room slate c.args.to place)) in
    search rules

pub combine_cells-requires : goal.combine_cells-requires
combine_cells-requires c =
    let slate = c.args.self.now in
    let from = combined_from slate c.args.how c.args.one c.args.other c.args.to c.in_ok-first.first c.in_ok-first.second c.in_ok-weight.weight c.in_ok-first.ensures c.in_ok-weight.ensures in
    let places = sources from in
    rw c.cells-cells.ensures record {
      one = source_of slate c.args.one c.args.to places.one_place (target from);
      other = source_of slate c.args.other c.args.to places.other_place (target from);
      target = place_in_memory slate.marks c.args.to (target from) slate.memory.now (slate_room slate c.args.to (target from));
      fits = cells_fit from;
    }

pub invariant_of-self : goal.invariant_of-self
invariant_of-self c =
    let slate = c.args.self.now in
    let weight = c.in_ok-weight.weight in
    let from = combined_from slate c.args.how c.args.one c.args.other c.args.to c.in_ok-first.first c.in_ok-first.second c.in_ok-weight.weight c.in_ok-first.ensures c.in_ok-weight.ensures in
    let place = target from in
    let marks = c.fill.new.self in
    let filled = c.fill.ensures in
    let written = rw c.cells-cells.ensures at c.combine_cells.ensures in
    record {
      sized = λ some. ap length written ∙ sized_after slate c.args.to weight (made_cells from) place (made_long from) marks filled.sizes filled.visit filled.filled some;
      within = subst (CellsWithin marks) (sym written)
          (within_after slate c.args.to weight (made_cells from) place (made_long from) marks filled.sizes filled.visit filled.filled (made_within from));
    }

pub returns : goal.returns
returns c =
    let slate = c.args.self.now in
    let weight = c.in_ok-weight.weight in
    let from = combined_from slate c.args.how c.args.one c.args.other c.args.to c.in_ok-first.first c.in_ok-first.second c.in_ok-weight.weight c.in_ok-first.ensures c.in_ok-weight.ensures in
    let filled = c.fill.ensures in
    makes_tally slate c.args.to weight (made_cells from) (target from) (made_long from) c.fill.new.self filled.sizes filled.visit filled.filled _ _ _
    (sym (ap told (not_refused from))) (tally_made from) refl (rw c.cells-cells.ensures at c.combine_cells.ensures) refl

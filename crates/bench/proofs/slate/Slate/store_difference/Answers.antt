use Rattle.std.proofs.Common.{rules, ◌≤◌, ◌+◌, ◌-◌, ◌*◌, List, map, length, subst, sym, refl, ap, ◌∙◌}
use Rattle.bench.specs.Model.{slate_outline}
use Rattle.bench.specs.Places.{CellsWithin}
use Rattle.weights.specs.Weights.{AllWithin, difference}
use Rattle.weights.proofs.Within.{difference_within}
use Rattle.bench.proofs.Places.{place_in_memory, slate_room}
use Rattle.bench.proofs.Refusals.{store_accepted}
use Rattle.bench.proofs.StoredTallies.{heights_within, makes_tally, place_written, sized_after, within_after}
use Rattle.bench.proofs.slate.Slate.store_difference.Goals as goal

pub slice_bounds-write_difference-end : goal.slice_bounds-write_difference-end
slice_bounds-write_difference-end g c =
    let slate = c.args.self.now in
    let place = (store_accepted (slate_outline slate) c.args.to _ _ c.in_ok-refuse_store.ensures).2 in
    let fits : (c.args.to - 1) * c.cells-cells.result + c.cells-cells.result ≤ length slate.memory.now =
    rw c.cells-cells.ensures (place_in_memory slate.marks c.args.to place slate.memory.now (slate_room slate c.args.to place)) in
    search rules

pub invariant_of-self : goal.invariant_of-self
invariant_of-self g c =
    let height = g.L.Level.height in
    let slate = c.args.self.now in
    let cells = c.write_difference.new.cells in
    let weight = c.of_difference.result in
    let filled = c.fill.ensures in
    let place = (store_accepted (slate_outline slate) c.args.to _ _ c.in_ok-refuse_store.ensures).2 in
    let written = place_written slate c.args.to c.cells-cells.result cells place c.cells-cells.ensures c.write_difference.auto.cells in
    let topped = λ (xs : List g.row.L.Denot). heights_within height g.L.Level.top g.met.L.Level.within g.met.L.Level.bounded xs in
    let all : AllWithin weight cells = subst (AllWithin weight) (sym c.write_difference.ensures)
    (difference_within weight c.of_difference.ensures (map height c.args.one.now) (map height c.args.other.now) (topped c.args.one.now) (topped c.args.other.now)) in
    record {
      sized = λ some. ap length written.1 ∙ sized_after slate c.args.to weight cells place written.0 c.fill.new.self filled.sizes filled.visit filled.filled some;
      within = subst (CellsWithin c.fill.new.self) (sym written.1) (within_after slate c.args.to weight cells place written.0 c.fill.new.self filled.sizes filled.visit filled.filled all);
    }

pub returns : goal.returns
returns g c =
    let slate = c.args.self.now in
    let cells = c.write_difference.new.cells in
    let filled = c.fill.ensures in
    let passed = c.in_ok-refuse_store.ensures in
    let place = (store_accepted (slate_outline slate) c.args.to _ _ passed).2 in
    let written = place_written slate c.args.to c.cells-cells.result cells place c.cells-cells.ensures c.write_difference.auto.cells in
    makes_tally slate c.args.to c.of_difference.result cells place written.0 c.fill.new.self filled.sizes filled.visit filled.filled _ _ _
    passed (c.of_difference.ensures cells ∙ ap difference c.write_difference.ensures) refl written.1 refl

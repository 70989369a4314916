use Rattle.std.proofs.Common.{◌≡◌, ◌≤◌, ◌+◌, ◌-◌, ◌*◌, ◌++◌, map, length, take, refl, ap, sym, ◌∙◌, arith}
use Rattle.std.proofs.lemmas.List.{length-append, length-map, length-take-le}
use Rattle.bench.specs.Calls.{stored}
use Rattle.bench.specs.Model.{cells_from, overwritten, place_start, places_of, plane_of, sheet_held, state_of}
use Rattle.bench.proofs.Memory.{heights_of_cells, map-overwritten}
use Rattle.bench.proofs.Places.{length-plane_of, place_in_memory, places_split, plane_split, planes_room, rack_room, state_of_places}
use Rattle.bench.proofs.Stored.{stored_state}
use Rattle.bench.proofs.rack.Rack.keep_plane.Goals as goal

pub part-requires : goal.part-requires
part-requires g c =
    let marks = c.args.self.now.marks in
    let count = c.cells-cells.ensures in
    omega (arith, planes_room c.args.self.now, count, ap (λ n. marks.places * n) count, c.split_at_mut-sheets.ensures.back_len)

pub store-requires : goal.store-requires
store-requires g c =
    let rack = c.args.self.now in
    let marks = rack.marks in
    let count = c.cells-cells.ensures in
    let front = ap (λ n. marks.places * n) count in
    let was = c.split_at_mut-sheets.result.0.now in
    let planes = c.split_at_mut-sheets.result.1.now in
    let long : length c.part.result.now ≡ marks.w * marks.h =
    ap length c.part.ensures ∙ length-take-le c.cells-cells.result planes (omega (arith, planes_room rack, count, front, c.split_at_mut-sheets.ensures.back_len)) ∙ count in
    let whole : length was ≡ marks.places * (marks.w * marks.h) = c.split_at_mut-sheets.ensures.front_len ∙ front in
    rw (count, long) (place_in_memory marks c.args.to c.requires.place was (omega (arith, whole)))

pub returns : goal.returns
returns g c =
    let height = g.L.Level.height in
    let rack = c.args.self.now in
    let marks = rack.marks in
    let cells = marks.w * marks.h in
    let start = place_start cells c.args.to in
    let count = c.cells-cells.ensures in
    let heights = map height rack.memory.now in
    let filled = c.fill.ensures in
    let was = c.split_at_mut-sheets.result.0.now in
    let sheets = c.store.new.memory in
    let planes = c.split_at_mut-sheets.result.1.now in
    let split = c.split_at_mut-sheets.ensures.value in
    let front : length was ≡ marks.places * cells = c.split_at_mut-sheets.ensures.front_len ∙ ap (λ n. marks.places * n) count in
    let places : map height was ≡ places_of marks heights =
    sym (places_split marks height was planes front) ∙ ap (λ memory. places_of marks (map height memory)) (sym split) in
    let plane : map height c.part.result.now ≡ plane_of marks heights =
    ap (map height) (c.part.ensures ∙ ap (λ n. cells_from 0 n planes) count)
    ∙ heights_of_cells height 0 cells planes
    ∙ sym (plane_split marks height was planes front)
    ∙ ap (λ memory. plane_of marks (map height memory)) (sym split) in
    let long = length-plane_of rack heights (length-map _ height) in
    let room : marks.places * cells ≤ length (places_of marks heights) =
    let taken = length-take-le (marks.places * cells) heights (rw length-map (rack_room rack c.args.to c.requires.place)) in omega (arith, taken) in
    let written : places_of marks (map height (sheets ++ planes)) ≡ overwritten start (plane_of marks heights) (places_of marks heights) =
    places_split marks height sheets planes (c.store.auto.memory ∙ front)
    ∙ ap (map height) (c.store.ensures ∙ ap (λ n. overwritten ((c.args.to - 1) * n) c.part.result.now was) count)
    ∙ map-overwritten height start c.part.result.now was
    ∙ (λ i. overwritten start (plane i) (places i)) in
    record {
      steps =
          sym (state_of_places sheet_held c.fill.new.self (map height (sheets ++ planes)))
          ∙ ap (state_of sheet_held c.fill.new.self) ((λ i. take (filled.sizes.places i * (filled.sizes.w i * filled.sizes.h i)) (map height (sheets ++ planes))) ∙ written)
          ∙ stored_state sheet_held marks c.args.to tt (plane_of marks heights) (places_of marks heights) c.requires.place long room c.fill.new.self filled.sizes.w filled.sizes.h filled.sizes.places filled.visit filled.filled
          ∙ ap (λ s. stored s c.args.to (plane_of marks heights)) (state_of_places sheet_held marks heights);
      memory = written;
      lent = record {
        reference = refl;
        long = length-append sheets planes ∙ ap (λ n. n + length planes) c.store.auto.memory ∙ sym (length-append was planes) ∙ sym (ap length split);
      };
    }

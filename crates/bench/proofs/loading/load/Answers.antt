use Rattle.std.proofs.Common.{◌-◌, ◌*◌, map, length, sym, ap, ◌∙◌}
use Rattle.std.proofs.lemmas.List.{length-map}
use Rattle.bench.specs.Calls.{load_refusal}
use Rattle.limits.specs.Faults.{told}
use Rattle.bench.specs.Model.{overwritten, place_start, rack_outline, sheet_held, state_of}
use Rattle.bench.proofs.Memory.{map-overwritten}
use Rattle.bench.proofs.Refusals.{accepted_leaves, load_accepted}
use Rattle.bench.proofs.Places.{place_in_memory, rack_room}
use Rattle.bench.proofs.Stored.{stored_state}
use Rattle.bench.proofs.loading.load.Goals as goal

pub store-requires : goal.store-requires
store-requires g c =
    let rack = c.args.rack.now in
    let accepted = load_accepted (rack_outline rack) c.args.place (length c.args.picture.now) c.in_ok-refuse_load.ensures in
    rw (c.cells.ensures, accepted.0) (place_in_memory rack.marks c.args.place accepted.1 rack.memory.now (rack_room rack c.args.place accepted.1))

pub returns-clause-steps : goal.returns-clause-steps
returns-clause-steps g c =
    let height = g.L.Level.height in
    let rack = c.args.rack.now in
    let marks = rack.marks in
    let passed = c.in_ok-refuse_load.ensures in
    let accepted = load_accepted (rack_outline rack) c.args.place (length c.args.picture.now) passed in
    let heights = ap (λ n. told (load_refusal (rack_outline rack) c.args.place n)) (sym (length-map c.args.picture.now height)) in
    let filled = c.fill.ensures in
    let written = c.store.ensures ∙ ap (λ n. overwritten ((c.args.place - 1) * n) c.args.picture.now rack.memory.now) c.cells.ensures in
    ap (state_of sheet_held c.fill.new.self) (ap (map height) written ∙ map-overwritten height (place_start (marks.w * marks.h) c.args.place) c.args.picture.now rack.memory.now)
    ∙ stored_state sheet_held marks c.args.place tt (map height c.args.picture.now) (map height rack.memory.now) accepted.1
    (length-map _ _ ∙ accepted.0) (rw length-map (rack_room rack c.args.place accepted.1)) c.fill.new.self filled.sizes.w filled.sizes.h filled.sizes.places filled.visit filled.filled
    ∙ accepted_leaves _ tt tt _ _ (passed ∙ heights)

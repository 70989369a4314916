-- What stands in memory after an accepted call on a bench in use: the working planes apart, just the target's cells change. What they
-- are is what the place holds afterwards. Assumes nothing.
use Rattle.std.specs.Prelude.{◌≡◌, ℕ, ◌*◌, List, ℤ, map, pos}
use Rattle.std.specs.Borrow.{Bor, MutBor}
use Rattle.bench.specs.declared.rack.Rack.{Rack}
use Rattle.bench.specs.declared.slate.Slate.{Slate}
use Rattle.bench.specs.Calls.{wiped}
use Rattle.bench.specs.Model.{overwritten, place_start, places_of, rack_state, sheet_of, slate_state, tally_of}
use Rattle.in_use.specs.declared.call.Call as of
use Rattle.in_use.specs.declared.call.Call.TheVariants as a

-- of the places of a rack, just the cells of one
abbrev pub SheetWritten : {L : Type 0} → (L → ℕ) → Rack L → Rack L → ℕ → Type 0
SheetWritten height was is to =
    places_of was.marks (map height is.memory.now)
    ≡ overwritten (place_start (was.marks.w * was.marks.h) to) (sheet_of (rack_state height is) to) (places_of was.marks (map height was.memory.now))

-- or none
abbrev pub SheetsKept : {L : Type 0} → (L → ℕ) → Rack L → Rack L → Type 0
SheetsKept height was is = places_of was.marks (map height is.memory.now) ≡ places_of was.marks (map height was.memory.now)

-- of the memory of a slate, just the cells of a place
abbrev pub TallyWritten : Slate → Slate → ℕ → Type 0
TallyWritten was is to =
    is.memory.now ≡ overwritten (place_start (was.marks.w * was.marks.h) to) (tally_of (slate_state is) to).cells was.memory.now

-- the memory of the rack
abbrev pub RackLeft : {L S T N K E : Type 0} → (L → ℕ) → Rack L → Rack L → of.Call S T N K (Bor (List L)) E → Type 0
RackLeft height was is a.End = map height is.memory.now ≡ wiped was.marks.places 0 (map height was.memory.now)
RackLeft height was is (a.Load to picture) =
    is.memory.now ≡ overwritten (place_start (was.marks.w * was.marks.h) to) picture.now was.memory.now
RackLeft height was is (a.Erode element from to) = SheetWritten height was is to
RackLeft height was is (a.Dilate element from to) = SheetWritten height was is to
RackLeft height was is (a.Open element size from to) = SheetWritten height was is to
RackLeft height was is (a.Close element size from to) = SheetWritten height was is to
RackLeft height was is (a.Meet one other to) = SheetWritten height was is to
RackLeft height was is (a.Join one other to) = SheetWritten height was is to
RackLeft height was is (a.Regrow element marker upper to) = SheetWritten height was is to
RackLeft height was is (a.Edge element from to) = SheetsKept height was is
RackLeft height was is (a.Peak element from to) = SheetsKept height was is
RackLeft height was is (a.Valley element from to) = SheetsKept height was is
RackLeft height was is (a.Spectrum element depth place list) = SheetsKept height was is
RackLeft height was is (a.Skeleton element depth place list) = SheetsKept height was is
RackLeft height was is call = is.memory.now ≡ was.memory.now

-- that of the slate
abbrev pub SlateLeft : {S T N K P E : Type 0} → Slate → Slate → of.Call S T N K P E → Type 0
SlateLeft was is a.End = is.memory.now ≡ wiped was.marks.places (pos 0) was.memory.now
SlateLeft was is (a.Edge element from to) = TallyWritten was is to
SlateLeft was is (a.Peak element from to) = TallyWritten was is to
SlateLeft was is (a.Valley element from to) = TallyWritten was is to
SlateLeft was is (a.Differ one other to) = TallyWritten was is to
SlateLeft was is (a.Add one other to) = TallyWritten was is to
SlateLeft was is (a.Scale factor from to) = TallyWritten was is to
SlateLeft was is call = is.memory.now ≡ was.memory.now

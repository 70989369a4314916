-- The calls on a bench, by their arguments, and what a call may tell. Assumes nothing.
use Rattle.std.specs.Prelude.{ℕ, List, ℤ}
use Rattle.elements.specs.declared.element.Element.{Element}
use Rattle.weights.specs.Weights.{Tally}

-- A call on a bench, whose pictures are lists of X. Any of its numbers may be wrong. A slip counts by the flat on it, and a list to
-- be written by its length.
pub data Call (X : Type 0) : Type 0 where
  -- begin a visit to a flat, and end it by the slip of a flat
  Begin : (flat : ℕ) → Call X
  End : (flat : ℕ) → Call X
  -- fill a place from a picture
  Load : (place : ℕ) (picture : List X) → Call X
  -- make a sheet by an element, and by an element and a size
  Erode : (element : Element) (from to : ℕ) → Call X
  Dilate : (element : Element) (from to : ℕ) → Call X
  Open : (element : Element) (size from to : ℕ) → Call X
  Close : (element : Element) (size from to : ℕ) → Call X
  -- make a sheet of two
  Meet : (one other to : ℕ) → Call X
  Join : (one other to : ℕ) → Call X
  Regrow : (element : Element) (marker upper to : ℕ) → Call X
  -- make a tally of sheets
  Edge : (element : Element) (from to : ℕ) → Call X
  Peak : (element : Element) (from to : ℕ) → Call X
  Valley : (element : Element) (from to : ℕ) → Call X
  Differ : (one other to : ℕ) → Call X
  -- make a tally of tallies
  Add : (one other to : ℕ) → Call X
  Scale : (factor : ℤ) (from to : ℕ) → Call X
  -- tell of a sheet
  Area : (place : ℕ) → Call X
  Span : (place : ℕ) → Call X
  Spectrum : (element : Element) (depth place len : ℕ) → Call X
  Skeleton : (element : Element) (depth place len : ℕ) → Call X
  -- show a sheet or a tally
  ShowSheet : (place len : ℕ) → Call X
  ShowTally : (place len : ℕ) → Call X

-- a call with something else made of its picture
abbrev pub with_picture : {X Y : Type 0} → (List X → List Y) → Call X → Call Y
with_picture change (Begin flat) = Begin flat
with_picture change (End flat) = End flat
with_picture change (Load place picture) = Load place (change picture)
with_picture change (Erode element from to) = Erode element from to
with_picture change (Dilate element from to) = Dilate element from to
with_picture change (Open element size from to) = Open element size from to
with_picture change (Close element size from to) = Close element size from to
with_picture change (Meet one other to) = Meet one other to
with_picture change (Join one other to) = Join one other to
with_picture change (Regrow element marker upper to) = Regrow element marker upper to
with_picture change (Edge element from to) = Edge element from to
with_picture change (Peak element from to) = Peak element from to
with_picture change (Valley element from to) = Valley element from to
with_picture change (Differ one other to) = Differ one other to
with_picture change (Add one other to) = Add one other to
with_picture change (Scale factor from to) = Scale factor from to
with_picture change (Area place) = Area place
with_picture change (Span place) = Span place
with_picture change (Spectrum element depth place len) = Spectrum element depth place len
with_picture change (Skeleton element depth place len) = Skeleton element depth place len
with_picture change (ShowSheet place len) = ShowSheet place len
with_picture change (ShowTally place len) = ShowTally place len

-- What an accepted call tells, hands out and writes to lists. A spot is its column, its row and its height.
pub data Told : Type 0 where
  NothingTold : Told
  SlipTold : (flat : ℕ) → Told
  RoundsTold : (rounds : ℕ) → Told
  AreaTold : (area : ℕ) → Told
  SpanTold : (least greatest : ℕ × ℕ × ℕ) → Told
  SpectrumTold : (entries : List ℕ) → Told
  SkeletonTold : (pieces : List ℕ) → Told
  SheetTold : (sheet : List ℕ) → Told
  TallyTold : (tally : Tally) → Told

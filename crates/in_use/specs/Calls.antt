-- Any call on a bench in use as a call of the model, and what it tells and leaves in lists. Assumes nothing.
use Rattle.std.proofs.Common.{inl, inr}
use Rattle.std.specs.Prelude.{◌≡◌, ℕ, ◌⊎◌, List, [], ℤ, length, map}
use Rattle.std.specs.Borrow.{Bor, MutBor}
use Rattle.calls.specs.Queries.{spot_numbers}
use Rattle.elements.specs.declared.element.Element.{Element}
use Rattle.in_use.specs.declared.call.Call as of
use Rattle.in_use.specs.declared.call.Call.TheVariants as a
use Rattle.in_use.specs.declared.call.Told as what
use Rattle.in_use.specs.declared.call.Told.TheVariants as tells
use Rattle.model.specs.Calls as model
use Rattle.model.specs.Calls.{Call, Told}
use Rattle.weights.specs.Weights.{weighed}

-- the call of the model that a call stands for, where a visit to this flat is open, or 0 where none is: an end is by the slip at hand
abbrev pub call_of : {L : Type 0} → ℕ → of.Call (MutBor (List L)) (MutBor (List ℤ)) (MutBor (List ℕ)) (MutBor (List ℕ)) (Bor (List L)) (Bor Element) → Call L
call_of at_hand (a.ShowSheet place list) = model.ShowSheet place (length list.now)
call_of at_hand (a.ShowTally place list) = model.ShowTally place (length list.now)
call_of at_hand (a.Spectrum element depth place list) = model.Spectrum element.now depth place (length list.now)
call_of at_hand (a.Skeleton element depth place list) = model.Skeleton element.now depth place (length list.now)
call_of at_hand (a.Begin flat) = model.Begin flat
call_of at_hand a.End = model.End at_hand
call_of at_hand (a.Load place picture) = model.Load place picture.now
call_of at_hand (a.Erode element from to) = model.Erode element.now from to
call_of at_hand (a.Dilate element from to) = model.Dilate element.now from to
call_of at_hand (a.Open element size from to) = model.Open element.now size from to
call_of at_hand (a.Close element size from to) = model.Close element.now size from to
call_of at_hand (a.Meet one other to) = model.Meet one other to
call_of at_hand (a.Join one other to) = model.Join one other to
call_of at_hand (a.Regrow element marker upper to) = model.Regrow element.now marker upper to
call_of at_hand (a.Edge element from to) = model.Edge element.now from to
call_of at_hand (a.Peak element from to) = model.Peak element.now from to
call_of at_hand (a.Valley element from to) = model.Valley element.now from to
call_of at_hand (a.Differ one other to) = model.Differ one other to
call_of at_hand (a.Add one other to) = model.Add one other to
call_of at_hand (a.Scale factor from to) = model.Scale factor from to
call_of at_hand (a.Area place) = model.Area place
call_of at_hand (a.Span place) = model.Span place

-- what a call leaves behind the lists that it was lent: a case for each call that writes one, in the order in which they stand
abbrev pub Left : Type 0 → Type 0 → Type 0 → Type 0
Left L E R =
    (ℕ × (MutBor (List L) × Unit {0})) ⊎ ((ℕ × (MutBor (List ℤ) × Unit {0}))
    ⊎ ((E × (ℕ × (ℕ × (MutBor (List ℕ) × Unit {0})))) ⊎ ((E × (ℕ × (ℕ × (MutBor (List ℕ) × Unit {0})))) ⊎ R)))

-- the list of a shown sheet, that of a shown tally, and that of a spectrum or a skeleton
abbrev pub sheet_left : {L E R : Type 0} → Left L E R → List L
sheet_left (inl left) = left.1.0.now
sheet_left (inr left) = []

abbrev pub tally_left : {L E R : Type 0} → Left L E R → List ℤ
tally_left (inr (inl left)) = left.1.0.now
tally_left left = []

abbrev pub numbers_left : {L E R : Type 0} → Left L E R → List ℕ
numbers_left (inr (inr (inl left))) = left.1.1.1.0.now
numbers_left (inr (inr (inr (inl left)))) = left.1.1.1.0.now
numbers_left left = []

-- what a call tells and writes as the model tells it
abbrev pub told_of : {L E R : Type 0} → (L → ℕ) → Left L E R → what.Told L → Told
told_of height left tells.Nothing = model.NothingTold
told_of height left (tells.Slip flat) = model.SlipTold flat
told_of height left (tells.Rounds rounds) = model.RoundsTold rounds
told_of height left (tells.Area area) = model.AreaTold area
told_of height left (tells.Span least greatest) = model.SpanTold (spot_numbers height least) (spot_numbers height greatest)
told_of height left tells.Spectrum = model.SpectrumTold (numbers_left left)
told_of height left tells.Skeleton = model.SkeletonTold (numbers_left left)
told_of height left tells.Sheet = model.SheetTold (map height (sheet_left left))
told_of height left (tells.Tally weight) = model.TallyTold (weighed weight (tally_left left))

-- the list that a call was to write is as it was
abbrev pub KeepsList : {L P E R : Type 0} → of.Call (MutBor (List L)) (MutBor (List ℤ)) (MutBor (List ℕ)) (MutBor (List ℕ)) P E → Left L E R → Type 0
KeepsList (a.ShowSheet place list) left = sheet_left left ≡ list.now
KeepsList (a.ShowTally place list) left = tally_left left ≡ list.now
KeepsList (a.Spectrum element depth place list) left = numbers_left left ≡ list.now
KeepsList (a.Skeleton element depth place list) left = numbers_left left ≡ list.now
KeepsList call left = Unit {0}

-- The sheet in a place of a rack, opened by way of its skeleton: what is refused, and what comes of it. Assumes nothing.
use Rattle.std.proofs.Common.{◌≡◌, ℕ, ◌*◌, ◌≤◌, true, ◌&&◌, is_some, None, Ok, List, length, map, take, drop, replicate, refl, sym, ap, subst, ◌∙◌, arith}
use Rattle.std.proofs.Math.Bool.{and-true}
use Rattle.std.proofs.lemmas.Bool.{eq-eqb, le-leb}
use Rattle.std.proofs.lemmas.List.{length-map}
use Rattle.elements.specs.declared.element.Element.{Element}
use Rattle.levels.specs.declared.number.Number.{Number}
use Rattle.limits.specs.Faults.{told}
use Rattle.limits.specs.Sizes.{lawful_side, lawful_size}
use Rattle.morphology.proofs.Passing.{heights_of_part}
use Rattle.operators.specs.Openings.{opening}
use Rattle.operators.specs.Restoring.{answer_list, left_in_list, restored, restore_refusal, work_list}
use Rattle.laws.specs.Sums.{HeightsAtMost}
use Rattle.bench.specs.declared.rack.Rack.{Rack}
use Rattle.bench.specs.Calls.{depth_refusal}
use Rattle.bench.specs.Model.{Outline, cells_of, is_place, kept, place_start, rack_outline, rack_state, sheet_of}
use Rattle.bench.proofs.Places.{filled_sheet, length-cells_of, rack_room, some_cells}
use Rattle.calls.specs.ByElement.{shrink, skeleton_by, skeleton_length, swell}
use Rattle.runs.proofs.Accepted.{Listed}
use Rattle.runs.proofs.Reached.{picture_topped}
use Rattle.runs.proofs.Restored.{restore_accepted, restored_opening}
use Rattle.restoring.specs.BySkeleton.{by_skeleton_refusal}
use Rattle.restoring.specs.Numbers.{heights_of}

-- the sheet in a filled place of a rack
module _ {L : Type 0} (height : L → ℕ) (r : Rack L) (k : ℕ) (there : is_place r.marks.places k ≡ true) (filled : is_some (kept r.marks k) ≡ true) where
  sheet_cells : cells_of (r.marks.w * r.marks.h) k (map height r.memory.now) ≡ sheet_of (rack_state height r) k
  sheet_cells = filled_sheet (kept r.marks k) (cells_of (r.marks.w * r.marks.h) k (map height r.memory.now)) filled

  sheet_long : length (sheet_of (rack_state height r) k) ≡ r.marks.w * r.marks.h
  sheet_long = sym (ap length sheet_cells) ∙ length-cells_of r.marks k there (map height r.memory.now) (rw length-map (rack_room r k there))

  sheet_topped : (top : ℕ) → ((x : L) → height x ≤ top) → HeightsAtMost top (sheet_of (rack_state height r) k)
  sheet_topped top bounded =
      let cells = r.marks.w * r.marks.h in
      let start = place_start cells k in
      subst (HeightsAtMost top) (heights_of_part height cells start r.memory.now ∙ sheet_cells)
      (picture_topped height top bounded (take cells (drop start r.memory.now)))

  sides_lawful : (lawful_side r.marks.w && lawful_side r.marks.h) ≡ true
  sides_lawful =
      let some = some_cells r.marks k there in
      rw (le-leb 1 r.marks.w some.0, le-leb r.marks.w 1024 (omega (arith, r.marks.wide)), le-leb 1 r.marks.h some.1, le-leb r.marks.h 1024 (omega (arith, r.marks.high))) refl

-- where the first tests pass, it is refused as the skeleton is
pub refused_as_skeleton : (o : Outline) (depth size place pieces answer work : ℕ) → answer ≡ o.w * o.h → work ≡ o.w * o.h → is_place o.places place ≡ true
    → size ≤ depth → by_skeleton_refusal o depth size place pieces answer work ≡ depth_refusal o depth place pieces (skeleton_length depth (o.w * o.h))
refused_as_skeleton o depth size place pieces answer work one other there within =
    rw (eq-eqb answer (o.w * o.h) one, eq-eqb work (o.w * o.h) other, there, le-leb size depth within, and-true (lawful_size depth)) refl

-- where the skeleton was told, restoring is not refused, and gives the opening
module _ {L : Type 0} (height : L → ℕ) (top : ℕ) (bounded : (x : L) → height x ≤ top) (low : top ≤ 65536) (r : Rack L) (e : Element) (depth size place : ℕ) (within : size ≤ depth)
    (listed : Listed (rack_outline r) depth place) (pieces : List ℕ) (answer work : List Number)
    (is : pieces ≡ skeleton_by e depth r.marks.w r.marks.h (sheet_of (rack_state height r) place))
    (answer_long : length answer ≡ r.marks.w * r.marks.h) (work_long : length work ≡ r.marks.w * r.marks.h) where
  abbrev w : ℕ
  w = r.marks.w

  abbrev h : ℕ
  h = r.marks.h

  abbrev sheet : List ℕ
  sheet = sheet_of (rack_state height r) place

  restore_none : (answer_len work_len : ℕ) → answer_len ≡ w * h → work_len ≡ w * h → restore_refusal (swell e w h) w h depth size pieces answer_len work_len ≡ None
  restore_none answer_len work_len one other =
      ap (λ xs. restore_refusal (swell e w h) w h depth size xs answer_len work_len) is
      ∙ restore_accepted e w h depth size sheet (sheet_long height r place listed.there listed.filled) within top answer_len work_len
      (sheet_topped height r place listed.there listed.filled top bounded) low (sides_lawful height r place listed.there listed.filled) listed.lawful one other

  lists_none : restore_refusal (swell e w h) w h depth size pieces (length (heights_of answer)) (length (heights_of work)) ≡ None
  lists_none = restore_none _ _ (length-map answer (λ (n : Number). n.value) ∙ answer_long) (length-map work (λ (n : Number). n.value) ∙ work_long)

  -- by the sides that the rack tells
  module _ (one other : ℕ) (wide : one ≡ w) (high : other ≡ h) where
    pub opened_tells : told (restore_refusal (swell e one other) one other depth size pieces (length answer) (length work)) ≡ Ok tt
    opened_tells =
        (λ i. told (restore_refusal (swell e (wide i) (high i)) (wide i) (high i) depth size pieces (length answer) (length work)))
        ∙ ap told (restore_none (length answer) (length work) answer_long work_long)

    pub opened_answer : answer_list (swell e one other) one other depth size pieces (heights_of answer) (heights_of work) ≡ opening (shrink e w h) (swell e w h) size sheet
    opened_answer =
        (λ i. answer_list (swell e (wide i) (high i)) (wide i) (high i) depth size pieces (heights_of answer) (heights_of work))
        ∙ ap (λ o. left_in_list o (restored (swell e w h) (w * h) depth size pieces) (heights_of answer)) lists_none
        ∙ ap (restored (swell e w h) (w * h) depth size) is
        ∙ restored_opening e w h depth size sheet (sheet_long height r place listed.there listed.filled) within

    pub opened_work : work_list (swell e one other) one other depth size pieces (heights_of answer) (heights_of work) ≡ replicate (w * h) 0
    opened_work =
        (λ i. work_list (swell e (wide i) (high i)) (wide i) (high i) depth size pieces (heights_of answer) (heights_of work))
        ∙ ap (λ o. left_in_list o (replicate (w * h) 0) (heights_of work)) lists_none

-- A place of a rack or a slate in its memory. Assumes nothing.
use Rattle.std.proofs.Common.{◌≡◌, ℕ, ◌+◌, ◌-◌, ◌*◌, ◌≤◌, true, is_some, leb, List, [], ◌++◌, map, length, take, drop, option_map, Option, Some, None, refl, ap, sym, ◌∙◌, inl, inr, unwrap_or, add-mul, mul-zero, zero-mul, arith}
use Rattle.std.proofs.lemmas.List.{drop_at, length-drop, length-map, length-take, map-append, places, same_lists, take_at}
use Rattle.std.proofs.lemmas.Bool.{and_parts, cases_Bool, cases_lt, false≢true, leb-true}
use Rattle.bench.specs.declared.marks.Marks.{Marks}
use Rattle.bench.specs.declared.rack.Rack.{Rack}
use Rattle.bench.specs.declared.slate.Slate.{Slate}
use Rattle.bench.specs.Model.{cells_from, cells_of, is_place, kept, outline_of, place_start, places_of, plane_of, sheet_held, sheet_of, state_of}
use Rattle.bench.specs.Calls.{OfTwo, made_from, made_of}
use Rattle.bench.proofs.Refusals.{MadeFrom}
use Rattle.bench.proofs.Stored.{place_within}

-- places are counted from 1
pub from_one : (places k : ℕ) → is_place places k ≡ true → 1 ≤ k
from_one places k place = leb-true 1 k (and_parts (leb 1 k) (leb k places) place).0

module _ {T : Type 0} (m : Marks T) (k : ℕ) (place : is_place m.places k ≡ true) where
  -- where there is a place there is one
  pub some_places : 1 ≤ m.places
  some_places =
      let low = from_one m.places k place in
      let high = leb-true k m.places (and_parts (leb 1 k) (leb k m.places) place).1 in
      omega arith

  -- and it has cells
  pub some_cells : (1 ≤ m.w) × (1 ≤ m.h)
  some_cells = let some = some_places in (omega (arith, m.some_column), omega (arith, m.some_row))

  -- memory of all places, and more, has all its cells
  module _ {X : Type 0} (memory : List X) (room : m.places * (m.w * m.h) ≤ length memory) where
    pub place_in_memory : place_start (m.w * m.h) k + m.w * m.h ≤ length memory
    place_in_memory = omega (arith, room, place_within (m.w * m.h) m.places k place)

    pub length-cells_of : length (cells_of (m.w * m.h) k memory) ≡ m.w * m.h
    length-cells_of = let within = place_in_memory in simp (length-take, length-drop) (omega arith)

-- the memory of a rack has room for its places, and behind them for two planes
pub places_fit : (places cells n : ℕ) → n ≡ (places + 2) * cells → (places * cells ≤ n) × (n - places * cells ≡ 2 * cells)
places_fit places cells n is = let all = add-mul places 2 cells in (omega arith, omega arith)

pub rack_room : {L : Type 0} (r : Rack L) (k : ℕ) → is_place r.marks.places k ≡ true → r.marks.places * (r.marks.w * r.marks.h) ≤ length r.memory.now
rack_room r k place = (places_fit r.marks.places (r.marks.w * r.marks.h) (length r.memory.now) (r.sized (some_places r.marks k place))).0

-- and for those where it has no places, and no cells
pub planes_room : {L : Type 0} (r : Rack L) → r.marks.places * (r.marks.w * r.marks.h) + 2 * (r.marks.w * r.marks.h) ≤ length r.memory.now
planes_room r = elim (cases_lt 0 r.marks.places) [
  | inl some ↦ let fits = places_fit r.marks.places (r.marks.w * r.marks.h) (length r.memory.now) (r.sized (omega arith)) in omega (arith, fits.0, fits.1)
  | inr none ↦
      let no_cells : r.marks.w * r.marks.h ≡ 0 = ap (λ w. w * r.marks.h) (let no_column : r.marks.w ≡ 0 = omega (arith, r.marks.wide) in no_column) ∙ zero-mul r.marks.h in
      omega (arith, no_cells, ap (λ n. r.marks.places * n) no_cells, mul-zero r.marks.places)
]

pub length-plane_of : {L X : Type 0} (r : Rack L) (memory : List X) → length memory ≡ length r.memory.now → length (plane_of r.marks memory) ≡ r.marks.w * r.marks.h
length-plane_of r memory long = let room = planes_room r in simp (length-take, length-drop) (omega arith)

-- memory that is split right behind its places
module _ {T X Y : Type 0} (m : Marks T) (f : X → Y) (sheets planes : List X) (front : length sheets ≡ m.places * (m.w * m.h)) where
  pub places_split : places_of m (map f (sheets ++ planes)) ≡ map f sheets
  places_split = ap (take (m.places * (m.w * m.h))) (map-append f sheets planes) ∙ take_at _ _ _ (length-map sheets f ∙ front)

  pub plane_split : plane_of m (map f (sheets ++ planes)) ≡ cells_from 0 (m.w * m.h) (map f planes)
  plane_split =
      ap (λ ys. cells_from (m.places * (m.w * m.h)) (m.w * m.h) ys) (map-append f sheets planes)
      ∙ ap (take (m.w * m.h)) (drop_at _ _ _ (length-map sheets f ∙ front))

-- and the memory of a slate has room for its places
pub slate_room : (s : Slate) (k : ℕ) → is_place s.marks.places k ≡ true → s.marks.places * (s.marks.w * s.marks.h) ≤ length s.memory.now
slate_room s k place = let sized = s.sized (some_places s.marks k place) in omega (arith, sized)

-- cells in the front of a memory
cells_in_front : {X : Type 0} (start n front : ℕ) (memory : List X) → start + n ≤ front → take n (drop start (take front memory)) ≡ take n (drop start memory)
cells_in_front start n front memory within = same_lists _ _ (simp (length-take, length-drop) (omega arith)) (λ k d h. grind (arith, places))

-- the state is told by the memory of the places alone
pub state_of_places : {T X C : Type 0} (holds : T → List X → C) (m : Marks T) (memory : List X) → state_of holds m (places_of m memory) ≡ state_of holds m memory
state_of_places holds m memory = λ i. record { outline = outline_of m; content = λ k. content k i }
  where
    content : (k : ℕ) → option_map (λ t. holds t (cells_of (m.w * m.h) k (places_of m memory))) (kept m k) ≡ option_map (λ t. holds t (cells_of (m.w * m.h) k memory)) (kept m k)
    content k = elim (cases_Bool (is_place m.places k)) [
      | inl there ↦
          ap (λ cells. option_map (λ t. holds t cells) (kept m k))
          (cells_in_front (place_start (m.w * m.h) k) (m.w * m.h) (m.places * (m.w * m.h)) memory (place_within (m.w * m.h) m.places k there))
      | inr off ↦ rw off refl
    ]

-- a place that something is kept for holds what is made of that and of its cells
pub content_kept : {T X C : Type 0} (holds : T → List X → C) (m : Marks T) (memory : List X) (k : ℕ) (t : T) (cells : List X)
    → kept m k ≡ Some t → cells ≡ cells_of (m.w * m.h) k memory → (state_of holds m memory).content k ≡ Some (holds t cells)
content_kept holds m memory k t cells is those = λ i. option_map (λ u. holds u (sym those i)) (is i)

-- a filled place of a rack holds its cells as a sheet, and what is made of its sheets is made of the cells of their places
pub filled_sheet : {T : Type 0} (o : Option T) (cells : List ℕ) → is_some o ≡ true → cells ≡ unwrap_or (option_map (λ nothing. cells) o) []
filled_sheet None cells some = absurd (false≢true some)
filled_sheet (Some t) cells some = refl

module _ {X : Type 0} (made : OfTwo X) (m : Marks (Unit {0})) (heights : List ℕ) (one other : ℕ) (from : MadeFrom (outline_of m) one other) where
  sheet_there : (k : ℕ) → is_place m.places k ≡ true → is_some (kept m k) ≡ true
      → cells_of (m.w * m.h) k (places_of m heights) ≡ sheet_of (state_of sheet_held m heights) k
  sheet_there k there filled =
      cells_in_front (place_start (m.w * m.h) k) (m.w * m.h) (m.places * (m.w * m.h)) heights (place_within (m.w * m.h) m.places k there)
      ∙ filled_sheet (kept m k) (cells_of (m.w * m.h) k heights) filled

  pub made_from_places : made_from made m.w m.h (place_start (m.w * m.h) one) (place_start (m.w * m.h) other) (places_of m heights)
      ≡ made_of made (state_of sheet_held m heights) one other
  made_from_places = λ i. made m.w m.h (sheet_there one from.one_place from.one_filled i) (sheet_there other from.other_place from.other_filled i)

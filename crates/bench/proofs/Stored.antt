-- Cells written to one place: that place holds them, and the others what they held. Assumes nothing.
use Rattle.std.proofs.Common.{◌≡◌, ℕ, ◌+◌, ◌-◌, ◌*◌, ◌<◌, ◌≤◌, true, cond, eqb, leb, ◌≢◌, ◌⊎◌, is_some, Some, None, Option, List, length, get_or, take, drop, set, option_map, sym, refl, ap, ◌∙◌, inl, inr, add-mul, one-mul, arith}
use Rattle.std.proofs.lemmas.Nat.{mul-le}
use Rattle.std.proofs.lemmas.List.{places, same_lists, get_or-set_same, get_or-set_other, take_at, drop_at, length-append, length-take, length-take-le, length-drop}
use Rattle.std.proofs.lemmas.Bool.{cases_eq, cases_Bool, cases_order, eq-eqb, ne_eqb, and_parts, leb-true}
use Rattle.bench.specs.declared.marks.Marks.{Marks}
use Rattle.bench.specs.Model.{is_place, kept, state_of, cells_of, place_start, overwritten}
use Rattle.bench.specs.Calls.{stored}

module _ {X : Type 0} (start : ℕ) (cells memory : List X) (room : start + length cells ≤ length memory) where
  -- the cells that were written
  pub taken_written : take (length cells) (drop start (overwritten start cells memory)) ≡ cells
  taken_written =
      let front : length (take start memory) ≡ start = length-take-le start memory (omega arith) in
      ap (take (length cells)) (drop_at (take start memory) _ start front) ∙ take_at cells _ (length cells) refl

  -- cells apart from them
  pub taken_apart : (n s : ℕ) → (s + n ≤ start) ⊎ (start + length cells ≤ s) → s + n ≤ length memory → take n (drop s (overwritten start cells memory)) ≡ take n (drop s memory)
  taken_apart n s apart within = same_lists _ _ (simp (length-take, length-drop, length-append) (omega arith))
      (λ k d h. elim apart [ inl below ↦ grind (arith, places) | inr above ↦ grind (arith, places) ])

-- two places do not overlap
pub places_apart : (c j k : ℕ) → 1 ≤ j → 1 ≤ k → j ≢ k → (place_start c j + c ≤ place_start c k) ⊎ (place_start c k + c ≤ place_start c j)
places_apart c j k first second other = elim (cases_order j k) [
  | inl same ↦ absurd (other same)
  | inr order ↦ elim order [ inl less ↦ inl (after j k first less) | inr more ↦ inr (after k j second more) ]
]
  where
    after : (i l : ℕ) → 1 ≤ i → i < l → place_start c i + c ≤ place_start c l
    after i l one less = omega (arith, mul-le (i - 1 + 1) c (l - 1) c (omega arith) (omega arith), add-mul (i - 1) 1 c, one-mul c)

-- a place ends within the memory of all of them
pub place_within : (c n k : ℕ) → is_place n k ≡ true → place_start c k + c ≤ n * c
place_within c n k place =
    let both = and_parts (leb 1 k) (leb k n) place in
    let low = leb-true 1 k both.0 in
    let high = leb-true k n both.1 in
    omega (arith, mul-le (k - 1 + 1) c n c (omega arith) (omega arith), add-mul (k - 1) 1 c, one-mul c)

module _ {T X C : Type 0} (holds : T → List X → C) (m : Marks T) (k : ℕ) (t : T) (cells memory : List X)
    (place : is_place m.places k ≡ true) (long : length cells ≡ m.w * m.h) (room : m.places * (m.w * m.h) ≤ length memory) where
  low : 1 ≤ k
  low = leb-true 1 k (and_parts (leb 1 k) (leb k m.places) place).0

  high : k ≤ m.places
  high = leb-true k m.places (and_parts (leb 1 k) (leb k m.places) place).1

  abbrev row : List (Option T)
  row = set m.filled (k - 1) (Some t)

  abbrev after_writing : List X
  after_writing = overwritten (place_start (m.w * m.h) k) cells memory

  -- what is kept for a place after that is kept for place k
  kept_after : (j : ℕ) → cond (is_place m.places j) (get_or row (j - 1) None) None ≡ cond (eqb j k) (Some t) (kept m j)
  kept_after j = elim (cases_eq j k) [
    | inl same ↦
        let one = low in
        let two = high in
        rw (eq-eqb j k same)
        (ap (λ i. cond (is_place m.places i) (get_or row (i - 1) None) None) same
        ∙ rw place (get_or-set_same m.filled (k - 1) (Some t) None (omega (arith, m.twelve, m.few))))
    | inr other ↦
        rw (ne_eqb j k other)
        (elim (cases_Bool (is_place m.places j)) [
          | inl at ↦
              let one = leb-true 1 j (and_parts (leb 1 j) (leb j m.places) at).0 in
              let two = low in
              let apart : j - 1 ≢ k - 1 = omega arith in
              ap (λ x. cond (is_place m.places j) x None) (get_or-set_other m.filled (k - 1) (j - 1) (Some t) None apart)
          | inr off ↦ rw off refl
        ])
  ]

  filled_after : (j : ℕ) → is_some (cond (eqb j k) (Some t) (kept m j)) ≡ cond (eqb j k) true (is_some (kept m j))
  filled_after j = elim (cases_Bool (eqb j k)) [ inl same ↦ rw same refl | inr other ↦ rw other refl ]

  content_after : (j : ℕ) → option_map (λ u. holds u (cells_of (m.w * m.h) j after_writing)) (cond (eqb j k) (Some t) (kept m j))
      ≡ cond (eqb j k) (Some (holds t cells)) (option_map (λ u. holds u (cells_of (m.w * m.h) j memory)) (kept m j))
  content_after j =
      let c = m.w * m.h in
      let fits : place_start c k + length cells ≤ length memory = omega (arith, place_within c m.places k place) in
      elim (cases_eq j k) [
        | inl same ↦
            rw (eq-eqb j k same)
            (ap (λ xs. Some (holds t xs))
            (ap (λ i. cells_of c i after_writing) same
            ∙ ap (λ l. take l (drop (place_start c k) after_writing)) (sym long)
            ∙ taken_written (place_start c k) cells memory fits))
        | inr other ↦
            rw (ne_eqb j k other)
            (elim (cases_Bool (is_place m.places j)) [
              | inl at ↦
                  let one = leb-true 1 j (and_parts (leb 1 j) (leb j m.places) at).0 in
                  let apart = places_apart c j k one low other in
                  let ends = place_within c m.places j at in
                  ap (λ xs. option_map (λ u. holds u xs) (kept m j))
                  (taken_apart (place_start c k) cells memory fits c (place_start c j) (rw long apart) (omega arith))
              | inr off ↦ rw off refl
            ])
      ]

  -- the state with something kept for the place and its cells written
  pub stored_state : (after : Marks T) → after.w ≡ m.w → after.h ≡ m.h → after.places ≡ m.places → after.visit ≡ m.visit → after.filled ≡ row →
      state_of holds after after_writing ≡ stored (state_of holds m memory) k (holds t cells)
  stored_state after ew eh ep ev ef =
      (λ i. record {
        outline = record { w = ew i; h = eh i; places = ep i; visit = ev i; filled = λ j. is_some (cond (is_place (ep i) j) (get_or (ef i) (j - 1) None) None) };
        content = λ j. option_map (λ u. holds u (cells_of (ew i * eh i) j after_writing)) (cond (is_place (ep i) j) (get_or (ef i) (j - 1) None) None);
      })
      ∙ (λ i. record {
        outline = record { w = m.w; h = m.h; places = m.places; visit = m.visit; filled = λ j. is_some (kept_after j i) };
        content = λ j. option_map (λ u. holds u (cells_of (m.w * m.h) j after_writing)) (kept_after j i);
      })
      ∙ (λ i. record {
        outline = record { w = m.w; h = m.h; places = m.places; visit = m.visit; filled = λ j. filled_after j i };
        content = λ j. content_after j i;
      })

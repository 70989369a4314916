-- The areas of the closings of each size from a depth down to 0, and those of the openings from size 0 up to it, one list behind the other:
-- how they fall from one to the next is a pattern spectrum. Assumes nothing.
use Rattle.std.proofs.Common.{◌≡◌, ℕ, suc, ◌+◌, ◌-◌, ◌<◌, ◌≤◌, List, [], ◌∷◌, ◌++◌, map, length, get_or, take, drop, sym, ap, ◌∙◌, inl, inr, arith}
use Rattle.std.specs.Prelude.{reverse}
use Rattle.std.specs.List.{range_with_len}
use Rattle.std.proofs.lemmas.Bool.{cases_lt}
use Rattle.std.proofs.Math.ListN.{get_or-append}
use Rattle.std.proofs.lemmas.List.{append-nil, drop_all, drop_at, get_or-append_right, get_or-reverse, get_or-take, length-append, length-drop, length-reverse, length-take-le, take-append-le, take_at}
use Rattle.std.proofs.lemmas.List.FromFn.{get_or-map-range_with_len, length-map-range_with_len}
use Rattle.measurements.specs.Areas.{minus_next}
use Rattle.measurements.proofs.Falling.{from_falls}

-- the front of a list written and turned around, and the rest written from the last place of that front on
module _ (d : ℕ) (list front back : List ℕ) (first : length front ≡ d + 1) where
  abbrev whole : List ℕ
  whole = front ++ drop (d + 1) list

  abbrev turned : List ℕ
  turned = reverse (take (d + 1) whole) ++ drop (d + 1) whole

  pub front_and_back : take d turned ++ (back ++ drop (length turned - d) (drop d turned)) ≡ take d (reverse front) ++ back
  front_and_back =
      let is : turned ≡ reverse front ++ drop (d + 1) list =
      λ i. reverse (take_at front (drop (d + 1) list) (d + 1) first i) ++ drop_at front (drop (d + 1) list) (d + 1) first i in
      let before = ap (take d) is ∙ take-append-le d (reverse front) (drop (d + 1) list) (omega (arith, length-reverse front)) in
      let behind : drop (length turned - d) (drop d turned) ≡ [] = drop_all (length turned - d) (drop d turned) (omega (arith, length-drop d turned)) in
      (λ i. before i ++ (back ++ behind i)) ∙ ap (λ xs. take d (reverse front) ++ xs) (append-nil back)

module _ (d : ℕ) (closed opened : ℕ → ℕ) (same : closed 0 ≡ opened 0) where
  abbrev sizes : (ℕ → ℕ) → ℕ → List ℕ
  sizes f n = map f (range_with_len 0 n)

  abbrev areas : List ℕ
  areas = take d (reverse (sizes closed (d + 1))) ++ sizes opened (d + 1)

  abbrev entries : List ℕ
  entries = sizes (λ n. closed (d - n) - closed (d - n - 1)) d ++ (sizes (λ n. opened n - opened (n + 1)) d ++ opened d ∷ [])

  size_at : (f : ℕ → ℕ) (n k : ℕ) → k < n → get_or (sizes f n) k 0 ≡ f k
  size_at f n k within = get_or-map-range_with_len f 0 n k k 0 within (omega arith)

  long_closed : length (take d (reverse (sizes closed (d + 1)))) ≡ d
  long_closed = length-take-le d (reverse (sizes closed (d + 1))) (omega (arith, length-reverse (sizes closed (d + 1)), length-map-range_with_len closed 0 (d + 1)))

  long_areas : length areas ≡ d + (d + 1)
  long_areas = length-append (take d (reverse (sizes closed (d + 1)))) (sizes opened (d + 1)) ∙ (λ i. long_closed i + length-map-range_with_len opened 0 (d + 1) i)

  closed_at : (j : ℕ) → j < d → get_or areas j 0 ≡ closed (d - j)
  closed_at j within =
      let all = length-map-range_with_len closed 0 (d + 1) in
      get_or-append (take d (reverse (sizes closed (d + 1)))) (sizes opened (d + 1)) 0 j (omega (arith, long_closed))
      ∙ get_or-take d (reverse (sizes closed (d + 1))) j 0 within
      ∙ get_or-reverse (sizes closed (d + 1)) j 0 (omega (arith, all))
      ∙ size_at closed (d + 1) (length (sizes closed (d + 1)) - 1 - j) (omega (arith, all))
      ∙ ap closed (omega (arith, all))

  opened_at : (j : ℕ) → d ≤ j → j < d + (d + 1) → get_or areas j 0 ≡ opened (j - d)
  opened_at j past within =
      get_or-append_right (take d (reverse (sizes closed (d + 1)))) (sizes opened (d + 1)) d j 0 long_closed past
      ∙ size_at opened (d + 1) (j - d) (omega arith)

  long_opened : length (sizes (λ n. opened n - opened (n + 1)) d ++ opened d ∷ []) ≡ d + 1
  long_opened = length-append (sizes (λ n. opened n - opened (n + 1)) d) (opened d ∷ []) ∙ ap (λ n. n + 1) (length-map-range_with_len (λ n. opened n - opened (n + 1)) 0 d)

  long_entries : length entries ≡ d + (d + 1)
  long_entries =
      length-append (sizes (λ n. closed (d - n) - closed (d - n - 1)) d) _ ∙ (λ i. length-map-range_with_len (λ n. closed (d - n) - closed (d - n - 1)) 0 d i + long_opened i)

  closed_entry : (j : ℕ) → j < d → get_or entries j 0 ≡ closed (d - j) - closed (d - j - 1)
  closed_entry j within =
      get_or-append (sizes (λ n. closed (d - n) - closed (d - n - 1)) d) (sizes (λ n. opened n - opened (n + 1)) d ++ opened d ∷ []) 0 j
      (omega (arith, length-map-range_with_len (λ n. closed (d - n) - closed (d - n - 1)) 0 d))
      ∙ size_at (λ n. closed (d - n) - closed (d - n - 1)) d j within

  behind_closed : (j : ℕ) → d ≤ j → get_or entries j 0 ≡ get_or (sizes (λ n. opened n - opened (n + 1)) d ++ opened d ∷ []) (j - d) 0
  behind_closed j past =
      get_or-append_right (sizes (λ n. closed (d - n) - closed (d - n - 1)) d) (sizes (λ n. opened n - opened (n + 1)) d ++ opened d ∷ []) d j 0
      (length-map-range_with_len (λ n. closed (d - n) - closed (d - n - 1)) 0 d) past

  opened_entry : (j : ℕ) → d ≤ j → j < d + d → get_or entries j 0 ≡ opened (j - d) - opened (j - d + 1)
  opened_entry j past within =
      behind_closed j past
      ∙ get_or-append (sizes (λ n. opened n - opened (n + 1)) d) (opened d ∷ []) 0 (j - d) (omega (arith, length-map-range_with_len (λ n. opened n - opened (n + 1)) 0 d))
      ∙ size_at (λ n. opened n - opened (n + 1)) d (j - d) (omega arith)

  last_entry : (j : ℕ) → j ≡ d + d → get_or entries j 0 ≡ opened d
  last_entry j end =
      let front = length-map-range_with_len (λ n. opened n - opened (n + 1)) 0 d in
      behind_closed j (omega arith)
      ∙ get_or-append_right (sizes (λ n. opened n - opened (n + 1)) d) (opened d ∷ []) d (j - d) 0 front (omega arith)
      ∙ ap (λ k. get_or (opened d ∷ []) k 0) (let none : j - d - d ≡ 0 = omega arith in none)

  falls_at : (j : ℕ) → suc j < length areas → get_or entries j 0 ≡ get_or areas j 0 - get_or areas (suc j) 0
  falls_at j within =
      let all = long_areas in
      elim (cases_lt (suc j) d) [
        | inl front ↦ closed_entry j (omega arith) ∙ (λ i. sym (closed_at j (omega arith)) i - sym (closed_at (suc j) front ∙ ap closed (let one : d - suc j ≡ d - j - 1 = omega arith in one)) i)
        | inr back ↦ elim (cases_lt j d) [
          | inl seam ↦
              let none : d - j - 1 ≡ 0 = omega arith in
              let here : suc j - d ≡ 0 = omega arith in
              closed_entry j seam ∙ (λ i. sym (closed_at j seam) i - (ap closed none ∙ same ∙ ap opened (sym here) ∙ sym (opened_at (suc j) back (omega arith))) i)
          | inr past ↦
              let next : j - d + 1 ≡ suc j - d = omega arith in
              opened_entry j past (omega arith) ∙ (λ i. sym (opened_at j past (omega arith)) i - (ap opened next ∙ sym (opened_at (suc j) back (omega arith))) i)
        ]
      ]

  ends_at : (j : ℕ) → length areas ≡ suc j → get_or entries j 0 ≡ get_or areas j 0
  ends_at j end =
      let all = long_areas in
      let rest : j - d ≡ d = omega arith in
      last_entry j (omega arith) ∙ ap opened (sym rest) ∙ sym (opened_at j (omega arith) (omega arith))

  -- each area minus the next, and the last as it is
  pub falls_are_entries : minus_next areas ≡ entries
  falls_are_entries = sym (from_falls areas entries (long_entries ∙ sym long_areas) falls_at ends_at)

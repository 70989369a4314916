-- The number that a text starts with, and where it ends.
use Rattle.std.proofs.Common.{◌≡◌, ℕ, zero, suc, ◌+◌, ◌^◌, ◌<◌, ◌≤◌, true, false, eqb, ltb, ◌⊎◌, List, [], ◌∷◌, ◌++◌, length, get_or, take, drop, Ok, decimal, sym, refl, ap, ◌∙◌, subst, inl, inr, add-one, arith}
use Rattle.std.proofs.lemmas.Fmt.{decimal-digits_value, decimal_injective, length-decimal-le, decimal_nonempty, first_decimal, decimal_digit, decimal_is_IsNumeral}
use Rattle.std.proofs.lemmas.List.{get_or_append_left, get_or-append_right, get_or-take, get_or-drop, drop-drop, length-drop, take-append-drop, length-take-le, append_cancel_left, take_at}
use Rattle.std.proofs.lemmas.Str.Parse.{IsNumeralModel, numerals_by_value, tells_digits, digits_value_short, digit_at}
use Rattle.std.proofs.lemmas.Bool.{cases_Bool, cond-true, cond-false, eqb-true, eqb-false, cases_order, cases_eq, cases_lt, ltb-true, ltb-false, both_ways}
use Rattle.std.proofs.lemmas.Bool.Decides.{nat_tests}
use Rattle.std.specs.Str.Parse.{AllDigits, digits_value}
use Rattle.std.specs.Int.{IsInRange}
use Rattle.std.specs.Char.{is_ascii_digit, digit_value}
use Rattle.text.specs.Pieces.{run, digit_count, front_value, number_at, refused_at, NumberThere, NumberMissing, TellsNumber}

digit_within : (c : ℕ) → is_ascii_digit c ≡ true → digit_value c < 10
digit_within c h = grind (arith, nat_tests)

within_digit : (c : ℕ) → IsInRange 48 57 c → is_ascii_digit c ≡ true
within_digit c h = grind (arith, nat_tests)

-- a run of digits ends at its room, or before a byte that is no digit
pub record Run (room : ℕ) (text : List ℕ) (count : ℕ) : Type 0 where
  pub most : count ≤ room
  pub short : count ≤ length text
  pub digits : AllDigits 10 (take count text)
  pub stops : count < room → is_ascii_digit (get_or text count 0) ≡ false

pub runs : (room : ℕ) (text : List ℕ) → Run room text (run room text)
runs zero text = record { most = omega arith; short = omega arith; digits = tt; stops = λ h. absurd (omega (arith, h)) }
runs (suc room) [] = record { most = omega arith; short = omega arith; digits = tt; stops = λ h. refl }
runs (suc room) (c ∷ text) =
    elim (cases_Bool (is_ascii_digit c)) [
      | inl d ↦
          let r = runs room text in
          let one : Run (suc room) (c ∷ text) (suc (run room text)) =
          record {
            most = omega (arith, r.most);
            short = omega (arith, r.short);
            digits = (digit_within c d, r.digits);
            stops = λ h. r.stops (omega arith);
          } in
          rw (cond-true (is_ascii_digit c) (run room text + 1) 0 d, add-one) one
      | inr d ↦
          let none : Run (suc room) (c ∷ text) 0 =
          record { most = omega arith; short = omega arith; digits = tt; stops = λ h. d } in
          rw (cond-false (is_ascii_digit c) (run room text + 1) 0 d) none
    ]

full_run : (room : ℕ) (text : List ℕ) (count : ℕ) → Run room text count → is_ascii_digit (get_or text count 0) ≡ true → count ≡ room
full_run room text count r digit =
    elim (cases_lt count room) [
      | inl h ↦ absurd (both_ways (is_ascii_digit (get_or text count 0)) (r.stops h) digit)
      | inr h ↦ omega (arith, r.most)
    ]

own : IsNumeralModel (AllDigits 10) (digits_value 10)
own = numerals_by_value (AllDigits 10) tells_digits

-- the bytes before the place where a number ends are its decimal, and it is as long as it can be
pub record Front (text : List ℕ) (count n : ℕ) : Type 0 where
  pub some : 0 < count
  pub short : count ≤ length text
  pub spells : decimal n ≡ take count text
  pub most : n ≤ 9999
  pub stops : is_ascii_digit (get_or text count 0) ≡ true → (n ≡ 0) ⊎ (count ≡ 4)

-- digits at the front of a text that are no number with a leading zero
digits_front : (text : List ℕ) (count : ℕ) → 0 < count → count ≤ 4 → count ≤ length text → AllDigits 10 (take count text)
    → (get_or text 0 0 ≡ 48 → count ≡ 1)
    → (decimal (digits_value 10 (take count text)) ≡ take count text) × (digits_value 10 (take count text) ≤ 9999)
digits_front text count some most short digits alone =
    let long : length (take count text) ≡ count = length-take-le count text short in
    let first : get_or (take count text) 0 0 ≡ get_or text 0 0 = get_or-take count text 0 0 some in
    let small : digits_value 10 (take count text) < 10 ^ 4 = digits_value_short own (take count text) 4 digits (omega arith) in (
      decimal-digits_value own (take count text) digits (omega arith) (λ h. long ∙ alone (sym first ∙ h)) (omega arith),
      omega arith,
    )

pub front_number : (text : List ℕ) → (digit_count text ≡ 0 → ⊥) → Front text (digit_count text) (front_value text)
front_number [] some = absurd (some refl)
front_number (c ∷ text) some =
    elim (cases_Bool (eqb c 48)) [
      | inl z ↦
          let is : c ≡ 48 = eqb-true c 48 z in
          let spelled = digits_front (c ∷ text) 1 (omega arith) (omega arith) (omega arith) (grind (arith, nat_tests), tt) (λ _. refl) in
          of (sym (cond-true (eqb c 48) 1 (run 4 (c ∷ text)) z))
          (record { some = omega arith; short = omega arith; spells = spelled.0; most = spelled.1; stops = λ _. inl (ap (λ (b : ℕ). digits_value 10 (b ∷ [])) is) })
      | inr z ↦
          let count : digit_count (c ∷ text) ≡ run 4 (c ∷ text) = cond-false (eqb c 48) 1 (run 4 (c ∷ text)) z in
          let r = runs 4 (c ∷ text) in
          let more : 0 < run 4 (c ∷ text) = grind (arith, some) in
          let spelled = digits_front (c ∷ text) (run 4 (c ∷ text)) more r.most r.short r.digits (λ h. absurd (eqb-false c 48 z h)) in
          of (sym count)
          (record { some = more; short = r.short; spells = spelled.0; most = spelled.1; stops = λ d. inr (full_run 4 (c ∷ text) (run 4 (c ∷ text)) r d) })
    ]
  where
    of : {k : ℕ} → k ≡ digit_count (c ∷ text) → Front (c ∷ text) k (digits_value 10 (take k (c ∷ text))) → Front (c ∷ text) (digit_count (c ∷ text)) (front_value (c ∷ text))
    of e f = subst (λ (k : ℕ). Front (c ∷ text) k (digits_value 10 (take k (c ∷ text)))) e f

-- a number's decimal holds nothing but digits
digit_of_decimal : (n i : ℕ) → n ≤ 9999 → i < length (decimal n) → IsInRange 48 57 (get_or (decimal n) i 0)
digit_of_decimal n i small h = digit_at (decimal n) i (decimal_is_IsNumeral n (omega arith)).0.1 h

zero_first : (n : ℕ) → n ≡ 0 → get_or (decimal n) 0 0 ≡ 48
zero_first n nought = ap (λ (k : ℕ). get_or (decimal k) 0 0) nought ∙ ap (λ (ds : List ℕ). get_or ds 0 0) (decimal_digit 0 (omega arith))

pub first_of : (n : ℕ) (rest : List ℕ) → n ≤ 9999 → get_or (decimal n ++ rest) 0 0 ≡ get_or (decimal n) 0 0
first_of n rest small = get_or_append_left (decimal n) rest 0 0 (decimal_nonempty n (omega arith))

same_first : (m n : ℕ) (r s : List ℕ) → m ≤ 9999 → n ≤ 9999 → decimal m ++ r ≡ decimal n ++ s → get_or (decimal m) 0 0 ≡ get_or (decimal n) 0 0
same_first m n r s m_small n_small same =
    sym (first_of m r m_small) ∙ (ap (λ (t : List ℕ). get_or t 0 0) same ∙ first_of n s n_small)

-- where one text has two numbers at its front, each as long as it can be, they are as long
same_length : (m n : ℕ) (r s : List ℕ) → m ≤ 9999 → n ≤ 9999 → decimal m ++ r ≡ decimal n ++ s
    → is_ascii_digit (get_or r 0 0) ≡ false
    → (is_ascii_digit (get_or s 0 0) ≡ true → (n ≡ 0) ⊎ (length (decimal n) ≡ 4))
    → length (decimal m) ≡ length (decimal n)
same_length m n r s m_small n_small same plain stops =
    elim (cases_order (length (decimal m)) (length (decimal n))) [
      | inl e ↦ e
      | inr (inl h) ↦
          let digit = within_digit _ (digit_of_decimal n (length (decimal m)) n_small h) in
          let there : get_or (decimal n) (length (decimal m)) 0 ≡ get_or r 0 0 = after_decimal n m s r h (sym same) in
          absurd (both_ways (is_ascii_digit (get_or r 0 0)) plain (sym (ap is_ascii_digit there) ∙ digit))
      | inr (inr h) ↦
          let digit = within_digit _ (digit_of_decimal m (length (decimal n)) m_small h) in
          let there : get_or (decimal m) (length (decimal n)) 0 ≡ get_or s 0 0 = after_decimal m n r s h same in
          elim (stops (sym (ap is_ascii_digit there) ∙ digit)) [
            | inl nought ↦ alone nought
            | inr four ↦ omega (arith, length-decimal-le 4 m (omega arith) (omega arith) (omega arith))
          ]
    ]
  where
    -- no other number starts with a 0
    alone : n ≡ 0 → length (decimal m) ≡ length (decimal n)
    alone nought =
        elim (cases_eq m 0) [
          | inl none ↦ ap (λ (k : ℕ). length (decimal k)) (none ∙ sym nought)
          | inr some ↦
              let first : get_or (decimal m) 0 0 ≡ 48 = same_first m n r s m_small n_small same ∙ zero_first n nought in
              absurd (omega (arith, first_decimal m (omega arith) (omega arith)))
        ]

    after_decimal : (a b : ℕ) (u v : List ℕ) → length (decimal b) < length (decimal a) → decimal a ++ u ≡ decimal b ++ v → get_or (decimal a) (length (decimal b)) 0 ≡ get_or v 0 0
    after_decimal a b u v h e =
        sym (get_or_append_left (decimal a) u 0 (length (decimal b)) h)
        ∙ (ap (λ (t : List ℕ). get_or t (length (decimal b)) 0) e ∙ (get_or-append_right (decimal b) v (length (decimal b)) (length (decimal b)) 0 refl (omega arith) ∙ ap (λ (i : ℕ). get_or v i 0) (omega arith)))

-- and they are the same, with the same after them
pub same_number : (m n : ℕ) (r s : List ℕ) → m ≤ 9999 → n ≤ 9999 → decimal m ++ r ≡ decimal n ++ s
    → is_ascii_digit (get_or r 0 0) ≡ false
    → (is_ascii_digit (get_or s 0 0) ≡ true → (n ≡ 0) ⊎ (length (decimal n) ≡ 4))
    → (m ≡ n) × (r ≡ s)
same_number m n r s m_small n_small same plain stops =
    let long = same_length m n r s m_small n_small same plain stops in
    let spelled : decimal m ≡ decimal n =
    sym (take_at (decimal m) r (length (decimal m)) refl) ∙ (ap (take (length (decimal m))) same ∙ take_at (decimal n) s (length (decimal m)) (sym long)) in (
      decimal_injective m n (omega arith) (omega arith) spelled,
      append_cancel_left (decimal n) r s (sym (ap (λ (ds : List ℕ). ds ++ r) spelled) ∙ same),
    )

found_from_front : (least : ℕ) (bytes : List ℕ) (at count n : ℕ) → least ≤ n → Front (drop at bytes) count n → NumberThere least bytes at n (at + count)
found_from_front least bytes at count n enough front =
    let long : length (decimal n) ≡ count = ap length front.spells ∙ length-take-le count (drop at bytes) front.short in
    let here : get_or (drop (at + count) bytes) 0 0 ≡ get_or (drop at bytes) count 0 =
    get_or-drop (at + count) bytes 0 0 ∙ (ap (λ (i : ℕ). get_or bytes i 0) (omega arith) ∙ sym (get_or-drop at bytes count 0)) in
    record {
      enough = enough;
      most = front.most;
      spells =
          sym (take-append-drop count (drop at bytes))
          ∙ (ap (λ (ds : List ℕ). ds ++ drop count (drop at bytes)) (sym front.spells) ∙ ap (λ (ds : List ℕ). decimal n ++ ds) (drop-drop count at bytes));
      ends = omega arith;
      within = omega (arith, front.short, front.some, length-drop at bytes);
      stops = λ digit. elim (front.stops (sym (ap is_ascii_digit here) ∙ digit)) [ inl nought ↦ inl nought | inr four ↦ inr (long ∙ four) ];
    }

-- how `number_at` answers: it finds a number, or no digit, or a number below the least
pub number_answers : (least : ℕ) (bytes : List ℕ) (at : ℕ) →
    ((n : ℕ) × (end : ℕ) × (number_at least bytes at ≡ Ok (record { value = n; end = end })) × NumberThere least bytes at n end)
    ⊎ ((number_at least bytes at ≡ refused_at at)
    × ((digit_count (drop at bytes) ≡ 0) ⊎ ((front_value (drop at bytes) < least) × Front (drop at bytes) (digit_count (drop at bytes)) (front_value (drop at bytes)))))
unfolding number_at
number_answers least bytes at =
    elim (cases_Bool (eqb (digit_count (drop at bytes)) 0)) [
      | inl none ↦ inr (cond-true _ _ _ none, inl (eqb-true _ 0 none))
      | inr some ↦
          let front = front_number (drop at bytes) (eqb-false _ 0 some) in
          elim (cases_Bool (ltb (front_value (drop at bytes)) least)) [
            | inl low ↦ inr (cond-false _ _ _ some ∙ cond-true _ _ _ low, inr (ltb-true _ least low, front))
            | inr enough ↦ inl (front_value (drop at bytes), at + digit_count (drop at bytes), cond-false _ _ _ some ∙ cond-false _ _ _ enough, found_from_front least bytes at _ _ (ltb-false _ least enough) front)
          ]
    ]

-- where `number_at` refuses, no number of at least `least` starts as the text does
pub none_starts : (least n : ℕ) (text : List ℕ) → least ≤ 1 → least ≤ n → n ≤ 9999
    → (digit_count text ≡ 0) ⊎ ((front_value text < least) × Front text (digit_count text) (front_value text))
    → get_or (decimal n) 0 0 ≡ get_or text 0 0 → ⊥
none_starts least n text one enough most (inl none) same =
    no_digit text none (ap is_ascii_digit (sym same) ∙ within_digit _ (digit_of_decimal n 0 most (decimal_nonempty n (omega arith))))
  where
    no_digit : (t : List ℕ) → digit_count t ≡ 0 → is_ascii_digit (get_or t 0 0) ≡ true → ⊥
    no_digit [] h digit = both_ways false refl digit
    no_digit (c ∷ t) h digit =
        let more : run 4 (c ∷ t) ≡ run 3 t + 1 = cond-true (is_ascii_digit c) (run 3 t + 1) 0 digit in
        elim (cases_Bool (eqb c 48)) [
          | inl z ↦ omega (arith, cond-true (eqb c 48) 1 (run 4 (c ∷ t)) z)
          | inr z ↦ omega (arith, cond-false (eqb c 48) 1 (run 4 (c ∷ t)) z)
        ]
none_starts least n text one enough most (inr (low, front)) same =
    let first : get_or (decimal (front_value text)) 0 0 ≡ get_or text 0 0 =
    ap (λ (ds : List ℕ). get_or ds 0 0) front.spells ∙ get_or-take (digit_count text) text 0 0 front.some in
    omega (arith, first, zero_first (front_value text) (omega arith), first_decimal n (omega arith) (omega arith))

number_missing : (least : ℕ) (bytes : List ℕ) (at : ℕ) → least ≤ 1
    → (digit_count (drop at bytes) ≡ 0) ⊎ ((front_value (drop at bytes) < least) × Front (drop at bytes) (digit_count (drop at bytes)) (front_value (drop at bytes)))
    → NumberMissing least bytes at
number_missing least bytes at one why n rest enough most same =
    none_starts least n (drop at bytes) one enough most why (sym (first_of n rest most) ∙ ap (λ (t : List ℕ). get_or t 0 0) (sym same))

pub tells_number : (least : ℕ) (bytes : List ℕ) (at : ℕ) → TellsNumber least bytes at (number_at least bytes at)
tells_number least bytes at =
    elim (number_answers least bytes at) [
      | inl (n, end, answer, there) ↦ subst (TellsNumber least bytes at) (sym answer) there
      | inr (answer, why) ↦ subst (TellsNumber least bytes at) (sym answer) (refl, λ one. number_missing least bytes at one why)
    ]

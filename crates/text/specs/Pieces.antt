-- What a text is read by: fixed bytes, and numbers from 0 to 9,999 in decimal without leading zeros.
use Rattle.std.specs.Prelude.{◌≡◌, ℕ, zero, suc, ◌+◌, ◌≤◌, Bool, true, cond, ◌&&◌, ◌⊎◌, List, [], ◌∷◌, ◌++◌, length, take, drop, Ok, Err, decimal, Result, MatchResult, ◌==◌, ◌≢◌, nat_lt, slice_index}
use Rattle.std.specs.Str.Parse.{digits_value}
use Rattle.std.specs.Char.{is_ascii_digit}
use Rattle.text.specs.declared.Misfit.{Misfit}

-- a number that stands in a text, and the place after its last digit
pub record Numeral : Type 0 where
  pub value : ℕ
  pub end : ℕ

-- what was read up to the place `end`, by that place alone
abbrev pub end_or_misfit : {X : Type 0} → ℕ → Result X Misfit → Result ℕ Misfit
end_or_misfit end (Ok _) = Ok end
end_or_misfit end (Err misfit) = Err misfit

-- a number that was read, and the place `end` up to which it was
abbrev pub with_end : ℕ → Result ℕ Misfit → Result Numeral Misfit
with_end end (Ok value) = Ok (record { value = value; end = end })
with_end end (Err misfit) = Err misfit

-- refused at a place
abbrev pub refused_at : {X : Type 0} → ℕ → Result X Misfit
refused_at place = Err (record { place = place })

-- the byte `b` stands at `at`
abbrev pub stands : ℕ → List ℕ → ℕ → Bool
stands b bytes at = nat_lt at (length bytes) && slice_index bytes at == b

-- the place after the fixed bytes at `at`, which are refused at the first of them that does not stand there
unfoldable pub fixed_at : List ℕ → List ℕ → ℕ → Result ℕ Misfit
fixed_at [] bytes at = Ok at
fixed_at (b ∷ wanted) bytes at = cond (stands b bytes at) (fixed_at wanted bytes (at + 1)) (refused_at at)

-- how many digits a text starts with, counted up to `room` of them
abbrev pub run : ℕ → List ℕ → ℕ
run zero text = 0
run (suc room) [] = 0
run (suc room) (c ∷ text) = cond (is_ascii_digit c) (run room text + 1) 0

-- how many bytes the number has that a text starts with: a 0 stands alone, and any other number has at most four digits
abbrev pub digit_count : List ℕ → ℕ
digit_count text = cond (slice_index text 0 == 48) 1 (run 4 text)

-- the number that a text starts with
abbrev pub front_value : List ℕ → ℕ
front_value text = digits_value 10 (take (digit_count text) text)

-- the number at `at`, refused there if no digit stands there or if it is below `least`
unfoldable pub number_at : ℕ → List ℕ → ℕ → Result Numeral Misfit
number_at least bytes at =
    cond (digit_count (drop at bytes) == 0) (refused_at at)
    (cond (nat_lt (front_value (drop at bytes)) least) (refused_at at)
    (Ok (record { value = front_value (drop at bytes); end = at + digit_count (drop at bytes) })))

-- the number n stands at `at`, and is as long as it can be: a digit follows only a 0, which stands alone, or four digits
pub record NumberThere (least : ℕ) (bytes : List ℕ) (at n end : ℕ) : Type 0 where
  pub enough : least ≤ n
  pub most : n ≤ 9999
  pub spells : drop at bytes ≡ decimal n ++ drop end bytes
  pub ends : end ≡ at + length (decimal n)
  pub within : end ≤ length bytes
  pub stops : is_ascii_digit (slice_index (drop end bytes) 0) ≡ true → (n ≡ 0) ⊎ (length (decimal n) ≡ 4)

-- no number of at least `least` stands at `at`
abbrev pub NumberMissing : ℕ → List ℕ → ℕ → Type 0
NumberMissing least bytes at =
    (n : ℕ) (rest : List ℕ) → least ≤ n → n ≤ 9999 → drop at bytes ≢ decimal n ++ rest

-- the number at `at` is the one told; or the misfit is at `at`, where no such number stands
abbrev pub TellsNumber : ℕ → List ℕ → ℕ → Result Numeral Misfit → Type 0
TellsNumber least bytes at r =
    MatchResult r (λ n. NumberThere least bytes at n.value n.end)
    (λ misfit. (misfit.place ≡ at) × (least ≤ 1 → NumberMissing least bytes at))

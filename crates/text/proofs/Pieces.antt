-- What the fixed bytes and the digits that were counted tell of a text.
use Rattle.std.proofs.Common.{◌≡◌, ℕ, zero, suc, ◌+◌, ◌<◌, Bool, true, false, cond, eqb, ltb, List, [], ◌∷◌, length, get_or, take, drop, Ok, sym, refl, ap, ◌∙◌, inl, inr, arith}
use Rattle.std.proofs.lemmas.List.{drop_more, drop_all}
use Rattle.std.proofs.lemmas.Bool.{cases_Bool, cases_lt, cond-true, cond-false}
use Rattle.std.proofs.lemmas.Bool.Decides.{nat_tests}
use Rattle.std.specs.List.{prefix_len, common_prefix_len, zip, starts_with}
use Rattle.std.specs.Char.{is_ascii_digit}
use Rattle.text.specs.Pieces.{stands, fixed_at, run, refused_at}

pub prefix_len-zip : (e : ℕ → ℕ → Bool) (xs ys : List ℕ) → prefix_len (λ (p : ℕ × ℕ). e p.0 p.1) (zip xs ys) ≡ common_prefix_len e xs ys
prefix_len-zip e [] ys = refl
prefix_len-zip e (x ∷ xs) [] = refl
prefix_len-zip e (x ∷ xs) (y ∷ ys) = ap (λ (n : ℕ). cond (e x y) (1 + n) 0) (prefix_len-zip e xs ys)

pub prefix_len-digits : (room : ℕ) (text : List ℕ) → prefix_len is_ascii_digit (take room text) ≡ run room text
prefix_len-digits zero text = refl
prefix_len-digits (suc room) [] = refl
prefix_len-digits (suc room) (c ∷ text) = ap (λ (n : ℕ). cond (is_ascii_digit c) n 0) {y = run room text + 1} (omega (arith, prefix_len-digits room text))

-- how many of the wanted bytes stand at `at`, one after the other
abbrev pub matching : List ℕ → List ℕ → ℕ → ℕ
matching wanted bytes at = common_prefix_len eqb wanted (drop at bytes)

pub fixed_at-matching : (wanted bytes : List ℕ) (at : ℕ)
    → fixed_at wanted bytes at ≡ cond (ltb (matching wanted bytes at) (length wanted)) (refused_at (at + matching wanted bytes at)) (Ok (at + matching wanted bytes at))
unfolding fixed_at
fixed_at-matching [] bytes at = ap (λ (n : ℕ). Ok n) (omega arith)
fixed_at-matching (b ∷ wanted) bytes at =
    elim (cases_Bool (stands b bytes at)) [
      | inl there ↦
          let in_text : at < length bytes = grind (arith, nat_tests) in
          let here : eqb b (get_or bytes at 0) ≡ true = grind (arith, nat_tests) in
          let count : matching (b ∷ wanted) bytes at ≡ 1 + matching wanted bytes (at + 1) =
          ap (common_prefix_len eqb (b ∷ wanted)) (drop_more bytes at 0 in_text) ∙ cond-true _ _ _ here in
          let rest = fixed_at-matching wanted bytes (at + 1) in
          let place : at + 1 + matching wanted bytes (at + 1) ≡ at + matching (b ∷ wanted) bytes at = omega arith in
          let test : ltb (matching wanted bytes (at + 1)) (length wanted) ≡ ltb (matching (b ∷ wanted) bytes at) (suc (length wanted)) = grind (arith, nat_tests) in
          cond-true _ _ _ there ∙ cc
      | inr absent ↦
          let none : matching (b ∷ wanted) bytes at ≡ 0 = nothing_here absent in
          let place : at ≡ at + matching (b ∷ wanted) bytes at = omega arith in
          let test : ltb (matching (b ∷ wanted) bytes at) (suc (length wanted)) ≡ true = grind (arith, nat_tests) in
          cond-false _ _ _ absent ∙ (ap refused_at place ∙ sym (cond-true _ _ _ test))
    ]
  where
    nothing_here : stands b bytes at ≡ false → matching (b ∷ wanted) bytes at ≡ 0
    nothing_here absent =
        elim (cases_lt at (length bytes)) [
          | inl h ↦
              let other : eqb b (get_or bytes at 0) ≡ false = grind (arith, nat_tests) in
              ap (common_prefix_len eqb (b ∷ wanted)) (drop_more bytes at 0 h) ∙ cond-false _ _ _ other
          | inr h ↦ ap (common_prefix_len eqb (b ∷ wanted)) (drop_all at bytes h)
        ]

pub no_zero : (text : List ℕ) → starts_with eqb text (48 ∷ []) ≡ false → eqb (get_or text 0 0) 48 ≡ false
no_zero [] h = refl
no_zero (c ∷ text) h = grind (arith, nat_tests)

-- The flags that a card tells are those of an element. Assumes nothing.
use Rattle.std.proofs.Common.{◌≡◌, ℕ, zero, suc, ◌+◌, ◌≤◌, Bool, true, false, cond, eqb, List, length, get_or, replicate, set, Some, None, Ok, Err, Option, Result, refl, ◌∙◌, subst, arith}
use Rattle.std.proofs.lemmas.Bool.Decides.{nat_tests}
use Rattle.std.proofs.lemmas.List.{length-replicate, length-set}
use Rattle.elements.specs.declared.cards.CardFault.{CardFault}
use Rattle.elements.specs.declared.cards.CardFault.TheVariants.{Length}
use Rattle.elements.specs.Offsets.{count}
use Rattle.elements.specs.Cards.{card_flags, chain_flags, end_fault, next_of, record_byte, record_fault, record_place, has_right_length, refused_or}

-- what an element asks of its flags
pub record ElementFlags (flags : List Bool) : Type 0 where
  pub square : length flags ≡ 49
  pub centre : get_or flags 24 false ≡ true
  pub several : 2 ≤ count flags

-- where a fault comes first, there is none
no_fault : (o : Option CardFault) (r : Result (List Bool) CardFault) (flags : List Bool) → refused_or o r ≡ Ok flags → (o ≡ None) × (r ≡ Ok flags)
no_fault None r flags h = (refl, h)
no_fault (Some fault) r flags h = absurd (let z : ◌≡◌ {A = ℕ} 0 1 = cc in omega arith)

-- a chain that ends well met the flags of an element
ends_well : (byte : ℕ) (met : List Bool) → length met ≡ 49 → end_fault byte met ≡ None → ElementFlags met
ends_well byte met long none = record { square = long; centre = grind (arith, nat_tests); several = grind (arith, nat_tests) }

chain_tells : (turns : ℕ) (card : List ℕ) (n : ℕ) (met flags : List Bool) → length met ≡ 49 → chain_flags turns card n met ≡ Ok flags → ElementFlags flags
unfolding chain_flags
chain_tells zero card n met flags long h = absurd (let z : ◌≡◌ {A = ℕ} 0 1 = cc in omega arith)
chain_tells (suc turns) card n met flags long h =
    let with_n = set met (record_place card n) true in
    let all_set = length-set met (record_place card n) true ∙ long in
    at (eqb (next_of card n) 0) with_n all_set (chain_tells turns card (next_of card n) with_n flags all_set) (no_fault (record_fault card n met) _ flags h).1
  where
    at : (last : Bool) (with_n : List Bool) → length with_n ≡ 49 → (chain_flags turns card (next_of card n) with_n ≡ Ok flags → ElementFlags flags) →
        cond last (refused_or (end_fault (record_byte n + 2) with_n) (Ok with_n)) (chain_flags turns card (next_of card n) with_n) ≡ Ok flags → ElementFlags flags
    at true with_n all_set more k =
        let ended = no_fault (end_fault (record_byte n + 2) with_n) (Ok with_n) flags k in
        let same : with_n ≡ flags = cc (ended.1) in
        subst ElementFlags same (ends_well (record_byte n + 2) with_n all_set ended.0)
    at false with_n all_set more k = more k

pub card_tells : (card : List ℕ) (flags : List Bool) → card_flags card ≡ Ok flags → ElementFlags flags
card_tells card flags = at (has_right_length card)
  where
    at : (fits : Bool) → cond fits (chain_flags 50 card 1 (replicate 49 false)) (Err Length) ≡ Ok flags → ElementFlags flags
    at true h = chain_tells 50 card 1 (replicate 49 false) flags (length-replicate 49 false) h
    at false h = absurd (let z : ◌≡◌ {A = ℕ} 0 1 = cc in omega arith)

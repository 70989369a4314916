-- What every card comes to: the flags of the offsets on its chain, or the fault for which it has no chain.
use Rattle.std.proofs.Common.{◌≡◌, ℕ, zero, suc, ◌+◌, ◌-◌, ◌<◌, Bool, true, false, ◌⊎◌, List, length, replicate, Some, None, Ok, Err, Option, Result, sym, refl, ◌∙◌, subst, inl, inr, arith, MatchResult}
use Rattle.std.proofs.lemmas.List.{length-set}
use Rattle.std.proofs.lemmas.Bool.{cases_eq, cond-false}
use Rattle.elements.specs.declared.cards.CardFault.{CardFault}
use Rattle.elements.specs.declared.cards.CardFault.TheVariants.{Length}
use Rattle.elements.specs.declared.element.Element.{Element}
use Rattle.elements.specs.Offsets.{count}
use Rattle.elements.specs.Cards.{card_flags, end_fault, next_of, record_byte, record_fault, record_place, has_right_length}
use Rattle.elements.specs.Chains.{Chain, CardRefused, TellsTheChain}
use Rattle.elements.proofs.CardReadings.{CardReading, reading_goes_on, reading_starts, unset_fall, with_n}
use Rattle.elements.proofs.Outcomes.{Visits, accepted, accepted_flags, end_refused, end_refused_flags, record_refused, record_refused_flags, refused_for_good}

-- What is true of a card that comes to these flags, or to this fault.
abbrev pub ChainOrRefusal : List ℕ → Result (List Bool) CardFault → Type 0
ChainOrRefusal card (Ok flags) = (length flags ≡ 49) × Visits card flags
ChainOrRefusal card (Err f) = CardRefused card f × ((ns : List ℕ) → Chain card ns → ⊥)

module _ (card : List ℕ) where
  refusal_holds : (f : CardFault) → card_flags card ≡ Err f → CardRefused card f → ChainOrRefusal card (card_flags card)
  refusal_holds f e r = subst (ChainOrRefusal card) (sym e) (refused_for_good card f r)

  module _ (n : ℕ) (met : List Bool) (reading : CardReading card n met) where
    -- The reading goes on, with fewer flags that are not set.
    abbrev Goes_on : Type 0
    Goes_on = (m : ℕ) × (more : List Bool) × CardReading card m more × (49 - count more < 49 - count met)

    at_end : record_fault card n met ≡ None → next_of card n ≡ 0 → (found : Option CardFault)
        → end_fault (record_byte n + 2) (with_n card n met reading) ≡ found → ChainOrRefusal card (card_flags card)
    at_end faultless end None e =
        subst (ChainOrRefusal card) (sym (accepted_flags card n met reading faultless end _ _ refl refl e))
        (length-set met (record_place card n) true ∙ reading.square, accepted card n met reading faultless end e)
    at_end faultless end (Some f) e =
        refusal_holds f (end_refused_flags card n met reading faultless end _ _ refl refl f e) (end_refused card n met reading faultless end f e)

    at_record : (found : Option CardFault) → record_fault card n met ≡ found → ChainOrRefusal card (card_flags card) ⊎ Goes_on
    at_record (Some f) e = inl (refusal_holds f (record_refused_flags card n met reading f e) (record_refused card n met reading f e))
    at_record None faultless =
        elim (cases_eq (next_of card n) 0) [
          | inl end ↦ inl (at_end faultless end _ refl)
          | inr further ↦ inr (
            next_of card n,
            with_n card n met reading,
            reading_goes_on card n met reading faultless (omega arith),
            unset_fall card n met reading faultless,
          )
        ]

  from_record : (turns n : ℕ) (met : List Bool) → CardReading card n met → 49 - count met < turns → ChainOrRefusal card (card_flags card)
  from_record zero n met reading h = absurd (omega arith)
  from_record (suc turns) n met reading h =
      elim (at_record n met reading _ refl) [
        | inl holds ↦ holds
        | inr on ↦ from_record turns on.0 on.1 on.2 (omega (arith, on.3))
      ]

  pub chain_or_refusal : ChainOrRefusal card (card_flags card)
  chain_or_refusal = by_length (has_right_length card) refl
    where
      by_length : (right : Bool) → has_right_length card ≡ right → ChainOrRefusal card (card_flags card)
      by_length true e = from_record 50 1 (replicate 49 false) (reading_starts card e) (omega arith)
      by_length false e = refusal_holds Length (cond-false _ _ _ e) e

  -- So what the reader answers tells the chain.
  pub tells_the_chain : (r : Result Element CardFault)
      → MatchResult r (λ element. card_flags card ≡ Ok element.flags) (λ fault. card_flags card ≡ Err fault) → TellsTheChain card r
  tells_the_chain (Ok element) e = (subst (ChainOrRefusal card) e chain_or_refusal).1
  tells_the_chain (Err fault) e = subst (ChainOrRefusal card) e chain_or_refusal

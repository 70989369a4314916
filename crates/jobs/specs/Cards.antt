-- The element of a card. Assumes nothing.
use Rattle.std.proofs.Common.{refl}
use Rattle.std.specs.Prelude.{◌≡◌, ℕ, Bool, List, Ok, Err, Result}
use Rattle.elements.specs.declared.cards.CardFault.{CardFault}
use Rattle.elements.specs.declared.element.Element.{Element}
use Rattle.elements.specs.Cards.{card_flags}
use Rattle.elements.proofs.CardFlags.{ElementFlags, card_tells}

-- the element of flags, where flags that are read are an element's
abbrev pub of_flags : (r : Result (List Bool) CardFault) → ((flags : List Bool) → r ≡ Ok flags → ElementFlags flags) → Result Element CardFault
of_flags (Ok flags) are =
    let own = are flags refl in
    Ok (record { flags = flags; square = own.square; centre = own.centre; several = own.several })
of_flags (Err fault) are = Err fault

-- the element of a card, or its first fault
abbrev pub card_element : List ℕ → Result Element CardFault
card_element card = of_flags (card_flags card) (card_tells card)

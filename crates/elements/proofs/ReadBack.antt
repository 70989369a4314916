-- Cards of an element: every one of them is read as that element.
use Rattle.std.proofs.Common.{◌≡◌, Bool, List, Ok, Err, Result, sym, ap, ◌∙◌, subst}
use Rattle.elements.specs.declared.cards.CardFault.{CardFault}
use Rattle.elements.specs.Offsets.{SameMembers, flagged}
use Rattle.elements.specs.Cards.{card_flags}
use Rattle.elements.specs.Chains.{visited}
use Rattle.elements.specs.Written.{WrittenCardsReadBack}
use Rattle.elements.proofs.Flags.{same_flags}
use Rattle.elements.proofs.ChainOrRefusal.{ChainOrRefusal, chain_or_refusal}
use Rattle.elements.proofs.Walks.{leads_once}

-- A card has one chain alone, so the flags to which it comes are those of the element.
pub written_cards_read_back : WrittenCardsReadBack
written_cards_read_back e card c = by_outcome (card_flags card) (chain_or_refusal card)
  where
    by_outcome : (r : Result (List Bool) CardFault) → ChainOrRefusal card r → r ≡ Ok e.flags
    by_outcome (Err f) (r, none) = absurd (none c.order c.chain)
    by_outcome (Ok flags) (square, (ns, chain, same, long)) =
        let one : ns ≡ c.order = leads_once card 1 ns c.order chain.ends c.chain.ends in
        let both : SameMembers (flagged 0 flags) (visited card c.order) = subst (λ ks. SameMembers (flagged 0 flags) (visited card ks)) one same in
        ap Ok (same_flags flags e.flags (square ∙ sym e.square)
        (λ o. (λ m. (c.same o).1 ((both o).0 m), λ m. (both o).1 ((c.same o).0 m))))

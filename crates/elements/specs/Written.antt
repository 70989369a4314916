-- What a card of an element is, and that every such card is read as that element.
use Rattle.std.specs.Prelude.{◌≡◌, ℕ, ◌+◌, ◌*◌, List, length, Ok}
use Rattle.elements.specs.declared.element.Element.{Element}
use Rattle.elements.specs.Offsets.{SameMembers}
use Rattle.elements.specs.Elements.{offsets}
use Rattle.elements.specs.Cards.{card_flags, records}
use Rattle.elements.specs.Chains.{Chain, visited}

-- A card of an element has one record for each of its offsets and is as long as they make it, and a chain over all its
-- records visits exactly the offsets, in whatever order.
pub record CardOf (e : Element) (card : List ℕ) : Type 0 where
  pub one_each : records card ≡ length (offsets e)
  pub long : length card ≡ 1 + 3 * length (offsets e)
  pub order : List ℕ
  pub chain : Chain card order
  pub same : SameMembers (offsets e) (visited card order)
  pub none_spare : length order ≡ length (offsets e)

-- Every card of an element, whatever order its records and its chain have, is read as that element.
abbrev pub WrittenCardsReadBack : Type 0
WrittenCardsReadBack = (e : Element) (card : List ℕ) → CardOf e card → card_flags card ≡ Ok e.flags

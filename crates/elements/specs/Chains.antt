-- What a card means: the chain of its records, as a relation between them, and what makes a card one that tells an element.
use Rattle.std.specs.Prelude.{◌≡◌, ℕ, ◌+◌, ◌<◌, ◌≤◌, true, false, ◌⊎◌, List, [], ◌∷◌, ◌++◌, map, length, ℤ, pos, Result, MatchResult}
use Rattle.elements.specs.declared.cards.CardFault.{CardFault}
use Rattle.elements.specs.declared.cards.CardFault.TheVariants.{Length, Offset, Next, Repeated, NoCentre, OnlyCentre}
use Rattle.elements.specs.declared.element.Element.{Element}
use Rattle.elements.specs.Offsets.{◌∈◌, Different, Near, SameMembers}
use Rattle.elements.specs.Elements.{offsets}
use Rattle.elements.specs.Cards.{column_of, next_of, record_byte, records, row_of, has_right_length}

-- The offset of record n.
abbrev pub offset_of : List ℕ → ℕ → ℤ × ℤ
offset_of card n = (column_of card n, row_of card n)

-- The offsets of some records, in their order.
abbrev pub visited : List ℕ → List ℕ → List (ℤ × ℤ)
visited card ns = map (offset_of card) ns

-- The card has a record n.
abbrev pub OnCard : List ℕ → ℕ → Type 0
OnCard card n = (1 ≤ n) × (n ≤ records card)

-- The card has a record n, and its offset lies within the square.
pub record Sound (card : List ℕ) (n : ℕ) : Type 0 where
  pub on_card : OnCard card n
  pub column : Near (column_of card n)
  pub row : Near (row_of card n)

-- From n the chain visits the records ns, one after the other, and comes to m.
abbrev pub Leads : List ℕ → ℕ → List ℕ → ℕ → Type 0
Leads card n [] m = n ≡ m
Leads card n (k ∷ ns) m = (k ≡ n) × Sound card n × Leads card (next_of card n) ns m

-- The chain from record 1 visits the records ns and ends; their offsets are different, with (0, 0) and at least one more.
pub record Chain (card ns : List ℕ) : Type 0 where
  pub size : has_right_length card ≡ true
  pub ends : Leads card 1 ns 0
  pub different : Different (visited card ns)
  pub centre : (pos 0, pos 0) ∈ visited card ns
  pub several : 2 ≤ length ns

-- The chain visits the records ns, whose offsets are different, and comes to record n.
pub record Comes (card ns : List ℕ) (n : ℕ) : Type 0 where
  pub size : has_right_length card ≡ true
  pub leads : Leads card 1 ns n
  pub different : Different (visited card ns)
  pub on_card : OnCard card n

-- Record n, to which the chain came over the records ns, ends it; its offset is none of theirs.
pub record Ends (card ns : List ℕ) (n : ℕ) : Type 0 where
  pub comes : Comes card ns n
  pub sound : Sound card n
  pub new : offset_of card n ∈ visited card ns → ⊥
  pub end : next_of card n ≡ 0

-- Why a card is refused, and at which byte.
abbrev pub CardRefused : List ℕ → CardFault → Type 0
CardRefused card Length = has_right_length card ≡ false
CardRefused card (Offset byte) = (ns : List ℕ) × (n : ℕ) × Comes card ns n
    × (((byte ≡ record_byte n) × (Near (column_of card n) → ⊥))
    ⊎ ((byte ≡ record_byte n + 1) × Near (column_of card n) × (Near (row_of card n) → ⊥)))
CardRefused card (Next byte) = (ns : List ℕ) × (n : ℕ) × Comes card ns n × Sound card n
    × (byte ≡ record_byte n + 2) × (records card < next_of card n)
CardRefused card (Repeated byte) = (ns : List ℕ) × (n : ℕ) × Comes card ns n × Sound card n
    × (next_of card n ≤ records card) × (byte ≡ record_byte n) × (offset_of card n ∈ visited card ns)
CardRefused card (NoCentre byte) = (ns : List ℕ) × (n : ℕ) × Ends card ns n
    × (byte ≡ record_byte n + 2) × ((pos 0, pos 0) ∈ visited card (ns ++ n ∷ []) → ⊥)
CardRefused card (OnlyCentre byte) = (ns : List ℕ) × (n : ℕ) × Ends card ns n
    × (byte ≡ record_byte n + 2) × (ns ≡ []) × (offset_of card n ≡ (pos 0, pos 0))

-- A card is accepted when it has such a chain, and then the element's offsets are those that the chain visits;
-- it is refused when it has none, and the fault is the first that the chain meets.
abbrev pub TellsTheChain : List ℕ → Result Element CardFault → Type 0
TellsTheChain card r = MatchResult r
    (λ e. (ns : List ℕ) × Chain card ns × SameMembers (offsets e) (visited card ns) × (length (offsets e) ≡ length ns))
    (λ f. CardRefused card f × ((ns : List ℕ) → Chain card ns → ⊥))

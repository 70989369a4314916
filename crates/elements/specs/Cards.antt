-- How a card is read: a byte that counts its records, then the records, which make a chain.
use Rattle.std.specs.Prelude.{ℕ, zero, suc, ◌+◌, ◌-◌, ◌*◌, Bool, true, false, cond, not, ◌&&◌, ◌||◌, List, length, replicate, ℤ, pos, negsuc, Some, None, Ok, Err, Option, Result, ◌==◌, int_lt, nat_le, nat_lt, slice_index, slice_index_or, slice_set}
use Rattle.std.specs.Int.{w8}
use Rattle.std.proofs.Common.{to_z}
use Rattle.limits.specs.Faults.{first}
use Rattle.elements.specs.declared.cards.CardFault.{CardFault}
use Rattle.elements.specs.declared.cards.CardFault.TheVariants.{Length, Offset, Next, Repeated, NoCentre, OnlyCentre}
use Rattle.elements.specs.Offsets.{count, place_of}

-- The number by which a fault is told.
abbrev pub card_fault_number : CardFault → ℕ
card_fault_number Length = 12
card_fault_number (Offset k) = 13
card_fault_number (Next k) = 14
card_fault_number (Repeated k) = 15
card_fault_number (NoCentre k) = 16
card_fault_number (OnlyCentre k) = 17

-- The byte of the card at which a fault is told.
abbrev pub card_fault_place : CardFault → ℕ
card_fault_place Length = 0
card_fault_place (Offset k) = k
card_fault_place (Next k) = k
card_fault_place (Repeated k) = k
card_fault_place (NoCentre k) = k
card_fault_place (OnlyCentre k) = k

-- How many records a card says that it has.
abbrev pub records : List ℕ → ℕ
records card = slice_index card 0

-- Whether that is 1 to 49, and the card is as long as they make it.
abbrev pub has_right_length : List ℕ → Bool
has_right_length card = nat_le 1 (records card) && nat_le (records card) 49 && length card == 1 + 3 * records card

-- The first of the three bytes of record n, counted from 1.
abbrev pub record_byte : ℕ → ℕ
record_byte n = 3 * n - 2

-- The first is its column, a signed byte.
abbrev pub column_of : List ℕ → ℕ → ℤ
column_of card n = to_z w8 (slice_index card (record_byte n))

-- The second is its row, a signed byte.
abbrev pub row_of : List ℕ → ℕ → ℤ
row_of card n = to_z w8 (slice_index card (record_byte n + 1))

-- The third is the record to go on with, or 0 at the chain's end.
abbrev pub next_of : List ℕ → ℕ → ℕ
next_of card n = slice_index card (record_byte n + 2)

-- The place in the square of the offset of record n.
abbrev pub record_place : List ℕ → ℕ → ℕ
record_place card n = place_of (column_of card n) (row_of card n)

-- Whether a column or a row lies outside −3 to 3.
abbrev pub far : ℤ → Bool
far z = int_lt z (negsuc 2) || int_lt (pos 3) z

-- The fault of a column and a row that stand at this byte and after it, and else what the rest finds.
abbrev pub far_fault : ℕ → ℤ → ℤ → Option CardFault → Option CardFault
far_fault byte column row rest = first (far column) (Offset byte) (first (far row) (Offset (byte + 1)) rest)

-- The fault of record n, where the offsets of `met` were met before it.
abbrev pub record_fault : List ℕ → ℕ → List Bool → Option CardFault
record_fault card n met =
    far_fault (record_byte n) (column_of card n) (row_of card n)
    (first (nat_lt (records card) (next_of card n)) (Next (record_byte n + 2))
    (first (slice_index_or met (record_place card n) false) (Repeated (record_byte n)) None))

-- The fault of a chain that ended with this byte and met the offsets of `met`.
abbrev pub end_fault : ℕ → List Bool → Option CardFault
end_fault byte met =
    first (not (slice_index_or met 24 false)) (NoCentre byte)
    (first (nat_lt (count met) 2) (OnlyCentre byte) None)

-- The fault if there is one, and else the flags.
abbrev pub refused_or : Option CardFault → Result (List Bool) CardFault → Result (List Bool) CardFault
refused_or None flags = flags
refused_or (Some fault) flags = Err fault

-- The offsets of `met` and those that the chain meets from record n on, as flags, or the chain's first fault.
-- A card's reading never runs out of its 50 turns, since each record visited sets another of the 49 flags: the answer of
-- the first line is never given. That a longer chain meets an offset twice is proved (Chains), and not said here.
unfoldable pub chain_flags : ℕ → List ℕ → ℕ → List Bool → Result (List Bool) CardFault
chain_flags zero card n met = Err (Repeated (record_byte n))
chain_flags (suc turns) card n met =
    refused_or (record_fault card n met)
    (let with_n = slice_set met (record_place card n) true in
    cond (next_of card n == 0)
    (refused_or (end_fault (record_byte n + 2) with_n) (Ok with_n))
    (chain_flags turns card (next_of card n) with_n))

-- What a card comes to: the flags of its element, or its first fault.
abbrev pub card_flags : List ℕ → Result (List Bool) CardFault
card_flags card = cond (has_right_length card) (chain_flags 50 card 1 (replicate 49 false)) (Err Length)

-- A picture file: a header with the sides, and a byte for each cell.
use Rattle.std.specs.Prelude.{◌≡◌, ℕ, ◌+◌, ◌*◌, ◌<◌, ◌≤◌, min, ◌⊎◌, List, [], ◌∷◌, ◌++◌, length, drop, decimal, ◌≢◌}
use Rattle.text.specs.Misfits.{FirstMisfit}
use Rattle.pictures.specs.declared.Picture.{Picture}
use Rattle.pictures.specs.declared.PictureFault.{PictureFault}
use Rattle.pictures.specs.declared.PictureFault.TheVariants.{Header, Side, Length}

-- `P5` and a newline
abbrev pub header_start : List ℕ
header_start = 80 ∷ 53 ∷ 10 ∷ []

-- a newline, `255` and a newline
abbrev pub header_end : List ℕ
header_end = 10 ∷ 50 ∷ 53 ∷ 53 ∷ 10 ∷ []

-- the header for sides w and h, with a blank between them
abbrev pub header : ℕ → ℕ → List ℕ
header w h = header_start ++ (decimal w ++ (32 ∷ (decimal h ++ header_end)))

-- the places of the first digits of the width and of the height
abbrev pub width_place : ℕ
width_place = 3

abbrev pub height_place : ℕ → ℕ
height_place w = width_place + length (decimal w) + 1

-- a side that is told in one to four digits, the first not 0
abbrev pub InFourDigits : ℕ → Type 0
InFourDigits side = (1 ≤ side) × (side ≤ 9999)

-- a side that a picture may have
abbrev pub LawfulSide : ℕ → Type 0
LawfulSide side = (1 ≤ side) × (side ≤ 1024)

-- the files that start with a header
abbrev pub WithHeader : List ℕ → Type 0
WithHeader bytes = (w : ℕ) × (h : ℕ) × (rest : List ℕ) × InFourDigits w × InFourDigits h × (bytes ≡ header w h ++ rest)

-- the file is the picture's header, and then a byte for each cell
pub record IsFile (bytes : List ℕ) (picture : Picture) : Type 0 where
  pub width : LawfulSide picture.width
  pub height : LawfulSide picture.height
  pub start : picture.start ≡ length (header picture.width picture.height)
  pub starts : bytes ≡ header picture.width picture.height ++ drop picture.start bytes
  pub cells : length (drop picture.start bytes) ≡ picture.width * picture.height

-- the header and the cells of the picture fill the file
abbrev pub Fills : List ℕ → Picture → Type 0
Fills bytes picture =
    LawfulSide picture.width × LawfulSide picture.height
    × (picture.start + picture.width * picture.height ≡ length bytes)

-- the first side above 1,024 is the one whose first digit is at this place
abbrev pub TooLong : ℕ → ℕ → ℕ → Type 0
TooLong w h place = ((1024 < w) × (place ≡ width_place)) ⊎ ((w ≤ 1024) × (1024 < h) × (place ≡ height_place w))

-- there are fewer or more cells than the sides tell, and the place is that of the first one missing or too many
abbrev pub WrongLength : ℕ → ℕ → List ℕ → ℕ → Type 0
WrongLength w h rest place =
    LawfulSide w × LawfulSide h × (length rest ≢ w * h) × (place ≡ length (header w h) + min (length rest) (w * h))

-- what is wrong with a file that is refused
abbrev pub Wrong : List ℕ → PictureFault → Type 0
Wrong bytes (Header place) = FirstMisfit WithHeader bytes place
Wrong bytes (Side place) = (w : ℕ) × (h : ℕ) × (rest : List ℕ) × InFourDigits w × InFourDigits h × (bytes ≡ header w h ++ rest) × TooLong w h place
Wrong bytes (Length place) = (w : ℕ) × (h : ℕ) × (rest : List ℕ) × (bytes ≡ header w h ++ rest) × WrongLength w h rest place

-- the refusal's number, and its place
abbrev pub picture_fault_number : PictureFault → ℕ
picture_fault_number (Header place) = 19
picture_fault_number (Side place) = 1
picture_fault_number (Length place) = 20

abbrev pub picture_fault_place : PictureFault → ℕ
picture_fault_place (Header place) = place
picture_fault_place (Side place) = place
picture_fault_place (Length place) = place

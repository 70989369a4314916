-- How a picture file is read, and what holds of that for every file.
use Rattle.std.specs.Prelude.{◌≡◌, ℕ, ◌+◌, ◌*◌, min, cond, List, [], ◌∷◌, ◌++◌, length, Ok, Err, Result, ◌==◌, nat_lt, slice_index}
use Rattle.text.specs.declared.Misfit.{Misfit}
use Rattle.text.specs.Forms as forms
use Rattle.text.specs.Forms.{Form, NumbersRead, scan}
use Rattle.pictures.specs.declared.Picture.{Picture}
use Rattle.pictures.specs.declared.PictureFault.{PictureFault}
use Rattle.pictures.specs.declared.PictureFault.TheVariants.{Header, Side, Length}
use Rattle.pictures.specs.Headers.{header_start, header_end, header, width_place, height_place, LawfulSide, IsFile, Wrong}

-- the form of a header, after which anything may come
abbrev pub header_form : Form
header_form = forms.fixed header_start (forms.number 1 (forms.fixed (32 ∷ []) (forms.number 1 (forms.fixed header_end forms.anything))))

-- what reading by that form gives at the start of a file
abbrev pub ScansAs : List ℕ → Result NumbersRead Misfit → Type 0
ScansAs bytes r = scan header_form bytes 0 ≡ r

-- sides above 1,024 are refused, and then a length that is not the header's and the cells'
abbrev pub picture_of_sides : ℕ → ℕ → ℕ → ℕ → Result Picture PictureFault
picture_of_sides w h start long =
    cond (nat_lt 1024 w) (Err (Side width_place))
    (cond (nat_lt 1024 h) (Err (Side (height_place w)))
    (cond (long == start + w * h) (Ok (record { width = w; height = h; start = start })) (Err (Length (min long (start + w * h))))))

-- the picture of what was read of a header, in a file so long
abbrev pub picture_of_header : Result NumbersRead Misfit → ℕ → Result Picture PictureFault
picture_of_header (Ok reading) long = picture_of_sides (slice_index reading.numbers 0) (slice_index reading.numbers 1) reading.end long
picture_of_header (Err misfit) long = Err (Header misfit.place)

-- what a file reads as
abbrev pub read : List ℕ → Result Picture PictureFault
read bytes = picture_of_header (scan header_form bytes 0) (length bytes)

-- a header and a byte for each cell are read back as the sides
abbrev pub ReadsBackPictures : Type 0
ReadsBackPictures =
    (w h : ℕ) (cells : List ℕ) → LawfulSide w → LawfulSide h → length cells ≡ w * h
    → read (header w h ++ cells) ≡ Ok (record { width = w; height = h; start = length (header w h) })

-- what is read as a picture is exactly such a file
abbrev pub ReadsOnlyPictures : Type 0
ReadsOnlyPictures = (bytes : List ℕ) (picture : Picture) → read bytes ≡ Ok picture → IsFile bytes picture

-- any other file is refused for what is wrong with it: a header at its first misfit, a side at its first digit, a length at
-- the first cell that is missing or too many
abbrev pub RefusesWhatIsWrong : Type 0
RefusesWhatIsWrong = (bytes : List ℕ) (fault : PictureFault) → read bytes ≡ Err fault → Wrong bytes fault

-- Texts of a form: fixed bytes and numbers, one after the other.
use Rattle.std.specs.Prelude.{◌≡◌, ℕ, ◌+◌, ◌-◌, ◌≤◌, cond, List, [], ◌∷◌, ◌++◌, length, drop, Ok, Err, decimal, Result, MatchResult, nat_le}
use Rattle.text.specs.declared.Misfit.{Misfit}
use Rattle.text.specs.Misfits.{FirstMisfit}
use Rattle.text.specs.Pieces.{refused_at, fixed_at, number_at}

-- what stands in a text, in order
pub data Form : Type 0 where
  -- whatever follows
  anything : Form
  -- the text ends
  nothing : Form
  -- these bytes
  fixed : List ℕ → Form → Form
  -- a number from this one on, in decimal, at most 9,999
  number : ℕ → Form → Form

-- what a form writes of its numbers
abbrev pub written : Form → List ℕ → List ℕ
written anything ns = []
written nothing ns = []
written (fixed bytes form) ns = bytes ++ written form ns
written (number least form) [] = []
written (number least form) (n ∷ ns) = decimal n ++ written form ns

-- the form takes these numbers, with this after what it writes of them
abbrev pub Takes : Form → List ℕ → List ℕ → Type 0
Takes anything ns rest = ns ≡ []
Takes nothing ns rest = (ns ≡ []) × (rest ≡ [])
Takes (fixed bytes form) ns rest = Takes form ns rest
Takes (number least form) [] rest = ⊥
Takes (number least form) (n ∷ ns) rest = (least ≤ n) × (n ≤ 9999) × Takes form ns rest

-- a text of a form
pub record OfForm (form : Form) (text : List ℕ) : Type 0 where
  pub numbers : List ℕ
  pub rest : List ℕ
  pub takes : Takes form numbers rest
  pub same : text ≡ written form numbers ++ rest

-- the texts that start with these bytes
abbrev pub StartsWith : List ℕ → List ℕ → Type 0
StartsWith wanted = OfForm (fixed wanted anything)

-- the fixed bytes stand at `at`
pub record FixedThere (wanted bytes : List ℕ) (at end : ℕ) : Type 0 where
  pub spells : drop at bytes ≡ wanted ++ drop end bytes
  pub ends : end ≡ at + length wanted
  pub within : end ≤ length bytes

-- the first of the fixed bytes that does not stand there
pub record FixedMissing (wanted bytes : List ℕ) (at place : ℕ) : Type 0 where
  pub from : at ≤ place
  pub within : place ≤ length bytes
  pub first : FirstMisfit (StartsWith wanted) (drop at bytes) (place - at)

-- the place after the fixed bytes is the one told, or the misfit is where they first do not stand
abbrev pub TellsFixed : List ℕ → List ℕ → ℕ → Result ℕ Misfit → Type 0
TellsFixed wanted bytes at r =
    MatchResult r (λ end. FixedThere wanted bytes at end) (λ misfit. FixedMissing wanted bytes at misfit.place)

-- the numbers that were read, and the place after the last byte
pub record NumbersRead : Type 0 where
  pub numbers : List ℕ
  pub end : ℕ

-- a number read before the others
abbrev pub before : ℕ → Result NumbersRead Misfit → Result NumbersRead Misfit
before n (Ok reading) = Ok (record { numbers = n ∷ reading.numbers; end = reading.end })
before n (Err misfit) = Err misfit

-- a text read by a form, from `at` on
abbrev pub scan : Form → List ℕ → ℕ → Result NumbersRead Misfit
scan anything bytes at = Ok (record { numbers = []; end = at })
scan nothing bytes at = cond (nat_le (length bytes) at) (Ok (record { numbers = []; end = at })) (refused_at at)
scan (fixed wanted form) bytes at =
    elim (fixed_at wanted bytes at) [ Ok end ↦ scan form bytes end | Err misfit ↦ Err misfit ]
scan (number least form) bytes at =
    elim (number_at least bytes at) [ Ok n ↦ before n.value (scan form bytes n.end) | Err misfit ↦ Err misfit ]

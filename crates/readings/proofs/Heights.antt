-- Readings and the heights that they stand for, one by one and in lists.
use Rattle.std.proofs.Common.{◌≡◌, ℕ, zero, suc, ◌≤◌, List, [], ◌∷◌, map, pos, ◌-ℤ◌, sym, refl, ◌∙◌, arith}
use lib.Ieee.{Float}
use lib.IntN.{ -ℤ-+ℤ_cancel}
use Rattle.std.proofs.lemmas.Int.{ints}
use Rattle.std.specs.List.{AllByRecursion}
use Rattle.readings.specs.declared.reading.Reading.{Reading}
use Rattle.readings.specs.declared.reading.Reading.TheVariants.{Dead, Degrees, Beyond}
use Rattle.readings.specs.Readings.{IsCount, ReadsDegrees, Reads, told_as}
use Rattle.readings.specs.Lists.{ReadsAll, ReadsBack}
use Rattle.readings.proofs.Sixteenths.{sixteenths_once, told_exactly}

-- Degrees stand for at most one level.
reads_degrees_once : (x : Float) (h k : ℕ) → ReadsDegrees x h → ReadsDegrees x k → h ≡ k
reads_degrees_once x h k (c, p, e) (d, q, g) = let same : c ≡ d = sixteenths_once x c d p.1 q.1 in omega (arith, ints)

-- A reading stands for at most one level.
reads_once : (r : Reading) (h k : ℕ) → Reads r h → Reads r k → h ≡ k
reads_once Dead h k p q = p ∙ sym q
reads_once (Degrees x) h k p q = reads_degrees_once x h k p q
reads_once (Beyond x) h k p q = reads_degrees_once x h k p q

-- Readings stand for at most one list of levels.
reads_all_once : (rs : List Reading) (hs ks : List ℕ) → ReadsAll rs hs → ReadsAll rs ks → ks ≡ hs
reads_all_once [] [] [] p q = refl
reads_all_once [] (h ∷ hs) ks p q = absurd p
reads_all_once [] [] (k ∷ ks) p q = absurd q
reads_all_once (r ∷ rs) [] ks p q = absurd p
reads_all_once (r ∷ rs) (h ∷ hs) [] p q = absurd q
reads_all_once (r ∷ rs) (h ∷ hs) (k ∷ ks) p q = λ i. reads_once r k h q.0 p.0 i ∷ reads_all_once rs hs ks p.1 q.1 i

-- The reading by which a level is told stands for that level.
told_reads : (h : ℕ) → h ≤ 65536 → Reads (told_as h) h
told_reads zero l = refl
told_reads (suc n) l =
    let c = pos (suc n) -ℤ pos 32769 in
    let count : IsCount c = (omega (arith, ints), omega (arith, ints)) in
    (c, (count, told_exactly c count), sym (-ℤ-+ℤ_cancel (pos (suc n)) (pos 32769)))

-- The readings by which levels are told stand for those levels.
told_reads_all : (hs : List ℕ) → AllByRecursion (λ h. h ≤ 65536) hs → ReadsAll (map told_as hs) hs
told_reads_all [] l = tt
told_reads_all (h ∷ hs) l = (told_reads h l.0, told_reads_all hs l.1)

-- So they read back as those levels, and as no others.
pub reads_back : ReadsBack
reads_back hs l = (told_reads_all hs l, λ ks p. reads_all_once (map told_as hs) hs ks (told_reads_all hs l) p)

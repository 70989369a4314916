use Rattle.std.proofs.Common.{◌≡◌, ℕ, ◌+◌, ◌<◌, ◌≤◌, Bool, ◌&&◌, leb, List, map, get_or, Decides, sym, subst, ◌∙◌, arith, below_more}
use Rattle.std.proofs.lemmas.Bool.{le-leb, leb-true}
use Rattle.std.proofs.lemmas.Bool.Decides.{Decides-and}
use Rattle.morphology.proofs.Passing.{height_read}
use Rattle.transforms.proofs.reconstruction.nowhere_above.Goals as goal

-- no height before k is above the other, and one height more
one_more : (f g : List ℕ) (k : ℕ) (below here : Bool) → Decides below ((p : ℕ) → p < k → get_or f p 0 ≤ get_or g p 0) → here ≡ leb (get_or f k 0) (get_or g k 0) → Decides (below && here) ((p : ℕ) → p < k + 1 → get_or f p 0 ≤ get_or g p 0)
one_more f g k below here before is =
    let test = subst (λ (b : Bool). Decides b (get_or f k 0 ≤ get_or g k 0)) (sym is) (leb-true (get_or f k 0) (get_or g k 0), le-leb (get_or f k 0) (get_or g k 0)) in
    let both = Decides-and below here before test in (
      λ yes. below_more (λ p. get_or f p 0 ≤ get_or g p 0) k (both.0 yes).0 (both.0 yes).1,
      λ all. both.1 (λ p within. all p (omega arith), all k (omega arith)),
    )

pub loop-k-preserved : goal.loop-k-preserved
loop-k-preserved g c =
    let height = g.L.Level.height in
    let k = c.loop-k.k in
    let one = height_read height c.args.one.now k c.index-one-k.result (omega arith) c.index-one-k.is in
    let other = height_read height c.args.other.now k c.index-other-k.result (omega arith) c.index-other-k.is in
    one_more (map height c.args.one.now) (map height c.args.other.now) k c.loop-k.below c.at_most-below.result c.loop-k.invariant
    (c.at_most-below.ensures ∙ (λ i. leb (sym one i) (sym other i)))

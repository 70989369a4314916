-- The numbers of a line, read one after the other.
use Rattle.std.proofs.Common.{◌≡◌, ℕ, suc, ◌+◌, ◌-◌, ◌<◌, ◌≤◌, List, [], ◌∷◌, ◌++◌, length, take, slice_set, Ok, Err, Result, sym, refl, ap, ◌∙◌, arith}
use Rattle.std.proofs.Math.ListN.{replicate}
use Rattle.std.proofs.lemmas.List.{length-replicate, length-set, take_all, take_more_set}
use Rattle.std.proofs.lemmas.Bool.{cond-true, cond-false, le-leb, lt-leb}
use Rattle.text.specs.declared.Misfit.{Misfit}
use Rattle.text.specs.Forms.{NumbersRead, before, scan, number}
use Rattle.text.specs.Pieces.{fixed_at, number_at}
use Rattle.text.proofs.Forms.{scan_fixed, scan_fixed_refused, scan_number, scan_number_refused}
use Rattle.commands.specs.Reading.{arguments}

-- numbers read before the others
abbrev pub all_before : List ℕ → Result NumbersRead Misfit → Result NumbersRead Misfit
all_before [] r = r
all_before (n ∷ ns) r = before n (all_before ns r)

one_more_before : (ns : List ℕ) (n : ℕ) (r : Result NumbersRead Misfit) → all_before (ns ++ n ∷ []) r ≡ all_before ns (before n r)
one_more_before [] n r = refl
one_more_before (m ∷ ns) n r = ap (before m) (one_more_before ns n r)

refused_after : (ns : List ℕ) (misfit : Misfit) → all_before ns (Err misfit) ≡ Err misfit
refused_after [] misfit = refl
refused_after (n ∷ ns) misfit = ap (before n) (refused_after ns misfit)

read_after : (ns : List ℕ) (end : ℕ) → all_before ns (Ok (record { numbers = []; end = end })) ≡ Ok (record { numbers = ns; end = end })
read_after [] end = refl
read_after (n ∷ ns) end = ap (before n) (read_after ns end)

-- the first i of n numbers are read, and the line reads on from `at`
pub record ReadsOn (n i : ℕ) (numbers line : List ℕ) (at : ℕ) : Type 0 where
  pub long : length numbers ≡ n
  pub scans : scan (arguments n) line 1 ≡ all_before (take i numbers) (scan (arguments (n - i)) line at)

pub none_read : (n : ℕ) (line : List ℕ) → ReadsOn n 0 (replicate n 0) line 1
none_read n line = record { long = length-replicate n 0; scans = ap (λ (k : ℕ). scan (arguments k) line 1) (omega arith) }

module _ {n i : ℕ} {numbers line : List ℕ} {at : ℕ} (so_far : ReadsOn n i numbers line at) where
  -- where a number is still to come, how it reads decides
  decided : (r : Result NumbersRead Misfit) → i < n → scan (arguments (suc (n - (i + 1)))) line at ≡ r
      → scan (arguments n) line 1 ≡ all_before (take i numbers) r
  decided r more on =
      so_far.scans
      ∙ ap (all_before (take i numbers)) (ap (λ (k : ℕ). scan (arguments k) line at) {y = suc (n - (i + 1))} (omega arith) ∙ on)

  pub refused_at_blank : (misfit : Misfit) → i < n → Err misfit ≡ fixed_at (32 ∷ []) line at → scan (arguments n) line 1 ≡ Err misfit
  refused_at_blank misfit more blank =
      decided _ more (scan_fixed_refused (32 ∷ []) (number 0 (arguments (n - (i + 1)))) line at misfit (sym blank))
      ∙ refused_after (take i numbers) misfit

  pub refused_at_number : (start : ℕ) (misfit : Misfit) → i < n → Ok start ≡ fixed_at (32 ∷ []) line at → Err misfit ≡ number_at 0 line start
      → scan (arguments n) line 1 ≡ Err misfit
  refused_at_number start misfit more blank refused =
      decided _ more
      (scan_fixed (32 ∷ []) (number 0 (arguments (n - (i + 1)))) line at start (sym blank)
      ∙ scan_number_refused 0 (arguments (n - (i + 1))) line start misfit (sym refused))
      ∙ refused_after (take i numbers) misfit

  pub one_more_read : (start value end : ℕ) → i < n → Ok start ≡ fixed_at (32 ∷ []) line at
      → Ok (record { value = value; end = end }) ≡ number_at 0 line start → ReadsOn n (i + 1) (slice_set numbers i value) line end
  one_more_read start value end more blank read =
      record {
        long = length-set numbers i value ∙ so_far.long;
        scans =
            decided _ more
            (scan_fixed (32 ∷ []) (number 0 (arguments (n - (i + 1)))) line at start (sym blank)
            ∙ scan_number 0 (arguments (n - (i + 1))) line start (record { value = value; end = end }) (sym read))
            ∙ (sym (one_more_before (take i numbers) value _)
            ∙ ap (λ (ns : List ℕ). all_before ns (scan (arguments (n - (i + 1))) line end))
            (sym (take_more_set numbers i value (omega (arith, so_far.long)))));
      }

  -- after the last number the line's end decides
  ended : (r : Result NumbersRead Misfit) → n ≤ i → scan (arguments 0) line at ≡ r → scan (arguments n) line 1 ≡ all_before numbers r
  ended r all on =
      so_far.scans
      ∙ (ap (λ (ns : List ℕ). all_before ns (scan (arguments (n - i)) line at)) (take_all i numbers (omega (arith, so_far.long)))
      ∙ ap (all_before numbers) (ap (λ (k : ℕ). scan (arguments k) line at) {y = 0} (omega arith) ∙ on))

  pub refused_after_last : n ≤ i → at < length line → scan (arguments n) line 1 ≡ Err (record { place = at })
  refused_after_last all more = ended _ all (cond-false _ _ _ (lt-leb (length line) at more)) ∙ refused_after numbers _

  pub all_read : n ≤ i → at ≡ length line → scan (arguments n) line 1 ≡ Ok (record { numbers = numbers; end = length line })
  all_read all end =
      ended _ all (cond-true _ _ _ (le-leb (length line) at (omega arith)))
      ∙ (read_after numbers at ∙ ap (λ (e : ℕ). Ok (record { numbers = numbers; end = e })) end)

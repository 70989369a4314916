-- A file is read as the picture whose file it is, or refused for what is wrong with it.
use Rattle.std.proofs.Common.{◌≡◌, ℕ, ◌+◌, ◌-◌, ◌*◌, ◌≤◌, eqb, ltb, List, [], ◌∷◌, ◌++◌, length, get_or, drop, IfOk, Ok, Err, Result, sym, refl, ap, ◌∙◌, subst, inl, inr, arith, MatchResult}
use Rattle.std.proofs.lemmas.List.{length-append}
use Rattle.std.proofs.lemmas.Result.{MatchResult-at_ok, MatchResult-at_err}
use Rattle.std.proofs.lemmas.Bool.{cond_both, cond-true, cond-false, eqb-true, eqb-false, eq-eqb, ltb-true, ltb-false, le-ltb}
use Rattle.text.specs.declared.Misfit.{Misfit}
use Rattle.text.specs.Forms.{Takes, OfForm, NumbersRead, scan, written}
use Rattle.text.specs.Misfits.{FirstMisfit}
use Rattle.text.proofs.Forms.{Clear, reads_back, reads_what_was_written, refuses_at_first_misfit}
use Rattle.text.proofs.Misfits.{misfit_after}
use Rattle.pictures.specs.declared.Picture.{Picture}
use Rattle.pictures.specs.declared.PictureFault.{PictureFault}
use Rattle.pictures.specs.Headers.{header, InFourDigits, WithHeader, IsFile, Fills, Wrong}
use Rattle.pictures.specs.Reading.{header_form, picture_of_sides, picture_of_header, read, ReadsBackPictures, ReadsOnlyPictures, RefusesWhatIsWrong}

-- where each side of a header ends can be told
clear : Clear header_form
clear = (omega arith, refl, (omega arith, refl, tt))

-- the form's numbers are the two sides
record TwoSides (ns : List ℕ) : Type 0 where
  same : ns ≡ get_or ns 0 0 ∷ get_or ns 1 0 ∷ []
  width : InFourDigits (get_or ns 0 0)
  height : InFourDigits (get_or ns 1 0)

two_sides : (ns rest : List ℕ) → Takes header_form ns rest → TwoSides ns
two_sides [] rest takes = absurd takes
two_sides (w ∷ []) rest takes = absurd takes.2
two_sides (w ∷ h ∷ ns) rest takes =
    record {
      same = ap (λ (t : List ℕ). w ∷ h ∷ t) takes.2.2;
      width = (takes.0, takes.1);
      height = (takes.2.0, takes.2.1);
    }

-- the texts of the form are the files with a header
with_header : (text : List ℕ) → OfForm header_form text → WithHeader text
with_header text o =
    let two = two_sides o.numbers o.rest o.takes in (
      get_or o.numbers 0 0,
      get_or o.numbers 1 0,
      o.rest,
      two.width,
      two.height,
      o.same ∙ ap (λ (ns : List ℕ). written header_form ns ++ o.rest) two.same,
    )

of_form : (text : List ℕ) → WithHeader text → OfForm header_form text
of_form text (w, h, rest, width, height, same) =
    record { numbers = w ∷ h ∷ []; rest = rest; takes = (width.0, width.1, (height.0, height.1, refl)); same = same }

-- what the sides tell of a file that starts with their header
picture_or_fault_of_sides : (w h : ℕ) (bytes : List ℕ) (start : ℕ) → InFourDigits w → InFourDigits h → start ≡ length (header w h) → start ≤ length bytes
    → bytes ≡ header w h ++ drop start bytes
    → MatchResult (picture_of_sides w h start (length bytes)) (IsFile bytes) (Wrong bytes)
picture_or_fault_of_sides w h bytes start width height long within same =
    let rest : List ℕ = drop start bytes in
    let count : length bytes ≡ start + length rest = ap length same ∙ (length-append (header w h) rest ∙ ap (λ (n : ℕ). n + length rest) (sym long)) in
    let P : Result Picture PictureFault → Type 0 = λ r. MatchResult r (IsFile bytes) (Wrong bytes) in
    cond_both (ltb 1024 w) _ _ P (λ big. (w, h, rest, width, height, same, inl (ltb-true 1024 w big, refl)))
    (λ w_small. cond_both (ltb 1024 h) _ _ P
    (λ big. (w, h, rest, width, height, same, inr (ltb-false 1024 w w_small, ltb-true 1024 h big, refl)))
    (λ h_small. cond_both (eqb (length bytes) (start + w * h)) _ _ P
    (λ fits. record {
      width = (width.0, ltb-false 1024 w w_small);
      height = (height.0, ltb-false 1024 h h_small);
      start = long;
      starts = same;
      cells = omega (arith, eqb-true _ _ fits);
    })
    (λ wrong. (
      w,
      h,
      rest,
      same,
      (
        (width.0, ltb-false 1024 w w_small),
        (height.0, ltb-false 1024 h h_small),
        (λ e. eqb-false _ _ wrong (omega arith)),
        omega arith,
      ),
    ))))

-- what a file reads as is the picture whose file it is, or what is wrong with it
picture_or_fault : (bytes : List ℕ) (r : Result NumbersRead Misfit) → scan header_form bytes 0 ≡ r
    → MatchResult (picture_of_header r (length bytes)) (IsFile bytes) (Wrong bytes)
picture_or_fault bytes (Ok reading) answer =
    let was = reads_what_was_written header_form bytes 0 reading clear (omega arith) answer in
    let two = two_sides reading.numbers _ was.takes in
    let text = ap (written header_form) two.same in
    picture_or_fault_of_sides (get_or reading.numbers 0 0) (get_or reading.numbers 1 0) bytes reading.end two.width two.height
    (omega (arith, was.ends, ap length text)) was.within (was.writes ∙ ap (λ (t : List ℕ). t ++ drop reading.end bytes) text)
picture_or_fault bytes (Err misfit) answer =
    let refused = refuses_at_first_misfit header_form bytes 0 misfit clear (omega arith) answer in
    subst (FirstMisfit WithHeader bytes) (omega arith)
    (misfit_after (OfForm header_form) WithHeader [] bytes (misfit.place - 0) with_header (λ t _ w. of_form t w) refused.first)

pub reads_only_pictures : ReadsOnlyPictures
reads_only_pictures bytes picture answer = MatchResult-at_ok (IsFile bytes) (Wrong bytes) picture answer (picture_or_fault bytes _ refl)

pub refuses_what_is_wrong : RefusesWhatIsWrong
refuses_what_is_wrong bytes fault answer = MatchResult-at_err (IsFile bytes) (Wrong bytes) fault answer (picture_or_fault bytes _ refl)

pub reads_back_pictures : ReadsBackPictures
reads_back_pictures w h cells width height count =
    let scanned = reads_back header_form (w ∷ h ∷ []) cells (header w h ++ cells) 0 clear
    (width.0, omega arith, (height.0, omega arith, refl)) (omega arith) refl in
    let fits : length (header w h ++ cells) ≡ length (header w h) + w * h =
    length-append (header w h) cells ∙ ap (λ (n : ℕ). length (header w h) + n) count in
    let start : 0 + length (header w h) ≡ length (header w h) = omega arith in
    ap (λ (r : Result NumbersRead Misfit). picture_of_header r (length (header w h ++ cells))) scanned
    ∙ (ap (λ (s : ℕ). picture_of_sides w h s (length (header w h ++ cells))) start
    ∙ (cond-false _ _ _ (le-ltb 1024 w width.1)
    ∙ (cond-false _ _ _ (le-ltb 1024 h height.1)
    ∙ cond-true _ _ _ (eq-eqb _ _ fits))))

-- a picture that was read fills its file
pub fills_file : (bytes : List ℕ) (r : Result Picture PictureFault) → r ≡ read bytes → IfOk r (Fills bytes)
fills_file bytes (Ok picture) answer =
    let file = reads_only_pictures bytes picture (sym answer) in (
      file.width,
      file.height,
      omega (arith, file.cells, file.start, ap length file.starts, length-append (header picture.width picture.height) (drop picture.start bytes)),
    )
fills_file bytes (Err fault) answer = tt

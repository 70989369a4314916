-- A text is read by a form as what the form writes, or is refused at its first misfit.
use Rattle.std.proofs.Common.{◌≡◌, ℕ, ◌+◌, ◌-◌, ◌<◌, ◌≤◌, true, false, leb, ◌⊎◌, List, [], ◌∷◌, ◌++◌, length, get_or, take, drop, Ok, Err, decimal, Result, sym, refl, ap, ◌∙◌, subst, inl, inr, append_assoc, arith, MatchResult}
use Rattle.std.proofs.lemmas.List.{length-append, length-drop, length-take, get_or-take, drop_all, drop_more, get_or-drop, append_cancel_left}
use Rattle.std.proofs.lemmas.Result.{MatchResult-weaker, MatchResult-at_ok, MatchResult-at_err}
use Rattle.std.proofs.lemmas.Bool.{cases_Bool, cond-true, cond-false, leb-true, leb-false, le-leb, both_ways}
use Rattle.std.proofs.lemmas.Bool.Decides.{nat_tests}
use Rattle.std.specs.Char.{is_ascii_digit}
use Rattle.text.specs.declared.Misfit.{Misfit}
use Rattle.text.specs.Pieces.{Numeral}
use Rattle.text.specs.Misfits.{FirstMisfit}
use Rattle.text.specs.Pieces.{stands, fixed_at, digit_count, front_value, number_at, refused_at}
use Rattle.text.specs.Forms.{Form, anything, nothing, fixed, number, written, Takes, OfForm, NumbersRead, before, scan, FixedThere, TellsFixed}
use Rattle.text.proofs.Misfits.{misfit_at_once, misfit_after}
use Rattle.text.proofs.Numbers.{Front, first_of, none_starts, number_answers, same_number}

-- what follows a number starts with no digit
abbrev pub StartsPlain : Form → Type 0
StartsPlain anything = ⊥
StartsPlain nothing = Unit {0}
StartsPlain (fixed [] form) = ⊥
StartsPlain (fixed (b ∷ bytes) form) = is_ascii_digit b ≡ false
StartsPlain (number least form) = ⊥

-- where a number ends can be told, and its least is 0 or 1
abbrev pub Clear : Form → Type 0
Clear anything = Unit {0}
Clear nothing = Unit {0}
Clear (fixed bytes form) = Clear form
Clear (number least form) = (least ≤ 1) × StartsPlain form × Clear form

-- a text that was read is what the form writes of the numbers, up to the place told
pub record WasWritten (form : Form) (bytes : List ℕ) (at : ℕ) (reading : NumbersRead) : Type 0 where
  pub takes : Takes form reading.numbers (drop reading.end bytes)
  pub writes : drop at bytes ≡ written form reading.numbers ++ drop reading.end bytes
  pub ends : reading.end ≡ at + length (written form reading.numbers)
  pub within : reading.end ≤ length bytes

-- a text that was refused was refused at its first misfit
pub record RefusedAtMisfit (form : Form) (bytes : List ℕ) (at : ℕ) (misfit : Misfit) : Type 0 where
  pub from : at ≤ misfit.place
  pub first : FirstMisfit (OfForm form) (drop at bytes) (misfit.place - at)

after_front : (front text tail rest : List ℕ) → text ≡ tail ++ rest → front ++ text ≡ (front ++ tail) ++ rest
after_front front text tail rest same = ap (λ (t : List ℕ). front ++ t) same ∙ sym (append_assoc front tail rest)

-- some text of each form
some_text : (form : Form) → Clear form → (text : List ℕ) × OfForm form text
some_text anything clear = ([], record { numbers = []; rest = []; takes = refl; same = refl })
some_text nothing clear = ([], record { numbers = []; rest = []; takes = (refl, refl); same = refl })
some_text (fixed bytes form) clear =
    let more = (some_text form clear).1 in
    (_, record { numbers = more.numbers; rest = more.rest; takes = more.takes; same = after_front bytes _ _ _ more.same })
some_text (number least form) clear =
    let more = (some_text form clear.2).1 in (
      _,
      record {
        numbers = 1 ∷ more.numbers;
        rest = more.rest;
        takes = (clear.0, omega arith, more.takes);
        same = after_front (decimal 1) _ _ _ more.same;
      },
    )

moved : (Lawful : List ℕ → Type 0) {s t : List ℕ} {j k : ℕ} → s ≡ t → j ≡ k → FirstMisfit Lawful s j → FirstMisfit Lawful t k
moved Lawful {s} {t} {j} {k} e f found =
    subst (λ (i : ℕ). FirstMisfit Lawful t i) f (subst (λ (u : List ℕ). FirstMisfit Lawful u j) e found)

stands_at_start : (b : ℕ) (bytes : List ℕ) (at : ℕ) → take 1 (drop at bytes) ≡ b ∷ [] → stands b bytes at ≡ true
stands_at_start b bytes at start =
    let within : at < length bytes = omega (arith, ap length start, length-take 1 (drop at bytes), length-drop at bytes) in
    let here : get_or bytes at 0 ≡ b =
    ap (λ (i : ℕ). get_or bytes i 0) {y = at + 0} (omega arith)
    ∙ (sym (get_or-drop at bytes 0 0) ∙ (sym (get_or-take 1 (drop at bytes) 0 0 (omega arith)) ∙ ap (λ (t : List ℕ). get_or t 0 0) start)) in
    grind (arith, nat_tests)

-- where the fixed bytes do not stand, each form that starts with them refuses the text
record FixedRefused (wanted bytes : List ℕ) (at place : ℕ) : Type 0 where
  answer : fixed_at wanted bytes at ≡ refused_at place
  from : at ≤ place
  within : place ≤ length bytes
  first : (form : Form) → Clear form → FirstMisfit (OfForm (fixed wanted form)) (drop at bytes) (place - at)

fixed_answers : (wanted bytes : List ℕ) (at : ℕ) → at ≤ length bytes
    → ((end : ℕ) × (fixed_at wanted bytes at ≡ Ok end) × FixedThere wanted bytes at end) ⊎ ((place : ℕ) × FixedRefused wanted bytes at place)
unfolding fixed_at
fixed_answers [] bytes at within =
    inl (at, refl, record { spells = refl; ends = omega arith; within = within })
fixed_answers (b ∷ wanted) bytes at within =
    elim (cases_Bool (stands b bytes at)) [
      | inl there ↦
          let in_text : at < length bytes = grind (arith, nat_tests) in
          let here : get_or bytes at 0 ≡ b = grind (arith, nat_tests) in
          let front : drop at bytes ≡ b ∷ drop (at + 1) bytes = drop_more bytes at 0 in_text ∙ ap (λ (c : ℕ). c ∷ drop (at + 1) bytes) here in
          elim (fixed_answers wanted bytes (at + 1) (omega arith)) [
            | inl (end, answer, more) ↦
                inl (
                  end,
                  cond-true _ _ _ there ∙ answer,
                  record {
                    spells = front ∙ ap (λ (t : List ℕ). b ∷ t) more.spells;
                    ends = omega (arith, more.ends);
                    within = more.within;
                  },
                )
            | inr (place, more) ↦
                inr (
                  place,
                  record {
                    answer = cond-true _ _ _ there ∙ more.answer;
                    from = omega (arith, more.from);
                    within = more.within;
                    first = λ form clear. moved _ (sym front) (omega (arith, more.from))
                        (misfit_after (OfForm (fixed wanted form)) (OfForm (fixed (b ∷ wanted) form)) (b ∷ []) (drop (at + 1) bytes) (place - (at + 1))
                        (λ t o. record { numbers = o.numbers; rest = o.rest; takes = o.takes; same = ap (λ (u : List ℕ). b ∷ u) o.same })
                        (λ t _ o. record { numbers = o.numbers; rest = o.rest; takes = o.takes; same = append_cancel_left (b ∷ []) t _ o.same })
                        (more.first form clear));
                  },
                )
          ]
      | inr absent ↦
          inr (
            at,
            record {
              answer = cond-false _ _ _ absent;
              from = omega arith;
              within = within;
              first = λ form clear.
                  let some = some_text (fixed (b ∷ wanted) form) clear in
                  moved _ refl (omega arith)
                  (misfit_at_once (OfForm (fixed (b ∷ wanted) form)) some.0 some.1 (drop at bytes)
                  (λ other o same. both_ways _ absent (stands_at_start b bytes at (sym same ∙ ap (take 1) o.same))));
            },
          )
    ]

plain_start : (form : Form) (ns rest : List ℕ) → StartsPlain form → Takes form ns rest → is_ascii_digit (get_or (written form ns ++ rest) 0 0) ≡ false
plain_start anything ns rest plain takes = absurd plain
plain_start nothing ns rest plain takes = ap (λ (t : List ℕ). is_ascii_digit (get_or t 0 0)) takes.1
plain_start (fixed [] form) ns rest plain takes = absurd plain
plain_start (fixed (b ∷ bytes) form) ns rest plain takes = plain
plain_start (number least form) ns rest plain takes = absurd plain

same_first_byte : (s t : List ℕ) → take 1 s ≡ take 1 t → get_or s 0 0 ≡ get_or t 0 0
same_first_byte s t start =
    sym (get_or-take 1 s 0 0 (omega arith)) ∙ (ap (λ (u : List ℕ). get_or u 0 0) start ∙ get_or-take 1 t 0 0 (omega arith))

number_refused : (least : ℕ) (form : Form) (text : List ℕ) → Clear (number least form)
    → (digit_count text ≡ 0) ⊎ ((front_value text < least) × Front text (digit_count text) (front_value text))
    → FirstMisfit (OfForm (number least form)) text 0
number_refused least form text clear why =
    let some = some_text (number least form) clear in
    misfit_at_once (OfForm (number least form)) some.0 some.1 text
    (λ other o start. apart o.numbers o.rest o.takes other o.same start)
  where
    apart : (ns rest : List ℕ) → Takes (number least form) ns rest → (other : List ℕ)
        → other ≡ written (number least form) ns ++ rest → take 1 other ≡ take 1 text → ⊥
    apart [] rest takes other same start = absurd takes
    apart (n ∷ ns) rest takes other same start =
        let spelled : other ≡ decimal n ++ (written form ns ++ rest) = same ∙ append_assoc (decimal n) (written form ns) rest in
        none_starts least n text clear.0 takes.0 takes.1 why
        (sym (first_of n _ takes.1) ∙ (ap (λ (u : List ℕ). get_or u 0 0) (sym spelled) ∙ same_first_byte other text start))

-- a text of the form has the number that stands at its front, as long as it can be, and then a text of the rest of the form
after_number : (least : ℕ) (form : Form) (n : ℕ) (ns rest : List ℕ) (m : ℕ) (text : List ℕ) → Clear (number least form)
    → Takes (number least form) (n ∷ ns) rest → m ≤ 9999 → (is_ascii_digit (get_or text 0 0) ≡ true → (m ≡ 0) ⊎ (length (decimal m) ≡ 4))
    → decimal m ++ text ≡ written (number least form) (n ∷ ns) ++ rest → (n ≡ m) × (text ≡ written form ns ++ rest)
after_number least form n ns rest m text clear takes most stops same =
    let one = same_number n m (written form ns ++ rest) text takes.1 most
    (sym (same ∙ append_assoc (decimal n) (written form ns) rest)) (plain_start form ns rest clear.1 takes.2) stops in
    (one.0, sym one.1)

of_rest : (least : ℕ) (form : Form) (m : ℕ) (text : List ℕ) → Clear (number least form) → m ≤ 9999
    → (is_ascii_digit (get_or text 0 0) ≡ true → (m ≡ 0) ⊎ (length (decimal m) ≡ 4)) → (ns rest : List ℕ) → Takes (number least form) ns rest
    → decimal m ++ text ≡ written (number least form) ns ++ rest → OfForm form text
of_rest least form m text clear most stops [] rest takes same = absurd takes
of_rest least form m text clear most stops (n ∷ ns) rest takes same =
    record { numbers = ns; rest = rest; takes = takes.2; same = (after_number least form n ns rest m text clear takes most stops same).1 }

-- a reading goes on after a number as the rest of the form is read
cases_before : (n : ℕ) (r : Result NumbersRead Misfit) (P Q : NumbersRead → Type 0) (S T : Misfit → Type 0) → MatchResult r P S
    → ((reading : NumbersRead) → P reading → Q (record { numbers = n ∷ reading.numbers; end = reading.end }))
    → ((misfit : Misfit) → S misfit → T misfit) → MatchResult (before n r) Q T
cases_before n (Ok reading) P Q S T holds good bad = good reading holds
cases_before n (Err misfit) P Q S T holds good bad = bad misfit holds

-- how a reading goes on after fixed bytes and after a number, and where it is refused
pub scan_fixed : (wanted : List ℕ) (form : Form) (bytes : List ℕ) (at : ℕ) (end : ℕ) → fixed_at wanted bytes at ≡ Ok end
    → scan (fixed wanted form) bytes at ≡ scan form bytes end
scan_fixed wanted form bytes at end answer =
    ap (λ (r : Result ℕ Misfit). elim r as (λ _. Result NumbersRead Misfit) [ Ok e ↦ scan form bytes e | Err misfit ↦ Err misfit ]) answer

pub scan_fixed_refused : (wanted : List ℕ) (form : Form) (bytes : List ℕ) (at : ℕ) (misfit : Misfit) → fixed_at wanted bytes at ≡ Err misfit
    → scan (fixed wanted form) bytes at ≡ Err misfit
scan_fixed_refused wanted form bytes at misfit answer =
    ap (λ (r : Result ℕ Misfit). elim r as (λ _. Result NumbersRead Misfit) [ Ok e ↦ scan form bytes e | Err misfit ↦ Err misfit ]) answer

pub scan_number : (least : ℕ) (form : Form) (bytes : List ℕ) (at : ℕ) (n : Numeral) → number_at least bytes at ≡ Ok n
    → scan (number least form) bytes at ≡ before n.value (scan form bytes n.end)
scan_number least form bytes at n answer =
    ap (λ (r : Result Numeral Misfit). elim r as (λ _. Result NumbersRead Misfit) [ Ok n ↦ before n.value (scan form bytes n.end) | Err misfit ↦ Err misfit ]) answer

pub scan_number_refused : (least : ℕ) (form : Form) (bytes : List ℕ) (at : ℕ) (misfit : Misfit) → number_at least bytes at ≡ Err misfit
    → scan (number least form) bytes at ≡ Err misfit
scan_number_refused least form bytes at misfit answer =
    ap (λ (r : Result Numeral Misfit). elim r as (λ _. Result NumbersRead Misfit) [ Ok n ↦ before n.value (scan form bytes n.end) | Err misfit ↦ Err misfit ]) answer

scanned : (form : Form) → Clear form → (bytes : List ℕ) (at : ℕ) → at ≤ length bytes
    → MatchResult (scan form bytes at) (WasWritten form bytes at) (RefusedAtMisfit form bytes at)
scanned anything clear bytes at within = record { takes = refl; writes = refl; ends = omega arith; within = within }
scanned nothing clear bytes at within =
    elim (cases_Bool (leb (length bytes) at)) [
      | inl all ↦
          let none : drop at bytes ≡ [] = drop_all at bytes (leb-true _ at all) in
          rw (cond-true _ _ _ all)
          (record { takes = (refl, none); writes = refl; ends = omega arith; within = within })
      | inr more ↦
          rw (cond-false _ _ _ more)
          (record {
            from = omega arith;
            first = moved _ refl (omega arith)
                (misfit_at_once (OfForm nothing) (some_text nothing tt).0 (some_text nothing tt).1 (drop at bytes)
                (λ other o start. omega (arith, leb-false _ at more, length-drop at bytes, length-take 1 (drop at bytes), ap length (sym start ∙ ap (take 1) (o.same ∙ o.takes.1)))));
          })
    ]
scanned (fixed wanted form) clear bytes at within =
    elim (fixed_answers wanted bytes at within) [
      | inl (end, answer, there) ↦
          rw (scan_fixed wanted form bytes at end answer)
          (MatchResult-weaker (scan form bytes end) (scanned form clear bytes end there.within)
          (λ reading w. record {
            takes = w.takes;
            writes = there.spells ∙ after_front wanted _ _ _ w.writes;
            ends = omega (arith, there.ends, w.ends, length-append wanted (written form reading.numbers));
            within = w.within;
          })
          (λ misfit r. record {
            from = omega (arith, there.ends, r.from);
            first = moved _ (sym there.spells) (omega (arith, there.ends, r.from))
                (misfit_after (OfForm form) (OfForm (fixed wanted form)) wanted (drop end bytes) (misfit.place - end)
                (λ t o. record { numbers = o.numbers; rest = o.rest; takes = o.takes; same = after_front wanted _ _ _ o.same })
                (λ t _ o. record { numbers = o.numbers; rest = o.rest; takes = o.takes; same = append_cancel_left wanted t _ (o.same ∙ append_assoc wanted _ _) })
                r.first);
          }))
      | inr (place, refused) ↦ rw (scan_fixed_refused wanted form bytes at _ refused.answer) (record { from = refused.from; first = refused.first form clear })
    ]
scanned (number least form) clear bytes at within =
    elim (number_answers least bytes at) [
      | inl (n, end, answer, found) ↦
          rw (scan_number least form bytes at _ answer)
          (cases_before n (scan form bytes end) (WasWritten form bytes end) (WasWritten (number least form) bytes at) (RefusedAtMisfit form bytes end) (RefusedAtMisfit (number least form) bytes at)
          (scanned form clear.2 bytes end found.within)
          (λ reading w. record {
            takes = (found.enough, found.most, w.takes);
            writes = found.spells ∙ after_front (decimal n) _ _ _ w.writes;
            ends = omega (arith, found.ends, w.ends, length-append (decimal n) (written form reading.numbers));
            within = w.within;
          })
          (λ misfit r. record {
            from = omega (arith, r.from, found.ends);
            first = moved _ (sym found.spells) (omega (arith, r.from, found.ends))
                (misfit_after (OfForm form) (OfForm (number least form)) (decimal n) (drop end bytes) (misfit.place - end)
                (λ t o. record { numbers = n ∷ o.numbers; rest = o.rest; takes = (found.enough, found.most, o.takes); same = after_front (decimal n) _ _ _ o.same })
                (λ t start o. of_rest least form n t clear found.most
                (λ digit. found.stops (sym (ap is_ascii_digit (same_first_byte t _ start)) ∙ digit)) o.numbers o.rest o.takes o.same)
                r.first);
          }))
      | inr (answer, why) ↦
          rw (scan_number_refused least form bytes at _ answer) (record { from = omega arith; first = moved _ refl (omega arith) (number_refused least form (drop at bytes) clear why) })
    ]

pub tells_fixed : (wanted bytes : List ℕ) (at : ℕ) → at ≤ length bytes → TellsFixed wanted bytes at (fixed_at wanted bytes at)
tells_fixed wanted bytes at within =
    elim (fixed_answers wanted bytes at within) [
      | inl (end, answer, there) ↦ subst (TellsFixed wanted bytes at) (sym answer) there
      | inr (place, refused) ↦
          subst (TellsFixed wanted bytes at) (sym refused.answer)
          (record { from = refused.from; within = refused.within; first = refused.first anything tt })
    ]

pub reads_what_was_written : (form : Form) (bytes : List ℕ) (at : ℕ) (reading : NumbersRead) → Clear form → at ≤ length bytes
    → scan form bytes at ≡ Ok reading → WasWritten form bytes at reading
reads_what_was_written form bytes at reading clear within answer =
    MatchResult-at_ok (WasWritten form bytes at) (RefusedAtMisfit form bytes at) reading answer (scanned form clear bytes at within)

pub refuses_at_first_misfit : (form : Form) (bytes : List ℕ) (at : ℕ) (misfit : Misfit) → Clear form → at ≤ length bytes
    → scan form bytes at ≡ Err misfit → RefusedAtMisfit form bytes at misfit
refuses_at_first_misfit form bytes at misfit clear within answer =
    MatchResult-at_err (WasWritten form bytes at) (RefusedAtMisfit form bytes at) misfit answer (scanned form clear bytes at within)

same_reading : (ms ns : List ℕ) (i j : ℕ) → ms ≡ ns → i ≡ j
    → ◌≡◌ {A = Result NumbersRead Misfit} (Ok (record { numbers = ms; end = i })) (Ok (record { numbers = ns; end = j }))
same_reading ms ns i j e f = cc

-- what a form writes of numbers that it takes is read back as those numbers
pub reads_back : (form : Form) (ns rest bytes : List ℕ) (at : ℕ) → Clear form → Takes form ns rest → at ≤ length bytes
    → drop at bytes ≡ written form ns ++ rest
    → scan form bytes at ≡ Ok (record { numbers = ns; end = at + length (written form ns) })
reads_back anything ns rest bytes at clear takes within same = same_reading [] ns at (at + 0) (sym takes) (omega arith)
reads_back nothing ns rest bytes at clear takes within same =
    let all : length bytes ≤ at = omega (arith, length-drop at bytes, ap length (same ∙ takes.1)) in
    cond-true _ _ _ (le-leb _ at all) ∙ same_reading [] ns at (at + 0) (sym takes.0) (omega arith)
reads_back (fixed wanted form) ns rest bytes at clear takes within same =
    elim (fixed_answers wanted bytes at within) [
      | inl (end, answer, there) ↦
          let after : drop end bytes ≡ written form ns ++ rest =
          append_cancel_left wanted _ _ (sym there.spells ∙ (same ∙ append_assoc wanted (written form ns) rest)) in
          scan_fixed wanted form bytes at end answer
          ∙ (reads_back form ns rest bytes end clear takes there.within after
          ∙ same_reading ns ns _ _ refl (omega (arith, there.ends, length-append wanted (written form ns))))
      | inr (place, refused) ↦
          absurd ((refused.first form clear).unlawful (record { numbers = ns; rest = rest; takes = takes; same = same }))
    ]
reads_back (number least form) [] rest bytes at clear takes within same = absurd takes
reads_back (number least form) (n ∷ ns) rest bytes at clear takes within same =
    elim (number_answers least bytes at) [
      | inl (m, end, answer, there) ↦
          let one = after_number least form n ns rest m (drop end bytes) clear takes there.most there.stops (sym there.spells ∙ same) in
          scan_number least form bytes at _ answer
          ∙ (ap (before m) (reads_back form ns rest bytes end clear.2 takes.2 there.within one.1)
          ∙ same_reading (m ∷ ns) (n ∷ ns) _ _ (ap (λ (k : ℕ). k ∷ ns) (sym one.0))
          (omega (arith, there.ends, length-append (decimal n) (written form ns), ap (λ (k : ℕ). length (decimal k)) one.0)))
      | inr (answer, why) ↦
          absurd ((number_refused least form (drop at bytes) clear why).unlawful (record { numbers = n ∷ ns; rest = rest; takes = takes; same = same }))
    ]

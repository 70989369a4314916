-- A rack or a slate whose marks are as they open. Assumes nothing.
use Rattle.std.proofs.Common.{◌≡◌, ℕ, ◌-◌, ◌*◌, cond, List, get_or, replicate, is_some, Some, None, Option, option_map, refl, ap, ◌∙◌, inl, inr}
use Rattle.std.proofs.lemmas.List.{get_or-replicate, get_or_past, length-replicate}
use Rattle.std.proofs.lemmas.Bool.{cases_Bool, cases_lt}
use Rattle.limits.specs.declared.fault.Fault.{Fault}
use Rattle.bench.specs.declared.marks.Marks.{Marks}
use Rattle.bench.specs.Model.{is_place, kept, state_of, cells_of}
use Rattle.bench.specs.Calls.{opened, as_opened}
use Rattle.limits.specs.Faults.{unless}
use Rattle.limits.specs.Sizes.{sizes_refusal}

-- nothing is kept for any place of an empty row
pub nothing_kept : {T : Type 0} (n k : ℕ) → get_or (replicate {A = Option T} n None) k None ≡ None
nothing_kept n k = elim (cases_lt k n) [
  | inl within ↦ get_or-replicate n k None None within
  | inr past ↦ get_or_past (replicate n None) k None (rw length-replicate past)
]

-- with empty places and no visit the state is the opened one
pub clear_state : {T X C : Type 0} (holds : T → List X → C) (m : Marks T) (memory : List X) → m.visit ≡ None → m.filled ≡ replicate 12 None →
    state_of holds m memory ≡ opened m.w m.h m.places
clear_state {T} holds m memory closed clear =
    let empty : (k : ℕ) → kept m k ≡ None =
    λ k. ap (λ xs. cond (is_place m.places k) (get_or xs (k - 1) None) None) clear
    ∙ ap (λ x. cond (is_place m.places k) x None) (nothing_kept 12 (k - 1))
    ∙ elim (cases_Bool (is_place m.places k)) [ inl there ↦ rw there refl | inr off ↦ rw off refl ] in
    λ i. record {
      outline = record { w = m.w; h = m.h; places = m.places; visit = closed i; filled = λ k. is_some (empty k i) };
      content = λ k. option_map (λ t. holds t (cells_of (m.w * m.h) k memory)) (empty k i);
    }

pub opened-unless : {C : Type 0} (o : Option Fault) (w h places mw mh n : ℕ) → mw ≡ unless o w 0 → mh ≡ unless o h 0 → n ≡ unless o places 0 → opened {C = C} mw mh n ≡ unless o (opened w h places) (opened 0 0 0)
opened-unless None w h places mw mh n ew eh en = λ i. opened (ew i) (eh i) (en i)
opened-unless (Some f) w h places mw mh n ew eh en = λ i. opened (ew i) (eh i) (en i)

-- the marks of an opening stand for the opened state
pub as_opened_state : {T X C : Type 0} (holds : T → List X → C) (m : Marks T) (working w h places len : ℕ) (memory : List X) →
    m.w ≡ unless (sizes_refusal working w h places len) w 0 → m.h ≡ unless (sizes_refusal working w h places len) h 0 → m.places ≡ unless (sizes_refusal working w h places len) places 0 →
    m.visit ≡ None → m.filled ≡ replicate 12 None →
    state_of holds m memory ≡ as_opened working w h places len
as_opened_state holds m working w h places len memory ew eh en closed clear =
    clear_state holds m memory closed clear ∙ opened-unless (sizes_refusal working w h places len) w h places m.w m.h m.places ew eh en

-- A rack whose working planes were written keeps its sheets. Assumes nothing.
use Rattle.std.proofs.Common.{◌≡◌, ℕ, ◌+◌, ◌*◌, List, ◌++◌, map, length, ap, sym, ◌∙◌}
use Rattle.std.proofs.lemmas.List.{length-append}
use Rattle.bench.specs.declared.marks.Marks.{Marks}
use Rattle.bench.specs.Model.{places_of, sheet_held, state_of}
use Rattle.bench.proofs.Places.{places_split, state_of_places}

-- memory that is split right behind its places, before and after
module _ {L : Type 0} (height : L → ℕ) (marks : Marks (Unit {0})) (memory sheets was planes : List L) (front : length sheets ≡ marks.places * (marks.w * marks.h))
    (split : memory ≡ sheets ++ was) (long : length planes ≡ length was) where
  pub sheets_are : map height sheets ≡ places_of marks (map height memory)
  sheets_are = sym (places_split marks height sheets was front) ∙ ap (λ all. places_of marks (map height all)) (sym split)

  pub places_kept : places_of marks (map height (sheets ++ planes)) ≡ places_of marks (map height memory)
  places_kept = places_split marks height sheets planes front ∙ sheets_are

  pub state_kept : state_of sheet_held marks (map height (sheets ++ planes)) ≡ state_of sheet_held marks (map height memory)
  state_kept =
      sym (state_of_places sheet_held marks (map height (sheets ++ planes))) ∙ ap (state_of sheet_held marks) places_kept ∙ state_of_places sheet_held marks (map height memory)

  pub memory_long : length (sheets ++ planes) ≡ length memory
  memory_long = length-append sheets planes ∙ ap (λ n. length sheets + n) long ∙ sym (length-append sheets was) ∙ sym (ap length split)

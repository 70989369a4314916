-- The laws of an element's offsets.
use Rattle.std.proofs.Common.{sym, ◌∙◌, subst, arith}
use Rattle.std.proofs.lemmas.List.Sums.{count_by-le-length}
use Rattle.elements.specs.declared.element.Element.{Element}
use Rattle.elements.specs.Elements.{OffsetsLaw, SameOffsetsSameFlags}
use Rattle.elements.specs.Offsets.{Near}
use Rattle.elements.proofs.Squares.{near_offset_at}
use Rattle.elements.proofs.Flags.{flag_member, flagged_different, flagged_within, length-flagged, same_flags}

pub offsets_law : (e : Element) → OffsetsLaw e
offsets_law e = record {
  different = flagged_different 0 e.flags;
  square = λ o m.
      let p = flagged_within e.flags o m in
      subst (λ q. Near q.0 × Near q.1) (sym p.2) (near_offset_at p.0 (omega (arith, e.square)));
  centre = flag_member e.flags 24 e.centre;
  several = omega (arith, length-flagged 0 e.flags, e.several);
  few = omega (arith, length-flagged 0 e.flags, count_by-le-length (λ b. b) e.flags, e.square);
}

pub same_offsets_same_flags : (e : Element) → SameOffsetsSameFlags e
same_offsets_same_flags e f same = same_flags e.flags f.flags (e.square ∙ sym f.square) same

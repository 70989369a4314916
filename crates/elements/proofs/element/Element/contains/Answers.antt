-- The flag at the offset's place tells whether the offset is one of the element's; the laws hold of every element.
use Rattle.std.proofs.Common.{◌≡◌, sym, ap, ◌∙◌, subst}
use Rattle.elements.specs.Elements.{offsets}
use Rattle.elements.specs.Offsets.{◌∈◌, offset_at}
use Rattle.elements.proofs.Elements.{offsets_law, same_offsets_same_flags}
use Rattle.elements.proofs.Flags.{flag_member, member_flag}
use Rattle.elements.proofs.Squares.{not_far_if_near, offset_at_place}
use Rattle.elements.proofs.element.Element.contains.Goals as goal

pub returns : goal.returns
returns c =
    let element = c.args.self.now in
    let o = c.args.offset in
    let k = c.index.result in
    let there : offset_at k ≡ (o.column, o.row) =
    ap offset_at c.index.ensures.place
    ∙ offset_at_place o.column o.row
    (not_far_if_near o.column (o.left, o.right)) (not_far_if_near o.row (o.above, o.below)) in
    record {
      member = (
        λ e. subst (λ p. p ∈ offsets element) there (flag_member element.flags k (sym c.holds.ensures ∙ e)),
        λ m. c.holds.ensures ∙ member_flag element.flags k (subst (λ p. p ∈ offsets element) (sym there) m),
      );
      offsets = offsets_law element;
      canonical = same_offsets_same_flags element;
    }

-- Both are owners of the block, each with its own places.
use Rattle.std.proofs.Common.{not, eqb, sym, ap, ◌∙◌, subst, refl}
use Rattle.arc_block.specs.declared.block.TheConstants.{MAX_OWNERS}
use Rattle.arc_memory.specs.SharedWriters.{writer_owner, writer_value, writer_place}
use Rattle.arc_memory.specs.WriterParts.{SplitsOwner}
use Rattle.arc_owners.specs.count.Calls.{FindsFull}
use Rattle.arc_sort_writers.specs.NativeWriters.{front_writer, back_writer}
use Rattle.arc_sort_writers.proofs.Takes.{laid_alike, kept_alike, limited_both, seen_with}
use Rattle.arc_sort_writers.proofs.shared.SharedNative.try_split_as.Goals as goal

pub invariant_of-result : goal.invariant_of-result
invariant_of-result g c =
    let v = c.self.inside.writer in let w = c.in-Ok.front in let h = c.self.inside.head in
    let r = c.in-Ok.ensures in let is = c.self.invariant in (
      (limited_both MAX_OWNERS g.H.Mark.whole (not (eqb g.row.FRONT_STAYS 0)) (writer_owner v)
          (writer_owner w) (writer_owner c.in-Ok.back) _ _ r.owners is.0).0,
      kept_alike v w r.value.0 _ r.front.0 refl is.1,
      laid_alike (writer_value v) (writer_value w) r.value.0 (writer_place v) h.size is.2
          (writer_place w) h.size r.place.0 refl,
    )

pub invariant_of-result-in-Ok : goal.invariant_of-result-in-Ok
invariant_of-result-in-Ok g c =
    let v = c.self.inside.writer in let w = c.in-Ok.back in let h = c.self.inside.head in
    let r = c.in-Ok.ensures in let is = c.self.invariant in (
      (limited_both MAX_OWNERS g.H.Mark.whole (not (eqb g.row.FRONT_STAYS 0)) (writer_owner v)
          (writer_owner c.in-Ok.front) (writer_owner w) _ _ r.owners is.0).1,
      kept_alike v w r.value.1 _ r.back.0 refl is.1,
      laid_alike (writer_value v) (writer_value w) r.value.1 (writer_place v) h.size is.2
          (writer_place w) c.again-other.result.size r.place.1 c.again-other.ensures,
    )

pub returns-in-Ok-clause-front : goal.returns-in-Ok-clause-front
returns-in-Ok-clause-front g c = let o = writer_owner c.in-Ok.front in
    seen_with c.in-Ok.front o _ _ refl c.in-Ok.ensures.front
    ∙ ap (λ w. record (front_writer c.args.at w) { owner = o }) c.self.view_is

pub returns-in-Ok-clause-back : goal.returns-in-Ok-clause-back
returns-in-Ok-clause-back g c = let o = writer_owner c.in-Ok.back in
    seen_with c.in-Ok.back o _ _ refl c.in-Ok.ensures.back
    ∙ ap (λ w. record (back_writer c.args.at w) { owner = o }) c.self.view_is

pub returns-in-Ok-clause-owners : goal.returns-in-Ok-clause-owners
returns-in-Ok-clause-owners g c =
    subst (λ w. SplitsOwner (not (eqb g.row.FRONT_STAYS 0)) w.owner c.args.pass.now
    c.try_split_as.new.pass (writer_owner c.in-Ok.front) (writer_owner c.in-Ok.back))
    c.self.view_is c.in-Ok.ensures.owners

pub returns-in-Err-clause-full : goal.returns-in-Err-clause-full
returns-in-Err-clause-full g c = let kept = c.in-Err.ensures.kept in (
  seen_with c.in-Err.writer _ _ _ kept.0.0 kept.1 ∙ c.self.view_is,
  subst (λ w. FindsFull w.owner c.args.pass.now c.try_split_as.new.pass) c.self.view_is
      c.in-Err.ensures.full,
)

use Rattle.std.proofs.Common.{refl, sym, ap, ◌∙◌}
use Rattle.arc_owners.specs.memory.BoxPlaces.{with_value}
use Rattle.arc_owners.specs.memory.SoleBoxes.{with_sole_value}
use Rattle.arc_owners.proofs.memory.SoleBoxes.{same_box}
use Rattle.arc_owners.proofs.memory.sole_box.SoleBox.get_mut.Goals as goal

pub returns : goal.returns
returns g c =
    let inner = c.get_mut-inner.ensures.value in let housed = c.value_mut.ensures.value
    ∙ ap (λ x. x.value) inner in (
      (
        refl,
        λ w. same_box g.row.A.coded (with_sole_value c.args.self.now w) _
            (λ i. with_value c.args.self.now.memory (record {
              word = (sym inner i).word;
              value = record { value = w; alloc = (sym housed i).alloc };
            })) _ _ _,
      ),
      record { writes_back = tt; value = c.value_mut-2.ensures.value ∙ ap (λ x. x.value) housed },
    )

pub invariant_of-self-lent : goal.invariant_of-self-lent
invariant_of-self-lent g c w =
    let box = c.args.self.now in let inner = c.get_mut-inner.ensures.value in
    let housed = c.value_mut.ensures.value ∙ ap (λ i. i.value) inner in (
      ap (λ i. i.word.most) inner ∙ box.greatest,
      (
        box.counted ∙ sym (ap (λ i. i.word) inner),
        (box.homed ∙ sym (ap (λ h. h.alloc) housed), tt),
      ),
    )

use Rattle.std.proofs.Common.{arith}
use Rattle.arc_forms.proofs.Words.{two_digits, one_item_more, TwoDigits}
use Rattle.arc_forms.proofs.hex.decoded.Goals as goal

pub value_of-requires : goal.value_of-requires
value_of-requires g c =
    (two_digits c.loop-rest.rest.now c.in-len2-up.len_at_least c.loop-rest.invariant.digits).high

pub value_of-requires-in-len2-up : goal.value_of-requires-in-len2-up
value_of-requires-in-len2-up g c =
    (two_digits c.loop-rest.rest.now c.in-len2-up.len_at_least c.loop-rest.invariant.digits).low

pub loop-rest-preserved : goal.loop-rest-preserved
loop-rest-preserved g c =
    let two : TwoDigits c.loop-rest.rest.now = two_digits c.loop-rest.rest.now
    c.in-len2-up.len_at_least c.loop-rest.invariant.digits in
    record {
      digits = two.behind;
      made = one_item_more c.loop-rest.items.items _ c.loop-rest.rest.now _ c.value_of.result
          c.value_of-in-len2-up.result two c.loop-rest.invariant.made c.value_of.ensures.value
          c.value_of-in-len2-up.ensures.value c.push_reserved.ensures.items;
      room = omega (
        arith,
        two.short,
        c.push_reserved.ensures.len,
        c.push_reserved.ensures.capacity,
        c.loop-rest.invariant.room,
      );
    }

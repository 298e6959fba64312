-- What stands at the number's place.
use Rattle.std.proofs.Common.{◌≡◌, ℕ, List, Option, Some, None, length, slice_get, refl, sym, ap}
use Rattle.std.proofs.Common.{◌∙◌}
use Rattle.std.specs.Prelude.{MatchOption}
use Rattle.std.specs.Borrow.{Bor}
use Rattle.std.specs.Option.{option_copied, option_flatten}
use Rattle.std.proofs.lemmas.Option.{slice_get_read}
use Rattle.arc_slots.proofs.Index.{window-there}
use Rattle.arc_slots.proofs.list.Slots.get.Goals as goal

said : {X : Type 0} (r : Option (Bor X)) (y : Option X) (ws : List (Option X)) (n : ℕ)
    → option_copied r ≡ y → slice_get ws n ≡ Some y
    → MatchOption r (option_flatten (slice_get ws n) ≡ None)
    (λ window. slice_get ws n ≡ Some (Some window.now))
said None y ws n is at = ap option_flatten at ∙ sym is
said (Some b) y ws n is at = at ∙ ap Some (sym is)

pub returns : goal.returns
returns g c =
    let s = c.args.self.now in
    let p = c.in-Some.place in
    let y = c.index.result.now in
    said c.as_ref.result y _ c.args.number c.as_ref.ensures.value
    (window-there s.index.items s.numbers.items s.places.items c.args.number p
    c.in-Some.ensures.told c.in-Some.ensures.whose y
    (slice_get_read s.places.items (length s.places.items) p y refl c.in-Some.ensures.within
    c.index.ensures))

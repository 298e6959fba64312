-- How many places that has which a table takes out of a window.
use Rattle.std.specs.Prelude.{◌≡◌, ℕ, Option, IfSome}
use Rattle.std.specs.Vec.{vec_capacity}
use Rattle.std.specs.declared.vec.Vec.{Vec}
use Rattle.arc_block.specs.Place.{size_at}
use Rattle.arc_block.specs.Table.{Row}
use Rattle.arc_commands.specs.declared.command.Cmd.{Cmd}
use Rattle.arc_commands.specs.declared.command.Cmd.TheVariants as command
use Rattle.arc_commands.specs.declared.command.Reply.{Reply}
use Rattle.arc_commands.specs.declared.command.Reply.TheVariants as reply

-- a list has so many places: as many as the vector that it wraps
abbrev pub WrapsPlaces : {X T A : Type 0} → (X → Vec T A → Type 0) → X → ℕ → Type 0
WrapsPlaces {X} {T} {A} wraps given places =
    (inner : Vec T A) × wraps given inner × (vec_capacity inner ≡ places)

module _ {V B : Type 0} (has : V → ℕ → Type 0) (places : B → ℕ) where
  -- the vector or the caller's buffer that a reply hands out, if it does, has so many places
  abbrev pub HandsOutPlaces : {G X D R F M : Type 0} → ℕ → Reply G X V D B R F M → Type 0
  HandsOutPlaces n (reply.Vec items) = has items n
  HandsOutPlaces n (reply.Buffer buffer) = places buffer ≡ n
  HandsOutPlaces n other = Unit {0}

  -- The vector or the caller's buffer that a command takes out of a window has as many places as
  -- the block on which the window's row stood. Of other commands nothing is said here.
  abbrev pub TakesPlaces : {C G X D R F H T M : Type 0} → (row : ℕ → Option (Row T M))
      → Cmd C V F B M T → Reply G X V D B R H M → Type 0
  TakesPlaces row (command.Take i) r = IfSome (row i) (λ s. HandsOutPlaces (size_at s.place) r)
  TakesPlaces row (command.TakeBuf i) r = IfSome (row i) (λ s. HandsOutPlaces (size_at s.place) r)
  TakesPlaces row other r = Unit {0}

-- What a read by `Buf` leaves of a read window.
use Rattle.std.specs.Prelude.{ℕ, ◌+◌, List, length}
use Rattle.arc_block.specs.Place.{Place, nowhere, static_data, on_block}

-- the place in its block at which a window ends, which reads off its front don't change
abbrev pub end_place : {T N M : Type 0} → Place N M → List T → ℕ
end_place nowhere items = 0
end_place static_data items = 0
end_place (on_block block offset info) items = offset + length items

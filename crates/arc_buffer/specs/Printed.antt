-- What is written of a list of bytes.
use Rattle.std.specs.Prelude.{ℕ, ◌/◌, ◌%◌, Bool, false, ◌&&◌, ◌==◌, if◌then◌else◌, nat_le}
use Rattle.std.specs.Prelude.{List, [], ◌∷◌, ◌++◌, flat_map, codes}
use Rattle.std.specs.Fmt.{digit_glyph}

-- the two hexadecimal digits of a byte
abbrev pub hex_byte : (upper : Bool) → ℕ → List ℕ
hex_byte upper b = digit_glyph upper (b / 16) ∷ digit_glyph upper (b % 16) ∷ []

-- two hexadecimal digits for each byte
abbrev pub hex_bytes : (upper : Bool) → List ℕ → List ℕ
hex_bytes upper bytes = flat_map (hex_byte upper) bytes

-- a byte between the quotes of a byte string: by the first line that fits
abbrev pub debug_byte : ℕ → List ℕ
debug_byte b =
    if b == 9 then codes "\\t" else
    if b == 10 then codes "\\n" else
    if b == 13 then codes "\\r" else
    if b == 34 then codes "\\\"" else
    if b == 39 then codes "\\'" else
    if b == 92 then codes "\\\\" else
    if nat_le 32 b && nat_le b 126 then b ∷ [] else
    codes "\\x" ++ hex_byte false b

-- the byte string
abbrev pub debug_bytes : List ℕ → List ℕ
debug_bytes bytes = codes "b\"" ++ flat_map debug_byte bytes ++ codes "\""

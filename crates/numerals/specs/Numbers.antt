-- The numbers that bytes write. A byte is a whole number below 256.
use Rattle.std.specs.Prelude.{cond, List, map, ℕ, ◌+◌, ◌*◌, ltb, ℤ, pos, ◌-ℤ◌}

-- two bytes, the higher first
abbrev pub two_bytes : ℕ → ℕ → ℕ
two_bytes a b = a * 256 + b

-- four bytes, the highest first
abbrev pub four_bytes : ℕ → ℕ → ℕ → ℕ → ℕ
four_bytes a b c d = a * 16777216 + b * 65536 + c * 256 + d

-- the signed number of one byte, in two's complement: 128 to 255 stand for -128 to -1
abbrev pub signed_byte : ℕ → ℤ
signed_byte b = cond (ltb b 128) (pos b) (pos b -ℤ pos 256)

-- the signed number of four bytes, in two's complement: those from 2^31 on stand for 2^32 less
abbrev pub signed_word : ℕ → ℕ → ℕ → ℕ → ℤ
signed_word a b c d =
    cond (ltb (four_bytes a b c d) 2147483648)
    (pos (four_bytes a b c d))
    (pos (four_bytes a b c d) -ℤ pos 4294967296)

-- each byte as a signed number
abbrev pub signed_bytes : List ℕ → List ℤ
signed_bytes bytes = map signed_byte bytes

-- A record's two words: four 16-bit numbers in each, the first lowest.
use Rattle.std.specs.Prelude.{Bool, cond, ℕ, ◌+◌, ◌*◌, ◌/◌, ◌%◌}

abbrev pub packed : ℕ → ℕ → ℕ → ℕ → ℕ
packed a b c d = a + b * 65536 + c * 4294967296 + d * 281474976710656

abbrev pub part0 : ℕ → ℕ
part0 w = w % 65536

abbrev pub part1 : ℕ → ℕ
part1 w = w / 65536 % 65536

abbrev pub part2 : ℕ → ℕ
part2 w = w / 4294967296 % 65536

abbrev pub part3 : ℕ → ℕ
part3 w = w / 281474976710656

-- what one step up in the number at a place of a word of links is worth: the next link of an end, or the previous one if it goes back
abbrev pub unit_of : Bool → Bool → ℕ
unit_of back first = cond back (cond first 65536 281474976710656) (cond first 1 4294967296)

-- a word of links with one of them anew
unfoldable pub with_link : Bool → Bool → ℕ → ℕ → ℕ
with_link back first w v =
    cond back
    (cond first (packed (part0 w) v (part2 w) (part3 w)) (packed (part0 w) (part1 w) (part2 w) v))
    (cond first (packed v (part1 w) (part2 w) (part3 w)) (packed (part0 w) (part1 w) v (part3 w)))

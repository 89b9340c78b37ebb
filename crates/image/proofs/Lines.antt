-- The bytes of records: how many there are, and by which steps they are written.
use Rattle.std.proofs.Common.{◌≡◌, cond, eqb, refl, ap, ◌∙◌, List, [], ◌∷◌, ◌++◌, ℕ, zero, suc, ◌+◌, ◌*◌, ◌/◌, ◌%◌, ◌^◌, ◌<◌, length, get_or, w64, arith}
use Rattle.std.specs.Int.{to_le_bytes}
use Rattle.intersection_set.specs.Pool.{pair_of}
use Rattle.job.specs.Words.{word, word_bytes}
use Rattle.job.proofs.Written.{table}
use Rattle.resume.specs.Image.{Line, line}
use Rattle.image.specs.Halves.{half, half_bytes}
use Rattle.image.specs.Bytes.{line_bytes, lines_bytes, line_of_word}
use Rattle.image.specs.Reading.{record_width, record_start, edge_in, age_in, line_in}
use Rattle.image.proofs.Halves.{table_more}
use Rattle.image.proofs.Behind.{word_past, edge_past}

-- a place that holds nothing reads as this
abbrev pub no_line : Line
no_line = line (record { lo = 0; hi = 0 }) (record { lo = 0; hi = 0 }) 0

-- the record whose 12 bytes start at k
abbrev pub line_at : List ℕ → ℕ → Line
line_at l k = line (edge_in l k) (edge_in l (k + 4)) (word l (k + 8))

-- of bytes that stand behind others
pub line_past : (a b : List ℕ) (k i : ℕ) → k ≡ length a + i → line_at (a ++ b) k ≡ line_at b i
line_past a b k i e =
    let e₀ = edge_past a b k i e in
    let e₁ = edge_past a b (k + 4) (i + 4) (omega arith) in
    let age = word_past a b (k + 8) (i + 8) (omega arith) in
    λ j. line (e₀ j) (e₁ j) (age j)

-- at width 12
pub line_twelve : (img : List ℕ) (i : ℕ) → record_width img ≡ 12 → line_in img i ≡ line_at img (record_start img + 12 * i)
unfolding age_in
line_twelve img i e =
    let start : ℕ → ℕ = λ w. record_start img + w * i in
    ap (λ w. line (edge_in img (start w)) (edge_in img (start w + 4)) (cond (eqb w 12) (word img (start w + 8)) i)) e

-- at width 8 its age is its place
pub age_eight : (img : List ℕ) (i : ℕ) → record_width img ≡ 8 → age_in img i ≡ i
unfolding age_in
age_eight img i e = ap (λ w. cond (eqb w 12) (word img (record_start img + w * i + 8)) i) e

-- the library's bytes of the word of its edges, and its age
pub le_line : (w age : ℕ) → w < 2 ^ 64 → to_le_bytes w64 w ++ word_bytes age ≡ line_bytes (line_of_word w age)
unfolding line_bytes half_bytes pair_of
le_line w age h =
    let b₀ : w % 256 ≡ w % 65536 % 256 = omega arith in
    let b₁ : w / 256 % 256 ≡ w % 65536 / 256 = omega arith in
    let b₂ : w / 65536 % 256 ≡ w / 65536 % 65536 % 256 = omega arith in
    let b₃ : w / 16777216 % 256 ≡ w / 65536 % 65536 / 256 = omega arith in
    let b₄ : w / 4294967296 % 256 ≡ w / 4294967296 % 65536 % 256 = omega arith in
    let b₅ : w / 1099511627776 % 256 ≡ w / 4294967296 % 65536 / 256 = omega arith in
    let b₇ : w / 72057594037927936 % 256 ≡ w / 281474976710656 / 256 = omega arith in
    λ i. b₀ i ∷ b₁ i ∷ b₂ i ∷ b₃ i ∷ b₄ i ∷ b₅ i ∷ (w / 281474976710656 % 256) ∷ b₇ i ∷ word_bytes age

length_line : (l : Line) → length (line_bytes l) ≡ 12
unfolding line_bytes half_bytes word_bytes
length_line l = refl

pub length_lines : (ls : List Line) → length (lines_bytes ls) ≡ 12 * length ls
unfolding lines_bytes line_bytes half_bytes word_bytes
length_lines [] = refl
length_lines (l ∷ ls) = omega (arith, length_lines ls)

lines_append : (a b : List Line) → lines_bytes (a ++ b) ≡ lines_bytes a ++ lines_bytes b
unfolding lines_bytes line_bytes half_bytes word_bytes
lines_append [] b = refl
lines_append (l ∷ a) b = ap (λ t. line_bytes l ++ t) (lines_append a b)

-- a record more
pub lines_next : (f : ℕ → Line) (i : ℕ) → lines_bytes (table f (i + 1)) ≡ lines_bytes (table f i) ++ line_bytes (f i)
unfolding lines_bytes line_bytes half_bytes word_bytes
lines_next f i = ap lines_bytes (table_more f i) ∙ lines_append (table f i) (f i ∷ [])

-- reading record i of the bytes of records gives record i
pub lines_read : (ls : List Line) (i : ℕ) → i < length ls → line_at (lines_bytes ls) (12 * i) ≡ get_or ls i no_line
unfolding lines_bytes line_bytes half_bytes word_bytes half word
lines_read [] i h = absurd (omega arith)
lines_read (l ∷ ls) zero h =
    let half_is : (h : ℕ) → h % 256 + 256 * (h / 256) ≡ h = λ h. omega arith in
    let a = half_is l.e0.lo in
    let b = half_is l.e0.hi in
    let c = half_is l.e1.lo in
    let d = half_is l.e1.hi in
    let v = l.age in
    let w : v % 256 + 256 * (v / 256 % 256) + 65536 * (v / 256 / 256 % 256) + 16777216 * (v / 256 / 256 / 256) ≡ v = omega arith in
    λ j. line (record { lo = a j; hi = b j }) (record { lo = c j; hi = d j }) (w j)
lines_read (l ∷ ls) (suc i) h =
    let long = length_line l in
    line_past (line_bytes l) (lines_bytes ls) (12 * suc i) (12 * i) (omega (arith, long)) ∙ lines_read ls i (omega arith)

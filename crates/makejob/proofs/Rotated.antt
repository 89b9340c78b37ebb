-- Half a word's rotation puts each half in the other's place.
use Rattle.std.proofs.Common.{◌≡◌, ℕ, ◌*◌, ◌/◌, ◌%◌, ◌^◌, ◌<◌, w32, arith}
use Rattle.std.specs.Int.{rotate_right}
use Rattle.std.proofs.lemmas.Nat.{or_comm, or_shifted}
use Rattle.makejob.specs.Drawn.{rotated}

pub rotated_is : (s : ℕ) → s < 2 ^ 32 → rotate_right w32 s 16 ≡ rotated s
rotated_is s h =
    let low : (s * 65536) % 4294967296 ≡ (s % 65536) * 2 ^ 16 = omega arith in
    let high : s / 65536 < 2 ^ 16 = omega arith in
    rw (low, or_comm (s / 65536) ((s % 65536) * 2 ^ 16), or_shifted (s % 65536) 16 (s / 65536) high) (omega arith)

-- The start: whatever the other buffers hold, once every head is none and every count 0 they hold the empty store.
use mathlib.Core.Path.{◌≡◌}
use Prim.Native.Nat.{ℕ}
use lib.ListN.{length-map, length-replicate}
use Rattle.intersection_set.specs.Pool.{pair_of, nexts_in, prevs_in, Buffers, pool_of}
use Rattle.intersection_set.specs.Within.{Sized, Room}
use Rattle.intersection_set.specs.Set.{cleared}
use Rattle.intersection_set.specs.declared.utils.Counts.{Counts}

-- what is lent has room for the lists that it stands for
pub sized_lent : {n : ℕ} (b : Buffers) (c : Counts) → Room n b → Sized n (pool_of b c)
sized_lent b c z =
    record {
      in_heads = z.in_heads;
      in_next = rw (length-map b.links nexts_in) z.in_links;
      in_prev = rw (length-map b.links prevs_in) z.in_links;
      in_edges = rw (length-map b.ends pair_of) z.in_ends;
      in_ages = z.in_ages;
      in_dense = z.in_dense;
      in_reverse = z.in_reverse;
      in_free = z.in_free;
      in_tangles = z.in_tangles;
    }

-- and so it has once heads and counts are cleared
pub sized_cleared : {n : ℕ} (b : Buffers) {d : Buffers} (c : Counts) → d ≡ cleared b → Room n b → Sized n (pool_of d c)
sized_cleared b c e z =
    rw e
    (sized_lent (cleared b) c
    (record { in_heads = rw length-replicate z.in_heads; in_ends = z.in_ends; in_links = z.in_links; in_ages = z.in_ages; in_dense = z.in_dense; in_reverse = z.in_reverse; in_free = z.in_free; in_tangles = rw length-replicate z.in_tangles }))

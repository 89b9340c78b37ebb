-- `write` meets its contract: each lane is written as it is held.
use Rattle.std.proofs.Common.{◌∙◌, ◌∷◌, drop}
use Rattle.std.proofs.lemmas.Int.{to_z-of_z}
use Rattle.std.proofs.lemmas.Simd.{put_chunk_is}
use mir.Syntax.{w32}
use Rattle.box_tree.proofs.bounds.Bounds.write.Goals as goal

pub returns : goal.returns
returns c =
    let a = c.self.invariant in
    rw (← c.self.view_is, ← a.whole)
    (put_chunk_is 0 c.args.tree.now _ c.requires
    ∙ (λ i. to_z-of_z w32 _ a.left i ∷ to_z-of_z w32 _ a.low i ∷ to_z-of_z w32 _ a.right i ∷ to_z-of_z w32 _ a.high i ∷ drop 4 c.args.tree.now))

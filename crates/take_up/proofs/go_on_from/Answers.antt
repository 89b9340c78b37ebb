-- `go_on_from` meets its contract: the pool is filled from the image, and the run goes on from its state.
use Rattle.std.proofs.Common.{rules, ◌≡◌, refl, sym, ◌∙◌, ap, arith}
use Rattle.geometry.specs.Spots.{spots}
use Rattle.box_tree.specs.Tree.{ring_tree}
use Rattle.image.specs.Reading.{record_count, line_in, lines_in}
use Rattle.refill.specs.Filling.{line_at}
use Rattle.take_up.proofs.Reading.{lines_length, line_is, outlived}
use Rattle.take_up.proofs.Running.{resumed_running, polygon_indexed}
use Rattle.take_up.proofs.go_on_from.Goals as goal

pub refill-requires : goal.refill-requires
refill-requires c κs within =
    let (vertices, room, size, tree) = c.requires.lent in
    let (e, board, fit, few) = c.requires.image in
    let img = c.args.file.bytes.now in
    let count : c.args.file.header.records ≡ record_count img = ap (λ h. h.records) c.args.file.within.words in (
      outlived within.0 within.1.0,
      (
        outlived within.1.1.0 within.1.1.1.0,
        (
          rw vertices (c.args.points.lent.few, room),
          (
            rw vertices (spots c.args.points, board, fit),
            (
              count ∙ sym (lines_length img),
              (
                (λ k h κs' p q r u l. h),
                (
                  (λ k a h post.
                      let same : (line_in img k).age ≡ (line_at (lines_in img) k).age = sym (ap (λ x. x.age) (line_is img k (omega (arith, count, h)))) in
                      search rules),
                  (
                    (λ k h κs' p q r u l. h),
                    (λ k r h post.
                        let first : (line_in img k).e0 ≡ (line_at (lines_in img) k).e0 = sym (ap (λ x. x.e0) (line_is img k (omega (arith, count, h)))) in
                        let second : (line_in img k).e1 ≡ (line_at (lines_in img) k).e1 = sym (ap (λ x. x.e1) (line_is img k (omega (arith, count, h)))) in
                        search rules),
                  ),
                ),
              ),
            ),
          ),
        ),
      ),
    )

pub go_on-requires : goal.go_on-requires
go_on-requires c =
    let (vertices, room, size, tree) = c.requires.lent in
    let (e, board, fit, few) = c.requires.image in
    let run = resumed_running c.args.points c.args.file.bytes.now board fit e (polygon_indexed c.args.polygon.now size) (rw vertices at c.refill.ensures.holds) in
    rw (c.refill.ensures.same.vertices ∙ vertices) (refl, few, c.build.ensures ∙ ap (ring_tree c.args.points.n (spots c.args.points)) c.as_slice.ensures, (_, run))

pub returns-clause-ended : goal.returns-clause-ended
returns-clause-ended c =
    let (vertices, room, size, tree) = c.requires.lent in
    let (e, board, fit, few) = c.requires.image in
    let run = resumed_running c.args.points c.args.file.bytes.now board fit e (polygon_indexed c.args.polygon.now size) (rw vertices at c.refill.ensures.holds) in
    (rw (c.refill.ensures.same.vertices ∙ vertices) at c.go_on.ensures.ended) _ run

-- `is_fit` meets its contract: what is read is what the image says.
use Rattle.std.proofs.Common.{rules, ◌≡◌, true, ℕ, List, ◌≤◌, sym, ◌∙◌, ap, get_or, arith}
use Rattle.std.proofs.lemmas.List.{length-take-le}
use Rattle.geometry.specs.Spots.{spots}
use Rattle.geometry.specs.declared.lent.Points.{Points}
use Rattle.polygon.specs.Ring.{IsRing}
use Rattle.machine.specs.Board.{Board}
use Rattle.intersection_set.specs.Store.{no_rec}
use Rattle.intersection_set.proofs.Lengths.{cap_small}
use Rattle.resume.specs.Image.{slotted}
use Rattle.resume.specs.AgesAside.{age_at}
use Rattle.resume.proofs.Checking.{names_decide}
use Rattle.resume.proofs.Images.{names_few}
use Rattle.resume.specs.Check.{names_all}
use Rattle.image.specs.declared.image_file.ImageFile.{ImageFile}
use Rattle.image.specs.Reading.{record_count, line_in, lines_in}
use Rattle.take_up.proofs.Reading.{records_length, record_is, outlived}
use Rattle.take_up.proofs.is_fit.Goals as goal

few_records : (file : ImageFile) (p : Points) {r : List ℕ} → IsRing p.n r → Board p.n (spots p) → names_all p.n (spots p) r (slotted 0 (lines_in file.bytes.now)) ≡ true → file.header.records ≤ 65280
few_records file p {r} ring board t =
    let img = file.bytes.now in
    let d = slotted 0 (lines_in img) in
    let count : file.header.records ≡ record_count img = ap (λ h. h.records) file.within.words in
    omega (arith, count, records_length img, names_few p.n (spots p) board r d ring ((names_decide p.n (spots p) board r ring d).0 t), cap_small p.lent.few)

pub name_exactly-requires : goal.name_exactly-requires
name_exactly-requires c κs within =
    let (size, ring, board, e) = c.requires in
    let img = c.args.file.bytes.now in
    let count : c.args.file.header.records ≡ record_count img = ap (λ h. h.records) c.args.file.within.words in (
      outlived within.0 within.1.0,
      (
        (ring, board, cap_small c.args.points.lent.few),
        (
          records_length img ∙ sym count,
          (
            (λ k h κs' p q r u l. h),
            (λ k r h post.
                let same = record_is img k (omega (arith, count, h)) in
                let first : (line_in img k).e0 ≡ (get_or (slotted 0 (lines_in img)) k no_rec).e0 = sym (ap (λ x. x.e0) same) in
                let second : (line_in img k).e1 ≡ (get_or (slotted 0 (lines_in img)) k no_rec).e1 = sym (ap (λ x. x.e1) same) in
                search rules),
          ),
        ),
      ),
    )

-- so few, since they name only pairs that meet
pub sort_ages-requires : goal.sort_ages-requires
sort_ages-requires c κs within =
    let img = c.args.file.bytes.now in
    let count : c.args.file.header.records ≡ record_count img = ap (λ h. h.records) c.args.file.within.words in (
      outlived within.0 within.1.0,
      (
        (omega (arith, few_records c.args.file c.args.points c.requires.1 c.requires.2 (sym c.name_exactly.ensures.exact ∙ c.if-not-name_exactly.false), c.name_exactly.ensures.size), records_length img ∙ sym count),
        (
          (λ k h κs' p q r u l. h),
          (λ k a h post.
              let same : (line_in img k).age ≡ age_at (slotted 0 (lines_in img)) k = sym (ap (λ x. x.age) (record_is img k (omega (arith, count, h)))) in
              search rules),
        ),
      ),
    )

pub slice_bounds-table-end : goal.slice_bounds-table-end
slice_bounds-table-end c =
    omega (arith, few_records c.args.file c.args.points c.requires.1 c.requires.2 (sym c.name_exactly.ensures.exact ∙ c.if-not-name_exactly.false), c.name_exactly.ensures.size, c.sort_ages.ensures.size)

pub slice_bounds-are_all-end : goal.slice_bounds-are_all-end
slice_bounds-are_all-end c =
    sym (length-take-le c.args.file.header.records c.sort_ages.new.table
    (omega (arith, few_records c.args.file c.args.points c.requires.1 c.requires.2 (sym c.name_exactly.ensures.exact ∙ c.if-not-name_exactly.false), c.name_exactly.ensures.size, c.sort_ages.ensures.size)))

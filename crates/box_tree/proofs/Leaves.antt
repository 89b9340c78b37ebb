-- Leaves are made from the points at consecutive places: none, one, and two with their union in front.
use Rattle.std.proofs.Common.{◌≡◌, List, ◌++◌, ℕ, ◌+◌, ◌<◌, ℤ, length, drop, sym, ◌∙◌, ap, ap₂, arith}
use Rattle.std.proofs.lemmas.List.{append-nil, drop_all, nil_from_length}
use Rattle.geometry.specs.Plane.{Point}
use Rattle.polygon.specs.Ring.{next, at}
use Rattle.box_tree.specs.Boxes.{Bounds, span, unite}
use Rattle.box_tree.specs.Tree.{box_at, four, tree_of, buffer, tree_size}
use Rattle.box_tree.proofs.Growing.{top_one, buffer_one, buffer_more}

-- No positions take no numbers.
pub none_made : (f : ℕ → Bounds) (n : ℕ) (t : List ℤ) → n ≡ 0 → length t ≡ tree_size n → t ≡ buffer f 0 n
unfolding buffer tree_of
none_made f n t e l = nil_from_length t (omega arith) ∙ sym (ap (buffer f 0) e)

module _ (n : ℕ) (pt : ℕ → Point) (r : List ℕ) where
  -- the box of the edge from i to m
  edge : (i m : ℕ) (a b : Point) → a ≡ pt (at r i) → b ≡ pt (at r m) → m ≡ next n i → span a b ≡ box_at n pt r i
  unfolding box_at
  edge i m a b ea eb em = ap₂ span ea (eb ∙ ap (λ j. pt (at r j)) em)

  -- A leaf is written to four numbers.
  pub leaf_made : (i m : ℕ) (a b : Point) (x : Bounds) (t u : List ℤ) → length t ≡ 4 → a ≡ pt (at r i) → b ≡ pt (at r m) → m ≡ next n i → x ≡ span a b
      → u ≡ four x ++ drop 4 t → u ≡ buffer (box_at n pt r) i 1
  leaf_made i m a b x t u l ea eb em ex eu =
      let f = box_at n pt r in
      let e = edge i m a b ea eb em in
      let d = drop_all 4 t (omega arith) in
      let z = append-nil (four (f i)) in
      let w = buffer_one f i in
      cc

  -- Two leaves, and their union in front.
  pub pair_made : (i j m : ℕ) (a b c : Point) (u : List ℤ) → j ≡ i + 1 → j < n → a ≡ pt (at r i) → b ≡ pt (at r j) → c ≡ pt (at r m) → m ≡ next n j
      → u ≡ four (unite (span a b) (span b c)) ++ (four (span a b) ++ four (span b c)) → u ≡ buffer (box_at n pt r) i 2
  pair_made i j m a b c u ej lj ea eb ec em eu =
      let f = box_at n pt r in
      let e1 = edge i j a b ea eb (grind arith) in
      let e2 = edge j m b c eb ec em in
      let o1 = buffer_one f i in
      let o2 = buffer_one f (i + 1) in
      let t1 = top_one f i in
      let t2 = top_one f (i + 1) in
      let w = buffer_more f i 2 (omega arith) in
      cc

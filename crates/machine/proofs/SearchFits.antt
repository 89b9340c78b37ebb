-- What the search for a kink and an edge hands out is a plan that fits.
use mathlib.Core.Path.{◌≡◌, ap}
use mathlib.Core.Bool.{true, ◌&&◌}
use mathlib.Core.List.{List, [], ◌∷◌, ◌++◌}
use mathlib.Core.Logic.{◌≢◌}
use Prim.Native.Nat.{ℕ, zero, suc, ◌<◌}
use Rattle.geometry.specs.Plane.{Point, lt_point, min_point, max_point, collinear}
use Rattle.geometry.specs.Segment.{inside}
use Rattle.machine.specs.Search.{Mergable, none, merge, or_else, run_back, run_on, first_kink, search_edges, kink_and_edge}
use Rattle.polygon.specs.Ring.{next, prev, dist, stretch}
use Rattle.machine.specs.Board.{pt_at, kink_at, is_straight_line}
use Rattle.algebra.specs.Cases.{both, true_or_false, and_left, and_right}
use Rattle.polygon.proofs.Positions.{next_lt, prev_lt}
use Rattle.polygon.specs.Change.{Hung}
use Rattle.geometry.proofs.Points.{lt_point_irrefl}

-- ---- a point strictly inside a segment is neither end
pub inside_first : (a b v : Point) → inside a b v ≡ true → v ≢ a
inside_first a b v h e =
    let g : (lt_point (min_point a b) a && lt_point a (max_point a b)) ≡ true = rw e at (and_right (collinear a b v) (lt_point (min_point a b) v && lt_point v (max_point a b)) h) in
    both (true_or_false (lt_point a b))
    (λ t. lt_point_irrefl a (and_left (lt_point a a) (lt_point a b) (rw t at g)))
    (λ t. lt_point_irrefl a (and_right (lt_point b a) (lt_point a a) (rw t at g)))

pub inside_second : (a b v : Point) → inside a b v ≡ true → v ≢ b
inside_second a b v h e =
    let g : (lt_point (min_point a b) b && lt_point b (max_point a b)) ≡ true = rw e at (and_right (collinear a b v) (lt_point (min_point a b) v && lt_point v (max_point a b)) h) in
    both (true_or_false (lt_point a b))
    (λ t. lt_point_irrefl b (and_right (lt_point a b) (lt_point b b) (rw t at g)))
    (λ t. lt_point_irrefl b (and_left (lt_point b b) (lt_point b a) (rw t at g)))

-- ---- positions
abbrev pub AllLt : ℕ → List ℕ → Type 0
AllLt n [] = Unit {0}
AllLt n (a ∷ l) = (a < n) × AllLt n l

pub all_append : (n : ℕ) (l m : List ℕ) → AllLt n l → AllLt n m → AllLt n (l ++ m)
all_append n [] m h g = g
all_append n (a ∷ l) m h g = (h.0, all_append n l m h.1 g)

module _ (n : ℕ) (pt : ℕ → Point) where
  pub stretch_lt : (i k : ℕ) → i < n → AllLt n (stretch n i k)
  stretch_lt i zero l = tt
  stretch_lt i (suc k) l = (l, stretch_lt (next n i) k (next_lt n i l))

  module _ (r : List ℕ) where
    pub run_back_lt : (k i : ℕ) → i < n → run_back n pt k r i < n
    run_back_lt zero i l = l
    run_back_lt (suc k) i l = both (true_or_false (is_straight_line n pt r i)) (λ t. rw t (run_back_lt k (prev n i) (prev_lt n i l))) (λ t. rw t l)

    pub run_on_lt : (k i : ℕ) → i < n → run_on n pt k r i < n
    run_on_lt zero i l = l
    run_on_lt (suc k) i l = both (true_or_false (is_straight_line n pt r i)) (λ t. rw t (run_on_lt k (next n i) (next_lt n i l))) (λ t. rw t l)

    -- what a hoist that is handed out is
    abbrev pub Fine : Mergable → Type 0
    Fine none = Unit {0}
    Fine (merge k p) = Hung n k p

    hung : (k p : ℕ) → k < n → p < n → inside (pt_at pt r p) (pt_at pt r (next n p)) (pt_at pt r k) ≡ true → Hung n k p
    hung k p lk lp h = record {
      lk = lk;
      lp = lp;
      kp = λ e. inside_first (pt_at pt r p) (pt_at pt r (next n p)) (pt_at pt r k) h (ap (pt_at pt r) e);
      not_on = λ e. inside_second (pt_at pt r p) (pt_at pt r (next n p)) (pt_at pt r k) h (ap (pt_at pt r) e);
    }

    pub first_kink_fine : (p : ℕ) → p < n → (ks : List ℕ) → AllLt n ks → Fine (first_kink n pt r p ks)
    first_kink_fine p lp [] h = tt
    first_kink_fine p lp (k ∷ ks) h =
        let t = inside (pt_at pt r p) (pt_at pt r (next n p)) (pt_at pt r k) in
        both (true_or_false (kink_at n pt r k && t))
        (λ g. rw g (hung k p h.0 lp (and_right (kink_at n pt r k) t g)))
        (λ g. rw g (first_kink_fine p lp ks h.1))

    pub or_else_fine : (h g : Mergable) → Fine h → Fine g → Fine (or_else h g)
    or_else_fine none g a b = b
    or_else_fine (merge k p) g a b = a

    pub search_edges_fine : (ks : List ℕ) → AllLt n ks → (ps : List ℕ) → AllLt n ps → Fine (search_edges n pt r ks ps)
    search_edges_fine ks hk [] h = tt
    search_edges_fine ks hk (p ∷ ps) h = or_else_fine (first_kink n pt r p ks) (search_edges n pt r ks ps) (first_kink_fine p h.0 ks hk) (search_edges_fine ks hk ps h.1)

    pub kink_and_edge_fine : (a b : ℕ) → a < n → b < n → Fine (kink_and_edge n pt r a b)
    kink_and_edge_fine a b la lb =
        let a₀ = run_back n pt n r a in
        let a₁ = run_on n pt n r (next n a) in
        let b₀ = run_back n pt n r b in
        let b₁ = run_on n pt n r (next n b) in
        let la₀ = run_back_lt n a la in
        let lb₀ = run_back_lt n b lb in
        search_edges_fine
        (stretch n a₀ (suc (dist n a₀ a₁)) ++ stretch n b₀ (suc (dist n b₀ b₁)))
        (all_append n (stretch n a₀ (suc (dist n a₀ a₁))) (stretch n b₀ (suc (dist n b₀ b₁))) (stretch_lt a₀ (suc (dist n a₀ a₁)) la₀) (stretch_lt b₀ (suc (dist n b₀ b₁)) lb₀))
        (stretch n a₀ (dist n a₀ a₁) ++ stretch n b₀ (dist n b₀ b₁))
        (all_append n (stretch n a₀ (dist n a₀ a₁)) (stretch n b₀ (dist n b₀ b₁)) (stretch_lt a₀ (dist n a₀ a₁) la₀) (stretch_lt b₀ (dist n b₀ b₁) lb₀))

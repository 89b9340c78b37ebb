-- The kink theorem: of two edges that overlap on a line, the search never answers none.
use mathlib.Core.Path.{◌≡◌, refl, sym, ◌∙◌, ap}
use mathlib.Core.Bool.{Bool, true, false, not, ◌&&◌}
use mathlib.Core.List.{List, ◌++◌}
use mathlib.Core.Logic.{◌⊎◌, inl, inr, ◌≢◌}
use Prim.Native.Nat.{ℕ, suc, ◌+◌, ◌-◌, ◌≤◌, ◌<◌}
use native.Mathlib.Omega.{arith}
use Rattle.geometry.specs.Plane.{Point, lt_point, min_point, max_point, collinear}
use Rattle.geometry.specs.Segment.{inside, meets}
use Rattle.algebra.specs.Cases.{and_left, and_right, both, eq_cases, never}
use Rattle.geometry.proofs.Points.{zero_yes, zero_is, turn_round_lem, turn_first, turn_second, three, inside_if, inside_is, lt_point_total, lt_point_flip, max_min}
use Rattle.machine.specs.Search.{flat, kink_in, Mergable, none, merge, run_back, run_on, search_edges, kink_and_edge}
use Rattle.polygon.specs.Ring.{next, prev, dist, stretch}
use Rattle.machine.specs.Board.{pt_at, is_straight_line, kink_at}
use Rattle.polygon.proofs.Positions.{next_cases, next_lt, prev_lt, next_prev, prev_next, dist_self, dist_lt, dist_inj, dist_next, dist_suc, dist_pred, next_not}
use Rattle.geometry.proofs.Height.{Apart, height, height_up, height_down, height_inj, lower_le}
use Rattle.machine.proofs.Descent.{fore, tail, tail_fore, descend}
use Rattle.machine.proofs.Runs.{Straight, Corner, OnL, line_on, line_back, straight_if, dist_pos, run_of}
use Rattle.machine.proofs.SearchNone.{search_edges_found, In, in_left, in_right, stretch_in, search_edges_none}
use Rattle.machine.proofs.SearchFits.{run_back_lt, run_on_lt, kink_and_edge_fine}
use Rattle.polygon.specs.Change.{Hung}

-- the position of the edge whose front end is p
abbrev pub ed : ℕ → Bool → ℕ → ℕ
ed n true p = prev n p
ed n false p = p

-- the run from s to t holds the edge at q
abbrev pub HeldBy : ℕ → ℕ → ℕ → ℕ → Type 0
HeldBy n s t q = dist n s q < dist n s t

-- ---- one run
module _ (n : ℕ) (pt : ℕ → Point) (r : List ℕ) where
  pub record IsRun (s t : ℕ) : Type 0 where
    pub ls : s < n
    pub lt : t < n
    pub cs : Corner n pt r s
    pub ct : Corner n pt r t

  module _ (s t : ℕ) (run : IsRun s t) where
    held_next : (q : ℕ) → q < n → HeldBy n s t q → dist n s (next n q) ≡ suc (dist n s q)
    held_next q l h = dist_suc n s run.ls q l (let z = dist_lt n s run.ls t run.lt in omega arith)

    held_fore : (d : Bool) (p : ℕ) → p < n → Straight n pt r p → HeldBy n s t (ed n d p) → HeldBy n s t (ed n d (fore n d p))
    held_fore true p l st h =
        rw (prev_next n p l)
        (let e = rw (next_prev n p l) at (held_next (prev n p) (prev_lt n p l) h) in
        both (eq_cases (dist n s p) (dist n s t))
        (λ g. never (is_straight_line n pt r p) st (rw (dist_inj n s run.ls p t l run.lt g.0) run.ct))
        (λ g. omega arith))
    held_fore false p l st h =
        both (eq_cases s p)
        (λ g. never (is_straight_line n pt r p) st (rw (sym g.0) run.cs))
        (λ g. let e = dist_pred n s run.ls p l (dist_pos n s p run.ls l g.0) in omega arith)

    held_vertex : (d : Bool) (p : ℕ) → p < n → HeldBy n s t (ed n d p) → In p (stretch n s (suc (dist n s t)))
    held_vertex true p l h = stretch_in n pt (suc (dist n s t)) s p run.ls l (let e = rw (next_prev n p l) at (held_next (prev n p) (prev_lt n p l) h) in omega arith)
    held_vertex false p l h = stretch_in n pt (suc (dist n s t)) s p run.ls l (omega arith)

    held_edge : (q : ℕ) → q < n → HeldBy n s t q → In q (stretch n s (dist n s t))
    held_edge q l h = stretch_in n pt (dist n s t) s q run.ls l h

ed_lt : (n : ℕ) (d : Bool) (p : ℕ) → p < n → ed n d p < n
ed_lt n true p l = prev_lt n p l
ed_lt n false p l = l

fore_lt : (n : ℕ) (d : Bool) (p : ℕ) → p < n → fore n d p < n
fore_lt n true p l = next_lt n p l
fore_lt n false p l = prev_lt n p l

-- strictly between
abbrev pub Btw : ℕ → ℕ → ℕ → Type 0
Btw a v b = ((a < v) × (v < b)) ⊎ ((b < v) × (v < a))

abbrev pub run_points : ℕ → (ℕ → Point) → ℕ → ℕ → ℕ → ℕ → List ℕ
run_points n pt s t s' t' = stretch n s (suc (dist n s t)) ++ stretch n s' (suc (dist n s' t'))

abbrev pub run_edges : ℕ → (ℕ → Point) → ℕ → ℕ → ℕ → ℕ → List ℕ
run_edges n pt s t s' t' = stretch n s (dist n s t) ++ stretch n s' (dist n s' t')

-- ---- two runs on the line of u and v, and no kink inside an edge
module _ (n : ℕ) (pt : ℕ → Point) (r : List ℕ) (three≤ : 3 ≤ n) (apart : Apart n (pt_at pt r)) (u v : Point) (uv : u ≢ v)
    (s t s' t' : ℕ) (run : IsRun n pt r s t) (run' : IsRun n pt r s' t')
    (empty : search_edges n pt r (run_points n pt s t s' t') (run_edges n pt s t s' t') ≡ none) where
  abbrev P : ℕ → Point
  P = pt_at pt r

  abbrev h : ℕ → ℕ
  h = height n (pt_at pt r)

  -- an edge of the runs, on the line
  pub record Run (d : Bool) (p : ℕ) : Type 0 where
    pub lp : p < n
    pub on : OnL n pt r u v p
    pub on' : OnL n pt r u v (tail n d p)
    pub held : HeldBy n s t (ed n d p) ⊎ HeldBy n s' t' (ed n d p)

  none_found : (d : Bool) (p : ℕ) (d' : Bool) (p' : ℕ) → Run d p → Run d' p' → kink_in n pt r p (ed n d' p') ≡ false
  none_found d p d' p' q q' =
      let l' = ed_lt n d' p' q'.lp in
      search_edges_none n pt r (run_points n pt s t s' t') (run_edges n pt s t s' t') empty p (ed n d' p')
      (both q.held (λ g. in_left _ (held_vertex n pt r s t run d p q.lp g)) (λ g. in_right (stretch n s (suc (dist n s t))) (held_vertex n pt r s' t' run' d p q.lp g)))
      (both q'.held (λ g. in_left _ (held_edge n pt r s t run (ed n d' p') l' g)) (λ g. in_right (stretch n s (dist n s t)) (held_edge n pt r s' t' run' (ed n d' p') l' g)))

  -- the order of points, by heights
  between_up : (i j k : ℕ) → i < n → j < n → k < n → Btw (h i) (h j) (h k) → ((lt_point (P i) (P j) ≡ true) × (lt_point (P j) (P k) ≡ true)) ⊎ ((lt_point (P k) (P j) ≡ true) × (lt_point (P j) (P i) ≡ true))
  between_up i j k li lj lk b =
      both b (λ g. inl (height_down n P apart i j li lj g.0, height_down n P apart j k lj lk g.1))
      (λ g. inr (height_down n P apart k j lk lj g.0, height_down n P apart j i lj li g.1))

  within : (d' : Bool) (p' p : ℕ) → Run d' p' → p < n → OnL n pt r u v p → Btw (h p') (h p) (h (tail n d' p')) → inside (P (ed n d' p')) (P (next n (ed n d' p'))) (P p) ≡ true
  within true p' p q l on b =
      rw (next_prev n p' q.lp)
      (inside_if (P (prev n p')) (P p') (P p) (three u v (P (prev n p')) (P p') (P p) uv q.on' q.on on)
      (both (between_up p' p (prev n p') q.lp l (prev_lt n p' q.lp) b) (λ g. inr g) (λ g. inl g)))
  within false p' p q l on b =
      inside_if (P p') (P (next n p')) (P p) (three u v (P p') (P (next n p')) (P p) uv q.on q.on' on)
      (between_up p' p (next n p') q.lp l (next_lt n p' q.lp) b)

  no_kink : (s t : Bool) → (not s && t) ≡ false → t ≡ true → s ≡ true
  no_kink true true e f = refl
  no_kink true false e f = refl
  no_kink false t e f = sym e ∙ f

  run_fore : (d : Bool) (p : ℕ) → Run d p → Straight n pt r p → Run d (fore n d p)
  run_fore d p q st = record { lp = fore_lt n d p q.lp; on = on_fore d q; on' = rw (tail_fore n d p q.lp) q.on; held = both q.held (λ g. inl (held_fore n pt r s t run d p q.lp st g)) (λ g. inr (held_fore n pt r s' t' run' d p q.lp st g)) }
    where
      on_fore : (d : Bool) → Run d p → OnL n pt r u v (fore n d p)
      on_fore true q = line_on n pt r three≤ apart u v uv p q.lp st q.on' q.on
      on_fore false q = line_back n pt r three≤ apart u v uv p q.lp st q.on' q.on

  passing : (d : Bool) (p : ℕ) (d' : Bool) (p' : ℕ) → Run d p → Run d' p' → Btw (h p') (h p) (h (tail n d' p')) → Straight n pt r p × Btw (h (prev n p)) (h p) (h (next n p))
  passing d p d' p' q q' b =
      let l = q.lp in
      let k = no_kink (inside (P (prev n p)) (P (next n p)) (P p)) (inside (P (ed n d' p')) (P (next n (ed n d' p'))) (P p)) (none_found d p d' p' q q') (within d' p' p q' l q.on b) in
      let (z, o) = inside_is (P (prev n p)) (P (next n p)) (P p) k in (
        zero_is _ (turn_round_lem (P (prev n p)) (P (next n p)) (P p) z),
        both o (λ g. inl (height_up n P apart (prev n p) p (prev_lt n p l) g.0, height_up n P apart p (next n p) l g.1))
            (λ g. inr (height_up n P apart (next n p) p (next_lt n p l) g.0, height_up n P apart p (prev n p) l g.1)),
      )

  -- down
  fall : (d : Bool) (p : ℕ) → Btw (h (prev n p)) (h p) (h (next n p)) → h p < h (tail n d p) → h (fore n d p) < h p
  fall true p b l = both b (λ g. omega arith) (λ g. omega arith)
  fall false p b l = both b (λ g. omega arith) (λ g. omega arith)

  down : (d : Bool) (p : ℕ) (d' : Bool) (p' : ℕ) → Run d p → Run d' p' → h p' < h p → h p < h (tail n d' p') → h p < h (tail n d p) → Run d (fore n d p) × (h (fore n d p) < h p)
  down d p d' p' q q' a b c = (let (st, o) = passing d p d' p' q q' (inl (a, b)) in (run_fore d p q st, fall d p o c))

  -- up from a hanging vertex x: neither way passes the corner c
  module _ (c : ℕ) (lc : c < n) (cc : Corner n pt r c) (x : ℕ) where
    abbrev Short : Bool → ℕ → Type 0
    Short true p = dist n x p ≤ dist n x c
    Short false p = dist n x c ≤ dist n x p

    record Up (d : Bool) (p : ℕ) : Type 0 where
      going : Run d p
      short : Short d p

    depth : ℕ → ℕ
    depth p = n - h p

    deep : (p q : ℕ) → depth p < depth q → h q < h p
    unfolding depth
    deep p q l = (let a = lower_le P n (P p) in let b = lower_le P n (P q) in omega arith)

    deeper : (p q : ℕ) → h q < h p → depth p < depth q
    unfolding depth
    deeper p q l = (let a = lower_le P n (P p) in let b = lower_le P n (P q) in omega arith)

    not_corner : (p : ℕ) → Straight n pt r p → p ≢ c
    not_corner p st e = never (is_straight_line n pt r p) st (rw e cc)

    short_fore : (lx : x < n) (d : Bool) (p : ℕ) → p < n → Straight n pt r p → Short d p → Short d (fore n d p)
    short_fore lx true p l st b =
        both (eq_cases (dist n x p) (dist n x c))
        (λ g. absurd (not_corner p st (dist_inj n x lx p c l lc g.0)))
        (λ g. let e = dist_suc n x lx p l (omega (arith, dist_lt n x lx c lc)) in omega arith)
    short_fore lx false p l st b =
        both (eq_cases (dist n x p) (dist n x c))
        (λ g. absurd (not_corner p st (dist_inj n x lx p c l lc g.0)))
        (λ g. let e = dist_pred n x lx p l (omega arith) in omega arith)

    rise : (d : Bool) (p : ℕ) → Btw (h (prev n p)) (h p) (h (next n p)) → h (tail n d p) < h p → h p < h (fore n d p)
    rise true p b l = both b (λ g. omega arith) (λ g. omega arith)
    rise false p b l = both b (λ g. omega arith) (λ g. omega arith)

    up : (lx : x < n) (d : Bool) (p : ℕ) (d' : Bool) (p' : ℕ) → Up d p → Up d' p' → depth p' < depth p → depth p < depth (tail n d' p') → depth p < depth (tail n d p) → Up d (fore n d p) × (depth (fore n d p) < depth p)
    up lx d p d' p' q q' a b e =
        let (st, o) = passing d p d' p' q.going q'.going (inr (deep p (tail n d' p') b, deep p' p a)) in
        (record { going = run_fore d p q.going st; short = short_fore lx d p q.going.lp st q.short }, deeper (fore n d p) p (rise d p o (deep p (tail n d p) e)))

    depth_inj : (p p' : ℕ) → p < n → p' < n → depth p ≡ depth p' → p ≡ p'
    unfolding depth
    depth_inj p p' l l' e = height_inj n P apart p p' l l' (let a = lower_le P n (P p) in let b = lower_le P n (P p') in omega arith)

    last_back : (lx : x < n) → suc (dist n x (prev n x)) ≡ n
    last_back lx =
        let e : next n (dist n x (prev n x)) ≡ 0 = sym (dist_next n x lx (prev n x) (prev_lt n x lx)) ∙ ap (dist n x) (next_prev n x lx) ∙ dist_self n x lx in
        both (next_cases n (dist n x (prev n x))) (λ g. g.0) (λ g. absurd (omega arith))

    on_both : (p : ℕ) → Run true p → Run false p → Straight n pt r p
    on_both p q q' = straight_if n pt r three≤ apart u v uv p q.on' q.on q'.on'

    hang : Run true x → Run false x → h x < h (prev n x) → h x < h (next n x) → ⊥
    hang q q' l l' =
        let lx = q.lp in
        let st = on_both x q q' in
        let en = prev_next n x lx in
        let ep = next_prev n x lx in
        let some = dist_pos n x c lx lc (not_corner x st) in
        let one = dist_suc n x lx x lx (omega (arith, dist_self n x lx)) in
        let f = descend n depth Up (λ d p z. z.going.lp) depth_inj (up lx) (suc (depth (next n x) + depth (prev n x))) true (next n x) false (prev n x) (omega arith)
        (record {
          q = record { going = run_fore true x q st; short = omega (arith, dist_self n x lx) };
          q' = record { going = run_fore false x q' st; short = omega (arith, last_back lx, dist_lt n x lx c lc) };
          own = rw en (deeper (next n x) x l');
          own' = rw ep (deeper (prev n x) x l);
          over = rw ep (deeper (next n x) x l');
          over' = rw en (deeper (prev n x) x l);
          differ = λ e g. never true refl g;
        }) in
        let lt = f.qt.going.lp in
        not_corner f.x (on_both f.x f.qt.going f.qf.going) (dist_inj n x lx f.x c lt lc (omega (arith, f.qt.short, f.qf.short)))

  -- an edge, its lower end in front
  record Low (e : ℕ) : Type 0 where
    d : Bool
    p : ℕ
    going : Run d p
    own : h p < h (tail n d p)
    edge : ed n d p ≡ e
    lo : min_point (P e) (P (next n e)) ≡ P p
    hi : max_point (P e) (P (next n e)) ≡ P (tail n d p)

  low_end : (e : ℕ) → e < n → OnL n pt r u v e → OnL n pt r u v (next n e) → HeldBy n s t e ⊎ HeldBy n s' t' e → Low e
  low_end e l o o' g =
      both (lt_point_total (P e) (P (next n e)) (λ z. next_not n e (omega arith) l (sym (apart e (next n e) l (next_lt n e l) z))))
      (λ k. record {
        d = false;
        p = e;
        going = record { lp = l; on = o; on' = o'; held = g };
        own = height_up n P apart e (next n e) l k;
        edge = refl;
        lo = rw k;
        hi = rw k;
      })
      (λ k. (let f = lt_point_flip (P (next n e)) (P e) k in let z = prev_next n e l in record {
        d = true;
        p = next n e;
        going = record { lp = next_lt n e l; on = o'; on' = rw z o; held = rw z g };
        own = rw z (height_up n P apart (next n e) e (next_lt n e l) k);
        edge = z;
        lo = rw f;
        hi = rw (f, z);
      }))

  clash : (c : ℕ) → c < n → Corner n pt r c → (e e' : ℕ) → e ≢ e' → Low e → Low e' →
      lt_point (max_point (min_point (P e) (P (next n e))) (min_point (P e') (P (next n e')))) (min_point (max_point (P e) (P (next n e))) (max_point (P e') (P (next n e')))) ≡ true → ⊥
  clash c lc cc e e' ne g g' k =
      let lp = g.going.lp in
      let lp' = g'.going.lp in
      let t = tail n g.d g.p in
      let t' = tail n g'.d g'.p in
      let (a, b) = max_min (P g.p) (P g'.p) (P t) (P t') (rw (g.lo, g'.lo, g.hi, g'.hi) at k) in
      let f = descend n h Run (λ d p z. z.lp) (height_inj n P apart) down (suc (h g.p + h g'.p)) g.d g.p g'.d g'.p (omega arith)
      (record {
        q = g.going;
        q' = g'.going;
        own = g.own;
        own' = g'.own;
        over = height_up n P apart g.p t' lp a;
        over' = height_up n P apart g'.p t lp' b;
        differ = λ x y. ne (sym g.edge ∙ (λ i. ed n (y i) (x i)) ∙ g'.edge);
      }) in
      hang c lc cc f.x f.qt f.qf f.ut f.uf

-- ---- THE THEOREM
module _ (n : ℕ) (pt : ℕ → Point) (r : List ℕ) (three≤ : 3 ≤ n) (apart : Apart n (pt_at pt r)) (c : ℕ) (lc : c < n) (cc : Corner n pt r c) where
  pub is_run : (a : ℕ) → a < n → IsRun n pt r (run_back n pt n r a) (run_on n pt n r (next n a))
  is_run a la = record { ls = run_back_lt n pt r n a la; lt = run_on_lt n pt r n (next n a) (next_lt n a la); cs = (run_of n pt r three≤ apart c lc cc a la).corner₀; ct = (run_of n pt r three≤ apart c lc cc a la).corner₁ }

  -- the search's answer: k is a kink, strictly inside the edge at p
  pub record KinkFound (h : Mergable) : Type 0 where
    pub k : ℕ
    pub p : ℕ
    pub is : h ≡ merge k p
    pub lk : k < n
    pub lp : p < n
    pub kp : k ≢ p
    pub not_on : k ≢ next n p
    pub kink : kink_at n pt r k ≡ true
    pub within : inside (pt_at pt r p) (pt_at pt r (next n p)) (pt_at pt r k) ≡ true

  pub never_none : (a b : ℕ) → a < n → b < n → a ≢ b → flat n pt r a b ≡ true →
      meets (pt_at pt r a) (pt_at pt r (next n a)) (pt_at pt r b) (pt_at pt r (next n b)) ≡ true → kink_and_edge n pt r a b ≡ none → ⊥
  never_none a b la lb ab fl m e =
      let la' = next_lt n a la in
      let u = pt_at pt r a in
      let v = pt_at pt r (next n a) in
      let s = run_back n pt n r a in
      let t = run_on n pt n r (next n a) in
      let s' = run_back n pt n r b in
      let t' = run_on n pt n r (next n b) in
      let uv : u ≢ v = λ z. next_not n a (omega arith) la (sym (apart a (next n a) la la' z)) in
      clash n pt r three≤ apart u v uv s t s' t' (is_run a la) (is_run b lb) e c lc cc a b ab
      (low_end n pt r three≤ apart u v uv s t s' t' (is_run a la) (is_run b lb) e a la (turn_first u v) (turn_second u v) (inl (run_of n pt r three≤ apart c lc cc a la).holds))
      (low_end n pt r three≤ apart u v uv s t s' t' (is_run a la) (is_run b lb) e b lb (zero_yes _ (and_left _ _ fl)) (zero_yes _ (and_right (collinear u v (pt_at pt r b)) _ fl)) (inr (run_of n pt r three≤ apart c lc cc b lb).holds))
      (rw fl at m)

  pub kink_theorem : (a b : ℕ) → a < n → b < n → a ≢ b → flat n pt r a b ≡ true →
      meets (pt_at pt r a) (pt_at pt r (next n a)) (pt_at pt r b) (pt_at pt r (next n b)) ≡ true → KinkFound (kink_and_edge n pt r a b)
  kink_theorem a b la lb ab fl m = go (kink_and_edge n pt r a b) refl
    where
      go : (h : Mergable) → kink_and_edge n pt r a b ≡ h → KinkFound h
      go none e = absurd (never_none a b la lb ab fl m e)
      go (merge k p) e =
          let f : Hung n k p = rw e at (kink_and_edge_fine n pt r a b la lb) in
          let z = search_edges_found n pt r (run_points n pt (run_back n pt n r a) (run_on n pt n r (next n a)) (run_back n pt n r b) (run_on n pt n r (next n b))) (run_edges n pt (run_back n pt n r a) (run_on n pt n r (next n a)) (run_back n pt n r b) (run_on n pt n r (next n b))) k p e in
          record { k = k; p = p; is = refl; lk = f.lk; lp = f.lp; kp = f.kp; not_on = f.not_on; kink = and_left _ _ z; within = and_right (kink_at n pt r k) _ z }

-- What the lent buffers say, as a list for each field of a record, and what each step of the pool does to it.
use Rattle.std.specs.Prelude.{Bool, true, false, cond, List, map, ℕ, zero, suc, ◌+◌, ◌-◌, get_or, set, eqb}
use Rattle.index_edge.specs.Edge.{Edge, eq_edge, lt_edge}
use Rattle.intersection_set.specs.Lists.{none, head_place}
use Rattle.intersection_set.specs.Words.{part0, part1, part2, part3}
use Rattle.intersection_set.specs.declared.utils.Counts.{Counts}

-- a number for each of a record's two edges
pub record Ends : Type 0 where
  pub x0 : ℕ
  pub x1 : ℕ

abbrev pub ends : ℕ → ℕ → Ends
ends x0 x1 = record { x0 = x0; x1 = x1 }

-- a place that holds nothing reads as this
abbrev pub no_ends : Ends
no_ends = ends 0 0

-- a record's two edges
pub record Pair : Type 0 where
  pub e0 : Edge
  pub e1 : Edge

abbrev pub pair : Edge → Edge → Pair
pair e0 e1 = record { e0 = e0; e1 = e1 }

abbrev pub no_pair : Pair
no_pair = pair (record { lo = 0; hi = 0 }) (record { lo = 0; hi = 0 })

-- the edges of each record, as they stand in its first word
unfoldable pub pair_of : ℕ → Pair
pair_of w = pair (record { lo = part0 w; hi = part1 w }) (record { lo = part2 w; hi = part3 w })

abbrev pub edges_of : List ℕ → List Pair
edges_of w = map pair_of w

-- each edge's head, and each record's links along its two edges
pub record Links : Type 0 where
  pub heads : List ℕ
  pub next : List Ends
  pub prev : List Ends

-- as they stand in a record's second word
unfoldable pub links_in : Bool → ℕ → Ends
links_in back w = cond back (ends (part1 w) (part3 w)) (ends (part0 w) (part2 w))

abbrev pub nexts_in : ℕ → Ends
nexts_in = links_in false

abbrev pub prevs_in : ℕ → Ends
prevs_in = links_in true

abbrev pub links_of : List ℕ → List ℕ → Links
links_of heads w = record { heads = heads; next = map nexts_in w; prev = map prevs_in w }

-- the slots of the live records, and each live slot's place among them
pub record Order : Type 0 where
  pub dense : List ℕ
  pub reverse : List ℕ

abbrev pub order : List ℕ → List ℕ → Order
order dense reverse = record { dense = dense; reverse = reverse }

-- the whole pool
pub record Pool : Type 0 where
  pub edges : List Pair
  pub links : Links
  pub ages : List ℕ
  pub order : Order
  pub free : List ℕ
  pub tangles : List ℕ
  pub counts : Counts

-- the lent buffers; the counts stand in none of them
pub record Buffers : Type 0 where
  pub heads : List ℕ
  pub ends : List ℕ
  pub links : List ℕ
  pub ages : List ℕ
  pub dense : List ℕ
  pub reverse : List ℕ
  pub free : List ℕ
  pub tangles : List ℕ

abbrev pub lent : List ℕ → List ℕ → List ℕ → List ℕ → List ℕ → List ℕ → List ℕ → List ℕ → Buffers
lent heads ends links ages dense reverse free tangles =
    record { heads = heads; ends = ends; links = links; ages = ages; dense = dense; reverse = reverse; free = free; tangles = tangles }

abbrev pub pool_of : Buffers → Counts → Pool
pool_of b c =
    record {
      edges = edges_of b.ends;
      links = links_of b.heads b.links;
      ages = b.ages;
      order = order b.dense b.reverse;
      free = b.free;
      tangles = b.tangles;
      counts = c;
    }

-- ---- slots
abbrev pub counts_of : ℕ → ℕ → ℕ → ℕ → Counts
counts_of live grown freed pushes = record { live = live; grown = grown; freed = freed; pushes = pushes }

-- a slot that was taken, and the counts after it
pub record Taken : Type 0 where
  pub slot : ℕ
  pub counts : Counts

-- the slot freed last, else the next new one
unfoldable pub take_slot : Counts → List ℕ → Taken
take_slot c free =
    cond (eqb c.freed 0)
    (record { slot = c.grown; counts = counts_of (c.live + 1) (c.grown + 1) 0 c.pushes })
    (record { slot = get_or free (c.freed - 1) 0; counts = counts_of (c.live + 1) c.grown (c.freed - 1) c.pushes })

-- a slot is appended to the dense order
unfoldable pub dense_push : ℕ → ℕ → Order → Order
dense_push s live o = order (set o.dense live s) (set o.reverse s live)

-- the last dense entry is put in the place of s
unfoldable pub dense_remove : ℕ → ℕ → Order → Order
dense_remove s live o =
    order (set o.dense (get_or o.reverse s 0) (get_or o.dense (live - 1) 0)) (set o.reverse (get_or o.dense (live - 1) 0) (get_or o.reverse s 0))

-- ---- lists
-- the two edges of a slot
abbrev pub end0 : List Pair → ℕ → Edge
end0 v t = (get_or v t no_pair).e0

abbrev pub end1 : List Pair → ℕ → Edge
end1 v t = (get_or v t no_pair).e1

-- one of two numbers anew
abbrev pub put_end : Bool → ℕ → Ends → Ends
put_end first v y = cond first (ends v y.x1) (ends y.x0 v)

-- the link to v is written at the slot s, in the end that names e; nothing where s is none
unfoldable pub set_end : ℕ → Edge → ℕ → List Pair → List Ends → List Ends
set_end s e v w x = cond (eqb s none) x (set x s (put_end (eq_edge e (end0 w s)) v (get_or x s no_ends)))

abbrev pub head_at : ℕ → Edge → List ℕ → ℕ
head_at n e heads = get_or heads (head_place n e) 0

-- s goes in front of the list of e
unfoldable pub link_front : ℕ → Edge → ℕ → List Pair → Links → Links
link_front n e s w l =
    record {
      heads = set l.heads (head_place n e) s;
      next = set_end s e (head_at n e l.heads) w l.next;
      prev = set_end (head_at n e l.heads) e s w l.prev;
    }

unfoldable pub set_head : ℕ → Edge → ℕ → ℕ → List ℕ → List ℕ
set_head n e next prev heads = cond (eqb prev none) (set heads (head_place n e) next) heads

-- a record whose links along e are next and prev is taken out of the list of e
unfoldable pub unlink_from : ℕ → Edge → ℕ → ℕ → List Pair → Links → Links
unlink_from n e next prev w l = record { heads = set_head n e next prev l.heads; next = set_end prev e next w l.next; prev = set_end next e prev w l.prev }

-- ---- how many records name an edge
abbrev pub tangle_at : ℕ → Edge → List ℕ → ℕ
tangle_at n e tangles = get_or tangles (head_place n e) 0

-- one more, and one less
unfoldable pub raised : ℕ → Edge → List ℕ → List ℕ
raised n e tangles = set tangles (head_place n e) (tangle_at n e tangles + 1)

unfoldable pub lowered : ℕ → Edge → List ℕ → List ℕ
lowered n e tangles = set tangles (head_place n e) (tangle_at n e tangles - 1)

-- ---- push
unfoldable pub put_edges : ℕ → Edge → Edge → List Pair → List Pair
put_edges s e0 e1 v = set v s (pair e0 e1)

unfoldable pub put_ends : ℕ → ℕ → ℕ → List Ends → List Ends
put_ends s v0 v1 x = set x s (ends v0 v1)

unfoldable pub clear_ends : ℕ → List Ends → List Ends
clear_ends s x = set x s (ends none none)

abbrev pub clear_links : ℕ → Links → Links
clear_links s l = record { heads = l.heads; next = clear_ends s l.next; prev = clear_ends s l.prev }

-- a record of e0 and e1 at the slot s, in front of both lists; its age is the count of pushes before it
abbrev pub push_at : ℕ → Edge → Edge → ℕ → Counts → Pool → Pool
push_at n e0 e1 s c p =
    let v = put_edges s e0 e1 p.edges in
    record {
      edges = v;
      links = link_front n e1 s v (link_front n e0 s v (clear_links s p.links));
      ages = set p.ages s c.pushes;
      order = dense_push s p.counts.live p.order;
      free = p.free;
      tangles = raised n e1 (raised n e0 p.tangles);
      counts = counts_of c.live c.grown c.freed (c.pushes + 1);
    }

unfoldable pub pool_push : ℕ → Edge → Edge → Pool → Pool
pool_push n e0 e1 p = push_at n e0 e1 (take_slot p.counts p.free).slot (take_slot p.counts p.free).counts p

-- the smaller edge, and the other
abbrev pub lesser : Edge → Edge → Edge
lesser a b = cond (lt_edge a b) a b

abbrev pub greater : Edge → Edge → Edge
greater a b = cond (lt_edge a b) b a

-- ---- remove
abbrev pub unlink_both : ℕ → ℕ → Pool → Links
unlink_both n s p =
    unlink_from n (end1 p.edges s) (get_or p.links.next s no_ends).x1 (get_or p.links.prev s no_ends).x1 p.edges
    (unlink_from n (end0 p.edges s) (get_or p.links.next s no_ends).x0 (get_or p.links.prev s no_ends).x0 p.edges p.links)

-- the record at s is unlinked, the last dense entry put in its dense place, and the slot freed
unfoldable pub pool_remove : ℕ → ℕ → Pool → Pool
pool_remove n s p =
    record {
      edges = p.edges;
      links = unlink_both n s p;
      ages = p.ages;
      order = dense_remove s p.counts.live p.order;
      free = set p.free p.counts.freed s;
      tangles = lowered n (end1 p.edges s) (lowered n (end0 p.edges s) p.tangles);
      counts = counts_of (p.counts.live - 1) p.counts.grown (p.counts.freed + 1) p.counts.pushes;
    }

-- newest first, at most as many as the number says
unfoldable pub pool_remove_all : ℕ → Edge → ℕ → Pool → Pool
pool_remove_all n e zero p = p
pool_remove_all n e (suc k) p =
    let r = pool_remove_all n e k (pool_remove n (head_at n e p.links.heads) p) in
    cond (eqb (head_at n e p.links.heads) none) p r

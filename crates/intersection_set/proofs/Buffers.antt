-- The buffers of a set stay where they are over several calls.
use mathlib.Core.Path.{refl, ◌∙◌}
use Rattle.intersection_set.specs.Set.{SameBuffers}
use Rattle.intersection_set.specs.declared.intersection_set.IndexIntersectionSet.{IndexIntersectionSet}

pub same_start : (a : IndexIntersectionSet) → SameBuffers a a
same_start a = record { vertices = refl; heads = refl; ends = refl; links = refl; ages = refl; dense = refl; reverse = refl; free = refl; tangles = refl }

pub same_then : {a b c : IndexIntersectionSet} → SameBuffers a b → SameBuffers b c → SameBuffers a c
same_then p q =
    record {
      vertices = q.vertices ∙ p.vertices;
      heads = q.heads ∙ p.heads;
      ends = q.ends ∙ p.ends;
      links = q.links ∙ p.links;
      ages = q.ages ∙ p.ages;
      dense = q.dense ∙ p.dense;
      reverse = q.reverse ∙ p.reverse;
      free = q.free ∙ p.free;
      tangles = q.tangles ∙ p.tangles;
    }

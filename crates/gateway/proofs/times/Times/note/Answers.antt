use Rattle.std.proofs.Common.{◌≡◌, ◌∙◌, ◌++◌, ◌∷◌, [], ap, length, List, map, sym}
use Rattle.gateway.specs.Times.{Counts, bounds, bucket_after, more}
use Rattle.gateway.specs.declared.times.Bucket.{Bucket}
use Rattle.gateway.proofs.Counting.{buckets_more, count_more, more_is}
use Rattle.gateway.proofs.times.Times.note.Goals as goal

pub returns-clause-counts : goal.returns-clause-counts
unfolding Counts
returns-clause-counts c = λ times few counts.
    let is = c.in_ok-self.ensures in
    let one : more c.args.self.now.count ≡ length (times ++ c.args.ms ∷ []) =
    ap more counts.count ∙ (more_is (length times) few ∙ sym (count_more times c.args.ms)) in
    record {
      buckets = is ∙ (ap (λ (b : List Bucket). map (bucket_after c.args.ms) b) (c.deref.ensures.value ∙ counts.buckets) ∙ buckets_more times bounds c.args.ms few);
      count = c.more-self.ensures ∙ one;
    }

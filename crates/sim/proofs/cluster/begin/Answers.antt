use Rattle.std.proofs.Common.{◌≡◌, ◌<◌, length, get_or, arith}
use Rattle.std.proofs.lemmas.List.{get_or_default}
use Rattle.sim.specs.Words.{Post, OpensPost}
use Rattle.sim.proofs.Opening.{opens_more, rest_more}
use Rattle.sim.proofs.cluster.begin.Goals as goal

pub loop-post-preserved : goal.loop-post-preserved
loop-post-preserved c =
    let l : c.loop-post.post-index < length c.loop-post.posts = omega arith in
    let x : Post = get_or c.loop-post.posts c.loop-post.post-index c.post-item.result in
    let at : get_or c.loop-post.posts c.loop-post.post-index c.post-item.result ≡ get_or c.loop-post.posts c.loop-post.post-index x =
    get_or_default c.loop-post.posts c.loop-post.post-index c.post-item.result x l in
    let one : OpensPost x c.begin.new.self = record { ready = c.begin.ensures.ready; header = c.begin.ensures.header; opened = c.in_ok-begin.ensures.opened } in
    record {
      done = opens_more _ c.loop-post.posts c.loop-post.post-index x c.begin.new.self l at one c.loop-post.invariant.done c.loop-post.invariant.rest;
      rest = rest_more _ c.loop-post.posts c.loop-post.post-index x c.begin.new.self l at one c.loop-post.invariant.done c.loop-post.invariant.rest;
    }

use Rattle.std.proofs.Common.{List, sym, subst}
use Rattle.std.proofs.lemmas.Result.{IfOk-weaker}
use Rattle.sim.specs.Words.{Post, IsCluster, ClusterFields, ClusterStandsFor}
use Rattle.sim.proofs.Playing.{at_last, simulated_so, agree_so, unanimous_so}
use Rattle.sim.proofs.cluster.Cluster.verdicts.Goals as goal

pub returns-clause-run : goal.returns-clause-run
returns-clause-run c past s =
    let inside : ClusterFields = record { size = c.self.inside.size; posts = c.self.inside.posts.items; last = c.self.inside.last } in
    let stands : ClusterStandsFor past inside = subst (λ (x : ClusterFields). ClusterStandsFor past x) (sym c.self.view_is) s in
    let cluster = subst (λ (l : List Post). IsCluster inside.size past.liars stands.followed.last l) (sym c.deref.ensures.value) (at_last past inside stands) in
    IfOk-weaker c.verdicts.result _ _ (λ v are. simulated_so past inside v.items stands are) (c.verdicts.ensures.are past.liars stands.followed.last cluster)

pub returns-clause-agree : goal.returns-clause-agree
returns-clause-agree c past s =
    let inside : ClusterFields = record { size = c.self.inside.size; posts = c.self.inside.posts.items; last = c.self.inside.last } in
    let stands : ClusterStandsFor past inside = subst (λ (x : ClusterFields). ClusterStandsFor past x) (sym c.self.view_is) s in
    let cluster = subst (λ (l : List Post). IsCluster inside.size past.liars stands.followed.last l) (sym c.deref.ensures.value) (at_last past inside stands) in
    IfOk-weaker c.verdicts.result _ _ (λ v are. agree_so past inside v.items stands are c.safety.ensures.agree) (c.verdicts.ensures.are past.liars stands.followed.last cluster)

pub returns-clause-unanimous : goal.returns-clause-unanimous
returns-clause-unanimous c past s =
    let inside : ClusterFields = record { size = c.self.inside.size; posts = c.self.inside.posts.items; last = c.self.inside.last } in
    let stands : ClusterStandsFor past inside = subst (λ (x : ClusterFields). ClusterStandsFor past x) (sym c.self.view_is) s in
    let cluster = subst (λ (l : List Post). IsCluster inside.size past.liars stands.followed.last l) (sym c.deref.ensures.value) (at_last past inside stands) in
    IfOk-weaker c.verdicts.result _ _ (λ v are. unanimous_so past inside v.items stands are c.safety.ensures.unanimous) (c.verdicts.ensures.are past.liars stands.followed.last cluster)

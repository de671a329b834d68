use Rattle.std.proofs.Common.{◌∙◌, sym, subst}
use Rattle.terms_prelude.specs.Terms.{Header}
use Rattle.desk.specs.Sessions.{IsProposalReply}
use Rattle.desk.proofs.serving.Server.propose.Goals as goal

pub returns-in-Some-propose_for-clause-reply : goal.returns-in-Some-propose_for-clause-reply
returns-in-Some-propose_for-clause-reply g c =
    subst (λ (h : Header). IsProposalReply g.row.D.Denot g.T.Tosser.may_toss h g.J.Naming.opening c.args.tosser.now c.args.question c.args.bit c.propose_for.new.pass.log c.in-Some-propose_for.reply c.toss-toss.new.self)
    (sym c.header-named.ensures.named ∙ c.header-named.ensures.hub)
    (record {
      toss = c.toss-toss.result.0;
      drawn = c.toss-toss.ensures;
      old = c.deref_mut.result.now;
      old_is = c.in-Some-propose_for.ensures.old;
      new = _;
      new_is = c.in-Some-propose_for.ensures.new;
      proposes = c.in-Some-propose_for.ensures.reply;
    })

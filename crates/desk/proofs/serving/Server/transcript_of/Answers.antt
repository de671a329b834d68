use Rattle.std.proofs.Common.{◌∙◌, sym}
use Rattle.desk.proofs.Sights.{told_of}
use Rattle.desk.proofs.serving.Server.transcript_of.Goals as goal

pub returns-in-Some-asked-clause-told : goal.returns-in-Some-asked-clause-told
returns-in-Some-asked-clause-told g c =
    told_of g.J.Naming.header c.args.self.now.hub.now g.J.Naming.opening c.dossier_for-asked.new.pass.log c.deref.result.now c.args.question c.in-Some-asked.asked c.reply_of-reply.result
    (sym c.header-named.ensures.named ∙ c.header-named.ensures.hub)
    c.in-Some-asked.ensures.book c.in-Some-asked.ensures.ok c.in-Some-asked.ensures.err c.reply_of-reply.ensures.ok c.reply_of-reply.ensures.err

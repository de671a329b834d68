use Rattle.std.proofs.Common.{◌∙◌, ap}
use Rattle.terms_prelude.specs.Terms.{Header}
use Rattle.links.specs.Writing.{hello_to}
use Rattle.links.proofs.Sessions.{ungreeted, unwelcomed, welcomed}
use Rattle.links.proofs.writer.Writer.write_session.Goals as goal

pub returns-in-Err : goal.returns-in-Err
returns-in-Err g c =
    ungreeted c.args.self.now.hub.now c.args.self.now.version c.args.peer _ _ c.hello-greeting.result c.in-Err.why
    (c.hello-greeting.ensures ∙ ap (λ (h : Header). hello_to h c.args.self.now.version c.args.peer) c.header-header.ensures.hub) c.in-Err.ensures.err

pub returns-in-Ok-read_welcome : goal.returns-in-Ok-read_welcome
returns-in-Ok-read_welcome g c =
    welcomed c.args.self.now.hub.now c.args.self.now.version c.args.peer _ _ _ _ c.hello-greeting.result c.in-Ok-read_welcome.next c.write_on-why.result
    (c.hello-greeting.ensures ∙ ap (λ (h : Header). hello_to h c.args.self.now.version c.args.peer) c.header-header.ensures.hub) c.in-Ok.ensures.ok c.in-Ok-read_welcome.ensures.ok c.write_on-why.ensures

pub returns-in-Err-read_welcome : goal.returns-in-Err-read_welcome
returns-in-Err-read_welcome g c =
    unwelcomed c.args.self.now.hub.now c.args.self.now.version c.size.result c.args.peer _ _ _ c.hello-greeting.result c.in-Err-read_welcome.why
    (c.hello-greeting.ensures ∙ ap (λ (h : Header). hello_to h c.args.self.now.version c.args.peer) c.header-header.ensures.hub)
    (c.size.ensures ∙ ap (λ (h : Header). h.size) c.header-header.ensures.hub) c.in-Ok.ensures.ok c.in-Err-read_welcome.ensures.err

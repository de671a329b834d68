use Rattle.std.proofs.Common.{subst, ◌∙◌, ℕ, List}
use Rattle.std.specs.Io.KnownBytes.{Appends}
use Rattle.commands.specs.Talks.{HasStatus}
use Rattle.commands.proofs.client.tell.Goals as goal

pub returns-clause-all : goal.returns-clause-all
returns-clause-all g c = (
  subst (λ (bytes : List ℕ). Appends (g.W.Write.contents c.args.output.now) (g.W.Write.contents c.print_reply.new.output) bytes)
      (c.deref-2.ensures.value ∙ c.in_ok-push.ensures.items) c.in_ok-print_reply.ensures.written,
  subst (λ (bytes : List ℕ). HasStatus bytes c.status_of-status.result) c.deref.ensures.value c.status_of-status.ensures,
)

use Rattle.std.proofs.Common.{rules, ◌∙◌, ap, ℕ, Option}
use Rattle.desk.specs.Answers.{standing_links}
use Rattle.desk.proofs.Standing.{standing_links_are}
use Rattle.desk.proofs.serving.Server.links.Goals as goal

pub returns-clause-reply : goal.returns-clause-reply
returns-clause-reply g c = record {
  book = c.status_for.ensures.standing.book;
  book_is = c.status_for.ensures.standing.book_is;
  count = c.links-count.result;
  incoming = c.links-count.ensures.incoming;
  outgoing = c.links-count.ensures.outgoing;
  links = c.standing_links.ensures
      ∙ ap (λ (s : Option (ℕ × ℕ)). standing_links s c.links-count.result c.size-size.result) c.status_for.ensures.standing.status_is
      ∙ ap (standing_links _ c.links-count.result) (search (rules, c.status_for.ensures.standing.book_is.of_hub.header_is))
      ∙ standing_links_are c.status_for.ensures.standing.book c.links-count.result;
}

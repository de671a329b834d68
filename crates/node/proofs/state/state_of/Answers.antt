use Rattle.std.proofs.Common.{refl, ◌∙◌, sym}
use Rattle.node.proofs.state.state_of.Goals as goal

pub returns : goal.returns
returns g c = record {
  book = c.args.book.now;
  book_is = record {
    of_hub = record {
      header_is = sym c.header-named.ensures.member ∙ c.header-named.ensures.hub;
      replayed = c.records-replayed.ensures.replay;
      tied = c.records-replayed.ensures.account;
    };
    opening_is = c.records-replayed.ensures.opening;
    log_is = refl;
  };
  state_is = c.state.ensures;
}

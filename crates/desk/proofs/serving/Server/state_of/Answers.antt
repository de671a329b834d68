use Rattle.desk.proofs.serving.Server.state_of.Goals as goal

pub returns-clause-told : goal.returns-clause-told
returns-clause-told g c = record {
  book = c.state_for.ensures.state.book;
  book_is = c.state_for.ensures.state.book_is;
  state = c.state_for.result;
  state_is = c.state_for.ensures.state.state_is;
  told = c.state_reply.ensures;
}

use Rattle.std.proofs.Common.{ap, ◌∙◌, sym, append-nil, ◌++◌, ℕ, List}
use Rattle.wire.specs.Reading.{End}
use Rattle.hearing.specs.Replies.{broken_line}
use Rattle.hearing.proofs.Taking.{messages_fit, has_feeders, piece_answered, more_line, fault_end}
use Rattle.hearing.proofs.session.Session.hear.Goals as goal

pub hear_all-requires-clause-fits : goal.hear_all-requires-clause-fits
hear_all-requires-clause-fits c =
    messages_fit c.args.self.now.size c.args.self.now.feeders.items c.from.result c.args.sender c.index_mut.result.now c.feed.new.self
    c.from.ensures c.index_mut.ensures.value c.requires.sender c.requires.sound.feeders
    c.args.piece.now c.feed.new.out.items c.new-messages.result.items c.deref.result.now c.new-messages.ensures.items c.in_ok-fed.ensures.reads c.deref.ensures.value

pub returns-in-More-clause-answers : goal.returns-in-More-clause-answers
returns-in-More-clause-answers c = λ h at.
    let more = more_line c.feed.new.self.end (sym c.in-More.is ∙ c.in_ok-fed.ensures.answers) in
    let r = piece_answered c.args.self.now.size c.args.self.now.feeders.items c.from.result c.args.sender c.index_mut.result.now c.feed.new.self
    c.from.ensures c.index_mut.ensures.value c.requires.sender c.requires.sound.feeders
    c.args.self.now.broadcasts.items c.hear_all.new.broadcasts.items c.args.piece.now c.feed.new.out.items c.new-messages.result.items c.deref.result.now
    c.args.text.now.items c.hear_all.new.text.items c.hear_all.new.text.items
    c.new-messages.ensures.items c.in_ok-fed.ensures.reads c.deref.ensures.value c.in_ok-hear_all.ensures.answers
    (sym (append-nil c.hear_all.new.text.items) ∙ ap (λ (t : List ℕ). c.hear_all.new.text.items ++ t) (sym more)) h at.fed at.standing in
    (r.0, r.1, r.2, record { fed = r.3.0; standing = r.3.1 }, r.4)

pub returns-in-More-clause-sound : goal.returns-in-More-clause-sound
returns-in-More-clause-sound c =
    record {
      size_is = c.requires.sound.size_is;
      feeders = has_feeders c.args.self.now.size c.args.self.now.feeders.items c.from.result c.args.sender c.index_mut.result.now c.feed.new.self
          c.from.ensures c.index_mut.ensures.value c.requires.sender c.requires.sound.feeders c.in_ok-fed.ensures.size;
      broadcasts = c.in_ok-hear_all.ensures.has;
    }

pub returns-clause-answers : goal.returns-clause-answers
returns-clause-answers c = λ h at.
    let broken = fault_end c.feed.new.self.end c.in-Broken.fault (sym c.in-Broken.is ∙ c.in_ok-fed.ensures.answers) in
    let r = piece_answered c.args.self.now.size c.args.self.now.feeders.items c.from.result c.args.sender c.index_mut.result.now c.feed.new.self
    c.from.ensures c.index_mut.ensures.value c.requires.sender c.requires.sound.feeders
    c.args.self.now.broadcasts.items c.hear_all.new.broadcasts.items c.args.piece.now c.feed.new.out.items c.new-messages.result.items c.deref.result.now
    c.args.text.now.items c.hear_all.new.text.items c.show_fault.new.text.items
    c.new-messages.ensures.items c.in_ok-fed.ensures.reads c.deref.ensures.value c.in_ok-hear_all.ensures.answers
    (c.in_ok-show_fault-in-Broken.ensures ∙ ap (λ (e : End). c.hear_all.new.text.items ++ broken_line e) (sym broken)) h at.fed at.standing in
    (r.0, r.1, r.2, record { fed = r.3.0; standing = r.3.1 }, r.4)

pub returns-clause-sound : goal.returns-clause-sound
returns-clause-sound c =
    record {
      size_is = c.requires.sound.size_is;
      feeders = has_feeders c.args.self.now.size c.args.self.now.feeders.items c.from.result c.args.sender c.index_mut.result.now c.feed.new.self
          c.from.ensures c.index_mut.ensures.value c.requires.sender c.requires.sound.feeders c.in_ok-fed.ensures.size;
      broadcasts = c.in_ok-hear_all.ensures.has;
    }

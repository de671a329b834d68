use Rattle.std.proofs.Common.{◌≡◌, ◌<◌, false, refl, arith}
use Rattle.std.proofs.lemmas.Bool.{false≢true}
use Rattle.std.proofs.lemmas.Result.{err_from_is_err_and}
use Rattle.terms_prelude.specs.Terms.{is_foreign}
use Rattle.rbc.specs.Words.{broadcasts_size}
use Rattle.rbc.proofs.Changes.{nothing_more}
use Rattle.rbc.proofs.Saying.{same_stands, touched}
use Rattle.rbc.proofs.Taking.{taken_answer, taken_ok, taken_unchanged, taken_brings, news_unmade}
use Rattle.rbc.proofs.Broadcasts.receive.Goals as goal
use Rattle.rbc.proofs.Broadcasts.receive.Goals.{After-receive}

pub returns-in_err-taken-clause-err : goal.returns-in_err-taken-clause-err
returns-in_err-taken-clause-err c =
    let p = err_from_is_err_and c.from_residual.result c.from_residual.ensures.1 in
    rw (p.1) (same_stands c.args.self.now _ (nothing_more c.args.self.now _ refl refl c.in_err-taken.ensures.err))

pub returns-in_err-taken-clause-err_only_at_news : goal.returns-in_err-taken-clause-err_only_at_news
unfolding broadcasts_size
returns-in_err-taken-clause-err_only_at_news c =
    let p = err_from_is_err_and c.from_residual.result c.from_residual.ensures.1 in
    let own : is_foreign c.args.from c.args.s.now ≡ false = cc in
    rw (p.1) (λ past stands asked. news_unmade c.args.self.now past c.args.from c.args.s.now stands asked own
    (λ l. false≢true (c.in_err-taken.ensures.reached l)))

pub returns-in_err-taken-clause-no_memory : goal.returns-in_err-taken-clause-no_memory
unfolding broadcasts_size
returns-in_err-taken-clause-no_memory c = λ past stands asked there.
    let l = touched c.args.self.now past c.args.s.now.place stands asked there in
    absurd (false≢true (c.in_err-taken.ensures.reached l))

pub returns-clause-answer : goal.returns-clause-answer
unfolding broadcasts_size
returns-clause-answer c =
    let own : is_foreign c.args.from c.args.s.now ≡ false = cc in
    let within : c.args.from < 64 = omega (arith, c.requires.from, c.recall.ensures.most) in
    taken_answer c.args.self.now _ refl refl c.args.from c.args.s.now within c.recall-2.ensures.fits own c.in_ok-taken.ensures.others c.in_ok-taken.taken c.in_ok-taken.ensures.taken

pub returns-clause-ok : goal.returns-clause-ok
unfolding broadcasts_size
returns-clause-ok c =
    let own : is_foreign c.args.from c.args.s.now ≡ false = cc in
    let within : c.args.from < 64 = omega (arith, c.requires.from, c.recall.ensures.most) in
    taken_ok c.args.self.now _ refl refl c.args.from c.args.s.now within c.recall-2.ensures.fits own c.in_ok-taken.ensures.others c.in_ok-taken.taken c.in_ok-taken.ensures.taken

pub returns-clause-unchanged_unless_news : goal.returns-clause-unchanged_unless_news
unfolding broadcasts_size
returns-clause-unchanged_unless_news c =
    let own : is_foreign c.args.from c.args.s.now ≡ false = cc in
    let within : c.args.from < 64 = omega (arith, c.requires.from, c.recall.ensures.most) in
    taken_unchanged c.args.self.now _ refl refl c.args.from c.args.s.now within c.recall-2.ensures.fits own c.in_ok-taken.ensures.others c.in_ok-taken.taken c.in_ok-taken.ensures.taken

pub returns-clause-brings : goal.returns-clause-brings
unfolding broadcasts_size
returns-clause-brings c =
    let own : is_foreign c.args.from c.args.s.now ≡ false = cc in
    let within : c.args.from < 64 = omega (arith, c.requires.from, c.recall.ensures.most) in
    taken_brings c.args.self.now _ refl refl c.args.from c.args.s.now within c.recall-2.ensures.fits own c.in_ok-taken.ensures.others c.in_ok-taken.taken c.in_ok-taken.ensures.taken

use Rattle.std.proofs.lemmas.Str.Pattern.{split_after}
use Rattle.commands.proofs.Waiting.{lacks_at}
use Rattle.commands.proofs.patience.split.Goals as goal

pub returns-clause-exact : goal.returns-clause-exact
returns-clause-exact c = λ front behind is lacks.
    split_after c.args.mark c.args.text.now front behind c.split_once.result c.split_once.ensures.cases c.requires is (lacks_at c.args.mark front lacks)

use Rattle.std.proofs.Common.{◌≡◌, ◌≤◌, ◌∙◌, List, ℕ, ap, codes, length, refl, subst, take_all}
use Rattle.std.specs.Fmt.{decimal}
use Rattle.epochs.specs.Lines.{epochs_line, said_bytes}
use Rattle.epochs.specs.declared.said.TheConstants.{MOST}
use Rattle.epochs.proofs.Saying.{put_as, put_five, short_five}
use Rattle.epochs.proofs.turning.epochs_reply.Goals as goal

pub returns : goal.returns
returns c =
    let first : length (decimal c.args.first) ≤ 40 = subst (λ (l : List ℕ). length l ≤ 40) c.format.ensures.text c.format.ensures.short in
    let newest : length (decimal c.args.newest) ≤ 40 = subst (λ (l : List ℕ). length l ≤ 40) c.format-2.ensures.text c.format-2.ensures.short in
    put_five MOST (said_bytes c.nothing-said.result) (said_bytes c.extend.new.self) (said_bytes c.extend-2.new.self) (said_bytes c.extend-3.new.self) (said_bytes c.extend-4.new.self)
    (said_bytes c.extend-5.new.self) (codes "EPOCHS ") (decimal c.args.first) (codes " ") (decimal c.args.newest) (codes "\n") c.nothing-said.ensures c.extend.ensures
    (put_as MOST (said_bytes c.extend.new.self) (said_bytes c.extend-2.new.self) c.as_bytes.result.now (decimal c.args.first) c.extend-2.ensures (c.as_bytes.ensures.value ∙ c.format.ensures.text))
    c.extend-3.ensures
    (put_as MOST (said_bytes c.extend-3.new.self) (said_bytes c.extend-4.new.self) c.as_bytes-2.result.now (decimal c.args.newest) c.extend-4.ensures (c.as_bytes-2.ensures.value ∙ c.format-2.ensures.text))
    c.extend-5.ensures
    ∙ take_all MOST (epochs_line c.args.first c.args.newest)
    (short_five (codes "EPOCHS ") (decimal c.args.first) (codes " ") (decimal c.args.newest) (codes "\n") refl first refl newest refl)

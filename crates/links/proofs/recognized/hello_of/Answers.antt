use Rattle.std.proofs.Common.{rules, ◌≡◌, ◌≢◌}
use Rattle.wire.specs.Texts.{version_byte}
use Rattle.links.specs.Recognized.{hello_text}
use Rattle.links.specs.declared.recognized.HelloBytes.{HelloBytes}
use Rattle.links.proofs.recognized.hello_of.Goals as goal

pub returns-in_default-clause-none : goal.returns-in_default-clause-none
returns-in_default-clause-none c = λ version cluster from to below within is.
    let size = c.args.size in
    let it : HelloBytes = record { version = version_byte version; cluster = cluster; n = size.n; t = size.t; questions = size.questions; from = from; to = to } in
    let none : (it : HelloBytes) → c.args.bytes.now ≢ hello_text it = search (rules, c.in_default.ensures.none) in
    none it is

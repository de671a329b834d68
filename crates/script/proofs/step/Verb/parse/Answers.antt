use Rattle.std.proofs.Common.{sym, subst, IsUtf8}
use Rattle.script.proofs.Parts.{name_is_text}
use Rattle.script.proofs.step.Verb.parse.Goals as goal

-- a name is a text
pub returns-in_default-clause-exact : goal.returns-in_default-clause-exact
returns-in_default-clause-exact c = λ verb is. absurd (c.in_default.ensures.cases.0 (subst IsUtf8 (sym is) (name_is_text verb)))
